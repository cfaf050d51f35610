-- What a run on the cached machine leaves: where it came to its end, and where a device failed.
use Rattle.std.specs.Prelude.{◌≡◌, ◌⊎◌, ℕ, ◌+◌, ◌*◌, ◌<◌, ◌≤◌, Bool, List, [], ◌++◌, length, slice_index, Option, Some, None, Result, IfOk, IsErrOf, OnErr, OnOk, is_some, true, false, if◌then◌else◌}
use Rattle.std.specs.Option.{ForSome}
use Rattle.std.specs.Io.KnownBytes.{Appends}
use Rattle.swi_outside.specs.Causes.{DeviceCause, risen}
use Rattle.swi_outside.specs.CacheRam.{Fetch, RamState, KeepsBeyond}
use Rattle.swi_outside.specs.Devices.{HasCauses, faults_of}
use Rattle.swi_calls.specs.Flat.{Made}
use Rattle.swi_calls.specs.declared.end.End.TheVariants.{StoreText}
use Rattle.swi_rom.specs.Coherent.{Coherent}
use Rattle.swi_rom.specs.Record.{Record, writes}
use Rattle.swi_rom.specs.Service.{ServiceOf}
use Rattle.swi_hart.specs.declared.fault.BoardFault.{BoardFault}
use Rattle.swi_hart.specs.declared.fault.BoardFault.TheVariants.{RamFault, SourceFault, SinkFault}
use Rattle.swi_hart.specs.Hart.{HartData, is_between}
use Rattle.swi_hart.specs.Matching.{Fits}
use Rattle.swi_board.specs.Board.{BoardOf, Around}
use Rattle.swi_board.specs.Fetching.{FetchedFront, HasFetched}
use Rattle.swi_board.specs.Transfers.{here_of}
use Rattle.swi_line.specs.declared.trace.Trace.{Trace}
use Rattle.swi_outcome.specs.Broken.{FailedAtStep, Names, Steps, taken_next}
use Rattle.swi_cached.specs.declared.run.CachedStop.{CachedStop}
use Rattle.swi_cached.specs.declared.run.CachedStop.TheVariants as stop
use Rattle.swi_cached.specs.Cached.{CachedRun, IsCarried, IsCounted, span_of, program_after, told_after, end_of, instructions_after, fetches_after, words_after, place_after, record_after, record_behind_exit, used_after}
use Rattle.swi_cached.specs.CachedRan.{Given, with_input}
use Rattle.swi_cached.specs.Told.{addresses, history_of, next_told, told_line}

-- A run that came to its end: as the program did, with so many machine instructions, and the service as its policy
-- leads. Of the input just what the program took is gone, and the sinks gained what it wrote.
pub record Ended (c : CachedRun) (h : HartData) (kept : Record)
    (left' out out' err err' : Option (List ℕ)) : Type 0 where
  pub machine : h.machine ≡ (end_of c).machine
  pub count : h.count ≡ instructions_after c c.limit
  pub record_is : kept ≡ record_after c c.limit
  pub input : left' ≡ Some (end_of c).input
  pub output : Appends out out' (end_of c).output
  pub error : Appends err err' (told_after c c.limit).error
  -- while it goes on, control is between two instructions, where the program's steps lead
  pub between : h.machine.ending ≡ None → is_between h.control ≡ true
  pub here : (end_of c).machine.ending ≡ None → here_of c.image (end_of c).machine h.control ≡ place_after c c.limit

-- at most three machine instructions for each step, and one for the boot; one more where the run stopped before a store
-- into the text
pub record IsShort (h : HartData) : Type 0 where
  pub most : h.count ≤ 3 * h.machine.steps + 2
  pub fewer : ((a : ℕ) → h.machine.ending ≡ Some (StoreText a) → ⊥) → h.count ≤ 3 * h.machine.steps + 1

-- the ram after a run
pub record RamAfter (c : CachedRun) (before after : RamState) : Type 0 where
  -- its blocks are those of an image of the program
  pub carried : IsCarried c
  -- each placed block stands in its slot word for word, but that at each link there is a jump to its target's place
  pub coherent : Coherent c.image (record_after c c.limit) (span_of c) after.words
  -- so many words were fetched, and so many written: the copied blocks, the links, and the links undone
  pub fetches : after.fetches ≡ risen before.fetches (fetches_after c c.limit)
  -- these words, in this order, each behind so many sets
  pub fetched_at : HasFetched (words_after c c.limit) before after
  pub sets : after.sets ≡ risen before.sets (writes (record_after c c.limit))
  -- the words of slots that no block ever used, and those behind the slots, are as before
  pub unused : (i : ℕ) → used_after c c.limit ≤ i → slice_index after.words i ≡ slice_index before.words i

-- The ram where a source or a sink broke off the step behind so many: it was asked for what those steps ask, and for no more than the next
-- one does.
pub record RamWithin (c : CachedRun) (steps : ℕ) (before after : RamState) : Type 0 where
  -- the words that were fetched are those of the steps made, and then a front of the next one's, in this order, each behind so many sets
  pub more : List Fetch
  pub ahead : List Fetch
  pub next : words_after c steps ++ (more ++ ahead) ≡ words_after c (steps + 1)
  pub fetched_at : HasFetched (words_after c steps ++ more) before after
  pub fetches : after.fetches ≡ risen before.fetches (length (words_after c steps ++ more))
  -- the service has served the transfers of the steps made, and may have served the exit that the next one makes first
  pub kept : Record
  pub kept_is : (kept ≡ record_after c steps) ⊎ (kept ≡ record_behind_exit c steps)
  -- it has set as many words as that record counts; the ram holds what is placed by then, and the words that no block ever used are as before
  pub sets : after.sets ≡ risen before.sets (writes kept)
  pub coherent : Coherent c.image kept (span_of c) after.words
  pub unused : (i : ℕ) → c.cache.extent kept ≤ i → slice_index after.words i ≡ slice_index before.words i

-- The ram failed: both sinks hold just what the most steps wrote, and of the input is gone just what they took, whose
-- fetches were made. Where steps are told, the line of the next one may stand behind it. No call of the ram comes behind the one that
-- failed.
pub record RamFailed (c : CachedRun) (before after : Around) : Type 0 where
  pub fetched : ℕ
  pub fetches : after.ram.fetches ≡ risen before.ram.fetches fetched
  pub steps : ℕ
  pub within : steps ≤ c.limit
  pub enough : fetches_after c steps ≤ fetched
  pub longest : steps < c.limit → fetched < fetches_after c (steps + 1)
  pub output : Appends before.devices.output.held after.devices.output.held (program_after c steps).output
  pub begun : Bool
  pub error : Appends before.devices.error.held after.devices.error.held
      ((told_after c steps).error ++ (if begun then told_line c.trace (program_after c steps).machine else []))
  pub input : after.devices.input.left ≡ Some (program_after c steps).input
  pub last_failed : after.ram.last_failed ≡ true

-- the step that comes after so many, which writes its line first where steps are told
abbrev pub step_after : CachedRun → ℕ → Made
step_after c n = next_told c.trace (program_after c n)

-- the run with what it tells: behind so many steps the errors hold, before the next one is begun, its line too
abbrev pub told_steps : CachedRun → Steps
told_steps c = record {
  coming = λ n. record {
    state = told_after c n;
    begun = (told_after c n).error ++ told_line c.trace (program_after c n).machine;
    next = step_after c n;
    most = taken_next (program_after c n);
  };
  limit = c.limit;
}

abbrev pub stream_names : Names BoardFault
stream_names = record { source = SourceFault; sink = SinkFault }

-- the input or a sink failed at a step, and the ram was asked no further
pub record StreamFailed (c : CachedRun) (fault : BoardFault) (before after : Around) : Type 0 where
  pub failed : FailedAtStep stream_names (told_steps c) before.devices after.devices fault []
  pub ram : RamWithin c failed.steps before.ram after.ram

abbrev pub Failed : CachedRun → BoardFault → Around → Around → Type 0
Failed c RamFault before after = RamFailed c before after
Failed c SourceFault before after = StreamFailed c SourceFault before after
Failed c SinkFault before after = StreamFailed c SinkFault before after

-- ---- what a run says in the words of its original steps

-- A run that came to its end, with this input.
pub record EndedSo {S : Type 0} (k : ServiceOf S) (c : CachedRun) (b : BoardOf S) (telling : Trace) (history : Option (List ℕ)) (before after : Around) : Type 0 where
  pub ended : Ended c b.hart (k.kept b.rom) after.devices.input.left before.devices.output.held after.devices.output.held before.devices.error.held after.devices.error.held
  pub told : history ≡ history_of telling (addresses c.limit c.start)
  pub short : IsShort b.hart
  pub services : (k.kept b.rom).counts.services ≤ 2 * c.limit
  pub ram : RamAfter c before.ram after.ram

-- and whatever the input tells: also what `Board::run` asks of a board that has not ended
pub record BoardEnded {S : Type 0} (k : ServiceOf S) (g : Given) (rom : S) (b : BoardOf S) (after : Around) : Type 0 where
  pub unfailed : b.hart.failed ≡ false
  pub done : (b.hart.machine.steps ≡ g.limit) ⊎ (is_some b.hart.machine.ending ≡ true)
  pub booted : b.hart.booted ≡ true
  pub fits : Fits g.image (k.kept b.rom) b.hart
  pub sound : k.sound b.rom g.image after.ram.words
  pub setting : k.setting b.rom ≡ k.setting rom
  pub count : b.hart.count ≤ 3 * b.hart.machine.steps + 3

-- A run by its answer. The words behind the cache never change; without memory nothing has; a fault is answered only where its device's
-- count rose, and each that rose is answered.
pub record InSteps {S : Type 0} (k : ServiceOf S) (g : Given) (rom : S) (before after : Around) (result : Result (BoardOf S × Option (List ℕ)) CachedStop) : Type 0 where
  pub ended : IfOk result (λ p. ForSome before.devices.input.left (λ left. EndedSo k (with_input g left) p.0 g.telling p.1 before after))
  pub board : IfOk result (λ p. BoardEnded k g rom p.0 after)
  pub counted : OnOk result ((left : List ℕ) → IsCounted (with_input g left))
  pub memory : IsErrOf result stop.Memory → after ≡ before
  pub failed : (fault : BoardFault) → IsErrOf result (stop.Fault fault) → ForSome before.devices.input.left (λ left. Failed (with_input g left) fault before after)
  -- the words that were fetched are a front of those of the whole run
  pub fetched_at : OnErr result (ForSome before.devices.input.left (λ left. FetchedFront (words_after (with_input g left) g.limit) before.ram after.ram))
  pub kept : KeepsBeyond g.cache.span before.ram after.ram
  pub causes : HasCauses (faults_of before.devices) (faults_of after.devices) (IsErrOf result (stop.Fault SourceFault)) (IsErrOf result (stop.Fault SinkFault))
  pub ram_cause : DeviceCause before.ram.faults after.ram.faults (IsErrOf result (stop.Fault RamFault))
