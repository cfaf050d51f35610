-- The command `share`: the programs of several files over one cache, an original instruction of one of them at a time.
use Rattle.std.specs.Prelude.{◌≡◌, ◌⊎◌, ℕ, ◌+◌, ◌-◌, ◌*◌, ◌/◌, ◌%◌, ◌^◌, ◌<◌, ◌≤◌, max, min, nat_le, true, false, List, [], ◌∷◌, ◌++◌, length, map, take, ⊤, slice_get, slice_index_or, Option, Some, None, Result, Ok, All, if◌then◌else◌}
use Rattle.std.specs.List.{AllZip, flat_map, range_with_len}
use Rattle.std.specs.Io.KnownBytes.{Appends}
use Rattle.swi_outside.specs.CacheRam.{Fetch, KeepsBeyond, RamState}
use Rattle.swi_outside.specs.Causes.{Rose, risen}
use Rattle.swi_outside.specs.Shelf.{Contents, Same, ShelfState, Stands, get_of}
use Rattle.swi_elf_read.specs.Loaded.{image_of as image_in}
use Rattle.swi_program.specs.ProgramOf.{program_of_file}
use Rattle.swi_make.specs.Numbers.{number}
use Rattle.swi_command.specs.declared.command.CacheOptions.{CacheOptions}
use Rattle.swi_command.specs.declared.command.RunLimits.{RunLimits}
use Rattle.swi_command.specs.declared.command.Schedule.{Schedule}
use Rattle.swi_command.specs.declared.command.ShareOptions.{ShareOptions}
use Rattle.swi_calls.specs.declared.machine.Machine.{Machine}
use Rattle.swi_calls.specs.FirstStore.{StoresAt}
use Rattle.swi_calls.specs.Flat.{flat_run, flat_start}
use Rattle.swi_calls.specs.Held.{held_run, stopped_before}
use Rattle.swi_calls.specs.State.{FlatState}
use Rattle.swi_calls.specs.StoresText.{next_store}
use Rattle.swi_rom.specs.Coherent.{Coherent}
use Rattle.swi_rom.specs.Record.{writes}
use Rattle.swi_rom.specs.Served.{SameFrom}
use Rattle.swi_slots.specs.Fifo.{extent_of}
use Rattle.swi_slots.specs.Slots.{span_of}
use Rattle.swi_board.specs.Fetching.{FetchedFront, HasFetched}
use Rattle.swi_board.specs.Ran.{RamRan}
use Rattle.swi_share.specs.declared.process.Guest.{Guest}
use Rattle.swi_share.specs.Laws.{counts_of, events_of, unfetched}
use Rattle.swi_share.specs.Pieces.{IsInPieces, WritesAlone}
use Rattle.swi_share.specs.Shared.{Context, Shared, shared_run}
use Rattle.swi_share.specs.Starting.{AreGuests, shared_start}
use Rattle.swi_share.specs.Waiting.{most_steps}
use Rattle.swi_report.specs.declared.shared.SharedWork.{SharedWork}
use Rattle.swi_report.specs.Shared.{shared_text_of}
use Rattle.swi_report.specs.State.{numbers}
use Rattle.swi_answer.specs.declared.answer.Ending.{Ending}
use Rattle.swi_answer.specs.declared.answer.Ending.TheVariants as ending
use Rattle.swi_answer.specs.declared.answer.Refusal.{Refusal}
use Rattle.swi_answer.specs.declared.answer.Refusal.TheVariants as refusal
use Rattle.swi_answer.specs.Lines.{guest_line}
use Rattle.swi_task.specs.Answers.{IsLast, IsLastLonger, StandFirst}
use Rattle.swi_task.specs.Checks.{InRam, Check, IsShort, IsAcceptedElf, HasRoom, IsAcceptedImage, IsOwnImage, FitsUnlessImage, HoldsBlock, IsAccepted, IsRefusedBy, block_words, room_in}
use Rattle.swi_task.specs.Devices.{Devices}
use Rattle.swi_task.specs.Over.{IsUnfedErr, RanOver}
use Rattle.swi_task.specs.Runs.{ending_by}
use Rattle.swi_task.specs.Subject.{IsImageFor}
use Rattle.swi_task.specs.Task.{GaveFirst, Task, TellsAll}

-- ---- the files, and their checks

-- the limits of each program: none makes more steps than there are events
abbrev pub limits_by : ShareOptions → RunLimits
limits_by o = record { steps = o.schedule.events; heap = o.heap; stack = o.stack }

-- those of one file
abbrev pub guest_checks : RunLimits → ℕ → List ℕ → List Check
guest_checks limits most file =
    IsShort file ∷ IsAcceptedElf file ∷ HasRoom file limits ∷ IsAcceptedImage file ∷ IsOwnImage file ∷ FitsUnlessImage file most ∷ []

abbrev pub files_checks : RunLimits → ℕ → List (List ℕ) → List Check
files_checks limits most files = flat_map (guest_checks limits most) files

-- the most words of a block of any of them
unfoldable pub most_block : ℕ → List (List ℕ) → ℕ
most_block most [] = 0
most_block most (file ∷ files) = max (block_words (image_in file) most) (most_block most files)

-- each file is checked behind the one before it; the cache then holds a block of any of them
abbrev pub share_checks : CacheOptions → ShareOptions → List (List ℕ) → List Check
share_checks cache o files =
    files_checks (limits_by o) cache.block_words files ++ HoldsBlock cache.cache_bytes (4 * most_block cache.block_words files) ∷ []

-- ---- the programs, and the order of their events

-- the program of a file, with the image that the file has or else the greedy cut of its text; its input is empty
pub record IsGuestOf (limits : RunLimits) (most : ℕ) (file : List ℕ) (x : Guest) : Type 0 where
  pub program : x.program ≡ program_of_file file
  pub image : IsImageFor file most (image_in file) x.image
  pub layout : room_in file limits ≡ Ok x.layout
  pub input : x.input.items ≡ []

-- event k, from 0, among so many programs: the sixteen highest bits of number k + 1 of the seed say whose it is
abbrev pub turn_of : ℕ → ℕ → ℕ → ℕ
turn_of programs seed k = number seed (k + 1) / 2 ^ 16 % programs

abbrev pub order_of : ℕ → Schedule → List ℕ
order_of programs s = map (turn_of programs s.seed) (range_with_len 0 s.events)

-- all programs after the first n events
abbrev pub shared_after : ShareOptions → ℕ → List Guest → ℕ → Shared
shared_after o bytes guests n = shared_run (take n (order_of (length guests) o.schedule)) (shared_start bytes guests)

-- and after all of them
abbrev pub shared_end : ShareOptions → ℕ → List Guest → Shared
shared_end o bytes guests = shared_run (order_of (length guests) o.schedule) (shared_start bytes guests)

-- ---- each program ends as alone: the flat machine with its input

abbrev pub start_of_guest : Guest → FlatState
start_of_guest x = flat_start x.program x.layout false x.input.items

-- A machine is what the flat machine makes of a program in so many steps alone, up to the first that would store into the text, before which
-- it ends.
pub record EndsAlone (start : FlatState) (n : ℕ) (m : Machine) : Type 0 where
  pub held : m ≡ (held_run n start).machine
  pub flat : ((j : ℕ) → j < n → StoresAt start j → ⊥) → m ≡ (flat_run n start).machine
  pub stops : (k : ℕ) → k < n → ((j : ℕ) → j < k → StoresAt start j → ⊥) → StoresAt start k →
      (a : ℕ) × (next_store (flat_run k start).machine ≡ Some a) × (m ≡ stopped_before (flat_run k start).machine a)

-- A program in the state after a schedule: it has made a step at each of its events; and at most four machine instructions a step, and two
-- more where it has ended before a store into its text.
pub record IsAsAlone (order : List ℕ) (s : Shared) (g : ℕ) (x : Guest) : Type 0 where
  pub context : Context
  pub is : slice_index_or s.contexts g None ≡ Some context
  pub image : context.image ≡ x.image
  pub ends : EndsAlone (start_of_guest x) (events_of g order) context.machine
  pub most : context.count ≤ most_steps context.machine.ending context.machine.steps
  pub unbooted : context.booted ≡ false → context.count ≡ 0

-- ---- what is told

-- the line of program g; where a device has broken off its event none is told
abbrev pub context_line : ℕ → Option Context → List ℕ
context_line g None = []
context_line g (Some c) = guest_line g (ending_by c.machine.ending c.machine.pc c.machine.steps)

abbrev pub guest_lines : List (Option Context) → List ℕ
guest_lines cs = flat_map (λ g. context_line g (slice_index_or cs g None)) (numbers 0 (length cs))

-- the counts of all programs, as numbers of 64 bits
abbrev pub shared_work : Shared → SharedWork
shared_work s = record {
  instructions = min (counts_of s.contexts) (2 ^ 64 - 1);
  misses = s.kept.counts.misses;
  evictions = s.kept.counts.evictions;
  links = s.kept.counts.links;
  unlinks = s.kept.counts.unlinks;
  writes = min (writes s.kept) (2 ^ 64 - 1);
}

-- a line for each program, and then the counts, where they are asked for
abbrev pub share_report : ShareOptions → Shared → List ℕ
share_report o s = guest_lines s.contexts ++ (if o.stats then shared_text_of (shared_work s) else [])

-- ---- what the command does

-- each placed block of program g stands in its slot word for word, but that at each link there is a jump to its target's place
abbrev pub BlocksStand : Shared → ℕ → Context → List ℕ → Type 0
BlocksStand s g c words = Coherent c.image (record s.kept { turn = g }) (span_of s.setting) words

-- The ram has fetched and written what the events have, just these words in their order, each behind as many sets, and each word that can't
-- have been written is as it was. The words that were fetched are the machine instructions of all programs, but for those that fetch none.
pub record RamShared (order : List ℕ) (first s : Shared) (before after : RamState) : Type 0 where
  pub ran : RamRan (span_of s.setting) s.fetches (writes s.kept) before after
  pub words : HasFetched s.words before after
  pub coherent : (g : ℕ) (c : Context) → slice_index_or s.contexts g None ≡ Some c → BlocksStand s g c after.words
  pub unused : SameFrom (extent_of s.setting s.kept) before.words after.words
  pub fetched : counts_of s.contexts ≡ s.fetches + unfetched order first

pub record Shares (o : ShareOptions) (bytes : ℕ) (guests : List Guest) (before after : Devices) (e : Ending) (last : List ℕ) : Type 0 where
  pub ending : e ≡ ending.Done
  pub output : Appends before.output.held after.output.held ((shared_end o bytes guests).output ++ share_report o (shared_end o bytes guests))
  pub error : Appends before.error.held after.error.held ((shared_end o bytes guests).error ++ last)
  pub input : after.input ≡ before.input
  pub ram : RamShared (order_of (length guests) o.schedule) (shared_start bytes guests) (shared_end o bytes guests) before.ram after.ram
  -- whatever the others do
  pub alone : (g : ℕ) (x : Guest) → slice_get guests g ≡ Some x → IsAsAlone (order_of (length guests) o.schedule) (shared_end o bytes guests) g x
  -- the bytes of the programs are what their events write, in their order; and what those of one program write is what it writes alone
  pub pieces : IsInPieces (order_of (length guests) o.schedule) (shared_start bytes guests)
  pub wrote : (g : ℕ) (x : Guest) → slice_get guests g ≡ Some x → WritesAlone (order_of (length guests) o.schedule) (shared_start bytes guests) g (start_of_guest x)

-- ---- where a device fails

-- A sink broke off an event: each sink holds a front of what the events up to this one write, and no less than those before it wrote; one
-- to which it gives nothing was not asked. The words fetched are those of the events before it, and a front of its own.
pub record EventCutOff (was next : Shared) (before after : Devices) (r : Refusal) (last : List ℕ) : Type 0 where
  pub fault : r ≡ refusal.SinkFault
  pub output_front : ℕ
  pub output_least : length was.output ≤ output_front
  pub output : Appends before.output.held after.output.held (take output_front next.output)
  pub error_front : ℕ
  pub error_least : length was.error ≤ error_front
  pub error : Appends before.error.held after.error.held (take error_front next.error ++ last)
  pub output_unasked : next.output ≡ was.output → after.output.faults ≡ before.output.faults
  pub error_unasked : next.error ≡ was.error → after.error.faults ≡ before.error.faults
  pub more : List Fetch
  pub ahead : List Fetch
  pub next_words : was.words ++ (more ++ ahead) ≡ next.words
  pub words : HasFetched (was.words ++ more) before.ram after.ram

-- The ram did: the sinks hold what the events write whose fetches were all made, which are no more than those of this one and the ones
-- before it. No call of the ram comes behind the one that failed.
pub record EventUnfetched (was next : Shared) (before after : Devices) (r : Refusal) (last : List ℕ) : Type 0 where
  pub fault : r ≡ refusal.RamFault
  pub fetched : ℕ
  pub fetches : after.ram.fetches ≡ risen before.ram.fetches fetched
  pub least : was.fetches ≤ fetched
  pub most : fetched ≤ next.fetches
  pub words : FetchedFront next.words before.ram after.ram
  pub output : Appends before.output.held after.output.held (if nat_le next.fetches fetched then next.output else was.output)
  pub error : Appends before.error.held after.error.held ((if nat_le next.fetches fetched then next.error else was.error) ++ last)
  pub last_failed : after.ram.last_failed ≡ true

-- so many events were made, and the next one was broken off
pub record EventBroken (o : ShareOptions) (bytes : ℕ) (guests : List Guest) (before after : Devices) (r : Refusal) (last : List ℕ) : Type 0 where
  pub made : ℕ
  pub fewer : made < o.schedule.events
  pub broke : EventCutOff (shared_after o bytes guests made) (shared_after o bytes guests (made + 1)) before after r last
      ⊎ EventUnfetched (shared_after o bytes guests made) (shared_after o bytes guests (made + 1)) before after r last

-- the output failed behind the events, at what is told of them
pub record ReportBroken (o : ShareOptions) (bytes : ℕ) (guests : List Guest) (before after : Devices) (r : Refusal) (last : List ℕ) : Type 0 where
  pub fault : r ≡ refusal.SinkFault
  pub output_front : ℕ
  pub output : Appends before.output.held after.output.held ((shared_end o bytes guests).output ++ take output_front (share_report o (shared_end o bytes guests)))
  pub error : Appends before.error.held after.error.held ((shared_end o bytes guests).error ++ last)
  pub ram : RamShared (order_of (length guests) o.schedule) (shared_start bytes guests) (shared_end o bytes guests) before.ram after.ram
  pub cause : Rose before.output.faults after.output.faults

pub record ShareFailed (o : ShareOptions) (bytes : ℕ) (guests : List Guest) (before after : Devices) (r : Refusal) (last : List ℕ) : Type 0 where
  pub broke : EventBroken o bytes guests before after r last ⊎ ReportBroken o bytes guests before after r last
  pub input : after.input ≡ before.input
  -- no word behind the slots was written
  pub beyond : KeepsBeyond (span_of (shared_start bytes guests).setting) before.ram after.ram

-- ---- the record of the command

-- the programs of the files, in their order
abbrev pub AreGuestsOf : CacheOptions → ShareOptions → List (List ℕ) → List Guest → Type 0
AreGuestsOf cache o files guests = AllZip (IsGuestOf (limits_by o) cache.block_words) files guests

abbrev pub share_task : List (List ℕ) → CacheOptions → ShareOptions → Task
share_task names cache o = record {
  reads = names;
  Files = List (List ℕ);
  contents = λ files. files;
  writes = None;
  takes_input = false;
  caches = InRam cache.cache_bytes;
  checks = share_checks cache o;
  before_next = guest_checks (limits_by o) cache.block_words;
  ends = λ e. e ≡ ending.Done;
  does = λ files before after e last. (guests : List Guest) × AreGuestsOf cache o files guests × Shares o cache.cache_bytes guests before after e last;
  fails = λ files before after r last. (guests : List Guest) × AreGuestsOf cache o files guests × ShareFailed o cache.cache_bytes guests before after r last;
}

-- ---- as its functions say it

-- a file that passes the checks of a program that is to run
abbrev pub IsGuestFile : RunLimits → ℕ → List ℕ → Type 0
IsGuestFile limits most file = IsAccepted (guest_checks limits most file)

-- so many files were got from the shelf, and it has not failed
pub record GotSome (n : ℕ) (old new : ShelfState) : Type 0 where
  pub same : Same old.contents new.contents
  pub calls : new.calls ≡ risen old.calls n
  pub stored : new.stored ≡ old.stored
  pub faults : new.faults ≡ old.faults
  pub last_failed : new.last_failed ≡ old.last_failed

-- the contents of these names were read, and each passes its checks
pub record FilesRead (limits : RunLimits) (most : ℕ) (names : List (List ℕ)) (old new : ShelfState) (files : List (List ℕ)) : Type 0 where
  pub got : GotSome (length names) old new
  pub gave : GaveFirst names files old new
  pub stand : AllZip (Stands old.contents) names files
  pub accepted : All (IsGuestFile limits most) files

-- and their programs made
pub record GuestsRead (limits : RunLimits) (most : ℕ) (names : List (List ℕ)) (old new : ShelfState) (guests : List Guest) : Type 0 where
  pub files : List (List ℕ)
  pub read : FilesRead limits most names old new files
  pub made : AllZip (IsGuestOf limits most) files guests
  pub own : AreGuests guests

-- so many of these names were got, and the first of them read; each but the one that was got last passes its checks
pub record FirstRead (limits : RunLimits) (most : ℕ) (names : List (List ℕ)) (gets : ℕ) (given : List (List ℕ)) (old new : ShelfState) : Type 0 where
  pub gave : GaveFirst names given old new
  pub stood : StandFirst old.contents names given
  pub accepted : All (IsGuestFile limits most) (take (gets - 1) given)
  pub stored : new.stored ≡ old.stored

-- the shelf failed at one of them
pub record ShelfBroke (limits : RunLimits) (most : ℕ) (names : List (List ℕ)) (old new : ShelfState) : Type 0 where
  pub gets : ℕ
  pub name : List ℕ
  pub asked : IsLast names gets name
  pub last_failed : new.last_failed ≡ Some (get_of name)
  pub same : Same old.contents new.contents
  pub given : List (List ℕ)
  pub read : FirstRead limits most names gets given old new
  pub but_one : gets ≡ length given + 1
  pub some : 0 < gets
  pub few : gets ≤ length names
  pub calls : new.calls ≡ risen old.calls gets
  pub later : old.faults ≤ new.faults
  pub cause : Rose old.faults new.faults

-- a refusal that a check of a program's file gives, or want of memory
abbrev pub IsFileRefusal : Refusal → Type 0
IsFileRefusal (refusal.FileLong limit) = ⊤
IsFileRefusal (refusal.Elf r) = ⊤
IsFileRefusal (refusal.Room end) = ⊤
IsFileRefusal (refusal.Image r) = ⊤
IsFileRefusal (refusal.Mismatch m) = ⊤
IsFileRefusal (refusal.Long address needs) = ⊤
IsFileRefusal refusal.Memory = ⊤
IsFileRefusal _ = ⊥

-- for want of memory; as too long, as the one that was got last is, and by the first check that fails, where the shelf tells all of them; or by
-- the first check that fails of those that were given
abbrev pub IsRefusedSo : RunLimits → ℕ → List (List ℕ) → Option Contents → (gets : ℕ) (given : List (List ℕ)) → Refusal → Type 0
IsRefusedSo limits most names contents gets given refusal.Memory = (length given ≤ gets) × (gets ≤ length given + 1)
IsRefusedSo limits most names contents gets given (refusal.FileLong limit) =
    (gets ≡ length given + 1) × IsLastLonger contents names gets limit × ((files : List (List ℕ)) → TellsAll contents names files → IsRefusedBy (files_checks limits most files) (refusal.FileLong limit))
IsRefusedSo limits most names contents gets given r = (gets ≡ length given) × IsRefusedBy (files_checks limits most given) r

-- or one of them is refused
pub record FilesRefused (limits : RunLimits) (most : ℕ) (names : List (List ℕ)) (old new : ShelfState) (r : Refusal) : Type 0 where
  pub gets : ℕ
  pub some : 0 < gets
  pub few : gets ≤ length names
  pub got : GotSome gets old new
  pub given : List (List ℕ)
  pub read : FirstRead limits most names gets given old new
  pub why : IsRefusedSo limits most names old.contents gets given r
  pub by_file : IsFileRefusal r

abbrev pub FilesUnread : RunLimits → ℕ → List (List ℕ) → ShelfState → ShelfState → Refusal → Type 0
FilesUnread limits most names old new r =
    ((r ≡ refusal.ShelfFault) × ShelfBroke limits most names old new) ⊎ FilesRefused limits most names old new r

-- what programs do over a cache of so many bytes
pub record SharesOver (o : ShareOptions) (bytes : ℕ) (guests : List Guest) (before after : Devices) (result : Result Ending Refusal) : Type 0 where
  pub ran : RanOver IsUnfedErr (λ e. Shares o bytes guests before after e []) (λ r. ShareFailed o bytes guests before after r []) before after result
  pub beyond : KeepsBeyond (bytes / 4) before.ram after.ram

-- none of these programs goes on
abbrev pub HaveEnded : List (Option Context) → Type 0
HaveEnded cs = (g : ℕ) (c : Context) → slice_index_or cs g None ≡ Some c → c.machine.ending ≡ None → ⊥
