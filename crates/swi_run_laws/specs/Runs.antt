-- What a run of a board says in the words of its original steps: their transfers, their cost and the words that they fetch.
use Rattle.std.specs.Prelude.{◌≡◌, ℕ, ◌+◌, ◌-◌, ◌<◌, ◌≤◌, List, Some, None, Ok, is_some, true, false}
use Rattle.std.specs.Io.KnownBytes.{Appends}
use Rattle.swi_outside.specs.Causes.{risen}
use Rattle.swi_memory.specs.Bus.{fetched}
use Rattle.swi_calls.specs.declared.machine.Machine.{Machine}
use Rattle.swi_calls.specs.Flat.{started}
use Rattle.swi_calls.specs.Held.{held_run}
use Rattle.swi_calls.specs.State.{FlatState}
use Rattle.swi_image.specs.Format.{ImageData}
use Rattle.swi_render.specs.Carried.{Carries}
use Rattle.swi_rom.specs.Service.{ServiceOf}
use Rattle.swi_hart.specs.declared.fault.BoardFault.{BoardFault}
use Rattle.swi_hart.specs.Hart.{is_between, original, slots}
use Rattle.swi_hart.specs.Matching.{Matches}
use Rattle.swi_board.specs.Board.{BoardWithDevices}
use Rattle.swi_board.specs.BoardRan.{BoardRan, BrokeOff}
use Rattle.swi_board.specs.Fetching.{HasFetched, words_run}
use Rattle.swi_board.specs.Moments.{Moment, Policy, events}
use Rattle.swi_board.specs.Tracking.{Point, Tracks, point_of}
use Rattle.swi_board.specs.Transfers.{Here, after_all, at_fall, before_last, cost, fetches, here_of, here_run, spent_run, transfers}
use Rattle.swi_run_laws.specs.After.{IsAfterMidway, IsWithin}
use Rattle.swi_run_laws.specs.Broken.{Broke}

-- Between two points so many steps of the flat machine were made.
pub record RanSteps (by : Policy) (v : ImageData) (k : ℕ) (s : FlatState) (old new : Point) : Type 0 where
  pub matches : Matches v new.kept (held_run k s).machine new.hart.machine new.hart.control
  pub between : new.hart.machine.ending ≡ None → is_between new.hart.control ≡ true
  pub input : new.left ≡ Some (held_run k s).input
  pub output : Appends old.out new.out (held_run k s).output
  pub error : Appends old.err new.err (held_run k s).error
  -- the service has served their transfers by its policy
  pub record_is : new.kept ≡ after_all by v old.kept (transfers v k s (here_of v s.machine old.hart.control))
  -- while the run goes on, control has come to where they lead
  pub here_is : new.hart.machine.ending ≡ None → here_of v (held_run k s).machine new.hart.control ≡ here_run v k s (here_of v s.machine old.hart.control)
  -- they cost so many machine instructions, which fetched these words
  pub cost_is : new.hart.count ≡ old.hart.count + cost v k s (here_of v s.machine old.hart.control)
  pub words : HasFetched (words_run by v k s (here_of v s.machine old.hart.control) (record { kept = old.kept; sets = 0 })) old.ram new.ram
  pub fetches_are : new.ram.fetches ≡ risen old.ram.fetches (fetches v k s (here_of v s.machine old.hart.control))

-- a run of the board that came to its end, from between two instructions of a flat machine that it matches
abbrev pub RunsInSteps : {S : Type 0} → ServiceOf S → Type 0
RunsInSteps {S} k = (v : ImageData) (n : ℕ) (old new : BoardWithDevices S) (u : Unit) → BoardRan k v n old new (Ok u) → old.hart.machine.steps ≤ n →
    (left : List ℕ) → old.devices.input.left ≡ Some left → (f : Machine) → Carries (fetched f.bus) v → Matches v (k.kept old.rom) f old.hart.machine old.hart.control → spent_run f old.hart.control ≡ 0 →
    RanSteps (k.policy (k.setting old.rom)) v (n - old.hart.machine.steps) (started f left) (point_of k old) (point_of k new)

-- and one that a device broke off, by the moment before
abbrev pub BreaksSo : {S : Type 0} → ServiceOf S → Type 0
BreaksSo {S} k = (v : ImageData) (n : ℕ) (mid new : BoardWithDevices S) (fault : BoardFault) → k.sound mid.rom v mid.ram.words → BrokeOff k v n mid new fault →
    (s : Moment) (from : Point) → Tracks (k.span (k.setting mid.rom)) v s from (point_of k mid) → Broke (k.policy (k.setting mid.rom)) v fault s from (point_of k new)

-- from midway in an instruction
abbrev pub GoesOnMidway : Type 0
GoesOnMidway = (by : Policy) (v : ImageData) (k : ℕ) (s : Moment) (p : ℕ × ℕ) → s.here ≡ Some p → is_some s.flat.machine.ending ≡ false → at_fall v s.flat.machine (Some p) ≡ false →
    s.spent ≤ before_last s.flat.machine (original s.flat.machine) (slots s.flat.machine) → s.spent ≤ cost v k s.flat (Some p) → IsAfterMidway by v k p s (events by v (cost v k s.flat (Some p) - s.spent) s)

-- before so many steps are made, so many are the most whose words were all fetched
abbrev pub FetchesWithin : Type 0
FetchesWithin = (by : Policy) (v : ImageData) (k : ℕ) (s : Moment) (h : Here) → (s.flat.machine.ending ≡ None → s.here ≡ h) → s.spent ≡ 0 → (j : ℕ) → j < cost v k s.flat h → IsWithin v h s (events by v j s)
