-- What stands where a device broke off an event, in the words of the event; and the laws of a share that a contract names.
use Rattle.std.specs.Prelude.{◌≡◌, ℕ, ◌+◌, ◌*◌, ◌≤◌, true, List, [], length, take, slice_index_or, Some, None, nat_le, if◌then◌else◌}
use Rattle.std.specs.Io.KnownBytes.{Appends}
use Rattle.swi_outside.specs.Causes.{risen}
use Rattle.swi_hart.specs.declared.fault.BoardFault.TheVariants.{RamFault, SinkFault}
use Rattle.swi_board.specs.Fetching.{FetchedFront}
use Rattle.swi_share.specs.Event.{EventDevices}
use Rattle.swi_share.specs.Laws.{StandsAfter, counts_of, events_of, unfetched}
use Rattle.swi_share.specs.Shared.{Context, Event, Shared, event_of, shared_run}
use Rattle.swi_share.specs.Sharing.{ShareWith, Stopped, devices_with, seen}

-- a sink broke it off: each sink has gained a front of what the event writes, and one to which it gives nothing was not asked
pub record SinkCut (e : Event) (before after : EventDevices) : Type 0 where
  pub output_front : ℕ
  pub output : Appends before.out.held after.out.held (take output_front e.output)
  pub error_front : ℕ
  pub error : Appends before.err.held after.err.held (take error_front e.error)
  pub words : FetchedFront e.words before.ram after.ram
  pub output_unasked : e.output ≡ [] → after.out.faults ≡ before.out.faults
  pub error_unasked : e.error ≡ [] → after.err.faults ≡ before.err.faults

-- The ram broke it off, after so many fetches: the sinks have gained what the event writes where all its fetches were made, and else
-- nothing. No call of it comes behind the one that failed.
pub record RamCut (e : Event) (before after : EventDevices) : Type 0 where
  pub fetched : ℕ
  pub fetches : after.ram.fetches ≡ risen before.ram.fetches fetched
  pub most : fetched ≤ e.fetches
  pub output : Appends before.out.held after.out.held (if nat_le e.fetches fetched then e.output else [])
  pub error : Appends before.err.held after.err.held (if nat_le e.fetches fetched then e.error else [])
  pub words : FetchedFront e.words before.ram after.ram
  pub last_failed : after.ram.last_failed ≡ true

-- the event of a program in turn
abbrev pub event_seen : ℕ → ShareWith → Context → Event
event_seen g w c = event_of (seen w.share).setting (record (seen w.share).kept { turn = g }) c

abbrev pub CutsBySink : Type 0
CutsBySink = (g : ℕ) (before after : ShareWith) → (s : Stopped SinkFault g before after) → SinkCut (event_seen g before s.context) (devices_with before s.context.input) (devices_with after s.process.input.left)

abbrev pub CutsByRam : Type 0
CutsByRam = (g : ℕ) (before after : ShareWith) → (s : Stopped RamFault g before after) → RamCut (event_seen g before s.context) (devices_with before s.context.input) (devices_with after s.process.input.left)

-- each program stands where as many steps of the flat machine lead as it had events
abbrev pub EachFollows : Type 0
EachFollows = (order : List ℕ) (g : ℕ) (s : Shared) (c : Context) → slice_index_or s.contexts g None ≡ Some c → StandsAfter (events_of g order) c g (shared_run order s)

-- the words that a schedule fetches are its machine instructions, but for those that fetch none
abbrev pub FetchesWords : Type 0
FetchesWords = (order : List ℕ) (s : Shared) → counts_of (shared_run order s).contexts + s.fetches ≡ counts_of s.contexts + (shared_run order s).fetches + unfetched order s

-- an event asks for three services at most
abbrev pub AsksFew : Type 0
AsksFew = (order : List ℕ) (s : Shared) → (shared_run order s).kept.counts.services ≤ s.kept.counts.services + 3 * length order
