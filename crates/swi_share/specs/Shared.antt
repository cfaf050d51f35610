-- Several programs that share one cache, by their events: an event of a program makes one original instruction of it.
use Rattle.std.specs.Prelude.{ℕ, ◌+◌, ◌-◌, ◌||◌, Bool, true, false, not, List, [], ◌∷◌, ◌++◌, slice_set, slice_index_or, Option, Some, None}
use Rattle.swi_outside.specs.CacheRam.{Fetch, later}
use Rattle.swi_calls.specs.declared.end.End.{End}
use Rattle.swi_calls.specs.declared.machine.Machine.{Machine}
use Rattle.swi_calls.specs.Flat.{started}
use Rattle.swi_calls.specs.Held.{held_run}
use Rattle.swi_calls.specs.State.{FlatState}
use Rattle.swi_image.specs.Format.{ImageData}
use Rattle.swi_image.specs.Place.{place_of}
use Rattle.swi_rom.specs.Record.{Record, writes}
use Rattle.swi_rom.specs.Service.{Setting}
use Rattle.swi_rom.specs.Policy.{is_placed}
use Rattle.swi_slots.specs.Fifo.{fifo}
use Rattle.swi_hart.specs.Leaving.{moved}
use Rattle.swi_board.specs.Board.{entry_transfer, entries}
use Rattle.swi_board.specs.Fetching.{words_run}
use Rattle.swi_board.specs.Transfers.{Here, here_run, transfers, cost, fetches, after_all}

-- A program between two of its events: its image, its machine, the input that is left, whether it had an event, the block and the offset
-- under control (none where it has ended, or no text word stands at its address), and its machine instructions.
pub record Context : Type 0 where
  pub image : ImageData
  pub machine : Machine
  pub input : List ℕ
  pub booted : Bool
  pub place : Here
  pub count : ℕ

-- what an event leaves: queue, links and counts, the program, the bytes that it writes, how many words of the ram it fetches, and which, in
-- order, each behind so many sets of the event
pub record Event : Type 0 where
  pub kept : Record
  pub context : Context
  pub output : List ℕ
  pub error : List ℕ
  pub fetches : ℕ
  pub words : List Fetch

-- whether control's block has left the queue
abbrev pub has_left : Record → Here → Bool
has_left r None = false
has_left r (Some p) = not (is_placed r p.0)

-- An event enters the ram anew where it is the program's first, and where control's block has left the queue.
abbrev pub enters : Record → Context → Bool
enters r c = not c.booted || has_left r c.place

-- Then the block of its address is taken first, which is a machine instruction, and an exit behind a block's last text word at which
-- control waited isn't made. Where no text word stands at the address, nothing is taken or counted, and control is outside.
abbrev pub entered_if : Bool → Setting → Record → Context → Record
entered_if true by r c = moved (fifo by) r c.image (entry_transfer c.image c.machine.pc)
entered_if false by r c = r

abbrev pub begun_if : Bool → Context → Context
begun_if true c = record c { booted = true; place = place_of c.image c.machine.pc; count = c.count + entries c.image c.machine.pc }
begun_if false c = c

-- the flat machine with the context's input, which has written nothing yet
abbrev pub flat_of : Context → FlatState
flat_of c = started c.machine c.input

-- no place is told of a program that has ended
abbrev pub place_by : Option End → Here → Here
place_by None here = here
place_by (Some e) here = None

-- the original instruction, with its transfers of control in order, behind so many sets of the entry
abbrev pub step_event : Setting → ℕ → Record → Context → Event
step_event by sets r c = record {
  kept = after_all (fifo by) c.image r (transfers c.image 1 (flat_of c) c.place);
  context = record c {
    machine = (held_run 1 (flat_of c)).machine;
    input = (held_run 1 (flat_of c)).input;
    place = place_by (held_run 1 (flat_of c)).machine.ending (here_run c.image 1 (flat_of c) c.place);
    count = c.count + cost c.image 1 (flat_of c) c.place;
  };
  output = (held_run 1 (flat_of c)).output;
  error = (held_run 1 (flat_of c)).error;
  fetches = fetches c.image 1 (flat_of c) c.place;
  words = words_run (fifo by) c.image 1 (flat_of c) c.place (record { kept = r; sets = sets });
}

-- an event of the program in turn, which has not ended
abbrev pub event_of : Setting → Record → Context → Event
event_of by r c = step_event by (writes (entered_if (enters r c) by r c) - writes r) (entered_if (enters r c) by r c) (begun_if (enters r c) c)

-- All programs with the one cache: its setting, its queue with links and counts, the contexts; and the bytes that the events have written,
-- in their order, how many words they have set and fetched, and which they have fetched, each behind so many sets.
pub record Shared : Type 0 where
  pub setting : Setting
  pub kept : Record
  pub contexts : List (Option Context)
  pub output : List ℕ
  pub error : List ℕ
  pub sets : ℕ
  pub fetches : ℕ
  pub words : List Fetch

abbrev pub with_event : ℕ → Shared → Event → Shared
with_event g s e = record s {
  kept = e.kept;
  contexts = slice_set s.contexts g (Some e.context);
  output = s.output ++ e.output;
  error = s.error ++ e.error;
  sets = s.sets + (writes e.kept - writes s.kept);
  fetches = s.fetches + e.fetches;
  words = s.words ++ later s.sets e.words;
}

-- an event of a program that has ended does nothing
abbrev pub event_by : ℕ → Shared → Context → Option End → Shared
event_by g s c None = with_event g s (event_of s.setting (record s.kept { turn = g }) c)
event_by g s c (Some e) = s

abbrev pub event_in : ℕ → Shared → Option Context → Shared
event_in g s None = s
event_in g s (Some c) = event_by g s c c.machine.ending

-- an event of program g
abbrev pub shared_event : ℕ → Shared → Shared
shared_event g s = event_in g s (slice_index_or s.contexts g None)

-- a schedule: events in order
unfoldable pub shared_run : List ℕ → Shared → Shared
shared_run [] s = s
shared_run (g ∷ gs) s = shared_run gs (shared_event g s)
