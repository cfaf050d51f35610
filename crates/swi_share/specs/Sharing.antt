-- What several programs over one cache keep between their events, and what an event or a schedule leaves.
use Rattle.std.specs.Prelude.{◌≡◌, ℕ, ◌+◌, ◌-◌, ◌^◌, ◌<◌, ◌≤◌, List, [], ◌∷◌, map, length, slice_get, slice_index_or, slice_set, Option, Some, None, Result, Ok, Err}
use Rattle.std.specs.Io.KnownBytes.{Appends}
use Rattle.swi_outside.specs.CacheRam.{RamState, KeepsBeyond}
use Rattle.swi_outside.specs.Sink.{SinkState}
use Rattle.swi_image.specs.Format.{ImageData}
use Rattle.swi_rom.specs.Record.{Record, empty_record, writes}
use Rattle.swi_rom.specs.Service.{Setting}
use Rattle.swi_rom.specs.Served.{SameFrom}
use Rattle.swi_slots.specs.Fifo.{extent_of}
use Rattle.swi_slots.specs.Slots.{Slots, kept_by, setting_of, span_of}
use Rattle.swi_slots.specs.Sound.{SlotsServe}
use Rattle.swi_hart.specs.Hart.{HartData, place_under}
use Rattle.swi_board.specs.Fetching.{HasFetched}
use Rattle.swi_board.specs.Ran.{RamRan}
use Rattle.swi_rom.specs.declared.rom.Counts.{Counts}
use Rattle.swi_share.specs.declared.share.ShareCounts.{ShareCounts}
use Rattle.swi_share.specs.declared.process.Process.{Process}
use Rattle.swi_hart.specs.declared.fault.BoardFault.{BoardFault}
use Rattle.swi_share.specs.Shared.{Context, Shared, shared_event}
use Rattle.swi_share.specs.Waiting.{Waits, most_services}
use Rattle.swi_share.specs.Event.{EventDevices, EventBroke, Quiet, context}

-- the programs, and the service, which is none once a device has failed
pub record ShareData : Type 0 where
  pub processes : List Process
  pub rom : Option Slots

abbrev pub context_of : Process → Option Context
context_of p = Some (context p.hart p.image p.input.left)

abbrev pub setting_in : Option Slots → Setting
setting_in None = record { slots = 0; slot_words = 0; programs = 0 }
setting_in (Some rom) = setting_of rom

abbrev pub kept_in : Option Slots → Record
kept_in None = empty_record
kept_in (Some rom) = kept_by rom

-- what is seen of a share before events that have written and fetched nothing yet
abbrev pub seen : ShareData → Shared
seen s = record {
  setting = setting_in s.rom;
  kept = kept_in s.rom;
  contexts = map context_of s.processes;
  output = [];
  error = [];
  sets = 0;
  fetches = 0;
  words = [];
}

-- a share with its ram and its sinks
pub record ShareWith : Type 0 where
  pub share : ShareData
  pub ram : RamState
  pub out : SinkState
  pub err : SinkState

-- Events have led to a state: the share is seen so, the sinks have gained its bytes, and the ram its fetches and what was written.
pub record Came (next : Shared) (before after : ShareWith) : Type 0 where
  pub share : seen after.share ≡ record next { output = []; error = []; sets = 0; fetches = 0; words = [] }
  pub output : Appends before.out.held after.out.held next.output
  pub error : Appends before.err.held after.err.held next.error
  pub ram : RamRan (span_of next.setting) next.fetches (writes next.kept - writes (seen before.share).kept) before.ram after.ram
  -- which are the sets of the events
  pub sets : next.sets ≡ writes next.kept - writes (seen before.share).kept
  pub words : HasFetched next.words before.ram after.ram
  pub unused : SameFrom (extent_of next.setting next.kept) before.ram.words after.ram.words

-- the devices of one of its programs, with the input that is left to it
abbrev pub devices_with : ShareWith → List ℕ → EventDevices
devices_with s left = record { ram = s.ram; left = left; out = s.out; err = s.err }

-- program g has ended
pub record HasEnded (s : ShareData) (g : ℕ) : Type 0 where
  pub process : Process
  pub process_is : slice_get s.processes g ≡ Some process
  pub ended : process.hart.machine.ending ≡ None → ⊥

-- the service's record with a program in turn
abbrev pub turned : Slots → ℕ → Record
turned rom g = record (kept_by rom) { turn = g }

-- program g, which waits for its next event
pub record Seated (rom : Slots) (images : ℕ → ImageData) (g : ℕ) (p : Process) : Type 0 where
  pub image : images g ≡ p.image
  pub waits : Waits p.image (turned rom g) p.hart
  pub few : p.hart.machine.steps ≤ 2 ^ 44

-- a bound of the services that a program's events have asked for
abbrev pub services_by : HartData → ℕ
services_by h = most_services h.machine.ending h.machine.steps

unfoldable pub services_most : List Process → ℕ
services_most [] = 0
services_most (p ∷ ps) = services_by p.hart + services_most ps

-- No device has failed. The service serves each program's image with these words in the ram, whichever is in turn, and each hart waits for
-- its next event.
pub record IsSharing (s : ShareData) (words : List ℕ) : Type 0 where
  pub rom : Slots
  pub is : s.rom ≡ Some rom
  pub images : ℕ → ImageData
  pub serves : SlotsServe rom images words
  pub programs : rom.programs ≡ length s.processes
  pub seated : (g : ℕ) (p : Process) → slice_get s.processes g ≡ Some p → Seated rom images g p
  pub services : rom.counts.services ≤ services_most s.processes

-- program g has made fewer than 2^44 steps
abbrev pub HasRoom : Shared → ℕ → Type 0
HasRoom s g = (c : Context) → slice_index_or s.contexts g None ≡ Some c → c.machine.steps < 2 ^ 44

-- An event of program g was made; where the program has ended, nothing changes.
pub record EventDone (g : ℕ) (before after : ShareWith) : Type 0 where
  pub came : Came (shared_event g (seen before.share)) before after
  pub sharing : IsSharing after.share after.ram.words
  pub quiet : Quiet before.out after.out before.err after.err
  pub idle : HasEnded before.share g → after ≡ before

-- A device has failed in an event of program g. No further event can be made.
pub record Stopped (fault : BoardFault) (g : ℕ) (before after : ShareWith) : Type 0 where
  pub failed : after.share.rom ≡ None
  pub context : Context
  pub context_is : slice_index_or (seen before.share).contexts g None ≡ Some context
  pub running : context.machine.ending ≡ None
  pub process : Process
  pub processes : after.share.processes ≡ slice_set before.share.processes g process
  pub broke : EventBroke (seen before.share).setting (record (seen before.share).kept { turn = g }) context fault
      (devices_with before context.input) (devices_with after process.input.left)

abbrev pub EventEnds : ℕ → ShareWith → ShareWith → Result Unit BoardFault → Type 0
EventEnds g before after (Ok u) = EventDone g before after
EventEnds g before after (Err fault) = Stopped fault g before after

-- An event of program g, by its answer: the other programs stay as they were, and so do the words of the ram behind the slots.
pub record EventRan (g : ℕ) (before after : ShareWith) (result : Result Unit BoardFault) : Type 0 where
  pub programs : length after.share.processes ≡ length before.share.processes
  pub others : (k : ℕ) → (k ≡ g → ⊥) → slice_get after.share.processes k ≡ slice_get before.share.processes k
  pub kept : KeepsBeyond (span_of (seen before.share).setting) before.ram after.ram
  pub ends : EventEnds g before after result

-- the counts but for that of services
pub record CountsTold (told : ShareCounts) (counts : Counts) : Type 0 where
  pub misses : told.misses ≡ counts.misses
  pub evictions : told.evictions ≡ counts.evictions
  pub links : told.links ≡ counts.links
  pub unlinks : told.unlinks ≡ counts.unlinks
  pub copied : told.copied ≡ counts.copied

-- what a hart tells of its program
pub record ToldBy (h : HartData) (c : Context) : Type 0 where
  pub machine : c.machine ≡ h.machine
  pub count : c.count ≡ h.count
  pub booted : c.booted ≡ h.booted
  pub place : c.place ≡ place_under h.machine.ending h.control

abbrev pub Tells : HartData → Option Context → Type 0
Tells h None = ⊥
Tells h (Some c) = ToldBy h c
