-- The service as plain data.
use Rattle.std.specs.Prelude.{ℕ, ◌*◌, ◌/◌, ◌%◌, ◌==◌, ◌&&◌, ◌+◌, Bool, false, not, List, [], map, length, Option, Some, None, if◌then◌else◌, slice_index, nat_lt, replicate}
use Rattle.swi_rom.specs.Record.{Record, Placement, Link}
use Rattle.swi_rom.specs.declared.rom.Counts.{Counts}
use Rattle.swi_engine.specs.declared.copying.Copying.{Copying}
use Rattle.swi_engine.specs.declared.joints.Joint.{Joint}
use Rattle.swi_rom.specs.Service.{Setting}
use Rattle.swi_engine.specs.Engine.{copies_begun, numbers}

pub record EngineData : Type 0 where
  -- how many slots, and the words of each
  pub slots : ℕ
  pub size : ℕ
  -- the slots in which a block stands, the oldest first
  pub queue : List ℕ
  -- for each slot its block and that block's length
  pub blocks : List ℕ
  pub lengths : List ℕ
  -- for each block its slot; of a block that isn't placed the number of slots
  pub homes : List ℕ
  -- the links, the newest first
  pub joints : List Joint
  pub copy : Option Copying
  pub counts : Counts
  -- the words that the engine wrote to copy, and the copies that it completed
  pub words : ℕ
  pub copies : ℕ

-- it serves one program
abbrev pub setting_of : EngineData → Setting
setting_of e = record { slots = e.slots; slot_words = e.size; programs = 1 }

-- nothing stands in so many slots, of so many words each, for so many blocks
abbrev pub empty_data : ℕ → ℕ → ℕ → EngineData
empty_data slots size blocks = record {
  slots = slots;
  size = size;
  queue = [];
  blocks = replicate slots 0;
  lengths = replicate slots 0;
  homes = replicate blocks slots;
  joints = [];
  copy = None;
  counts = record { services = 0; misses = 0; evictions = 0; links = 0; unlinks = 0; copied = 0 };
  words = 0;
  copies = 0;
}

abbrev pub spot : ℕ → List ℕ → ℕ → Placement
spot size blocks n = record { program = 0; block = slice_index blocks n; first = n * size }

abbrev pub link_of : Joint → Link
link_of j = record { program = 0; block = j.block; offset = j.offset; into = j.into }

abbrev pub kept_by : EngineData → Record
kept_by e = record {
  turn = 0;
  placed = map (λ n. spot e.size e.blocks n) e.queue;
  links = map (λ j. link_of j) e.joints;
  counts = e.counts;
  more = numbers e.words e.copies e.copy;
}

-- how many slots have a block or a copy, and whether a slot has the copy
abbrev pub used : EngineData → ℕ
used e = length e.queue + copies_begun e.copy

abbrev pub is_copied_to : Option Copying → ℕ → Bool
is_copied_to None n = false
is_copied_to (Some c) n = c.slot == n

-- what stands at a word
unfoldable pub shown_by : EngineData → ℕ → Option (ℕ × ℕ)
shown_by e i =
    if nat_lt (i / e.size) (used e) && (not (is_copied_to e.copy (i / e.size)) && nat_lt (i % e.size) (slice_index e.lengths (i / e.size)))
    then Some (slice_index e.blocks (i / e.size), i % e.size)
    else None
