-- A service with slots of one size, as plain data: what stands in each slot, and which words are links.
use Rattle.std.specs.Prelude.{◌≡◌, ℕ, ◌+◌, ◌*◌, ◌/◌, ◌%◌, ◌<◌, ◌≤◌, ◌==◌, ◌&&◌, ◌^◌, min, List, [], ◌∷◌, ◌++◌, take, drop, length, replicate, Option, Some, None, if◌then◌else◌, slice_index, nat_lt}
use Rattle.swi_rom.specs.Record.{Record, Placement, Link}
use Rattle.swi_rom.specs.Service.{Setting}
use Rattle.swi_rom.specs.Collected.{collected}
use Rattle.swi_slots.specs.Keys.{owner_of, number_of}
use Rattle.swi_rom.specs.declared.rom.Counts.{Counts}

pub record Slots : Type 0 where
  -- how many slots, and the words of each
  pub slots : ℕ
  pub size : ℕ
  -- the slot that is filled next, and how many are filled: the first so many
  pub next : ℕ
  pub filled : ℕ
  -- how many programs there are, and the number of the one in turn
  pub programs : ℕ
  pub turn : ℕ
  -- for each slot its block's key and that block's length
  pub blocks : List ℕ
  pub lengths : List ℕ
  -- for each word the slot to which it is linked; where it isn't, the number of slots
  pub targets : List ℕ
  pub counts : Counts

-- the numbers keep their shape, whatever stands in the slots
pub record InShape (s : Slots) : Type 0 where
  pub some_slot : 1 ≤ s.slots
  pub size_least : 2 ≤ s.size
  pub size_most : s.size ≤ 1024
  pub words_few : s.slots * s.size ≤ 2 ^ 21
  pub turn_below : s.turn < s.programs
  pub programs_most : s.programs ≤ 8
  pub next_below : s.next < s.slots
  pub filled_most : s.filled ≤ s.slots
  pub blocks_long : length s.blocks ≡ s.slots
  pub lengths_long : length s.lengths ≡ s.slots
  pub targets_long : length s.targets ≡ s.slots * s.size
  -- the slots are filled one after the other, and then again from the first on
  pub next_is : s.next ≡ s.counts.misses % s.slots
  pub filled_is : s.filled ≡ min s.counts.misses s.slots

abbrev pub setting_of : Slots → Setting
setting_of s = record { slots = s.slots; slot_words = s.size; programs = s.programs }

abbrev pub span_of : Setting → ℕ
span_of by = by.slots * by.slot_words

-- the blocks of the slots from slot k on
unfoldable pub numbered : ℕ → ℕ → List ℕ → List Placement
numbered size k [] = []
numbered size k (b ∷ bs) = record { program = owner_of b; block = number_of b; first = k * size } ∷ numbered size (k + 1) bs

abbrev pub rotated : ℕ → List Placement → List Placement
rotated n es = drop n es ++ take n es

-- the placed blocks, the oldest first
unfoldable pub queue_of : Slots → List Placement
queue_of s = rotated s.next (numbered s.size 0 (take s.filled s.blocks))

-- the link that a word is
unfoldable pub link_at : Slots → ℕ → Option Link
link_at s i =
    if nat_lt (slice_index s.targets i) s.slots
    then Some (record {
      program = owner_of (slice_index s.blocks (i / s.size));
      block = number_of (slice_index s.blocks (i / s.size));
      offset = i % s.size;
      into = number_of (slice_index s.blocks (slice_index s.targets i));
    })
    else None

unfoldable pub links_of : Slots → List Link
links_of s = collected (link_at s) (s.slots * s.size)

abbrev pub kept_by : Slots → Record
kept_by s = record { turn = s.turn; placed = queue_of s; links = links_of s; counts = s.counts; more = [] }

-- what stands at a word, of the program in turn
unfoldable pub shown_by : Slots → ℕ → Option (ℕ × ℕ)
shown_by s i =
    if nat_lt (i / s.size) s.filled && (owner_of (slice_index s.blocks (i / s.size)) == s.turn && nat_lt (i % s.size) (slice_index s.lengths (i / s.size)))
    then Some (number_of (slice_index s.blocks (i / s.size)), i % s.size)
    else None

-- slots without a block, with the first program in turn
abbrev pub empty_slots : ℕ → ℕ → ℕ → Slots
empty_slots slots size programs = record {
  slots = slots;
  size = size;
  next = 0;
  filled = 0;
  programs = programs;
  turn = 0;
  blocks = replicate slots 0;
  lengths = replicate slots 0;
  targets = replicate (slots * size) slots;
  counts = record { services = 0; misses = 0; evictions = 0; links = 0; unlinks = 0; copied = 0 };
}
