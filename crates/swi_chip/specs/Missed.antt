-- A block that stood in no slot has taken the next one.
use Rattle.std.specs.Prelude.{◌≡◌, ℕ, ◌+◌, ◌<◌, ◌≤◌, ◌^◌, Bool, true, false, List, length, slice_index}
use Rattle.swi_outside.specs.CacheRam.{RamState}
use Rattle.swi_image.specs.Place.{length_at}
use Rattle.swi_rom.specs.declared.rom.Counts.{Counts}
use Rattle.swi_slots.specs.Slots.{Slots}
use Rattle.swi_slots.specs.Keys.{Images, key_of, words_in}
use Rattle.swi_slots.specs.Sound.{SlotsServe}
use Rattle.swi_slots.specs.Steps.{Filled, IsAbsent, settled}
use Rattle.swi_chip.specs.Held.{RowsHold, Holds}

-- the tables and the memory stand for a service that serves its images, and no slot has the block
pub record ToMiss (s : Slots) (vs : Images) (ram cache heads links : List ℕ) (slot : ℕ) (full : Bool) (old block len : ℕ) (blocks ends words : List ℕ) (size : ℕ) (lists : List (List ℕ)) : Type 0 where
  pub serves : SlotsServe s vs ram
  pub holds : Holds s ram cache heads links blocks lists
  pub rows : RowsHold vs ends words
  pub next_is : slot ≡ s.next
  pub is_full : full ≡ true → s.slots ≤ s.filled
  pub not_full : full ≡ false → s.filled < s.slots
  pub old_is : full ≡ true → old ≡ words_in vs (slice_index s.blocks slot)
  pub absent : IsAbsent s (key_of s.turn block)
  pub known : block < length (vs s.turn).blocks
  pub small : block < 2 ^ 19
  pub len_is : len ≡ words_in vs (key_of s.turn block)
  pub size_is : size ≡ s.size

abbrev pub SomeToMiss : List ℕ → List ℕ → List ℕ → ℕ → Bool → ℕ → ℕ → ℕ → List ℕ → List ℕ → List ℕ → ℕ → Type 0
SomeToMiss cache heads links slot full old block len blocks ends words size =
    (s : Slots) × (vs : Images) × (ram : List ℕ) × (lists : List (List ℕ)) × ToMiss s vs ram cache heads links slot full old block len blocks ends words size lists

-- The model's slots and ram are as the model's own service leaves them, with so many links undone, and the tables and the memory stand for that.
pub record Missed (s : Slots) (vs : Images) (ram : List ℕ) (block undone : ℕ) (cache heads links blocks : List ℕ) : Type 0 where
  pub targets : List ℕ
  pub counts : Counts
  pub next : Slots
  pub words : List ℕ
  pub lists : List (List ℕ)
  pub counts_free : s.filled < s.slots → counts ≡ s.counts
  pub counts_full : s.slots ≤ s.filled → counts ≡ record s.counts { evictions = s.counts.evictions + 1; unlinks = s.counts.unlinks + undone }
  pub next_is : next ≡ settled (record s { targets = targets; counts = counts }) (key_of s.turn block) (length_at (vs s.turn) block)
  pub holds : Holds next words cache heads links blocks lists
  pub filled : (before : RamState) → before.words ≡ ram → (after : RamState) × (after.words ≡ words) × Filled (vs s.turn) s block next before after
