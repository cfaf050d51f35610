-- What a chip's tables and memory hold of a service with slots: of the model's data, and of the words of its ram.
use Rattle.std.specs.Prelude.{◌≡◌, ℕ, ◌+◌, ◌/◌, ◌%◌, ◌^◌, ◌<◌, ◌≤◌, true, List, length, slice_index}
use Rattle.swi_slots.specs.Slots.{Slots}
use Rattle.swi_slots.specs.Keys.{Images, IsKnown, number_of, word_in, words_in}
use Rattle.swi_chip.specs.Undone.{begin_in}
use Rattle.swi_chip.specs.Owned.{is_jump}
use Rattle.swi_chip.specs.Parts.{HoldsParts}

-- the image's words stand in a row, block behind block, of which the ends are known; and none is a JAL x0
pub record RowsHold (vs : Images) (ends words : List ℕ) : Type 0 where
  pub row : (k o : ℕ) → IsKnown vs k → o < words_in vs k →
      (number_of k ≤ length ends) × (begin_in ends (number_of k) + o < length words) × (slice_index words (begin_in ends (number_of k) + o) ≡ word_in vs k o)
  pub no_jump : (k o : ℕ) → o < words_in vs k → is_jump (word_in vs k o) ≡ true → ⊥
  pub few : length words < 2 ^ 32

-- a word of the block that stands in its slot
abbrev pub InBlock : Slots → ℕ → Type 0
InBlock s i = (i / s.size < s.filled) × (i % s.size < slice_index s.lengths (i / s.size))

-- the tables and the memory stand for the service and its ram
abbrev pub Holds : Slots → List ℕ → List ℕ → List ℕ → List ℕ → List ℕ → List (List ℕ) → Type 0
Holds s ram cache heads links blocks lists = HoldsParts s ram cache heads links blocks lists (InBlock s)
