-- How links leave their lists: those of one list, which lead into a block, and those of the block's own words.
use Rattle.std.specs.Prelude.{◌≡◌, ◌⊎◌, ℕ, zero, suc, ◌+◌, ◌<◌, ◌≤◌, ◌==◌, ◌&&◌, ◌||◌, Bool, true, false, not, List, length, slice_index, nat_le, nat_lt, if◌then◌else◌}
use Rattle.swi_outside.specs.CacheRam.{RamState}
use Rattle.swi_links.specs.Chains.{ChainsData}
use Rattle.swi_links.specs.Holders.{holder_of}
use Rattle.swi_rom.specs.Record.{ebreak}
use Rattle.swi_rom.specs.Writing.{Wrote}

-- word i is one of the block's own, of which there are n from the first on
abbrev pub is_own : ℕ → ℕ → ℕ → Bool
is_own first n i = nat_le first i && nat_lt i (first + n)

-- word i is linked to the list, and is none of the block's own
abbrev pub comes_in : ℕ → ℕ → ℕ → List (List ℕ) → ℕ → Bool
comes_in list first n lists i = holder_of lists i == list && not (is_own first n i)

-- how many of the first k words do
unfoldable pub coming_in : ℕ → ℕ → ℕ → List (List ℕ) → ℕ → ℕ
coming_in list first n lists zero = 0
coming_in list first n lists (suc k) = if comes_in list first n lists k then coming_in list first n lists k + 1 else coming_in list first n lists k

-- word i comes into the block, or it is one of its own
abbrev pub is_dropped : ℕ → ℕ → ℕ → List (List ℕ) → ℕ → Bool
is_dropped list first n lists i = comes_in list first n lists i || is_own first n i

-- the word is linked as before, and the same word
pub record Stays (i : ℕ) (old new : ChainsData) (before after : RamState) : Type 0 where
  pub holder_stays : holder_of new.lists i ≡ holder_of old.lists i
  pub word_stays : slice_index after.words i ≡ slice_index before.words i

-- the word was linked to the list and is no link now; where it is another block's, it is an exit again
pub record Leaves (list first n i : ℕ) (old new : ChainsData) (before after : RamState) : Type 0 where
  pub was : holder_of old.lists i ≡ list
  pub is_none : holder_of new.lists i ≡ length old.lists
  pub own : is_own first n i ≡ true → slice_index after.words i ≡ slice_index before.words i
  pub foreign : is_own first n i ≡ false → slice_index after.words i ≡ ebreak

-- some of the links to a list are dropped, and those of them from other blocks are undone, k in number
pub record Undone (list first n k : ℕ) (old new : ChainsData) (before after : RamState) : Type 0 where
  pub words_stay : new.words ≡ old.words
  pub lists_stay : length new.lists ≡ length old.lists
  pub each : (i : ℕ) → i < old.words → Stays i old new before after ⊎ Leaves list first n i old new before after
  pub beyond : (i : ℕ) → old.words ≤ i → slice_index after.words i ≡ slice_index before.words i
  pub number : k + coming_in list first n new.lists old.words ≡ coming_in list first n old.lists old.words
  pub wrote : Wrote old.words k before after

-- no word is linked to the list
pub record IsEmptied (list : ℕ) (c : ChainsData) : Type 0 where
  pub none : (i : ℕ) → holder_of c.lists i ≡ list → ⊥

-- n words from the first on are no links now, and all others are linked as before
pub record Released (first n : ℕ) (old new : ChainsData) : Type 0 where
  pub words_stay : new.words ≡ old.words
  pub lists_stay : length new.lists ≡ length old.lists
  pub dropped : (i : ℕ) → first ≤ i → i < first + n → holder_of new.lists i ≡ length old.lists
  pub others : (i : ℕ) → (i < first) ⊎ (first + n ≤ i) → holder_of new.lists i ≡ holder_of old.lists i
