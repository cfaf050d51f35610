-- The lists as chains through arrays of indices: to the next word, to the one before, and to the slot.
use Rattle.std.specs.Prelude.{◌≡◌, ℕ, suc, zero, ◌<◌, List, [], ◌∷◌, length, slice_index, nat_lt, if◌then◌else◌, map, ◌^◌}
use Rattle.swi_links.specs.Chains.{Has, Distinct}

-- the words from one on, as far as a number of them
unfoldable pub walk : List ℕ → ℕ → ℕ → List ℕ
walk nexts zero h = []
walk nexts (suc n) h = if nat_lt h (length nexts) then h ∷ walk nexts n (slice_index nexts h) else []

abbrev pub lists_in : List ℕ → ℕ → List ℕ → List (List ℕ)
lists_in nexts words heads = map (λ h. walk nexts words h) heads

-- the chain from word h on, which stands behind word q, has these words
abbrev pub Chain : List ℕ → List ℕ → ℕ → ℕ → ℕ → List ℕ → Type 0
Chain nexts prevs none q h [] = h ≡ none
Chain nexts prevs none q h (x ∷ xs) = (h ≡ x) × (x < none) × (slice_index prevs x ≡ q) × Chain nexts prevs none x (slice_index nexts x) xs

-- the chain of a slot
pub record SlotChain (nexts prevs owners : List ℕ) (words slot head : ℕ) (xs : List ℕ) : Type 0 where
  pub chain : Chain nexts prevs words words head xs
  pub distinct : Distinct xs
  pub owned : (x : ℕ) → Has xs x → slice_index owners x ≡ slot

pub record Tied (words : ℕ) (heads nexts prevs owners : List ℕ) : Type 0 where
  pub few : words < 2 ^ 32
  pub slots_few : length heads < 2 ^ 32
  pub nexts_long : length nexts ≡ words
  pub prevs_long : length prevs ≡ words
  pub owners_long : length owners ≡ words
  pub chained : (s : ℕ) → s < length heads → SlotChain nexts prevs owners words s (slice_index heads s) (walk nexts words (slice_index heads s))
  -- a word that has a slot stands in its list
  pub listed : (x : ℕ) → x < words → slice_index owners x < length heads → Has (walk nexts words (slice_index heads (slice_index owners x))) x
