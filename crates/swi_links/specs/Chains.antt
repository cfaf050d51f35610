-- For each slot the words that are linked to it, newest first.
use Rattle.std.specs.Prelude.{◌≡◌, ◌⊎◌, ℕ, ◌<◌, ◌≤◌, ◌==◌, not, List, [], ◌∷◌, filter, length, slice_index_or}

pub record ChainsData : Type 0 where
  -- how many words there are
  pub words : ℕ
  -- for each slot its list
  pub lists : List (List ℕ)

abbrev pub list_of : ChainsData → ℕ → List ℕ
list_of c s = slice_index_or c.lists s []

-- the list has the word
abbrev pub Has : List ℕ → ℕ → Type 0
Has [] x = ⊥
Has (y ∷ ys) x = (y ≡ x) ⊎ Has ys x

-- no word stands twice in the list
abbrev pub Distinct : List ℕ → Type 0
Distinct [] = Unit {0}
Distinct (x ∷ xs) = (Has xs x → ⊥) × Distinct xs

-- no list has the word
abbrev pub IsFree : ChainsData → ℕ → Type 0
IsFree c x = (s : ℕ) → Has (list_of c s) x → ⊥

-- no list has a word from one on and below another
abbrev pub AreFree : ChainsData → ℕ → ℕ → Type 0
AreFree c from to = (x : ℕ) → from ≤ x → x < to → IsFree c x

-- the list without a word; the others keep their order
abbrev pub without : ℕ → List ℕ → List ℕ
without x xs = filter (λ y. not (y == x)) xs

-- no two lists have a word in common, none has a word twice, and each is that of a slot and below `words`
pub record IsApart (c : ChainsData) : Type 0 where
  pub within : (s x : ℕ) → Has (list_of c s) x → x < c.words
  pub slot : (s x : ℕ) → Has (list_of c s) x → s < length c.lists
  pub one : (s t x : ℕ) → Has (list_of c s) x → Has (list_of c t) x → s ≡ t
  pub distinct : (s : ℕ) → Distinct (list_of c s)
