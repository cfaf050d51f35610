-- Lists of the links into each slot, which run through the cache's own words: the word behind a link, where its descriptor stood, holds the
-- link's neighbours. It is never executed. A list is told by these words' indices, its cells; 0 is none.
use Rattle.std.specs.Prelude.{◌≡◌, ℕ, ◌+◌, ◌*◌, ◌/◌, ◌%◌, ◌^◌, ◌<◌, List, [], ◌∷◌, length, slice_index, slice_index_or}
use Rattle.swi_links.specs.Chains.{Has, Distinct}

-- the cell behind one and the cell before it, by its word
abbrev pub next_in : ℕ → ℕ
next_in w = w % 2 ^ 16

abbrev pub before_in : ℕ → ℕ
before_in w = w / 2 ^ 16

abbrev pub pair_of : ℕ → ℕ → ℕ
pair_of next before = next + before * 2 ^ 16

-- from cell h on, which stands behind cell q, these cells stand one behind the other, by what is next and before
abbrev pub Run : (ℕ → ℕ) → (ℕ → ℕ) → ℕ → ℕ → ℕ → List ℕ → Type 0
Run n b size q h [] = h ≡ 0
Run n b size q h (x ∷ xs) = (h ≡ x) × (0 < x) × (x < size) × (b x ≡ q) × Run n b size x (n x) xs

abbrev pub nexts : List ℕ → ℕ → ℕ
nexts words x = next_in (slice_index words x)

abbrev pub befores : List ℕ → ℕ → ℕ
befores words x = before_in (slice_index words x)

abbrev pub list_at : List (List ℕ) → ℕ → List ℕ
list_at lists s = slice_index_or lists s []

-- in these words, with these first cells, stand these lists
pub record StandIn (words heads : List ℕ) (lists : List (List ℕ)) : Type 0 where
  pub long : length lists ≡ length heads
  pub few : length words < 2 ^ 16
  pub runs : (s : ℕ) → s < length heads → Run (nexts words) (befores words) (length words) 0 (slice_index heads s) (list_at lists s)
  pub distinct : (s : ℕ) → s < length heads → Distinct (list_at lists s)
  pub one : (s t x : ℕ) → Has (list_at lists s) x → Has (list_at lists t) x → s ≡ t

-- some lists stand there; some of which the slot's has the cell
abbrev pub SomeStand : List ℕ → List ℕ → Type 0
SomeStand words heads = (lists : List (List ℕ)) × StandIn words heads lists

abbrev pub SomeHas : List ℕ → List ℕ → ℕ → ℕ → Type 0
SomeHas words heads s x = (lists : List (List ℕ)) × StandIn words heads lists × Has (list_at lists s) x
