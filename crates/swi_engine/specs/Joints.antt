-- The links, as lists of the words at which they stand.
use Rattle.std.specs.Prelude.{◌≡◌, ℕ, ◌<◌, ◌==◌, Bool, true, false, List, ◌∷◌, filter, length, slice_get, slice_set, slice_index_or, Some, None}
use Rattle.std.specs.List.{position_from}
use Rattle.swi_links.specs.Chains.{ChainsData, list_of}
use Rattle.swi_engine.specs.declared.joints.Joint.{Joint}
use Rattle.swi_engine.specs.Moves.{leads_in}

pub record JointsData : Type 0 where
  -- how many words and blocks there are
  pub words : ℕ
  pub blocks : ℕ
  -- the links, the newest first
  pub joints : List Joint

-- the link that the table has at a word
abbrev pub read_at : List Joint → ℕ → Joint
read_at table at = record (slice_index_or table at (record { block = 0; offset = 0; at = 0; into = 0 })) { at = at }

abbrev pub stands_at : Joint → ℕ → Bool
stands_at j at = j.at == at

-- the k-th link stands at a word
abbrev pub LinkAt : List Joint → ℕ → ℕ → Type 0
LinkAt js k at = (j : Joint) × (slice_get js k ≡ Some j) × (j.at ≡ at)

-- no link leads into a block from another one, or the newest that does stands at a word
abbrev pub NoneInto : List Joint → ℕ → Type 0
NoneInto js b = position_from (λ j. leads_in j b) 0 js ≡ None

abbrev pub NewestInto : List Joint → ℕ → ℕ → Type 0
NewestInto js b at = (k : ℕ) × (position_from (λ j. leads_in j b) 0 js ≡ Some k) × LinkAt js k at

-- the lists with a link, where it leads into its block from another one
abbrev pub linked_if : Bool → List (List ℕ) → ℕ → ℕ → List ℕ → List (List ℕ)
linked_if true ls b at xs = slice_set ls b (at ∷ xs)
linked_if false ls b at xs = ls

abbrev pub linked_into : ChainsData → Joint → List (List ℕ)
linked_into c j = linked_if (leads_in j j.into) c.lists j.into j.at (list_of c j.into)

-- the list of each block has the links into it from others, in the order of all
pub record Tied (table : List Joint) (order into : ChainsData) : Type 0 where
  pub order_words : order.words ≡ length table
  pub into_words : into.words ≡ length table
  pub one_list : length order.lists ≡ 1
  pub chained : (b : ℕ) → b < length into.lists → list_of into b ≡ filter (λ at. leads_in (read_at table at) b) (list_of order 0)
