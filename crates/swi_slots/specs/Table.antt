-- What a table of links is told of.
use Rattle.std.specs.Prelude.{◌≡◌, ℕ, ◌<◌, List, slice_index}

-- none of the first so many blocks is this one
abbrev pub NotAmong : ℕ → List ℕ → ℕ → Type 0
NotAmong filled blocks b = (n : ℕ) → n < filled → slice_index blocks n ≡ b → ⊥

-- the words of the slots, each with the slot to which it is linked; where it isn't, the number of slots. And how many keys blocks have
pub record Targets : Type 0 where
  pub slots : ℕ
  pub size : ℕ
  pub blocks : ℕ
  pub of : List ℕ
