-- Which slot each block has.
use Rattle.std.specs.Prelude.{◌≡◌, ℕ, ◌-◌, ◌^◌, ◌<◌, ◌≤◌, List, length, slice_index}
use Rattle.swi_links.specs.Chains.{ChainsData}

pub record TableData : Type 0 where
  -- the words of a slot
  pub size : ℕ
  -- of each block its slot; where it has none, a number that is no slot's
  pub homes : List ℕ
  -- of each slot the links into it
  pub chains : ChainsData

-- what is kept of a block that isn't placed
abbrev pub nowhere : ℕ
nowhere = 2 ^ 32 - 1

-- a block has a slot among the first so many exactly where it stands there
pub record KnowsHomes (homes : List ℕ) (filled : ℕ) (blocks : List ℕ) : Type 0 where
  pub others : (b : ℕ) → b < length homes → filled ≤ slice_index homes b → slice_index homes b ≡ nowhere
  pub found : (b : ℕ) → b < length homes → slice_index homes b < filled → slice_index blocks (slice_index homes b) ≡ b
  pub known : (n : ℕ) → n < filled → (slice_index blocks n < length homes) × (slice_index homes (slice_index blocks n) ≡ n)
