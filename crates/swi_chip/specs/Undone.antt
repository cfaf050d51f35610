-- Links into a slot that are exits again.
use Rattle.std.specs.Prelude.{◌≡◌, ℕ, ◌+◌, ◌-◌, ◌/◌, ◌%◌, ◌^◌, ◌<◌, ◌≤◌, ◌==◌, List, length, slice_index, if◌then◌else◌}
use Rattle.swi_links.specs.Chains.{Has}
use Rattle.swi_rom.specs.Record.{ebreak}
use Rattle.swi_chip.specs.Lists.{list_at}

-- where a block's words begin in the row of the image's words
abbrev pub begin_in : List ℕ → ℕ → ℕ
begin_in ends b = if b == 0 then 0 else slice_index ends (b - 1)

-- the image's word for a cell
abbrev pub row_of : List ℕ → List ℕ → ℕ → ℕ → ℕ
row_of blocks ends size x = begin_in ends (slice_index blocks (x / size)) + x % size

abbrev pub restored : List ℕ → List ℕ → List ℕ → ℕ → ℕ → ℕ
restored blocks ends words size x = slice_index words (row_of blocks ends size x)

-- and it is one
pub record CanRestore (blocks ends words : List ℕ) (size x : ℕ) : Type 0 where
  pub some : 0 < size
  pub slot : x / size < length blocks
  pub block : slice_index blocks (x / size) ≤ length ends
  pub row : row_of blocks ends size x < length words
  pub few : length words < 2 ^ 32

-- no cell stands behind another
abbrev pub IsApart : List (List ℕ) → Type 0
IsApart lists = (s t x y : ℕ) → Has (list_at lists s) x → Has (list_at lists t) y → (x ≡ y + 1 → ⊥)

-- before each of these cells stands EBREAK, and at each the image's word; nothing else has changed
pub record IsUndone (before now : List ℕ) (restore : ℕ → ℕ) (L : List ℕ) : Type 0 where
  pub long : length now ≡ length before
  pub exits : (x : ℕ) → Has L x → slice_index now (x - 1) ≡ ebreak
  pub restores : (x : ℕ) → Has L x → slice_index now x ≡ restore x
  pub others : (i : ℕ) → (Has L i → ⊥) → (Has L (i + 1) → ⊥) → slice_index now i ≡ slice_index before i
