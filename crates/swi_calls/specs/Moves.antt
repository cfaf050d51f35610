-- Bytes that a call moves between memory and the outside.
use Rattle.std.specs.Prelude.{◌≡◌, ℕ, List, length}
use Rattle.swi_outside.specs.Source.{SourceState, Gave}
use Rattle.swi_memory.specs.Bus.{AreaData, with_bytes}

-- so many bytes of the input were put into memory at a
pub record ReadsInto (bus bus' : List AreaData) (old new : SourceState) (a count : ℕ) : Type 0 where
  pub bytes : List ℕ
  pub number : length bytes ≡ count
  pub stored : bus' ≡ with_bytes bus a bytes
  pub gave : Gave old new bytes
