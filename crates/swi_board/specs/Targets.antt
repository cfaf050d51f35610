-- Where the targets of jumps over registers stood.
use Rattle.std.specs.Prelude.{◌≡◌, ℕ, ◌<◌, ◌%◌, List, length, Some}
use Rattle.std.proofs.Common.{get_or}
use Rattle.swi_image.specs.Format.{ImageData}
use Rattle.swi_image_ops.specs.ImageOp.{row_of}
use Rattle.swi_rom.specs.Record.{Record}
use Rattle.swi_rom.specs.Coherent.{TargetAt}
use Rattle.swi_board.specs.declared.targets.Found.{Found}

-- what is kept before an address was found
abbrev pub no_address : Found
no_address = record { target = 1; index = 0; row = 0 }

-- no address is kept
abbrev pub IsNothing : List Found → Type 0
IsNothing found = (k : ℕ) → k < length found → (d : Found) → get_or found k d ≡ no_address

-- an address stands where it was found
pub record FoundAt (v : ImageData) (r : Record) (t : ℕ) (found : Found) : Type 0 where
  pub stands : TargetAt v r t found.index
  pub row : row_of v t ≡ Some found.row

-- each address that a text word can have stands where it was found
abbrev pub AreFound : ImageData → Record → List Found → Type 0
AreFound v r found = (k : ℕ) → k < length found → (d : Found) → (get_or found k d).target % 4 ≡ 0 → FoundAt v r (get_or found k d).target (get_or found k d)
