-- A transfer that a service has served, and exits by where they stand in the row of the image's words.
use Rattle.std.specs.Prelude.{◌≡◌, ℕ, ◌+◌, ◌<◌, length, Some, None, Result, Ok}
use Rattle.swi_image.specs.Format.{ImageData}
use Rattle.swi_image.specs.Place.{length_at, place_of, word_at}
use Rattle.swi_image.specs.Row.{row_index}
use Rattle.swi_rom.specs.Record.{Placed, Record, Transfer, direct, target_of}
use Rattle.swi_rom.specs.Coherent.{IsExit, TargetAt}
use Rattle.swi_rom.specs.Service.{ServiceOf}
use Rattle.swi_hart.specs.Service.{ServiceWithRam, TransferServed}

-- a direct exit stands at an index of the row, and at one of the ram, and leads to a text word
pub record ExitInRow (v : ImageData) (r : Record) (exit at : ℕ) : Type 0 where
  pub block : ℕ
  pub offset : ℕ
  pub first : ℕ
  pub known : block < length v.starts
  pub is_exit : IsExit v block offset
  pub leads : place_of v (word_at v block (offset + 1)) ≡ None → ⊥
  pub row : exit ≡ row_index v block offset
  pub is_placed : Placed r block first
  pub index : at ≡ first + offset

abbrev pub answered : ℕ → Result ℕ Unit
answered index = Ok index

-- a transfer was served, and its target stands at an index
pub record Reached {S : Type 0} (k : ServiceOf S) (v : ImageData) (t : Transfer) (old new : ServiceWithRam S) (index : ℕ) : Type 0 where
  pub served : TransferServed k v (Some t) old new (answered index)
  pub stands : TargetAt v (k.kept new.rom) (target_of t) index

-- the transfer over the direct exit at an index of the row was served
abbrev pub Passed : {S : Type 0} → ServiceOf S → ImageData → ℕ → ServiceWithRam S → ServiceWithRam S → ℕ → Type 0
Passed k v exit old new index = (b o : ℕ) → b < length v.starts → o < length_at v b → exit ≡ row_index v b o → Reached k v (direct b o (word_at v b (o + 1))) old new index
