-- What a word decodes to: the instruction of the row that it matches (RISC-V unprivileged specification, chapter
-- "RV32/64G Instruction Set Listings"); a word that matches no row is illegal.
use Rattle.std.specs.Prelude.{ℕ, List, [], ◌∷◌, Option, Some, None, if◌then◌else◌}
use Rattle.swi_isa.specs.declared.instr.Instr.{Instr}
use Rattle.swi_isa.specs.Table.{Row, rows, matches, made}

-- the instruction of the first row of the list that the word matches
unfoldable pub decoded_by : List Row → ℕ → Option Instr
decoded_by [] w = None
decoded_by (r ∷ rs) w = if matches r w then Some (made r.form w) else decoded_by rs w

-- the instruction that the word is; None where it is illegal. No word matches two rows.
unfoldable pub decoded : ℕ → Option Instr
decoded w = decoded_by rows w
