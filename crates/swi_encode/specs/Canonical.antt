-- Which of an instruction's words is chosen. What a FENCE's other fields and the bits aq and rl of an atomic
-- instruction are for is in the RISC-V unprivileged specification, section 2.7 ("Memory Ordering Instructions") and
-- section "Specifying Ordering of Atomic Instructions" of the "A" chapter.
use Rattle.std.specs.Prelude.{ℕ}
use Rattle.swi_field.specs.Field.{with_field}
use Rattle.swi_isa.specs.declared.instr.Instr.{Instr}
use Rattle.swi_isa.specs.declared.instr.Instr.TheVariants.{Atomic, Fence}

-- of a word w that decodes to the instruction, the word that is chosen for it: w itself, but for FENCE the one of
-- `fence iorw, iorw`, and for an atomic w without aq (bit 26) and rl (bit 25)
abbrev pub canonical : Instr → ℕ → ℕ
canonical Fence w = 0x0FF0000F
canonical (Atomic op rd rs1 rs2) w = with_field 26 25 w 0
canonical _ w = w
