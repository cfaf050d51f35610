-- Which instructions have a word: the immediates that the formats of the RISC-V unprivileged specification can hold,
-- section 2.3 ("Immediate Encoding Variants"); shift amounts, section 2.4 ("Integer Computational Instructions");
-- rs2 of LR.W, section "Load-Reserved/Store-Conditional Instructions" of the "A" chapter.
use Rattle.std.specs.Prelude.{◌≡◌, ℕ, ◌-◌, ◌%◌, ◌^◌, ◌<◌, ◌≤◌, ◌⊎◌}
use Rattle.swi_isa.specs.declared.instr.Instr.{Instr}
use Rattle.swi_isa.specs.declared.instr.Instr.TheVariants.{Lui, Auipc, Jal, Jalr, Branch, Load, Store, Alu, Atomic}
use Rattle.swi_isa.specs.declared.instr.ImmOp.{ImmOp}
use Rattle.swi_isa.specs.declared.instr.ImmOp.TheVariants.{Slli, Srli, Srai}
use Rattle.swi_isa.specs.declared.instr.AtomicOp.{AtomicOp}
use Rattle.swi_isa.specs.declared.instr.AtomicOp.TheVariants.{LrW}

-- a number of 32 bits that is n bits sign-extended: read in two's complement, from -2^(n-1) to 2^(n-1) - 1
abbrev pub IsExtended : ℕ → ℕ → Type 0
IsExtended n v = (v < 2 ^ (n - 1)) ⊎ (2 ^ 32 - 2 ^ (n - 1) ≤ v)

abbrev pub IsEven : ℕ → Type 0
IsEven v = v % 2 ≡ 0

-- a shift by an immediate shifts by less than 32
abbrev pub ImmFits : ImmOp → ℕ → Type 0
ImmFits Slli v = v < 32
ImmFits Srli v = v < 32
ImmFits Srai v = v < 32
ImmFits _ v = IsExtended 12 v

-- LR.W has no second operand
abbrev pub AtomicFits : AtomicOp → ℕ → Type 0
AtomicFits LrW rs2 = rs2 ≡ 0
AtomicFits _ rs2 = Unit {0}

-- the fields fit their encoding
abbrev pub IsValid : Instr → Type 0
IsValid (Lui rd imm) = imm % 2 ^ 12 ≡ 0
IsValid (Auipc rd imm) = imm % 2 ^ 12 ≡ 0
IsValid (Jal rd off) = IsExtended 21 off × IsEven off
IsValid (Jalr rd rs1 imm) = IsExtended 12 imm
IsValid (Branch op rs1 rs2 off) = IsExtended 13 off × IsEven off
IsValid (Load op rd rs1 imm) = IsExtended 12 imm
IsValid (Store op rs1 rs2 imm) = IsExtended 12 imm
IsValid (Alu op rd rs1 imm) = ImmFits op imm
IsValid (Atomic op rd rs1 rs2) = AtomicFits op rs2
IsValid _ = Unit {0}
