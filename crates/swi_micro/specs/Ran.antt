-- What a micro-op does to registers and memory, and the index of the word at which it goes on. The law `agrees` ties it to
-- what its instruction does.
use Rattle.std.specs.Prelude.{◌≡◌, ◌==◌, ℕ, ◌+◌, ◌*◌, ◌/◌, Bool, not, List, Option, Some, None, if◌then◌else◌}
use Rattle.swi_isa.specs.declared.instr.BranchOp.{BranchOp}
use Rattle.swi_isa.specs.declared.instr.BranchOp.TheVariants.{Beq, Blt, Bltu}
use Rattle.swi_isa.specs.declared.instr.LoadOp.{LoadOp}
use Rattle.swi_isa.specs.declared.instr.LoadOp.TheVariants.{Lb, Lh, Lw, Lbu, Lhu}
use Rattle.swi_isa.specs.declared.instr.RegOp.{RegOp}
use Rattle.swi_isa.specs.declared.instr.RegOp.TheVariants as op
use Rattle.swi_memory.specs.declared.right.Right.TheVariants.{Read}
use Rattle.swi_memory.specs.declared.word_range.WordRange.{WordRange}
use Rattle.swi_memory.specs.Bus.{AreaData, holds, lets_store, number_at, stored}
use Rattle.swi_exec.specs.Registers.{Registers, reg, with_reg}
use Rattle.swi_exec.specs.Execute.{address_of, is_taken, load_size, load_value, op_value}
use Rattle.swi_exec.specs.Arithmetic.{sum_of}
use Rattle.swi_micro.specs.declared.class.Class.{Class}
use Rattle.swi_micro.specs.declared.class.Class.TheVariants as class
use Rattle.swi_micro.specs.declared.translator.MicroOp.{MicroOp}
use Rattle.swi_micro.specs.Classes.{class_of}
use Rattle.swi_micro.specs.MicroOp.{address_at, index_at}

-- the index of the next word, None where the word is left to who executes instructions; registers and memory afterwards
pub record Ran : Type 0 where
  pub next : Option ℕ
  pub regs : Registers
  pub bus : List AreaData

abbrev pub leaves : Registers → List AreaData → Ran
leaves regs bus = record { next = None; regs = regs; bus = bus }

abbrev pub goes_to : ℕ → Registers → List AreaData → Ran
goes_to k regs bus = record { next = Some k; regs = regs; bus = bus }

-- the sum of two words of which one is 0 is the other: so no bound of either is needed
abbrev pub joined : ℕ → ℕ → ℕ
joined a imm = if a == 0 then imm else if imm == 0 then a else sum_of a imm

-- the second operand
abbrev pub second : MicroOp → Registers → ℕ
second m regs = joined (reg regs m.rs2) m.imm

-- rd is what the operation gives
abbrev pub operated : RegOp → MicroOp → Registers → Registers
operated by m regs = with_reg regs m.rd (op_value by (reg regs m.rs1) (second m regs))

abbrev pub operates : RegOp → MicroOp → ℕ → Registers → List AreaData → Ran
operates by m k regs bus = goes_to (k + 1) (operated by m regs) bus

-- the operation of the M extension with this funct3; REMU where it is none's, or MUL's
abbrev pub op_of : ℕ → RegOp
op_of number =
    if number == 1 then op.Mulh else if number == 2 then op.Mulhsu else if number == 3 then op.Mulhu else
    if number == 4 then op.Div else if number == 5 then op.Divu else if number == 6 then op.Rem else op.Remu

abbrev pub multiplied : MicroOp → Registers → Registers
multiplied m regs = with_reg regs m.rd (op_value (op_of m.imm) (reg regs m.rs1) (reg regs m.rs2))

-- whether a branch goes to its target: where rd is x0 as the comparison says, and else the other way
abbrev pub is_gone : BranchOp → MicroOp → Registers → Bool
is_gone by m regs = if m.rd == 0 then is_taken by (reg regs m.rs1) (reg regs m.rs2) else not (is_taken by (reg regs m.rs1) (reg regs m.rs2))

abbrev pub branches : BranchOp → MicroOp → ℕ → Registers → List AreaData → Ran
branches by m k regs bus = goes_to (if is_gone by m regs then m.imm else k + 1) regs bus

abbrev pub loads : LoadOp → MicroOp → ℕ → Registers → List AreaData → Ran
loads by m k regs bus =
    if holds bus Read (address_of regs m.rs1 m.imm) (load_size by)
    then goes_to (k + 1) (with_reg regs m.rd (load_value by (number_at bus (address_of regs m.rs1 m.imm) (load_size by)))) bus
    else leaves regs bus

-- a store into the text is left to who executes instructions
abbrev pub stores : ℕ → MicroOp → ℕ → Registers → List AreaData → Ran
stores size m k regs bus =
    if lets_store bus (address_of regs m.rs1 m.imm) size
    then goes_to (k + 1) regs (stored bus (address_of regs m.rs1 m.imm) size (reg regs m.rs2))
    else leaves regs bus

abbrev pub jumps : WordRange → MicroOp → ℕ → Registers → List AreaData → Option ℕ → Ran
jumps range m k regs bus None = leaves regs bus
jumps range m k regs bus (Some target) = goes_to target (with_reg regs m.rd (address_at range (k + 1))) bus

-- a micro-op of the class, of the word with index k
abbrev pub ran_as : Class → WordRange → MicroOp → ℕ → Registers → List AreaData → Ran
ran_as class.Add range m k regs bus = operates op.Add m k regs bus
ran_as class.Sub range m k regs bus = operates op.Sub m k regs bus
ran_as class.And range m k regs bus = operates op.And m k regs bus
ran_as class.Or range m k regs bus = operates op.Or m k regs bus
ran_as class.Xor range m k regs bus = operates op.Xor m k regs bus
ran_as class.Sll range m k regs bus = operates op.Sll m k regs bus
ran_as class.Srl range m k regs bus = operates op.Srl m k regs bus
ran_as class.Sra range m k regs bus = operates op.Sra m k regs bus
ran_as class.Slt range m k regs bus = operates op.Slt m k regs bus
ran_as class.Sltu range m k regs bus = operates op.Sltu m k regs bus
ran_as class.Mul range m k regs bus = operates op.Mul m k regs bus
ran_as class.MulDiv range m k regs bus = goes_to (k + 1) (multiplied m regs) bus
ran_as class.Lui range m k regs bus = goes_to (k + 1) (with_reg regs m.rd m.imm) bus
ran_as class.Lw range m k regs bus = loads Lw m k regs bus
ran_as class.Lbu range m k regs bus = loads Lbu m k regs bus
ran_as class.Lhu range m k regs bus = loads Lhu m k regs bus
ran_as class.Lh range m k regs bus = loads Lh m k regs bus
ran_as class.Lb range m k regs bus = loads Lb m k regs bus
ran_as class.Sw range m k regs bus = stores 4 m k regs bus
ran_as class.Sb range m k regs bus = stores 1 m k regs bus
ran_as class.Sh range m k regs bus = stores 2 m k regs bus
ran_as class.Equal range m k regs bus = branches Beq m k regs bus
ran_as class.Less range m k regs bus = branches Blt m k regs bus
ran_as class.Below range m k regs bus = branches Bltu m k regs bus
ran_as class.Jal range m k regs bus = jumps range m k regs bus (Some m.imm)
ran_as class.Jalr range m k regs bus = jumps range m k regs bus (index_at range (address_of regs m.rs1 m.imm / 2 * 2))
ran_as class.Stop range m k regs bus = leaves regs bus

abbrev pub ran : WordRange → MicroOp → ℕ → Registers → List AreaData → Ran
ran range m k regs bus = ran_as (class_of m.code) range m k regs bus

-- a word that is left to who executes instructions changes nothing
abbrev pub StaysWhereLeft : Option ℕ → Registers → Registers → List AreaData → List AreaData → Type 0
StaysWhereLeft (Some k) regs regs' bus bus' = Unit
StaysWhereLeft None regs regs' bus bus' = (regs' ≡ regs) × (bus' ≡ bus)
