-- The micro-op of an instruction that is the word with this index of a range of words.
use Rattle.std.specs.Prelude.{◌==◌, ℕ, ◌+◌, ◌-◌, ◌*◌, ◌/◌, ◌%◌, ◌^◌, ◌&&◌, nat_lt, Option, Some, None, if◌then◌else◌}
use Rattle.swi_isa.specs.declared.instr.BranchOp.{BranchOp}
use Rattle.swi_isa.specs.declared.instr.BranchOp.TheVariants as branch
use Rattle.swi_isa.specs.declared.instr.ImmOp.{ImmOp}
use Rattle.swi_isa.specs.declared.instr.ImmOp.TheVariants.{Addi, Slti, Sltiu, Xori, Ori, Andi, Slli, Srli, Srai}
use Rattle.swi_isa.specs.declared.instr.LoadOp.{LoadOp}
use Rattle.swi_isa.specs.declared.instr.LoadOp.TheVariants as load
use Rattle.swi_isa.specs.declared.instr.RegOp.{RegOp}
use Rattle.swi_isa.specs.declared.instr.RegOp.TheVariants as op
use Rattle.swi_isa.specs.declared.instr.StoreOp.{StoreOp}
use Rattle.swi_isa.specs.declared.instr.StoreOp.TheVariants as store
use Rattle.swi_isa.specs.declared.instr.Instr.{Instr}
use Rattle.swi_isa.specs.declared.instr.Instr.TheVariants as instr
use Rattle.swi_exec.specs.Arithmetic.{sum_of}
use Rattle.swi_memory.specs.declared.word_range.WordRange.{WordRange}
use Rattle.swi_micro.specs.declared.class.Class.{Class}
use Rattle.swi_micro.specs.declared.class.Class.TheVariants as class
use Rattle.swi_micro.specs.declared.translator.MicroOp.{MicroOp}
use Rattle.swi_micro.specs.Classes.{code_of}

abbrev pub made_op : Class → ℕ → ℕ → ℕ → ℕ → MicroOp
made_op c rd rs1 rs2 imm = record { code = code_of c; rd = rd; rs1 = rs1; rs2 = rs2; imm = imm }

-- that of a word that is left to who executes instructions
abbrev pub stop_op : MicroOp
stop_op = made_op class.Stop 0 0 0 0

-- the address of the word with this index, or the one behind the last
abbrev pub address_at : WordRange → ℕ → ℕ
address_at range k = sum_of range.from (4 * k)

-- how far an address is behind the first word
abbrev pub distance_of : WordRange → ℕ → ℕ
distance_of range a = (a + (2 ^ 32 - range.from)) % 2 ^ 32

-- the index of the word that stands so far behind the first of so many
abbrev pub index_by : ℕ → ℕ → Option ℕ
index_by words d = if (d % 4 == 0) && nat_lt (d / 4) words then Some (d / 4) else None

-- the index of the word at the address, where one stands there
abbrev pub index_at : WordRange → ℕ → Option ℕ
index_at range a = index_by range.words (distance_of range a)

abbrev pub class_of_imm : ImmOp → Class
class_of_imm Addi = class.Add
class_of_imm Slti = class.Slt
class_of_imm Sltiu = class.Sltu
class_of_imm Xori = class.Xor
class_of_imm Ori = class.Or
class_of_imm Andi = class.And
class_of_imm Slli = class.Sll
class_of_imm Srli = class.Srl
class_of_imm Srai = class.Sra

abbrev pub class_of_op : RegOp → Class
class_of_op op.Add = class.Add
class_of_op op.Sub = class.Sub
class_of_op op.Sll = class.Sll
class_of_op op.Slt = class.Slt
class_of_op op.Sltu = class.Sltu
class_of_op op.Xor = class.Xor
class_of_op op.Srl = class.Srl
class_of_op op.Sra = class.Sra
class_of_op op.Or = class.Or
class_of_op op.And = class.And
class_of_op op.Mul = class.Mul
class_of_op _ = class.MulDiv

-- the funct3 of an operation of the class MulDiv, else 0. Source: RISC-V unprivileged specification, the "M" extension
abbrev pub number_of : RegOp → ℕ
number_of op.Mulh = 1
number_of op.Mulhsu = 2
number_of op.Mulhu = 3
number_of op.Div = 4
number_of op.Divu = 5
number_of op.Rem = 6
number_of op.Remu = 7
number_of _ = 0

abbrev pub class_of_load : LoadOp → Class
class_of_load load.Lb = class.Lb
class_of_load load.Lh = class.Lh
class_of_load load.Lw = class.Lw
class_of_load load.Lbu = class.Lbu
class_of_load load.Lhu = class.Lhu

abbrev pub class_of_store : StoreOp → Class
class_of_store store.Sb = class.Sb
class_of_store store.Sh = class.Sh
class_of_store store.Sw = class.Sw

-- a branch to the word with this index; rd is 0 where it is taken at a comparison that holds, and else 1
abbrev pub branch_op : BranchOp → ℕ → ℕ → ℕ → MicroOp
branch_op branch.Beq rs1 rs2 k = made_op class.Equal 0 rs1 rs2 k
branch_op branch.Bne rs1 rs2 k = made_op class.Equal 1 rs1 rs2 k
branch_op branch.Blt rs1 rs2 k = made_op class.Less 0 rs1 rs2 k
branch_op branch.Bge rs1 rs2 k = made_op class.Less 1 rs1 rs2 k
branch_op branch.Bltu rs1 rs2 k = made_op class.Below 0 rs1 rs2 k
branch_op branch.Bgeu rs1 rs2 k = made_op class.Below 1 rs1 rs2 k

-- a jump or a branch to the word with this index, where one stands at its target
abbrev pub jump_or_stop : ℕ → Option ℕ → MicroOp
jump_or_stop rd None = stop_op
jump_or_stop rd (Some k) = made_op class.Jal rd 0 0 k

abbrev pub branch_or_stop : BranchOp → ℕ → ℕ → Option ℕ → MicroOp
branch_or_stop op rs1 rs2 None = stop_op
branch_or_stop op rs1 rs2 (Some k) = branch_op op rs1 rs2 k

-- one line for each form of instruction
abbrev pub micro_op_of : WordRange → ℕ → Instr → MicroOp
micro_op_of range k (instr.Lui rd imm) = made_op class.Lui rd 0 0 imm
micro_op_of range k (instr.Auipc rd imm) = made_op class.Add rd 0 0 (sum_of (address_at range k) imm)
micro_op_of range k (instr.Jal rd off) = jump_or_stop rd (index_at range (sum_of (address_at range k) off))
micro_op_of range k (instr.Jalr rd rs1 imm) = made_op class.Jalr rd rs1 0 imm
micro_op_of range k (instr.Branch op rs1 rs2 off) = branch_or_stop op rs1 rs2 (index_at range (sum_of (address_at range k) off))
micro_op_of range k (instr.Load op rd rs1 imm) = made_op (class_of_load op) rd rs1 0 imm
micro_op_of range k (instr.Store op rs1 rs2 imm) = made_op (class_of_store op) 0 rs1 rs2 imm
micro_op_of range k (instr.Alu op rd rs1 imm) = made_op (class_of_imm op) rd rs1 0 imm
micro_op_of range k (instr.Op op rd rs1 rs2) = made_op (class_of_op op) rd rs1 rs2 (number_of op)
micro_op_of range k (instr.Atomic op rd rs1 rs2) = stop_op
micro_op_of range k instr.Fence = made_op class.Add 0 0 0 0
micro_op_of range k instr.Ecall = stop_op
micro_op_of range k instr.Ebreak = stop_op
