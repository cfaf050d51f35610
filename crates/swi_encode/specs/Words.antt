-- The word of each instruction by its format: each field times the power of two of its place. RISC-V unprivileged
-- specification, section 2.2 ("Base Instruction Formats") and section 2.3 ("Immediate Encoding Variants"), with the
-- codes of the chapter "RV32/64G Instruction Set Listings".
use Rattle.std.specs.Prelude.{ℕ, ◌<◌, ◌+◌, ◌*◌, ◌/◌, ◌%◌, ◌^◌}
use Rattle.swi_isa.specs.declared.instr.BranchOp.{BranchOp}
use Rattle.swi_isa.specs.declared.instr.BranchOp.TheVariants.{Beq, Bne, Blt, Bge, Bltu, Bgeu}
use Rattle.swi_isa.specs.declared.instr.LoadOp.{LoadOp}
use Rattle.swi_isa.specs.declared.instr.LoadOp.TheVariants.{Lb, Lh, Lw, Lbu, Lhu}
use Rattle.swi_isa.specs.declared.instr.StoreOp.{StoreOp}
use Rattle.swi_isa.specs.declared.instr.StoreOp.TheVariants.{Sb, Sh, Sw}
use Rattle.swi_isa.specs.declared.instr.ImmOp.{ImmOp}
use Rattle.swi_isa.specs.declared.instr.ImmOp.TheVariants.{Addi, Slti, Sltiu, Xori, Ori, Andi, Slli, Srli, Srai}
use Rattle.swi_isa.specs.declared.instr.RegOp.{RegOp}
use Rattle.swi_isa.specs.declared.instr.RegOp.TheVariants.{Add, Sub, Sll, Slt, Sltu, Xor, Srl, Sra, Or, And, Mul, Mulh, Mulhsu, Mulhu, Div, Divu, Rem, Remu}
use Rattle.swi_isa.specs.declared.instr.AtomicOp.{AtomicOp}
use Rattle.swi_isa.specs.declared.instr.AtomicOp.TheVariants.{LrW, ScW, SwapW, AddW, XorW, AndW, OrW, MinW, MaxW, MinuW, MaxuW}
use Rattle.swi_isa.specs.declared.instr.Instr.{Instr}
use Rattle.swi_isa.specs.declared.instr.Instr.TheVariants as instr

abbrev pub branch_funct3 : BranchOp → ℕ
branch_funct3 Beq = 0
branch_funct3 Bne = 1
branch_funct3 Blt = 4
branch_funct3 Bge = 5
branch_funct3 Bltu = 6
branch_funct3 Bgeu = 7

abbrev pub load_funct3 : LoadOp → ℕ
load_funct3 Lb = 0
load_funct3 Lh = 1
load_funct3 Lw = 2
load_funct3 Lbu = 4
load_funct3 Lhu = 5

abbrev pub store_funct3 : StoreOp → ℕ
store_funct3 Sb = 0
store_funct3 Sh = 1
store_funct3 Sw = 2

abbrev pub imm_funct3 : ImmOp → ℕ
imm_funct3 Addi = 0
imm_funct3 Slti = 2
imm_funct3 Sltiu = 3
imm_funct3 Xori = 4
imm_funct3 Ori = 6
imm_funct3 Andi = 7
imm_funct3 Slli = 1
imm_funct3 Srli = 5
imm_funct3 Srai = 5

abbrev pub op_funct3 : RegOp → ℕ
op_funct3 Add = 0
op_funct3 Sub = 0
op_funct3 Sll = 1
op_funct3 Slt = 2
op_funct3 Sltu = 3
op_funct3 Xor = 4
op_funct3 Srl = 5
op_funct3 Sra = 5
op_funct3 Or = 6
op_funct3 And = 7
op_funct3 Mul = 0
op_funct3 Mulh = 1
op_funct3 Mulhsu = 2
op_funct3 Mulhu = 3
op_funct3 Div = 4
op_funct3 Divu = 5
op_funct3 Rem = 6
op_funct3 Remu = 7

abbrev pub op_funct7 : RegOp → ℕ
op_funct7 Sub = 32
op_funct7 Sra = 32
op_funct7 Mul = 1
op_funct7 Mulh = 1
op_funct7 Mulhsu = 1
op_funct7 Mulhu = 1
op_funct7 Div = 1
op_funct7 Divu = 1
op_funct7 Rem = 1
op_funct7 Remu = 1
op_funct7 _ = 0

abbrev pub atomic_funct5 : AtomicOp → ℕ
atomic_funct5 LrW = 2
atomic_funct5 ScW = 3
atomic_funct5 SwapW = 1
atomic_funct5 AddW = 0
atomic_funct5 XorW = 4
atomic_funct5 AndW = 12
atomic_funct5 OrW = 8
atomic_funct5 MinW = 16
atomic_funct5 MaxW = 20
atomic_funct5 MinuW = 24
atomic_funct5 MaxuW = 28

-- the formats: o is the opcode, f funct3, g funct7
abbrev pub u_word : ℕ → ℕ → ℕ → ℕ
u_word o rd imm = imm / 2 ^ 12 * 2 ^ 12 + rd * 2 ^ 7 + o

abbrev pub j_word : ℕ → ℕ → ℕ
j_word rd off = off / 2 ^ 20 % 2 * 2 ^ 31 + off / 2 % 2 ^ 10 * 2 ^ 21 + off / 2 ^ 11 % 2 * 2 ^ 20 + off / 2 ^ 12 % 2 ^ 8 * 2 ^ 12 + rd * 2 ^ 7 + 0x6F

abbrev pub i_word : ℕ → ℕ → ℕ → ℕ → ℕ → ℕ
i_word o f rd rs1 imm = imm % 2 ^ 12 * 2 ^ 20 + rs1 * 2 ^ 15 + f * 2 ^ 12 + rd * 2 ^ 7 + o

abbrev pub s_word : ℕ → ℕ → ℕ → ℕ → ℕ
s_word f rs1 rs2 imm = imm / 2 ^ 5 % 2 ^ 7 * 2 ^ 25 + rs2 * 2 ^ 20 + rs1 * 2 ^ 15 + f * 2 ^ 12 + imm % 2 ^ 5 * 2 ^ 7 + 0x23

abbrev pub b_word : ℕ → ℕ → ℕ → ℕ → ℕ
b_word f rs1 rs2 off =
    off / 2 ^ 12 % 2 * 2 ^ 31 + off / 2 ^ 5 % 2 ^ 6 * 2 ^ 25 + rs2 * 2 ^ 20 + rs1 * 2 ^ 15 + f * 2 ^ 12 + off / 2 % 2 ^ 4 * 2 ^ 8 + off / 2 ^ 11 % 2 * 2 ^ 7 + 0x63

abbrev pub r_word : ℕ → ℕ → ℕ → ℕ → ℕ → ℕ → ℕ
r_word o f g rd rs1 rs2 = g * 2 ^ 25 + rs2 * 2 ^ 20 + rs1 * 2 ^ 15 + f * 2 ^ 12 + rd * 2 ^ 7 + o

abbrev pub alu_word : ImmOp → ℕ → ℕ → ℕ → ℕ
alu_word Slli rd rs1 imm = r_word 0x13 (imm_funct3 Slli) 0 rd rs1 imm
alu_word Srli rd rs1 imm = r_word 0x13 (imm_funct3 Srli) 0 rd rs1 imm
alu_word Srai rd rs1 imm = r_word 0x13 (imm_funct3 Srai) 32 rd rs1 imm
alu_word op rd rs1 imm = i_word 0x13 (imm_funct3 op) rd rs1 imm

-- the word of an instruction; FENCE as `fence iorw, iorw`, an atomic without aq and rl
abbrev pub word_of : Instr → ℕ
word_of (instr.Lui rd imm) = u_word 0x37 rd imm
word_of (instr.Auipc rd imm) = u_word 0x17 rd imm
word_of (instr.Jal rd off) = j_word rd off
word_of (instr.Jalr rd rs1 imm) = i_word 0x67 0 rd rs1 imm
word_of (instr.Branch op rs1 rs2 off) = b_word (branch_funct3 op) rs1 rs2 off
word_of (instr.Load op rd rs1 imm) = i_word 0x03 (load_funct3 op) rd rs1 imm
word_of (instr.Store op rs1 rs2 imm) = s_word (store_funct3 op) rs1 rs2 imm
word_of (instr.Alu op rd rs1 imm) = alu_word op rd rs1 imm
word_of (instr.Op op rd rs1 rs2) = r_word 0x33 (op_funct3 op) (op_funct7 op) rd rs1 rs2
word_of (instr.Atomic op rd rs1 rs2) = r_word 0x2F 2 (atomic_funct5 op * 4) rd rs1 rs2
word_of instr.Fence = 0x0FF0000F
word_of instr.Ecall = 0x73
word_of instr.Ebreak = 0x100073

-- the values of the code's types: registers below 32, immediates of 32 bits
abbrev pub InRange : Instr → Type 0
InRange (instr.Lui rd imm) = (rd < 32) × (imm < 2 ^ 32)
InRange (instr.Auipc rd imm) = (rd < 32) × (imm < 2 ^ 32)
InRange (instr.Jal rd off) = (rd < 32) × (off < 2 ^ 32)
InRange (instr.Jalr rd rs1 imm) = (rd < 32) × (rs1 < 32) × (imm < 2 ^ 32)
InRange (instr.Branch op rs1 rs2 off) = (rs1 < 32) × (rs2 < 32) × (off < 2 ^ 32)
InRange (instr.Load op rd rs1 imm) = (rd < 32) × (rs1 < 32) × (imm < 2 ^ 32)
InRange (instr.Store op rs1 rs2 imm) = (rs1 < 32) × (rs2 < 32) × (imm < 2 ^ 32)
InRange (instr.Alu op rd rs1 imm) = (rd < 32) × (rs1 < 32) × (imm < 2 ^ 32)
InRange (instr.Op op rd rs1 rs2) = (rd < 32) × (rs1 < 32) × (rs2 < 32)
InRange (instr.Atomic op rd rs1 rs2) = (rd < 32) × (rs1 < 32) × (rs2 < 32)
InRange _ = Unit {0}
