-- The instructions of RV32I, M and A as a table: which words each is, and what its fields mean. RISC-V unprivileged
-- specification: section 2.2 (base instruction formats), section 2.3 (immediate encoding variants), the chapters on
-- RV32I, "M" and "A", and the chapter "RV32/64G Instruction Set Listings" for opcodes, funct3, funct7 and funct5.
use Rattle.std.specs.Prelude.{◌==◌, ℕ, ◌+◌, ◌*◌, ◌/◌, ◌%◌, ◌^◌, Bool, bit_and, List, [], ◌∷◌, filter}
use Rattle.swi_field.specs.Field.{field, extended}
use Rattle.swi_isa.specs.declared.instr.BranchOp.{BranchOp}
use Rattle.swi_isa.specs.declared.instr.BranchOp.TheVariants.{Beq, Bne, Blt, Bge, Bltu, Bgeu}
use Rattle.swi_isa.specs.declared.instr.LoadOp.{LoadOp}
use Rattle.swi_isa.specs.declared.instr.LoadOp.TheVariants.{Lb, Lh, Lw, Lbu, Lhu}
use Rattle.swi_isa.specs.declared.instr.StoreOp.{StoreOp}
use Rattle.swi_isa.specs.declared.instr.StoreOp.TheVariants.{Sb, Sh, Sw}
use Rattle.swi_isa.specs.declared.instr.ImmOp.{ImmOp}
use Rattle.swi_isa.specs.declared.instr.ImmOp.TheVariants.{Addi, Slti, Sltiu, Xori, Ori, Andi, Slli, Srli, Srai}
use Rattle.swi_isa.specs.declared.instr.RegOp.{RegOp}
use Rattle.swi_isa.specs.declared.instr.RegOp.TheVariants.{Add, Sub, Sll, Slt, Sltu, Xor, Srl, Sra, Or, And, Mul, Mulh, Mulhsu, Mulhu, Div, Divu, Rem, Remu}
use Rattle.swi_isa.specs.declared.instr.AtomicOp.{AtomicOp}
use Rattle.swi_isa.specs.declared.instr.AtomicOp.TheVariants.{LrW, ScW, SwapW, AddW, XorW, AndW, OrW, MinW, MaxW, MinuW, MaxuW}
use Rattle.swi_isa.specs.declared.instr.Instr.{Instr}
use Rattle.swi_isa.specs.declared.instr.Instr.TheVariants as instr

-- The name of a row and its form in one: which fields the word has, with the operation where a form has several.
-- No two rows have the same.
pub data Form : Type 0 where
  Lui : Form
  Auipc : Form
  Jal : Form
  Jalr : Form
  Branch : BranchOp → Form
  Load : LoadOp → Form
  Store : StoreOp → Form
  OpImm : ImmOp → Form
  ShiftImm : ImmOp → Form
  Op : RegOp → Form
  Amo : AtomicOp → Form
  Fence : Form
  Ecall : Form
  Ebreak : Form

-- the words that have the bits of the value under the mask
pub record Row : Type 0 where
  pub form : Form
  pub mask : ℕ
  pub value : ℕ

abbrev pub row : Form → ℕ → ℕ → Row
row f m v = record { form = f; mask = m; value = v }

-- The mask has the opcode (6 to 0), and where the form has them funct3 (14 to 12), funct7 (31 to 25) or funct5
-- (31 to 27), and for LR.W also rs2 (24 to 20), which is 0.
abbrev pub rows : List Row
rows =
    row Lui 0x0000007F 0x00000037 ∷
    row Auipc 0x0000007F 0x00000017 ∷
    row Jal 0x0000007F 0x0000006F ∷
    row Jalr 0x0000707F 0x00000067 ∷
    row (Branch Beq) 0x0000707F 0x00000063 ∷
    row (Branch Bne) 0x0000707F 0x00001063 ∷
    row (Branch Blt) 0x0000707F 0x00004063 ∷
    row (Branch Bge) 0x0000707F 0x00005063 ∷
    row (Branch Bltu) 0x0000707F 0x00006063 ∷
    row (Branch Bgeu) 0x0000707F 0x00007063 ∷
    row (Load Lb) 0x0000707F 0x00000003 ∷
    row (Load Lh) 0x0000707F 0x00001003 ∷
    row (Load Lw) 0x0000707F 0x00002003 ∷
    row (Load Lbu) 0x0000707F 0x00004003 ∷
    row (Load Lhu) 0x0000707F 0x00005003 ∷
    row (Store Sb) 0x0000707F 0x00000023 ∷
    row (Store Sh) 0x0000707F 0x00001023 ∷
    row (Store Sw) 0x0000707F 0x00002023 ∷
    row (OpImm Addi) 0x0000707F 0x00000013 ∷
    row (OpImm Slti) 0x0000707F 0x00002013 ∷
    row (OpImm Sltiu) 0x0000707F 0x00003013 ∷
    row (OpImm Xori) 0x0000707F 0x00004013 ∷
    row (OpImm Ori) 0x0000707F 0x00006013 ∷
    row (OpImm Andi) 0x0000707F 0x00007013 ∷
    row (ShiftImm Slli) 0xFE00707F 0x00001013 ∷
    row (ShiftImm Srli) 0xFE00707F 0x00005013 ∷
    row (ShiftImm Srai) 0xFE00707F 0x40005013 ∷
    row (Op Add) 0xFE00707F 0x00000033 ∷
    row (Op Sub) 0xFE00707F 0x40000033 ∷
    row (Op Sll) 0xFE00707F 0x00001033 ∷
    row (Op Slt) 0xFE00707F 0x00002033 ∷
    row (Op Sltu) 0xFE00707F 0x00003033 ∷
    row (Op Xor) 0xFE00707F 0x00004033 ∷
    row (Op Srl) 0xFE00707F 0x00005033 ∷
    row (Op Sra) 0xFE00707F 0x40005033 ∷
    row (Op Or) 0xFE00707F 0x00006033 ∷
    row (Op And) 0xFE00707F 0x00007033 ∷
    row (Op Mul) 0xFE00707F 0x02000033 ∷
    row (Op Mulh) 0xFE00707F 0x02001033 ∷
    row (Op Mulhsu) 0xFE00707F 0x02002033 ∷
    row (Op Mulhu) 0xFE00707F 0x02003033 ∷
    row (Op Div) 0xFE00707F 0x02004033 ∷
    row (Op Divu) 0xFE00707F 0x02005033 ∷
    row (Op Rem) 0xFE00707F 0x02006033 ∷
    row (Op Remu) 0xFE00707F 0x02007033 ∷
    row (Amo LrW) 0xF9F0707F 0x1000202F ∷
    row (Amo ScW) 0xF800707F 0x1800202F ∷
    row (Amo SwapW) 0xF800707F 0x0800202F ∷
    row (Amo AddW) 0xF800707F 0x0000202F ∷
    row (Amo XorW) 0xF800707F 0x2000202F ∷
    row (Amo AndW) 0xF800707F 0x6000202F ∷
    row (Amo OrW) 0xF800707F 0x4000202F ∷
    row (Amo MinW) 0xF800707F 0x8000202F ∷
    row (Amo MaxW) 0xF800707F 0xA000202F ∷
    row (Amo MinuW) 0xF800707F 0xC000202F ∷
    row (Amo MaxuW) 0xF800707F 0xE000202F ∷
    row Fence 0x0000707F 0x0000000F ∷
    row Ecall 0xFFFFFFFF 0x00000073 ∷
    row Ebreak 0xFFFFFFFF 0x00100073 ∷
    []

-- the bits of the word under the mask are the value
abbrev pub matches : Row → ℕ → Bool
matches r w = bit_and w r.mask == r.value

-- the rows that a word matches
unfoldable pub matching : ℕ → List Row
matching w = filter (λ r. matches r w) rows

abbrev pub rd_of : ℕ → ℕ
rd_of w = field 11 7 w

abbrev pub rs1_of : ℕ → ℕ
rs1_of w = field 19 15 w

abbrev pub rs2_of : ℕ → ℕ
rs2_of w = field 24 20 w

-- the sum of single bits of w, each times the power of two of another place: (from, to)
abbrev pub placed : List (ℕ × ℕ) → ℕ → ℕ
placed [] w = 0
placed (p ∷ ps) w = w / 2 ^ p.0 % 2 * 2 ^ p.1 + placed ps w

-- where the bits of each immediate stand in the word, and where in the immediate
abbrev pub bits_i : List (ℕ × ℕ)
bits_i = (31, 11) ∷ (30, 10) ∷ (29, 9) ∷ (28, 8) ∷ (27, 7) ∷ (26, 6) ∷ (25, 5) ∷ (24, 4) ∷ (23, 3) ∷ (22, 2) ∷ (21, 1) ∷ (20, 0) ∷ []

abbrev pub bits_s : List (ℕ × ℕ)
bits_s = (31, 11) ∷ (30, 10) ∷ (29, 9) ∷ (28, 8) ∷ (27, 7) ∷ (26, 6) ∷ (25, 5) ∷ (11, 4) ∷ (10, 3) ∷ (9, 2) ∷ (8, 1) ∷ (7, 0) ∷ []

abbrev pub bits_b : List (ℕ × ℕ)
bits_b = (31, 12) ∷ (7, 11) ∷ (30, 10) ∷ (29, 9) ∷ (28, 8) ∷ (27, 7) ∷ (26, 6) ∷ (25, 5) ∷ (11, 4) ∷ (10, 3) ∷ (9, 2) ∷ (8, 1) ∷ []

abbrev pub bits_u : List (ℕ × ℕ)
bits_u = (31, 31) ∷ (30, 30) ∷ (29, 29) ∷ (28, 28) ∷ (27, 27) ∷ (26, 26) ∷ (25, 25) ∷ (24, 24) ∷ (23, 23) ∷ (22, 22) ∷ (21, 21) ∷ (20, 20) ∷ (19, 19) ∷ (18, 18) ∷ (17, 17) ∷ (16, 16) ∷ (15, 15) ∷ (14, 14) ∷ (13, 13) ∷ (12, 12) ∷ []

abbrev pub bits_j : List (ℕ × ℕ)
bits_j = (31, 20) ∷ (19, 19) ∷ (18, 18) ∷ (17, 17) ∷ (16, 16) ∷ (15, 15) ∷ (14, 14) ∷ (13, 13) ∷ (12, 12) ∷ (20, 11) ∷ (30, 10) ∷ (29, 9) ∷ (28, 8) ∷ (27, 7) ∷ (26, 6) ∷ (25, 5) ∷ (24, 4) ∷ (23, 3) ∷ (22, 2) ∷ (21, 1) ∷ []

-- the immediates, as 32 bits in two's complement: sign-extended from the highest bit that is placed
unfoldable pub imm_i : ℕ → ℕ
imm_i w = extended 12 (placed bits_i w)

unfoldable pub imm_s : ℕ → ℕ
imm_s w = extended 12 (placed bits_s w)

unfoldable pub imm_b : ℕ → ℕ
imm_b w = extended 13 (placed bits_b w)

unfoldable pub imm_u : ℕ → ℕ
imm_u w = placed bits_u w

unfoldable pub imm_j : ℕ → ℕ
imm_j w = extended 21 (placed bits_j w)

-- the instruction of a row's form, with the fields of the word
abbrev pub made : Form → ℕ → Instr
made Lui w = instr.Lui (rd_of w) (imm_u w)
made Auipc w = instr.Auipc (rd_of w) (imm_u w)
made Jal w = instr.Jal (rd_of w) (imm_j w)
made Jalr w = instr.Jalr (rd_of w) (rs1_of w) (imm_i w)
made (Branch op) w = instr.Branch op (rs1_of w) (rs2_of w) (imm_b w)
made (Load op) w = instr.Load op (rd_of w) (rs1_of w) (imm_i w)
made (Store op) w = instr.Store op (rs1_of w) (rs2_of w) (imm_s w)
made (OpImm op) w = instr.Alu op (rd_of w) (rs1_of w) (imm_i w)
made (ShiftImm op) w = instr.Alu op (rd_of w) (rs1_of w) (rs2_of w)
made (Op op) w = instr.Op op (rd_of w) (rs1_of w) (rs2_of w)
made (Amo op) w = instr.Atomic op (rd_of w) (rs1_of w) (rs2_of w)
made Fence w = instr.Fence
made Ecall w = instr.Ecall
made Ebreak w = instr.Ebreak
