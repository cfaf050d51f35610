-- The word of a valid instruction decodes to it.
use Rattle.std.proofs.Common.{◌≡◌, ℕ, ◌+◌, ◌*◌, ◌/◌, ◌%◌, ◌^◌, ◌<◌, bit_and, arith, refl, ap, ◌∙◌, Some}
use Rattle.std.proofs.lemmas.Bool.Decides.{nat_tests}
use Rattle.swi_field.specs.Field.{field, extended}
use Rattle.swi_isa.specs.declared.instr.ImmOp.TheVariants.{Slli, Srli, Srai}
use Rattle.swi_isa.specs.declared.instr.AtomicOp.{AtomicOp}
use Rattle.swi_isa.specs.declared.instr.AtomicOp.TheVariants.{LrW}
use Rattle.swi_isa.specs.declared.instr.Instr.{Instr}
use Rattle.swi_isa.specs.declared.instr.Instr.TheVariants as instr
use Rattle.swi_isa.specs.Decode.{decoded}
use Rattle.swi_isa.specs.Table.{Lui, Auipc, Jal, Jalr, Branch, Load, Store, OpImm, ShiftImm, Op, Amo, Fence, Ecall, Ebreak}
use Rattle.swi_isa.specs.Table.{rd_of, rs1_of, rs2_of, imm_i, imm_s, imm_b, imm_u, imm_j}
use Rattle.swi_isa.proofs.Masks.{under_7, under_15, under_32, under_atomic, under_reserve}
use Rattle.swi_isa.proofs.Sums.{is_imm_i, is_imm_s, is_imm_b, is_imm_u, is_imm_j}
use Rattle.swi_encode.specs.Valid.{IsExtended, IsEven, AtomicFits, IsValid}
use Rattle.swi_encode.specs.Words.{InRange, word_of, u_word, j_word, i_word, s_word, b_word, r_word, branch_funct3, load_funct3, store_funct3, imm_funct3, op_funct3, op_funct7, atomic_funct5}
use Rattle.swi_encode.proofs.Codes.{branch_funct3_lt, load_funct3_lt, store_funct3_lt, imm_funct3_lt, op_codes_lt, atomic_funct5_lt}
use Rattle.swi_encode.proofs.Rows.{mask_of, value_of, decoded_at}

again_12 : (v : ℕ) → v < 2 ^ 32 → IsExtended 12 v → extended 12 (v % 2 ^ 12) ≡ v
again_12 v word range = grind (arith, nat_tests)

again_13 : (v : ℕ) → v < 2 ^ 32 → IsExtended 13 v → extended 13 (v % 2 ^ 13) ≡ v
again_13 v word range = grind (arith, nat_tests)

again_21 : (v : ℕ) → v < 2 ^ 32 → IsExtended 21 v → extended 21 (v % 2 ^ 21) ≡ v
again_21 v word range = grind (arith, nat_tests)

-- the bits of an even offset
bits_13 : (off : ℕ) → IsEven off → off / 2 ^ 12 % 2 * 2 ^ 12 + off / 2 ^ 11 % 2 * 2 ^ 11 + off / 2 ^ 5 % 2 ^ 6 * 2 ^ 5 + off / 2 % 2 ^ 4 * 2 ≡ off % 2 ^ 13
bits_13 off even = omega arith

bits_21 : (off : ℕ) → IsEven off → off / 2 ^ 20 % 2 * 2 ^ 20 + off / 2 ^ 12 % 2 ^ 8 * 2 ^ 12 + off / 2 ^ 11 % 2 * 2 ^ 11 + off / 2 % 2 ^ 10 * 2 ≡ off % 2 ^ 21
bits_21 off even = omega arith

-- what the fields of each format's word are
record UFields (w o rd imm : ℕ) : Type 0 where
  code : bit_and w 0x7F ≡ o
  dest : rd_of w ≡ rd
  value : imm_u w ≡ imm

u_fields : (w o rd imm : ℕ) → o < 128 → rd < 32 → imm < 2 ^ 32 → imm % 2 ^ 12 ≡ 0 → w ≡ u_word o rd imm → UFields w o rd imm
u_fields w o rd imm p1 p2 p3 p4 is =
    let high : field 31 12 w * 2 ^ 12 ≡ imm = omega arith in
    record { code = under_7 w ∙ omega arith; dest = omega arith; value = is_imm_u w ∙ high }

record IFields (w o f rd rs1 imm : ℕ) : Type 0 where
  code : bit_and w 0x707F ≡ o + f * 4096
  dest : rd_of w ≡ rd
  first : rs1_of w ≡ rs1
  value : imm_i w ≡ imm

i_fields : (w o f rd rs1 imm : ℕ) → o < 128 → f < 8 → rd < 32 → rs1 < 32 → imm < 2 ^ 32 → IsExtended 12 imm → w ≡ i_word o f rd rs1 imm → IFields w o f rd rs1 imm
i_fields w o f rd rs1 imm p1 p2 p3 p4 p5 range is =
    let low : field 31 20 w ≡ imm % 2 ^ 12 = omega arith in
    record { code = under_15 w ∙ omega arith; dest = omega arith; first = omega arith; value = is_imm_i w ∙ ap (extended 12) low ∙ again_12 imm p5 range }

record SFields (w f rs1 rs2 imm : ℕ) : Type 0 where
  code : bit_and w 0x707F ≡ 0x23 + f * 4096
  first : rs1_of w ≡ rs1
  second : rs2_of w ≡ rs2
  value : imm_s w ≡ imm

s_fields : (w f rs1 rs2 imm : ℕ) → f < 8 → rs1 < 32 → rs2 < 32 → imm < 2 ^ 32 → IsExtended 12 imm → w ≡ s_word f rs1 rs2 imm → SFields w f rs1 rs2 imm
s_fields w f rs1 rs2 imm p1 p2 p3 p4 range is =
    let low : field 31 25 w * 2 ^ 5 + field 11 7 w ≡ imm % 2 ^ 12 = omega arith in
    record { code = under_15 w ∙ omega arith; first = omega arith; second = omega arith; value = is_imm_s w ∙ ap (extended 12) low ∙ again_12 imm p4 range }

-- a branch's word, with its fields as variables
b_parts : (a b c d e f g w : ℕ) → a < 2 → b < 64 → c < 32 → d < 32 → e < 8 → f < 16 → g < 2 →
    w ≡ a * 2147483648 + b * 33554432 + c * 1048576 + d * 32768 + e * 4096 + f * 256 + g * 128 + 0x63 →
    (w < 2 ^ 32) × (field 6 0 w ≡ 0x63) × (field 14 12 w ≡ e) × (field 19 15 w ≡ d) × (field 24 20 w ≡ c) × (field 31 31 w ≡ a) × (field 7 7 w ≡ g) × (field 30 25 w ≡ b) × (field 11 8 w ≡ f)
b_parts a b c d e f g w pa pb pc pd pe pf pg is = (omega arith, omega arith, omega arith, omega arith, omega arith, omega arith, omega arith, omega arith, omega arith)

record BFields (w f rs1 rs2 off : ℕ) : Type 0 where
  code : bit_and w 0x707F ≡ 0x63 + f * 4096
  first : rs1_of w ≡ rs1
  second : rs2_of w ≡ rs2
  offset : imm_b w ≡ off

b_fields : (w f rs1 rs2 off : ℕ) → f < 8 → rs1 < 32 → rs2 < 32 → off < 2 ^ 32 → IsExtended 13 off → IsEven off → w ≡ b_word f rs1 rs2 off → BFields w f rs1 rs2 off
b_fields w f rs1 rs2 off pf p1 p2 word range even is =
    let all : (w < 2 ^ 32) × (field 6 0 w ≡ 0x63) × (field 14 12 w ≡ f) × (field 19 15 w ≡ rs1) × (field 24 20 w ≡ rs2) × (field 31 31 w ≡ off / 2 ^ 12 % 2) × (field 7 7 w ≡ off / 2 ^ 11 % 2) × (field 30 25 w ≡ off / 2 ^ 5 % 2 ^ 6) × (field 11 8 w ≡ off / 2 % 2 ^ 4) = b_parts (off / 2 ^ 12 % 2) (off / 2 ^ 5 % 2 ^ 6) rs2 rs1 f (off / 2 % 2 ^ 4) (off / 2 ^ 11 % 2) w (omega arith) (omega arith) p2 p1 pf (omega arith) (omega arith) is in
    record { code = under_15 w ∙ rw (all.1, all.2) refl; first = all.3; second = all.4; offset = is_imm_b w ∙ rw (all.5, all.6, all.7, all.8, bits_13 off even) (again_13 off word range) }

-- a jump's word, with its fields as variables
j_parts : (a b c d e w : ℕ) → a < 2 → b < 1024 → c < 2 → d < 256 → e < 32 →
    w ≡ a * 2147483648 + b * 2097152 + c * 1048576 + d * 4096 + e * 128 + 0x6F →
    (w < 2 ^ 32) × (field 6 0 w ≡ 0x6F) × (field 11 7 w ≡ e) × (field 31 31 w ≡ a) × (field 19 12 w ≡ d) × (field 20 20 w ≡ c) × (field 30 21 w ≡ b)
j_parts a b c d e w pa pb pc pd pe is = (omega arith, omega arith, omega arith, omega arith, omega arith, omega arith, omega arith)

record JFields (w rd off : ℕ) : Type 0 where
  code : bit_and w 0x7F ≡ 0x6F
  dest : rd_of w ≡ rd
  offset : imm_j w ≡ off

j_fields : (w rd off : ℕ) → rd < 32 → off < 2 ^ 32 → IsExtended 21 off → IsEven off → w ≡ j_word rd off → JFields w rd off
j_fields w rd off p1 word range even is =
    let all : (w < 2 ^ 32) × (field 6 0 w ≡ 0x6F) × (field 11 7 w ≡ rd) × (field 31 31 w ≡ off / 2 ^ 20 % 2) × (field 19 12 w ≡ off / 2 ^ 12 % 2 ^ 8) × (field 20 20 w ≡ off / 2 ^ 11 % 2) × (field 30 21 w ≡ off / 2 % 2 ^ 10) = j_parts (off / 2 ^ 20 % 2) (off / 2 % 2 ^ 10) (off / 2 ^ 11 % 2) (off / 2 ^ 12 % 2 ^ 8) rd w (omega arith) (omega arith) (omega arith) (omega arith) p1 is in
    record { code = under_7 w ∙ all.1; dest = all.2; offset = is_imm_j w ∙ rw (all.3, all.4, all.5, all.6, bits_21 off even) (again_21 off word range) }

record RFields (w o f g rd rs1 rs2 : ℕ) : Type 0 where
  code : bit_and w 0xFE00707F ≡ o + f * 4096 + g * 33554432
  dest : rd_of w ≡ rd
  first : rs1_of w ≡ rs1
  second : rs2_of w ≡ rs2

r_fields : (w o f g rd rs1 rs2 : ℕ) → o < 128 → f < 8 → g < 128 → rd < 32 → rs1 < 32 → rs2 < 32 → w ≡ r_word o f g rd rs1 rs2 → RFields w o f g rd rs1 rs2
r_fields w o f g rd rs1 rs2 p1 p2 p3 p4 p5 p6 is = record { code = under_32 w (omega arith) ∙ omega arith; dest = omega arith; first = omega arith; second = omega arith }

-- funct5 without aq and rl, and for LR.W also rs2
atomic_code : (op : AtomicOp) (w rd rs1 rs2 : ℕ) → rd < 32 → rs1 < 32 → rs2 < 32 → AtomicFits op rs2 → w ≡ r_word 0x2F 2 (atomic_funct5 op * 4) rd rs1 rs2 →
    bit_and w (mask_of (Amo op)) ≡ value_of (Amo op)
atomic_code LrW w rd rs1 rs2 p1 p2 p3 fits is = under_reserve w (omega arith) ∙ omega arith
atomic_code _ w rd rs1 rs2 p1 p2 p3 fits is = under_atomic w (omega arith) ∙ omega arith

-- the word of a valid instruction decodes to it
pub word_decodes : (i : Instr) (w : ℕ) → w ≡ word_of i → InRange i → IsValid i → decoded w ≡ Some i
word_decodes (instr.Lui rd imm) w is r v = let h : UFields w 0x37 rd imm = u_fields w 0x37 rd imm (omega arith) r.0 r.1 v is in decoded_at Lui w refl h.code ∙ cc
word_decodes (instr.Auipc rd imm) w is r v = let h : UFields w 0x17 rd imm = u_fields w 0x17 rd imm (omega arith) r.0 r.1 v is in decoded_at Auipc w refl h.code ∙ cc
word_decodes (instr.Jal rd off) w is r v = let h : JFields w rd off = j_fields w rd off r.0 r.1 v.0 v.1 is in decoded_at Jal w refl h.code ∙ cc
word_decodes (instr.Jalr rd rs1 imm) w is r v = let h : IFields w 0x67 0 rd rs1 imm = i_fields w 0x67 0 rd rs1 imm (omega arith) (omega arith) r.0 r.1 r.2 v is in decoded_at Jalr w refl h.code ∙ cc
word_decodes (instr.Branch op rs1 rs2 off) w is r v = let h : BFields w (branch_funct3 op) rs1 rs2 off = b_fields w (branch_funct3 op) rs1 rs2 off (branch_funct3_lt op) r.0 r.1 r.2 v.0 v.1 is in decoded_at (Branch op) w refl h.code ∙ cc
word_decodes (instr.Load op rd rs1 imm) w is r v = let h : IFields w 3 (load_funct3 op) rd rs1 imm = i_fields w 3 (load_funct3 op) rd rs1 imm (omega arith) (load_funct3_lt op) r.0 r.1 r.2 v is in decoded_at (Load op) w refl h.code ∙ cc
word_decodes (instr.Store op rs1 rs2 imm) w is r v = let h : SFields w (store_funct3 op) rs1 rs2 imm = s_fields w (store_funct3 op) rs1 rs2 imm (store_funct3_lt op) r.0 r.1 r.2 v is in decoded_at (Store op) w refl h.code ∙ cc
word_decodes (instr.Alu Slli rd rs1 imm) w is r v = let h : RFields w 0x13 1 0 rd rs1 imm = r_fields w 0x13 1 0 rd rs1 imm (omega arith) (omega arith) (omega arith) r.0 r.1 v is in decoded_at (ShiftImm Slli) w refl h.code ∙ cc
word_decodes (instr.Alu Srli rd rs1 imm) w is r v = let h : RFields w 0x13 5 0 rd rs1 imm = r_fields w 0x13 5 0 rd rs1 imm (omega arith) (omega arith) (omega arith) r.0 r.1 v is in decoded_at (ShiftImm Srli) w refl h.code ∙ cc
word_decodes (instr.Alu Srai rd rs1 imm) w is r v = let h : RFields w 0x13 5 32 rd rs1 imm = r_fields w 0x13 5 32 rd rs1 imm (omega arith) (omega arith) (omega arith) r.0 r.1 v is in decoded_at (ShiftImm Srai) w refl h.code ∙ cc
word_decodes (instr.Alu op rd rs1 imm) w is r v = let h : IFields w 0x13 (imm_funct3 op) rd rs1 imm = i_fields w 0x13 (imm_funct3 op) rd rs1 imm (omega arith) (imm_funct3_lt op) r.0 r.1 r.2 v is in decoded_at (OpImm op) w refl h.code ∙ cc
word_decodes (instr.Op op rd rs1 rs2) w is r v = let h : RFields w 0x33 (op_funct3 op) (op_funct7 op) rd rs1 rs2 = r_fields w 0x33 (op_funct3 op) (op_funct7 op) rd rs1 rs2 (omega arith) (op_codes_lt op).0 (op_codes_lt op).1 r.0 r.1 r.2 is in decoded_at (Op op) w refl h.code ∙ cc
word_decodes (instr.Atomic op rd rs1 rs2) w is r v =
    let small : atomic_funct5 op < 32 = atomic_funct5_lt op in
    let h : RFields w 0x2F 2 (atomic_funct5 op * 4) rd rs1 rs2 = r_fields w 0x2F 2 (atomic_funct5 op * 4) rd rs1 rs2 (omega arith) (omega arith) (omega arith) r.0 r.1 r.2 is in
    decoded_at (Amo op) w refl (atomic_code op w rd rs1 rs2 r.0 r.1 r.2 v is) ∙ cc
word_decodes instr.Fence w is r v = rw is (decoded_at Fence 0x0FF0000F refl refl)
word_decodes instr.Ecall w is r v = rw is (decoded_at Ecall 0x73 refl refl)
word_decodes instr.Ebreak w is r v = rw is (decoded_at Ebreak 0x100073 refl refl)
