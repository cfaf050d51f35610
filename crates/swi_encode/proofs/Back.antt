-- A word that decodes to an instruction is its word, and the instruction is valid.
use Rattle.std.proofs.Common.{subst, ◌≡◌, ℕ, ◌+◌, ◌*◌, ◌%◌, ◌^◌, ◌<◌, bit_and, arith, refl, true, Some}
use Rattle.std.proofs.lemmas.Bool.Decides.{nat_tests}
use Rattle.std.proofs.lemmas.Nat.{and_mask}
use Rattle.swi_field.specs.Field.{field, extended}
use Rattle.swi_isa.specs.declared.instr.ImmOp.TheVariants.{Slli, Srli, Srai}
use Rattle.swi_isa.specs.declared.instr.AtomicOp.TheVariants.{LrW}
use Rattle.swi_isa.specs.declared.instr.Instr.{Instr}
use Rattle.swi_isa.specs.Decode.{decoded}
use Rattle.swi_isa.specs.Table.{made, Form, rd_of, rs1_of, rs2_of, imm_i, imm_s, imm_b, imm_u, imm_j}
use Rattle.swi_isa.specs.Table.{Lui, Auipc, Jal, Jalr, Branch, Load, Store, OpImm, ShiftImm, Op, Amo, Fence, Ecall, Ebreak}
use Rattle.swi_isa.proofs.Masks.{under_7, under_15, under_32, under_atomic, under_reserve}
use Rattle.swi_isa.proofs.Sums.{is_imm_i, is_imm_s, is_imm_b, is_imm_u, is_imm_j}
use Rattle.swi_encode.specs.Canonical.{canonical}
use Rattle.swi_encode.specs.Valid.{IsExtended, IsEven, IsValid}
use Rattle.swi_encode.specs.Words.{word_of, u_word, j_word, i_word, s_word, b_word, r_word, branch_funct3, load_funct3, store_funct3, imm_funct3, op_funct3, op_funct7}
use Rattle.swi_encode.proofs.Codes.{branch_funct3_lt, load_funct3_lt, store_funct3_lt, imm_funct3_lt, op_codes_lt}
use Rattle.swi_encode.proofs.Rows.{has_row, mask_of, value_of, Decoded, form_of}

-- an immediate by its bits
imm_12 : (n x : ℕ) → n ≡ extended 12 x → x < 2 ^ 12 → (n % 2 ^ 12 ≡ x) × IsExtended 12 n
imm_12 n x is small = grind (arith, nat_tests)

imm_13 : (n x : ℕ) → n ≡ extended 13 x → x < 2 ^ 13 → x % 2 ≡ 0 → (n % 2 ^ 13 ≡ x) × (IsExtended 13 n × IsEven n)
imm_13 n x is small even = grind (arith, nat_tests)

imm_21 : (n x : ℕ) → n ≡ extended 21 x → x < 2 ^ 21 → x % 2 ≡ 0 → (n % 2 ^ 21 ≡ x) × (IsExtended 21 n × IsEven n)
imm_21 n x is small even = grind (arith, nat_tests)

-- a word by its fields, and what holds of its immediate
u_again : (w o : ℕ) → w < 2 ^ 32 → bit_and w 0x7F ≡ o → (u_word o (rd_of w) (imm_u w) ≡ w) × (imm_u w % 2 ^ 12 ≡ 0)
u_again w o word code = (omega (arith, under_7 w, is_imm_u w), omega (arith, is_imm_u w))

i_again : (w o f : ℕ) → w < 2 ^ 32 → o < 128 → f < 8 → bit_and w 0x707F ≡ o + f * 4096 → (i_word o f (rd_of w) (rs1_of w) (imm_i w) ≡ w) × IsExtended 12 (imm_i w)
i_again w o f word p q code =
    let m : (imm_i w % 2 ^ 12 ≡ field 31 20 w) × IsExtended 12 (imm_i w) = imm_12 _ _ (is_imm_i w) (omega arith) in
    (omega (arith, m.0, under_15 w), m.1)

s_again : (w f : ℕ) → w < 2 ^ 32 → f < 8 → bit_and w 0x707F ≡ 0x23 + f * 4096 → (s_word f (rs1_of w) (rs2_of w) (imm_s w) ≡ w) × IsExtended 12 (imm_s w)
s_again w f word p code =
    let m : (imm_s w % 2 ^ 12 ≡ field 31 25 w * 2 ^ 5 + field 11 7 w) × IsExtended 12 (imm_s w) = imm_12 _ _ (is_imm_s w) (omega arith) in
    (omega (arith, m.0, under_15 w), m.1)

b_again : (w f : ℕ) → w < 2 ^ 32 → f < 8 → bit_and w 0x707F ≡ 0x63 + f * 4096 → (b_word f (rs1_of w) (rs2_of w) (imm_b w) ≡ w) × (IsExtended 13 (imm_b w) × IsEven (imm_b w))
b_again w f word p code =
    let m : (imm_b w % 2 ^ 13 ≡ field 31 31 w * 2 ^ 12 + field 7 7 w * 2 ^ 11 + field 30 25 w * 2 ^ 5 + field 11 8 w * 2) × (IsExtended 13 (imm_b w) × IsEven (imm_b w)) = imm_13 _ _ (is_imm_b w) (omega arith) (omega arith) in
    (omega (arith, m.0, under_15 w), m.1)

j_again : (w : ℕ) → w < 2 ^ 32 → bit_and w 0x7F ≡ 0x6F → (j_word (rd_of w) (imm_j w) ≡ w) × (IsExtended 21 (imm_j w) × IsEven (imm_j w))
j_again w word code =
    let m : (imm_j w % 2 ^ 21 ≡ field 31 31 w * 2 ^ 20 + field 19 12 w * 2 ^ 12 + field 20 20 w * 2 ^ 11 + field 30 21 w * 2) × (IsExtended 21 (imm_j w) × IsEven (imm_j w)) = imm_21 _ _ (is_imm_j w) (omega arith) (omega arith) in
    (omega (arith, m.0, under_7 w), m.1)

r_again : (w o f g : ℕ) → w < 2 ^ 32 → o < 128 → f < 8 → bit_and w 0xFE00707F ≡ o + f * 4096 + g * 33554432 → r_word o f g (rd_of w) (rs1_of w) (rs2_of w) ≡ w
r_again w o f g word p q code = omega (arith, under_32 w word)

whole : (w v : ℕ) → w < 2 ^ 32 → bit_and w 0xFFFFFFFF ≡ v → v ≡ w
whole w v word code = omega (arith, and_mask w 32)

again : (f : Form) (w : ℕ) → w < 2 ^ 32 → has_row f ≡ true → bit_and w (mask_of f) ≡ value_of f → (word_of (made f w) ≡ canonical (made f w) w) × IsValid (made f w)
again Lui w word row hit = u_again w 0x37 word hit
again Auipc w word row hit = u_again w 0x17 word hit
again Jal w word row hit = j_again w word hit
again Jalr w word row hit = i_again w 0x67 0 word (omega arith) (omega arith) hit
again (Branch op) w word row hit = b_again w (branch_funct3 op) word (branch_funct3_lt op) hit
again (Load op) w word row hit = i_again w 3 (load_funct3 op) word (omega arith) (load_funct3_lt op) hit
again (Store op) w word row hit = s_again w (store_funct3 op) word (store_funct3_lt op) hit
again (OpImm Slli) w word row hit = cc
again (OpImm Srli) w word row hit = cc
again (OpImm Srai) w word row hit = cc
again (OpImm op) w word row hit = i_again w 0x13 (imm_funct3 op) word (omega arith) (imm_funct3_lt op) hit
again (ShiftImm Slli) w word row hit = (r_again w 0x13 1 0 word (omega arith) (omega arith) hit, omega arith)
again (ShiftImm Srli) w word row hit = (r_again w 0x13 5 0 word (omega arith) (omega arith) hit, omega arith)
again (ShiftImm Srai) w word row hit = (r_again w 0x13 5 32 word (omega arith) (omega arith) hit, omega arith)
again (ShiftImm _) w word row hit = cc
again (Op op) w word row hit = (r_again w 0x33 (op_funct3 op) (op_funct7 op) word (omega arith) (op_codes_lt op).0 hit, tt)
again (Amo LrW) w word row hit = (omega (arith, under_reserve w word), omega (arith, under_reserve w word))
again (Amo _) w word row hit = (omega (arith, under_atomic w word), tt)
again Fence w word row hit = (refl, tt)
again Ecall w word row hit = (whole w 0x73 word hit, tt)
again Ebreak w word row hit = (whole w 0x100073 word hit, tt)

-- the word of what a word decodes to
pub decoded_again : (w : ℕ) (i : Instr) → w < 2 ^ 32 → decoded w ≡ Some i → (word_of i ≡ canonical i w) × IsValid i
decoded_again w i word e =
    let d : Decoded w i = form_of w i e in
    subst (λ i. (word_of i ≡ canonical i w) × IsValid i) d.is (again d.form w word d.row d.hit)
