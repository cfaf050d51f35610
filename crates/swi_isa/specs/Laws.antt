-- Laws of the table, for every word: where jumps go, and which words JALR and EBREAK are. They stand among the
-- definitions, where specifications and proofs of the crates above may cite them.
use Rattle.std.proofs.Common.{inl, inr, ◌≡◌, ℕ, ◌-◌, ◌%◌, ◌^◌, ◌<◌, Bool, true, bit_and, eqb, ◌&&◌, List, [], ◌∷◌, Some, arith, refl, sym, ap, subst, ◌∙◌}
use Rattle.std.proofs.lemmas.Bool.{and_parts, eqb-true, eq-eqb, ne_eqb, cases_eq, cond-true, cond-false}
use Rattle.std.proofs.lemmas.Bool.Decides.{nat_tests}
use Rattle.std.proofs.lemmas.Nat.{and_mask, and_assoc}
use Rattle.std.specs.List.{list_all}
use Rattle.swi_field.specs.Field.{extended}
use Rattle.swi_isa.specs.declared.instr.BranchOp.{BranchOp}
use Rattle.swi_isa.specs.declared.instr.Instr.{Instr}
use Rattle.swi_isa.specs.declared.instr.Instr.TheVariants as instr
use Rattle.swi_isa.specs.Decode.{decoded_by, decoded}
use Rattle.swi_isa.specs.Table.{Form, Jal, Jalr, Branch, Ebreak, Row, rows, made, imm_b, imm_j, placed, bits_b, bits_j}

-- what is true of a word by its instruction
abbrev IsFormed : ℕ → Instr → Type 0
IsFormed w (instr.Jal rd off) = off % 2 ≡ 0
IsFormed w (instr.Branch op rs1 rs2 off) = off % 2 ≡ 0
IsFormed w (instr.Jalr rd rs1 imm) = w % 4 ≡ 3
IsFormed w instr.Ebreak = w < 2 ^ 32 → w ≡ 0x00100073
IsFormed w _ = Unit

-- the mask and the value of the two rows of which these count
abbrev counts : Form → ℕ → ℕ → Bool
counts Jalr m v = eqb m 0x707F && eqb v 0x67
counts Ebreak m v = eqb m 0xFFFFFFFF && eqb v 0x00100073
counts _ m v = true

abbrev has_them : Row → Bool
has_them r = counts r.form r.mask r.value

even : (n v : ℕ) → v % 2 ≡ 0 → (2 ^ 32 - 2 ^ n) % 2 ≡ 0 → extended n v % 2 ≡ 0
even n v e k = grind (arith, nat_tests)

formed_row : (f : Form) (m v w : ℕ) → counts f m v ≡ true → bit_and w m ≡ v → IsFormed w (made f w)
unfolding imm_b imm_j
formed_row Jal m v w e hit = let bits : placed bits_j w % 2 ≡ 0 = omega arith in even 21 (placed bits_j w) bits refl
formed_row (Branch op) m v w e hit = let bits : placed bits_b w % 2 ≡ 0 = omega arith in even 13 (placed bits_b w) bits refl
formed_row Jalr m v w e hit =
    let parts : (eqb m 0x707F ≡ true) × (eqb v 0x67 ≡ true) = and_parts _ _ e in
    let low : bit_and w 0x707F ≡ 0x67 = ap (bit_and w) (sym (eqb-true _ _ parts.0)) ∙ hit ∙ eqb-true _ _ parts.1 in
    sym (and_mask w 2) ∙ sym (and_assoc 3 w 0x707F) ∙ ap (λ n. bit_and n 3) low
formed_row Ebreak m v w e hit = λ word.
    let parts : (eqb m 0xFFFFFFFF ≡ true) × (eqb v 0x00100073 ≡ true) = and_parts _ _ e in
    let all : bit_and w 0xFFFFFFFF ≡ 0x00100073 = ap (bit_and w) (sym (eqb-true _ _ parts.0)) ∙ hit ∙ eqb-true _ _ parts.1 in
    omega (arith, and_mask w 32, all)
formed_row _ m v w e hit = tt

-- the row by which a word is decoded; it passes a test that all rows pass
pub record Found (test : Row → Bool) (w : ℕ) (i : Instr) : Type 0 where
  pub row : Row
  pub passes : test row ≡ true
  pub hit : bit_and w row.mask ≡ row.value
  pub is : made row.form w ≡ i

found_by : (test : Row → Bool) (rs : List Row) (w : ℕ) (i : Instr) → list_all test rs ≡ true → decoded_by rs w ≡ Some i → Found test w i
unfolding decoded_by
found_by test [] w i all is = absurd (cc)
found_by test (r ∷ rs) w i all is =
    let parts : (test r ≡ true) × (list_all test rs ≡ true) = and_parts _ _ all in
    elim (cases_eq (bit_and w r.mask) r.value) [
      | inl hit ↦
          let one : Some (made r.form w) ≡ Some i = sym (cond-true _ _ _ (eq-eqb _ _ hit)) ∙ is in
          record { row = r; passes = parts.0; hit = hit; is = cc }
      | inr miss ↦ found_by test rs w i parts.1 (sym (cond-false _ _ _ (ne_eqb _ _ miss)) ∙ is)
    ]

pub found : (test : Row → Bool) (w : ℕ) (i : Instr) → list_all test rows ≡ true → decoded w ≡ Some i → Found test w i
unfolding decoded
found test w i all is = found_by test rows w i all is

formed : (w : ℕ) (i : Instr) → decoded w ≡ Some i → IsFormed w i
formed w i is =
    let f : Found has_them w i = found has_them w i refl is in
    subst (IsFormed w) f.is (formed_row f.row.form f.row.mask f.row.value w f.passes f.hit)

-- the offset of JAL is even
pub jal_even : (w rd off : ℕ) → decoded w ≡ Some (instr.Jal rd off) → off % 2 ≡ 0
jal_even w rd off is = formed w (instr.Jal rd off) is

-- the offset of a branch is even
pub branch_even : (w : ℕ) (op : BranchOp) (rs1 rs2 off : ℕ) → decoded w ≡ Some (instr.Branch op rs1 rs2 off) → off % 2 ≡ 0
branch_even w op rs1 rs2 off is = formed w (instr.Branch op rs1 rs2 off) is

-- the two low bits of JALR's word are 11
pub jalr_low : (w rd rs1 imm : ℕ) → decoded w ≡ Some (instr.Jalr rd rs1 imm) → w % 4 ≡ 3
jalr_low w rd rs1 imm is = formed w (instr.Jalr rd rs1 imm) is

-- one word is EBREAK
pub ebreak_decodes : decoded 0x00100073 ≡ Some instr.Ebreak
unfolding decoded decoded_by
ebreak_decodes = refl

pub ebreak_alone : (w : ℕ) → w < 2 ^ 32 → decoded w ≡ Some instr.Ebreak → w ≡ 0x00100073
ebreak_alone w word is = formed w instr.Ebreak is word
