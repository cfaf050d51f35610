-- What the instruction table says of the targets of jumps and of the word of an exit.
use Rattle.std.proofs.Common.{◌≡◌, ℕ, ◌%◌, inl, inr, arith, sym, ap, ◌∙◌, Bool, true, false, eqb, Some}
use Rattle.std.proofs.lemmas.Bool.{false≢true, eqb-true, cases_Bool}
use Rattle.swi_isa.specs.declared.instr.BranchOp.{BranchOp}
use Rattle.swi_isa.specs.declared.instr.Instr.{Instr}
use Rattle.swi_isa.specs.declared.instr.Instr.TheVariants as instr
use Rattle.swi_isa.specs.Decode.{decoded}
use Rattle.swi_isa.specs.Laws.{jal_even, branch_even, ebreak_decodes}
use Rattle.swi_exec.specs.Arithmetic.{sum_of}
use Rattle.swi_render.specs.Rendering.{ebreak}

-- a target that is not a multiple of 4 is one of 2
half : (a off : ℕ) → a % 4 ≡ 0 → off % 2 ≡ 0 → eqb (sum_of a off % 4) 0 ≡ false → sum_of a off % 4 ≡ 2
half a off aligned even no_four =
    let other : (sum_of a off % 4 ≡ 0) → ⊥ = λ e. false≢true (sym no_four ∙ ap (λ k. eqb k 0) e) in
    omega arith

pub jal_half : (w rd off a : ℕ) → decoded w ≡ Some (instr.Jal rd off) → a % 4 ≡ 0 → eqb (sum_of a off % 4) 0 ≡ false → sum_of a off % 4 ≡ 2
jal_half w rd off a is aligned no_four = half a off aligned (jal_even w rd off is) no_four

pub branch_half : (w : ℕ) (op : BranchOp) (rs1 rs2 off a : ℕ) → decoded w ≡ Some (instr.Branch op rs1 rs2 off) → a % 4 ≡ 0 → eqb (sum_of a off % 4) 0 ≡ false → sum_of a off % 4 ≡ 2
branch_half w op rs1 rs2 off a is aligned no_four = half a off aligned (branch_even w op rs1 rs2 off is) no_four

abbrev pub is_break : Instr → Bool
is_break instr.Ebreak = true
is_break _ = false

-- no other instruction's word is an exit
pub not_exit : (w : ℕ) (x : Instr) → decoded w ≡ Some x → is_break x ≡ false → eqb w ebreak ≡ false
not_exit w x is other =
    elim (cases_Bool (eqb w ebreak)) [
      | inl same ↦
          let e : w ≡ ebreak = eqb-true _ _ same in
          let one : Some x ≡ Some instr.Ebreak = sym is ∙ ap decoded e ∙ ebreak_decodes in
          let two : x ≡ instr.Ebreak = cc in
          absurd (false≢true (sym other ∙ ap is_break two))
      | inr apart ↦ apart
    ]
