-- How a step of the flat machine leaves its text word.
use Rattle.std.proofs.Common.{◌≡◌, ℕ, ◌+◌, ◌%◌, ◌==◌, ◌||◌, ◌≤◌, Bool, true, false, not, List, [], ◌∷◌, Option, Some, None, if◌then◌else◌, arith, refl, sym, ◌∙◌, ap}
use Rattle.swi_isa.specs.declared.instr.Instr.{Instr}
use Rattle.swi_isa.specs.declared.instr.Instr.TheVariants as instr
use Rattle.swi_exec.specs.Registers.{reg, with_reg}
use Rattle.swi_exec.specs.Execute.{Effect, branches, faults, goes_on, is_taken, jumps}
use Rattle.swi_exec.specs.Arithmetic.{sum_of}
use Rattle.swi_exec.specs.declared.done.Done.TheVariants as done
use Rattle.swi_exec.specs.declared.done.FaultKind.TheVariants as kind
use Rattle.swi_calls.specs.declared.end.End.{End}
use Rattle.swi_calls.specs.declared.machine.Machine.{Machine}
use Rattle.swi_calls.specs.StoresText.{instruction_store}
use Rattle.swi_calls.specs.Flat.{with_effect, with_instruction}
use Rattle.swi_image.specs.Format.{ImageData}
use Rattle.swi_render.specs.Rendering.{Slot, falls_of, jump, rendering_of, sum}
use Rattle.swi_rom.specs.Record.{direct, indirect}
use Rattle.swi_hart.specs.Hart.{leads}
use Rattle.swi_hart.proofs.Own.{is_own}
use Rattle.swi_board.specs.Transfers.{before_last, branch_words, jumps_as, leaves_by, step_cost}
use Rattle.swi_survey.specs.declared.leaving.Way.{Way}
use Rattle.swi_survey.specs.declared.leaving.Way.TheVariants as way
use Rattle.swi_survey.specs.Leaving.{branch_by, leaving_by}
use Rattle.swi_survey.specs.Ways.{exit_to, jump_of, own_if}

-- to the next text word
pub record GoesNext (f next : Machine) (x : Option Instr) : Type 0 where
  pub stays : jumps_as f x ≡ false
  pub falls : falls_of x ≡ true
  pub pc : next.ending ≡ None → next.pc ≡ sum f.pc 4

-- over the word's own exit
pub record GoesOver (v : ImageData) (f next : Machine) (x : Option Instr) (ss : List Slot) (p : ℕ × ℕ) : Type 0 where
  pub goes : jumps_as f x ≡ true
  pub exit : next.ending ≡ None → own_if v p (jump_of x f.pc) ≡ exit_to v (p.0, p.1 + before_last f x ss) next.pc
  pub transfers : next.ending ≡ None → leaves_by f x ss p next.pc ≡ direct p.0 (p.1 + before_last f x ss) next.pc ∷ []

-- by a JALR, or the run ends
pub record GoesAway (f next : Machine) (x : Option Instr) (ss : List Slot) (p : ℕ × ℕ) : Type 0 where
  pub goes : jumps_as f x ≡ true
  pub transfers : next.ending ≡ None → leaves_by f x ss p next.pc ≡ indirect next.pc ∷ []

abbrev pub Goes : ImageData → Machine → Machine → Option Instr → List Slot → ℕ × ℕ → Way → Type 0
Goes v f next x ss p way.Next = GoesNext f next x
Goes v f next x ss p way.Over = GoesOver v f next x ss p
Goes v f next x ss p way.Away = GoesAway f next x ss p

-- what is known of the step of an instruction that is rendered as itself
abbrev pub OwnGoes : Machine → Machine → Option Instr → Type 0
OwnGoes f next x = (y : Instr) → x ≡ Some y → is_own y ≡ true → next.ending ≡ None → next.pc ≡ sum_of f.pc 4

ended : (o : Option End) (e : End) → o ≡ Some e → o ≡ None → ⊥
ended o e is on = cc

module _ (v : ImageData) (f next : Machine) (w : ℕ) (p : ℕ × ℕ) (input : List ℕ) where
  -- a jump to a target, which leaves its words behind some others
  jump_lands : (b : Bool) (target : ℕ) (e g : Effect) → e ≡ (if b then record { done = done.Next target; regs = g.regs; bus = f.bus } else faults kind.FetchMisaligned target f.regs f.bus) →
      next ≡ (with_effect f e input).machine → next.ending ≡ None → (b ≡ true) × (next.pc ≡ target)
  jump_lands true target e g is made on = (refl, ap (λ (m : Machine). m.pc) (made ∙ ap (λ (q : Effect). (with_effect f q input).machine) is))
  jump_lands false target e g is made on = absurd (ended next.ending _ (ap (λ (m : Machine). m.ending) (made ∙ ap (λ (q : Effect). (with_effect f q input).machine) is)) on)

  jal_leads : (b z : Bool) (rd target : ℕ) → b ≡ true → (if z then 0 else 2) ≡ leads (jump b z rd target f.pc) + 0
  jal_leads true true rd target on = refl
  jal_leads true false rd target on = refl
  jal_leads false z rd target on = absurd cc

  jal_goes : (rd off : ℕ) → next ≡ (with_instruction f (Some (instr.Jal rd off)) input).machine → GoesOver v f next (Some (instr.Jal rd off)) (rendering_of (Some (instr.Jal rd off)) w f.pc) p
  jal_goes rd off made = record {
    goes = refl;
    exit = λ on. (
        let lands = jump_lands (sum f.pc off % 4 == 0) (sum f.pc off) (jumps (sum_of f.pc off) f.regs (with_reg f.regs rd (sum_of f.pc 4)) f.bus)
        (goes_on 0 (with_reg f.regs rd (sum_of f.pc 4)) f.bus) refl made on in
        ap (λ (n : ℕ). exit_to v (p.0, p.1 + n) (sum f.pc off)) (jal_leads (sum f.pc off % 4 == 0) (rd == 0) rd (sum f.pc off) lands.0)
        ∙ ap (exit_to v (p.0, p.1 + before_last f (Some (instr.Jal rd off)) (rendering_of (Some (instr.Jal rd off)) w f.pc))) (sym lands.1));
    transfers = λ on. refl;
  }

  branch_goes : (b : Bool) (x : Instr) (off : ℕ) (e : Effect) → jumps_as f (Some x) ≡ b → falls_of (Some x) ≡ true → jump_of (Some x) f.pc ≡ Some (1, sum f.pc off) → branch_words f (Some x) ≡ (if b then 1 else 0) →
      ((pc : ℕ) (ss : List Slot) → leaves_by f (Some x) ss p pc ≡ direct p.0 (p.1 + before_last f (Some x) ss) pc ∷ []) → leads (rendering_of (Some x) w f.pc) ≡ 0 →
      e ≡ (if b then jumps (sum_of f.pc off) f.regs f.regs f.bus else goes_on f.pc f.regs f.bus) → next ≡ (with_effect f e input).machine →
      Goes v f next (Some x) (rendering_of (Some x) w f.pc) p (branch_by b).way
  branch_goes true x off e taken falls led words left none is made = record {
    goes = taken;
    exit = λ on. (
        let lands = jump_lands (sum f.pc off % 4 == 0) (sum f.pc off) e (goes_on 0 f.regs f.bus) is made on in
        ap (own_if v p) led
        ∙ ap (λ (n : ℕ). exit_to v (p.0, p.1 + n) (sum f.pc off)) (let same : 1 ≡ before_last f (Some x) (rendering_of (Some x) w f.pc) = omega (arith, words, none) in same)
        ∙ ap (exit_to v (p.0, p.1 + before_last f (Some x) (rendering_of (Some x) w f.pc))) (sym lands.1));
    transfers = λ on. left next.pc (rendering_of (Some x) w f.pc);
  }
  branch_goes false x off e taken falls led words left none is made = record {
    stays = taken;
    falls = falls;
    pc = λ on. ap (λ (m : Machine). m.pc) (made ∙ ap (λ (q : Effect). (with_effect f q input).machine) is);
  }

  pub goes : (x : Option Instr) → next ≡ (with_instruction f x input).machine → OwnGoes f next x → Goes v f next x (rendering_of x w f.pc) p (leaving_by x f.regs f.pc).way
  goes None made own = record { goes = refl; transfers = λ on. absurd (ended next.ending _ (ap (λ (m : Machine). m.ending) made) on) }
  goes (Some instr.Ebreak) made own = record { goes = refl; transfers = λ on. absurd (ended next.ending _ (ap (λ (m : Machine). m.ending) made) on) }
  goes (Some (instr.Jalr rd rs1 imm)) made own = record { goes = refl; transfers = λ on. refl }
  goes (Some (instr.Auipc rd imm)) made own = record { stays = refl; falls = refl; pc = λ on. ap (λ (m : Machine). m.pc) made }
  goes (Some (instr.Jal rd off)) made own = jal_goes rd off made
  goes (Some (instr.Branch op rs1 rs2 off)) made own =
      branch_goes (is_taken op (reg f.regs rs1) (reg f.regs rs2)) (instr.Branch op rs1 rs2 off) off
      (branches (is_taken op (reg f.regs rs1) (reg f.regs rs2)) (sum_of f.pc off) f.pc f.regs f.bus) refl refl refl refl (λ pc ss. refl) refl refl made
  goes (Some y) made own = record { stays = refl; falls = refl; pc = own y refl refl }

-- how many words it executes
jal_cost : (b z : Bool) (rd target a : ℕ) → leads (jump b z rd target a) + 0 + 1 ≡ (if not b || z then 1 else 3)
jal_cost true true rd target a = refl
jal_cost true false rd target a = refl
jal_cost false z rd target a = refl

branch_cost : (b : Bool) → 0 + (if b then 1 else 0) + 1 ≡ (branch_by b).words
branch_cost true = refl
branch_cost false = refl

pub words_are : (f : Machine) (w : ℕ) (x : Option Instr) → step_cost f x (rendering_of x w f.pc) ≡ (leaving_by x f.regs f.pc).words
words_are f w None = refl
words_are f w (Some instr.Ebreak) = refl
words_are f w (Some (instr.Jalr rd rs1 imm)) = refl
words_are f w (Some (instr.Auipc rd imm)) = refl
words_are f w (Some (instr.Jal rd off)) = jal_cost (sum f.pc off % 4 == 0) (rd == 0) rd (sum f.pc off) f.pc
words_are f w (Some (instr.Branch op rs1 rs2 off)) = branch_cost (is_taken op (reg f.regs rs1) (reg f.regs rs2))
words_are f w (Some y) = refl

-- at most three
few_if : (b : Bool) (l m : ℕ) → l ≤ 3 → m ≤ 3 → (if b then l else m) ≤ 3
few_if true l m low high = low
few_if false l m low high = high

branch_few : (b : Bool) → (branch_by b).words ≤ 3
branch_few true = omega arith
branch_few false = omega arith

pub words_few : (f : Machine) (x : Option Instr) → (leaving_by x f.regs f.pc).words ≤ 3
words_few f None = omega arith
words_few f (Some instr.Ebreak) = omega arith
words_few f (Some (instr.Jalr rd rs1 imm)) = omega arith
words_few f (Some (instr.Auipc rd imm)) = omega arith
words_few f (Some (instr.Jal rd off)) = few_if (not (sum f.pc off % 4 == 0) || rd == 0) 1 3 (omega arith) (omega arith)
words_few f (Some (instr.Branch op rs1 rs2 off)) = branch_few (is_taken op (reg f.regs rs1) (reg f.regs rs2))
words_few f (Some y) = omega arith

-- an instruction that would store into the text is one word
pub stores_alone : (f : Machine) (x : Option Instr) (a : ℕ) → instruction_store f x ≡ Some a → (leaving_by x f.regs f.pc).words ≡ 1
stores_alone f None a is = refl
stores_alone f (Some instr.Ebreak) a is = refl
stores_alone f (Some (instr.Jalr rd rs1 imm)) a is = refl
stores_alone f (Some (instr.Auipc rd imm)) a is = absurd cc
stores_alone f (Some (instr.Jal rd off)) a is = absurd cc
stores_alone f (Some (instr.Branch op rs1 rs2 off)) a is = absurd cc
stores_alone f (Some y) a is = refl
