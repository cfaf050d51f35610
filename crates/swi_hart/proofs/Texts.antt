-- A step that would not store into the text leaves it.
use Rattle.std.proofs.Common.{◌≡◌, ◌==◌, if◌then◌else◌, ℕ, ◌%◌, ◌/◌, ◌*◌, Bool, true, false, ◌&&◌, Some, None, List, refl, sym, ap, ◌∙◌, inl, inr}
use Rattle.std.proofs.lemmas.Bool.{false≢true, cases_Bool}
use Rattle.swi_isa.specs.declared.instr.AtomicOp.{AtomicOp}
use Rattle.swi_isa.specs.declared.instr.AtomicOp.TheVariants.{LrW, ScW}
use Rattle.swi_isa.specs.declared.instr.Instr.{Instr}
use Rattle.swi_isa.specs.declared.instr.Instr.TheVariants as instr
use Rattle.swi_memory.specs.Bus.{AreaData, holds, fetched, touches_text, number_at}
use Rattle.swi_memory.specs.declared.right.Right.TheVariants.{Read, Write}
use Rattle.swi_memory.specs.Laws.{fetched_stored}
use Rattle.swi_exec.specs.Arithmetic.{sum_of}
use Rattle.swi_exec.specs.Registers.{Registers, reg}
use Rattle.swi_exec.specs.Execute.{Effect, executed, is_taken, lets_reserve, lets_store_word, lets_update, is_reserved, load_size, store_size, address_of, updates, atomic_word}
use Rattle.swi_exec.specs.StoresText.{into_text}
use Rattle.swi_calls.specs.StoresText.{text_store_of}

-- a range that would not touch the text, where it is written
pub untouched : (bus : List AreaData) (may : Bool) (a n : ℕ) → into_text bus may a n ≡ None → may ≡ true → touches_text bus a n ≡ false
untouched bus false a n none may = absurd (false≢true may)
untouched bus true a n none may =
    elim (cases_Bool (touches_text bus a n)) [
      | inl hit ↦ absurd (let e : Some a ≡ None = sym (ap (λ (t : Bool). if t then Some a else None) hit) ∙ none in cc)
      | inr miss ↦ miss
    ]

if_text : (x : ℕ) (bus : List AreaData) (t : Bool) (a b : Effect) → (t ≡ true → fetched a.bus x ≡ fetched bus x) → (t ≡ false → fetched b.bus x ≡ fetched bus x) → fetched (if t then a else b).bus x ≡ fetched bus x
if_text x bus true a b p q = p refl
if_text x bus false a b p q = q refl

module _ (x : ℕ) (regs : Registers) (bus : List AreaData) where
  updates_text : (op : AtomicOp) (rd a k p : ℕ) → into_text bus (lets_update bus a) a 4 ≡ None → fetched (updates op rd a k p regs bus).bus x ≡ fetched bus x
  updates_text op rd a k p none = if_text x bus (lets_update bus a) _ _ (λ may. fetched_stored bus a 4 (atomic_word op (number_at bus a 4) k) x (untouched bus (lets_update bus a) a 4 none may)) (λ e. refl)

  both_true : (s t : Bool) → s ≡ true → t ≡ true → (s && t) ≡ true
  both_true true t e f = f
  both_true false t e f = e

  atomic_text : (op : AtomicOp) (rd rs1 rs2 p : ℕ) → text_store_of (instr.Atomic op rd rs1 rs2) regs bus ≡ None → fetched (executed (instr.Atomic op rd rs1 rs2) p regs bus).bus x ≡ fetched bus x
  atomic_text LrW rd rs1 rs2 p none = if_text x bus (lets_reserve bus (reg regs rs1)) _ _ (λ e. refl) (λ e. refl)
  atomic_text ScW rd rs1 rs2 p none =
      if_text x bus (lets_store_word bus (reg regs rs1)) _ _
      (λ may. if_text x bus (is_reserved regs (reg regs rs1)) _ _
      (λ has. fetched_stored bus (reg regs rs1) 4 (reg regs rs2) x (untouched bus (lets_store_word bus (reg regs rs1) && is_reserved regs (reg regs rs1)) (reg regs rs1) 4 none (both_true _ _ may has))) (λ e. refl))
      (λ e. refl)
  atomic_text op rd rs1 rs2 p none = updates_text op rd (reg regs rs1) (reg regs rs2) p none

  -- an instruction that would not store into the text leaves what is fetched
  pub executed_text : (i : Instr) (p : ℕ) → text_store_of i regs bus ≡ None → fetched (executed i p regs bus).bus x ≡ fetched bus x
  executed_text (instr.Jal rd off) p none = if_text x bus (sum_of p off % 4 == 0) _ _ (λ e. refl) (λ e. refl)
  executed_text (instr.Jalr rd rs1 imm) p none = if_text x bus (address_of regs rs1 imm / 2 * 2 % 4 == 0) _ _ (λ e. refl) (λ e. refl)
  executed_text (instr.Branch op rs1 rs2 off) p none = if_text x bus (is_taken op (reg regs rs1) (reg regs rs2)) _ _ (λ e. if_text x bus (sum_of p off % 4 == 0) _ _ (λ e. refl) (λ e. refl)) (λ e. refl)
  executed_text (instr.Load op rd rs1 imm) p none = if_text x bus (holds bus Read (address_of regs rs1 imm) (load_size op)) _ _ (λ e. refl) (λ e. refl)
  executed_text (instr.Store op rs1 rs2 imm) p none =
      if_text x bus (holds bus Write (address_of regs rs1 imm) (store_size op)) _ _
      (λ may. fetched_stored bus (address_of regs rs1 imm) (store_size op) (reg regs rs2) x (untouched bus (holds bus Write (address_of regs rs1 imm) (store_size op)) (address_of regs rs1 imm) (store_size op) none may)) (λ e. refl)
  executed_text (instr.Atomic op rd rs1 rs2) p none = atomic_text op rd rs1 rs2 p none
  executed_text i p none = refl
