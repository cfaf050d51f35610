-- What a plain word leaves: it writes a register, and control goes on by its role.
use Rattle.std.proofs.Common.{◌≡◌, ◌==◌, ℕ, ◌+◌, ◌*◌, Bool, true, false, Option, Some, None, List, refl, ap, arith}
use Rattle.std.proofs.lemmas.Bool.{false≢true}
use Rattle.std.proofs.lemmas.Bool.Decides.{nat_tests}
use Rattle.swi_isa.specs.declared.instr.Instr.{Instr}
use Rattle.swi_isa.specs.declared.instr.Instr.TheVariants as instr
use Rattle.swi_exec.specs.Arithmetic.{sum_of}
use Rattle.swi_exec.specs.Registers.{Registers}
use Rattle.swi_exec.specs.Execute.{executed}
use Rattle.swi_calls.specs.declared.end.End.{End}
use Rattle.swi_calls.specs.declared.machine.Machine.{Machine}
use Rattle.swi_calls.specs.Flat.{quiet}
use Rattle.swi_hart.specs.declared.hart.Stage.{Stage}
use Rattle.swi_hart.specs.declared.hart.Stage.TheVariants.{Start, Leave}
use Rattle.swi_hart.specs.declared.hart.Role.{Role}
use Rattle.swi_hart.specs.declared.hart.Role.TheVariants.{Lead, Whole, Over}
use Rattle.swi_hart.specs.declared.hart.Control.TheVariants.{At}
use Rattle.swi_hart.specs.Hart.{Stepped, stepped, behind, word_stepped, whole_made, over_by, with_left}
use Rattle.swi_hart.specs.Exchanged.{is_plain}

-- where control and the machine are behind a plain word, by its role
abbrev pub plain_left : Role → ℕ → ℕ → ℕ → Machine → Registers → List ℕ → Stepped
plain_left Whole i b o m regs input = stepped (At (i + 1) b (o + 1) Start) (quiet (record m { pc = sum_of m.pc 4; regs = regs; steps = m.steps + 1 }) input)
plain_left (Lead next) i b o m regs input = stepped (At (i + 1) b (o + 1) next) (quiet (record m { regs = regs }) input)
plain_left Over i b o m regs input = stepped (At (i + 1) b (o + 1) Leave) (quiet (record m { regs = regs }) input)

-- with some registers
pub record PlainLeft (role : Role) (i b o : ℕ) (stage : Stage) (m : Machine) (x : Instr) : Type 0 where
  pub regs : Registers
  pub step : (input : List ℕ) → word_stepped role i b o stage m x input ≡ plain_left role i b o m regs input

-- the next word is no skipped one
no_skip : (i : ℕ) → (sum_of (4 * i) 4 == sum_of (4 * i) 12) ≡ false
no_skip i = apart (sum_of (4 * i) 4) (sum_of (4 * i) 12) (λ e. omega (arith, e))
  where
    apart : (a b : ℕ) → (a ≡ b → ⊥) → (a == b) ≡ false
    apart a b differs = grind (arith, nat_tests)

module _ (i b o : ℕ) (stage : Stage) (m : Machine) (running : m.ending ≡ None) where
  pub plain_by : (role : Role) (x : Instr) → is_plain (Some x) ≡ true → PlainLeft role i b o stage m x
  plain_by Whole (instr.Lui rd imm) plain = record { regs = _; step = λ input. ap (λ (e : Option End). stepped (behind e (At (i + 1) b (o + 1) Start) (At i b o stage)) (whole_made i m (instr.Lui rd imm) input)) running }
  plain_by (Lead next) (instr.Lui rd imm) plain = record { regs = _; step = λ input. refl }
  plain_by Over (instr.Lui rd imm) plain = record { regs = _; step = λ input. ap (λ (t : Bool). over_by i b o (with_left m (executed (instr.Lui rd imm) (4 * i) m.regs m.bus)) input t) (no_skip i) }
  plain_by Whole (instr.Alu op rd rs1 imm) plain = record { regs = _; step = λ input. ap (λ (e : Option End). stepped (behind e (At (i + 1) b (o + 1) Start) (At i b o stage)) (whole_made i m (instr.Alu op rd rs1 imm) input)) running }
  plain_by (Lead next) (instr.Alu op rd rs1 imm) plain = record { regs = _; step = λ input. refl }
  plain_by Over (instr.Alu op rd rs1 imm) plain = record { regs = _; step = λ input. ap (λ (t : Bool). over_by i b o (with_left m (executed (instr.Alu op rd rs1 imm) (4 * i) m.regs m.bus)) input t) (no_skip i) }
  plain_by Whole (instr.Op op rd rs1 rs2) plain = record { regs = _; step = λ input. ap (λ (e : Option End). stepped (behind e (At (i + 1) b (o + 1) Start) (At i b o stage)) (whole_made i m (instr.Op op rd rs1 rs2) input)) running }
  plain_by (Lead next) (instr.Op op rd rs1 rs2) plain = record { regs = _; step = λ input. refl }
  plain_by Over (instr.Op op rd rs1 rs2) plain = record { regs = _; step = λ input. ap (λ (t : Bool). over_by i b o (with_left m (executed (instr.Op op rd rs1 rs2) (4 * i) m.regs m.bus)) input t) (no_skip i) }
  plain_by role x plain = absurd (false≢true plain)
