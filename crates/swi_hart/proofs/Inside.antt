-- A run ends outside the text only by a step there.
use Rattle.std.proofs.Common.{◌≡◌, ◌==◌, ℕ, ◌+◌, ◌*◌, ◌/◌, ◌%◌, Bool, true, false, ◌&&◌, Option, Some, None, is_some, List, refl, sym, ap, subst, ◌∙◌}
use Rattle.swi_isa.specs.declared.instr.Instr.{Instr}
use Rattle.swi_exec.specs.Execute.{executed, address_of}
use Rattle.swi_calls.specs.declared.end.End.{End}
use Rattle.swi_calls.specs.declared.machine.Machine.{Machine}
use Rattle.swi_image.specs.Format.{ImageData}
use Rattle.swi_image.specs.Place.{word_at}
use Rattle.swi_rom.specs.Record.{Record}
use Rattle.swi_hart.specs.declared.hart.Stage.{Stage}
use Rattle.swi_hart.specs.declared.hart.Stage.TheVariants.{Start}
use Rattle.swi_hart.specs.declared.hart.Control.TheVariants.{At}
use Rattle.swi_hart.specs.declared.hart.Role.{Role}
use Rattle.swi_hart.specs.declared.hart.Role.TheVariants.{Lead, Whole, Over}
use Rattle.swi_hart.specs.declared.hart.ExitKind.{ExitKind}
use Rattle.swi_hart.specs.declared.hart.ExitKind.TheVariants.{Direct, Misaligned, Trap, Indirect}
use Rattle.swi_hart.specs.Hart.{Stepped, behind, whole_made, word_stepped, over_by, skips, with_left, exit_kind, left_made, is_fall}
use Rattle.swi_hart.specs.Matching.{ExitStep, Jumps, JumpsBy}
use Rattle.swi_hart.specs.Leaving.{ExitHome}
use Rattle.swi_hart.specs.Bounds.{is_outside}

abbrev pub ends_outside : Stepped → Bool
ends_outside s = is_some s.made.machine.ending && is_outside s.control

pub no_and : (t : Bool) → (t && false) ≡ false
no_and true = refl
no_and false = refl

inside : (s : Stepped) → is_outside s.control ≡ false → ends_outside s ≡ false
inside s e = ap (λ (t : Bool). is_some s.made.machine.ending && t) e ∙ no_and (is_some s.made.machine.ending)

goes_on : (s : Stepped) (m : Machine) → s.made.machine.ending ≡ m.ending → m.ending ≡ None → ends_outside s ≡ false
goes_on s m is running = ap (λ (e : Option End). is_some e && is_outside s.control) (is ∙ running)

pub behind_inside : (e : Option End) (i b o i' b' o' : ℕ) (stage stage' : Stage) → is_outside (behind e (At i b o stage) (At i' b' o' stage')) ≡ false
behind_inside None i b o i' b' o' stage stage' = refl
behind_inside (Some x) i b o i' b' o' stage stage' = refl

over_inside : (i b o : ℕ) (m : Machine) (input : List ℕ) (t : Bool) → is_outside (over_by i b o m input t).control ≡ false
over_inside i b o m input true = refl
over_inside i b o m input false = refl

-- at a word that is executed
pub word_inside : (role : Role) (i b o : ℕ) (stage : Stage) (m : Machine) (x : Instr) (input : List ℕ) → ends_outside (word_stepped role i b o stage m x input) ≡ false
word_inside Whole i b o stage m x input =
    inside (word_stepped Whole i b o stage m x input) (behind_inside (whole_made i m x input).machine.ending (i + 1) b (o + 1) i b o Start stage)
word_inside (Lead next) i b o stage m x input = inside (word_stepped (Lead next) i b o stage m x input) refl
word_inside Over i b o stage m x input =
    inside (word_stepped Over i b o stage m x input) (over_inside i b o (with_left m (executed x (4 * i) m.regs m.bus)) input (skips i (executed x (4 * i) m.regs m.bus).done))

left_ending : (t : Bool) (m : Machine) (d : ℕ) (input : List ℕ) → (left_made t m d input).machine.ending ≡ m.ending
left_ending true m d input = refl
left_ending false m d input = refl

jump_inside : (q : Bool) (v : ImageData) (new : Record) (s : Stepped) (input : List ℕ) (i b o : ℕ) (stage : Stage) (m : Machine) (rd return t : ℕ) → m.ending ≡ None → Jumps q v new s input (At i b o stage) m rd return t → ends_outside s ≡ false
jump_inside true v new s input i b o stage m rd return t running j = goes_on s m (ap (λ k. k.machine.ending) j.1) running
jump_inside false v new s input i b o stage m rd return t running j = inside s (ap (λ (k : Stepped). is_outside k.control) j)

-- at an exit
pub exit_inside : (k : ExitKind) (v : ImageData) (new : Record) (m : Machine) (s : Stepped) (input : List ℕ) (i b o : ℕ) (stage : Stage) → m.ending ≡ None → ExitHome v m b o stage → k ≡ exit_kind (word_at v b (o + 1)) → ExitStep k v new m s input i b o stage → ends_outside s ≡ false
exit_inside Direct v new m s input i b o stage running e is step =
    goes_on s m (ap (λ k. k.machine.ending) step.1 ∙ left_ending (is_fall v m b o stage) m (word_at v b (o + 1)) input) running
exit_inside Misaligned v new m s input i b o stage running e is step = inside s (ap (λ (k : Stepped). is_outside k.control) step)
exit_inside Trap v new m s input i b o stage running e is step = inside s (ap (λ (k : Stepped). is_outside k.control) step)
exit_inside Indirect v new m s input i b o stage running e is step =
    let x = e.jalr (sym is) in
    let j = subst (λ (q : Option Instr). JumpsBy q v new s input (At i b o stage) m (word_at v b (o + 2))) x.is step in
    jump_inside (address_of m.regs x.rs1 x.imm / 2 * 2 % 4 == 0) v new s input i b o stage m x.rd (word_at v b (o + 2)) (address_of m.regs x.rs1 x.imm / 2 * 2) running j
