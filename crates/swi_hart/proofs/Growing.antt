-- Each machine step raises the bound of machine steps.
use Rattle.std.proofs.Common.{◌≡◌, ◌⊎◌, ◌==◌, if◌then◌else◌, ℕ, zero, suc, ◌+◌, ◌*◌, ◌/◌, ◌%◌, ◌≤◌, Bool, true, false, not, Option, Some, None, List, refl, sym, ap, subst, ◌∙◌, inl, inr, arith}
use Rattle.std.proofs.lemmas.Bool.{false≢true}
use Rattle.swi_isa.specs.declared.instr.Instr.{Instr}
use Rattle.swi_isa.specs.declared.instr.Instr.TheVariants as instr
use Rattle.swi_isa.specs.Decode.{decoded}
use Rattle.swi_exec.specs.Execute.{Effect, executed, address_of}
use Rattle.swi_exec.specs.Arithmetic.{sum_of}
use Rattle.swi_exec.specs.declared.done.Done.{Done}
use Rattle.swi_exec.specs.declared.done.Done.TheVariants as done
use Rattle.swi_exec.specs.declared.done.FaultKind.{FaultKind}
use Rattle.swi_calls.specs.declared.end.End.{End}
use Rattle.swi_calls.specs.declared.end.End.TheVariants as end
use Rattle.swi_calls.specs.declared.machine.Machine.{Machine}
use Rattle.swi_calls.specs.Call.{CallEffect, called}
use Rattle.swi_calls.specs.StoresText.{text_store_of}
use Rattle.swi_calls.specs.Flat.{Made, ends, after, past_call, with_call, with_effect}
use Rattle.swi_image.specs.Format.{ImageData}
use Rattle.swi_image.specs.Place.{place_of, word_at}
use Rattle.swi_rom.specs.Record.{Record}
use Rattle.swi_hart.specs.declared.hart.Stage.{Stage}
use Rattle.swi_hart.specs.declared.hart.Stage.TheVariants.{Start, Low, Return, Leave}
use Rattle.swi_hart.specs.declared.hart.Control.{Control}
use Rattle.swi_hart.specs.declared.hart.Control.TheVariants.{At, Outside}
use Rattle.swi_hart.specs.declared.hart.Role.{Role}
use Rattle.swi_hart.specs.declared.hart.Role.TheVariants.{Lead, Whole, Over}
use Rattle.swi_hart.specs.declared.hart.ExitKind.{ExitKind}
use Rattle.swi_hart.specs.declared.hart.ExitKind.TheVariants.{Direct, Misaligned, Trap, Indirect}
use Rattle.swi_calls.specs.Held.{held}
use Rattle.swi_hart.specs.Hart.{Stepped, next_at, at_pc, whole_made, word_stepped, over_by, skips, with_left, role_of, first_role, original, is_fall, is_place, left_made}
use Rattle.swi_hart.specs.Matching.{Arrives, Jumps, JumpsBy, ExitStep}
use Rattle.swi_hart.specs.Leaving.{ExitHome, WordHome}
use Rattle.swi_hart.specs.Bounds.{depth, most_by, calls_by}
use Rattle.swi_hart.proofs.Stepping.{same_place}

pub depth_start : (t : Bool) → (if t then 0 else 1) ≤ 1
depth_start true = omega arith
depth_start false = omega arith

pub depth_most : (v : ImageData) (m : Machine) (c : Control) → depth v m c ≤ 3
depth_most v m (At i b o Start) = let d = depth_start (is_fall v m b o Start) in omega arith
depth_most v m (At i b o Low) = omega arith
depth_most v m (At i b o Return) = omega arith
depth_most v m (At i b o Leave) = omega arith
depth_most v m Outside = omega arith

-- where control has arrived
depth_arrived : (v : ImageData) (r : Record) (m : Machine) (t : ℕ) (c : Control) → m.pc ≡ t → Arrives v r t c → depth v m c ≡ 1
depth_arrived v r m t (At i b o Start) is at =
    let here : is_place (place_of v m.pc) b o ≡ true = ap (λ n. is_place (place_of v n) b o) is ∙ ap (λ (p : Option (ℕ × ℕ)). is_place p b o) at.1 ∙ same_place b o in
    ap (λ (t : Bool). if not t then 0 else 1) here
depth_arrived v r m t (At i b o Low) is at = absurd at
depth_arrived v r m t (At i b o Return) is at = absurd at
depth_arrived v r m t (At i b o Leave) is at = absurd at
depth_arrived v r m t Outside is at = refl

-- a run that ended with a step
ended_most : (e : Option End) (v : ImageData) (m : Machine) (c : Control) (k : FaultKind) (a : ℕ) → most_by (Some (end.Faulted k a)) v m c ≡ 3 * m.steps + 1
ended_most e v m c k a = refl

pub most_one : (e : Option End) (v : ImageData) (m : Machine) (c : Control) → 3 * m.steps ≤ most_by e v m c
most_one None v m c = omega arith
most_one (Some (end.Exited code)) v m c = omega arith
most_one (Some (end.Faulted k a)) v m c = omega arith
most_one (Some (end.StoreText a)) v m c = omega arith

-- a whole instruction makes a step, or stops before a store into the text
record OneStep (m m' : Machine) : Type 0 where
  made : (m'.steps ≡ m.steps + 1) ⊎ ((a : ℕ) × (m'.ending ≡ Some (end.StoreText a)) × (m'.steps ≡ m.steps))

past_one : (m : Machine) (c : CallEffect) (x : Option ℕ) → (past_call (with_call m c) x).steps ≡ m.steps + 1
past_one m c None = refl
past_one m c (Some code) = refl

pub after_one : (m : Machine) (d : Done) (input : List ℕ) → (after m d input).machine.steps ≡ m.steps + 1
after_one m (done.Next p) input = refl
after_one m done.Call input = past_one m (called m.log m.regs m.bus m.heap input) (called m.log m.regs m.bus m.heap input).exited
after_one m done.Break input = refl
after_one m (done.Fault k a) input = refl

pub held_one : (m : Machine) (a : Option ℕ) (M : Made) (input : List ℕ) → M.machine.steps ≡ m.steps + 1 → ((held m a M input).machine.steps ≡ m.steps + 1) ⊎ ((a : ℕ) × ((held m (Some a) M input).machine.ending ≡ Some (end.StoreText a)) × ((held m (Some a) M input).machine.steps ≡ m.steps))
held_one m None M input e = inl e
held_one m (Some a) M input e = inr (a, refl, refl)

whole_grows : (e : Option End) (a : Option ℕ) (v : ImageData) (m : Machine) (M : Made) (input : List ℕ) (c : Control) (d : ℕ) → d ≤ 2 → M.machine.steps ≡ m.steps + 1 → (a ≡ None → ⊥) ⊎ (a ≡ None) → (d ≤ 1) ⊎ (a ≡ None) → e ≡ (held m a M input).machine.ending →
    3 * m.steps + d + 1 ≤ most_by e v (held m a M input).machine c
whole_grows e None v m M input c d le steps x y is = let k = most_one e v M.machine c in omega (arith, steps)
whole_grows e (Some a) v m M input c d le steps x (inl one) is = subst (λ (q : Option End). 3 * m.steps + d + 1 ≤ most_by q v (record m { ending = Some (end.StoreText a) }) c) (sym is) (omega arith)
whole_grows e (Some a) v m M input c d le steps x (inr none) is = cc

store_low : (x : Instr) (m : Machine) → (text_store_of x m.regs m.bus ≡ None → ⊥) ⊎ (text_store_of x m.regs m.bus ≡ None)
store_low x m = by (text_store_of x m.regs m.bus)
  where
    by : (a : Option ℕ) → (a ≡ None → ⊥) ⊎ (a ≡ None)
    by None = inr refl
    by (Some a) = inl (λ e. cc)

roles : (x : Option Instr) → ((first_role x ≡ Whole) ⊎ (first_role x ≡ Over)) ⊎ ((first_role x ≡ Lead Low) ⊎ (first_role x ≡ Lead Return))
roles (Some (instr.Auipc rd imm)) = inr (inl refl)
roles (Some (instr.Jal rd off)) = inr (inr refl)
roles (Some (instr.Branch op rs1 rs2 off)) = inl (inr refl)
roles x = inl (inl refl)

-- what one step of the board raises: the bound of machine steps by one, and that of the services where it served
pub record Grows (v : ImageData) (m m' : Machine) (c c' : Control) (served : ℕ) : Type 0 where
  pub one : m'.steps ≤ m.steps + 1
  pub most : 3 * m.steps + depth v m c + 1 ≤ most_by m'.ending v m' c'
  pub calls : m'.ending ≡ None → 2 * m.steps + calls_by (depth v m c) + served ≤ 2 * m'.steps + calls_by (depth v m' c')

pub calls_most : (n : ℕ) → calls_by n ≤ 1
calls_most zero = omega arith
calls_most (suc n) = omega arith

module _ (v : ImageData) (m : Machine) (i b o : ℕ) (input : List ℕ) (running : m.ending ≡ None) where
  whole_case : (stage : Stage) (x : Instr) → depth v m (At i b o stage) ≤ 2 → (depth v m (At i b o stage) ≤ 1) ⊎ (text_store_of x m.regs m.bus ≡ None) → (c : Control) →
      Grows v m (whole_made i m x input).machine (At i b o stage) c 0
  whole_case stage x le low c =
      let e : Effect = executed x (4 * i) m.regs m.bus in
      let M : Made = with_effect m (at_pc (sum_of m.pc 4) e) input in
      let steps : M.machine.steps ≡ m.steps + 1 = after_one (record m { regs = e.regs; bus = e.bus }) (next_at (sum_of m.pc 4) e.done) input in
      record {
        one = held_least (text_store_of x m.regs m.bus) M steps;
        most = whole_grows (whole_made i m x input).machine.ending (text_store_of x m.regs m.bus) v m M input c (depth v m (At i b o stage)) le steps (store_low x m) low refl;
        calls = held_calls (text_store_of x m.regs m.bus) M steps;
      }
    where
      held_least : (a : Option ℕ) (M : Made) → M.machine.steps ≡ m.steps + 1 → (held m a M input).machine.steps ≤ m.steps + 1
      held_least None M steps = omega (arith, steps)
      held_least (Some a) M steps = omega arith

      held_calls : (a : Option ℕ) (M : Made) → M.machine.steps ≡ m.steps + 1 → (held m a M input).machine.ending ≡ None →
          2 * m.steps + calls_by (depth v m (At i b o stage)) + 0 ≤ 2 * (held m a M input).machine.steps + calls_by (depth v (held m a M input).machine c)
      held_calls None M steps on = let k = calls_most (depth v m (At i b o stage)) in omega (arith, steps)
      held_calls (Some a) M steps on = cc

  running_most : (m' : Machine) (c : Control) (n : ℕ) → m'.ending ≡ None → n ≤ 3 * m'.steps + depth v m' c → n ≤ most_by m'.ending v m' c
  running_most m' c n on le = subst (λ (e : Option End). n ≤ most_by e v m' c) (sym on) le

  lead_case : (stage next : Stage) (m' : Machine) (i' b' o' : ℕ) → m'.ending ≡ None → m'.steps ≡ m.steps → depth v m (At i b o stage) + 1 ≤ depth v m' (At i' b' o' next) → Grows v m m' (At i b o stage) (At i' b' o' next) 0
  lead_case stage next m' i' b' o' on steps deeper = record {
    one = omega (arith, steps);
    most = running_most m' (At i' b' o' next) (3 * m.steps + depth v m (At i b o stage) + 1) on (omega arith);
    calls = λ e. calls_deeper (depth v m (At i b o stage)) (depth v m' (At i' b' o' next)) deeper;
  }
    where
      calls_deeper : (p q : ℕ) → p + 1 ≤ q → 2 * m.steps + calls_by p + 0 ≤ 2 * m'.steps + calls_by q
      calls_deeper p zero le = absurd (omega arith)
      calls_deeper p (suc q) le = let k = calls_most p in omega arith

  made_case : (stage : Stage) (m' : Machine) (c' : Control) → m'.ending ≡ None → m'.steps ≡ m.steps + 1 → depth v m (At i b o stage) ≤ 2 → Grows v m m' (At i b o stage) c' 0
  made_case stage m' c' on steps le = record {
    one = omega (arith, steps);
    most = running_most m' c' (3 * m.steps + depth v m (At i b o stage) + 1) on (omega arith);
    calls = λ e. let k = calls_most (depth v m (At i b o stage)) in omega arith;
  }

  over_case : (x : Instr) (t : Bool) (s : Stepped) → s ≡ over_by i b o (with_left m (executed x (4 * i) m.regs m.bus)) input t → Grows v m s.made.machine (At i b o Start) s.control 0
  over_case x true s is =
      let d = depth_start (is_fall v m b o Start) in
      rw is (made_case Start (record m { pc = sum_of m.pc 4; steps = m.steps + 1; regs = (executed x (4 * i) m.regs m.bus).regs; bus = (executed x (4 * i) m.regs m.bus).bus }) (At (i + 3) b (o + 3) Start) running refl (omega arith))
  over_case x false s is =
      let d = depth_start (is_fall v m b o Start) in
      rw is (lead_case Start Leave (with_left m (executed x (4 * i) m.regs m.bus)) (i + 1) b (o + 1) running refl (omega arith))

  -- a word that is no exit
  pub word_grows : (stage : Stage) (x : Instr) (s : Stepped) → (w : WordHome v m b o stage) → w.instruction ≡ x → s ≡ word_stepped (role_of stage (original m)) i b o stage m x input → Grows v m s.made.machine (At i b o stage) s.control 0
  word_grows Start x s w same is =
      let d = depth_start (is_fall v m b o Start) in
      elim (roles (original m)) [
        | inl k ↦ elim k [
          | inl whole ↦ rw (is ∙ ap (λ (r : Role). word_stepped r i b o Start m x input) whole) (whole_case Start x (omega arith) (inl (omega arith)) _)
          | inr over ↦ over_case x (skips i (executed x (4 * i) m.regs m.bus).done) s (is ∙ ap (λ (r : Role). word_stepped r i b o Start m x input) over)
        ]
        | inr k ↦ elim k [
          | inl low ↦ rw (is ∙ ap (λ (r : Role). word_stepped r i b o Start m x input) low) (lead_case Start Low (with_left m (executed x (4 * i) m.regs m.bus)) (i + 1) b (o + 1) running refl (omega arith))
          | inr return ↦ rw (is ∙ ap (λ (r : Role). word_stepped r i b o Start m x input) return) (lead_case Start Return (with_left m (executed x (4 * i) m.regs m.bus)) (i + 1) b (o + 1) running refl (omega arith))
        ]
      ]
  word_grows Low x s w same is = rw is (whole_case Low x (omega arith) (inr (ap (λ (k : Instr). text_store_of k m.regs m.bus) (sym same) ∙ w.low refl)) _)
  word_grows Return x s w same is = rw is (lead_case Return Leave (with_left m (executed x (4 * i) m.regs m.bus)) (i + 1) b (o + 1) running refl (omega arith))
  word_grows Leave x s w same is = absurd (w.no_exit refl)

  fault_case : (stage : Stage) (k : FaultKind) (a : ℕ) (c' : Control) (n : ℕ) → Grows v m (ends m (end.Faulted k a) input).machine (At i b o stage) c' n
  fault_case stage k a c' n = record {
    one = omega arith;
    most = let d = depth_most v m (At i b o stage) in omega arith;
    calls = λ e. cc;
  }

  -- control has gone to another address by a step
  went_case : (stage : Stage) (m' : Machine) (c' : Control) (r : Record) → m'.ending ≡ None → m'.steps ≡ m.steps + 1 → Arrives v r m'.pc c' → Grows v m m' (At i b o stage) c' 1
  went_case stage m' c' r on steps at =
      let d = depth_most v m (At i b o stage) in
      let there = depth_arrived v r m' m'.pc c' refl at in
      record {
        one = omega (arith, steps);
        most = running_most m' c' (3 * m.steps + depth v m (At i b o stage) + 1) on (omega arith);
        calls = λ e. let k = calls_most (depth v m (At i b o stage)) in let one : calls_by (depth v m' c') ≡ 1 = ap calls_by there in omega arith;
      }

  direct_case : (stage : Stage) (s : Stepped) (new : Record) (t : ℕ) (f : Bool) → f ≡ is_fall v m b o stage → (f ≡ true → t ≡ m.pc) → Arrives v new t s.control → s.made ≡ left_made f m t input → Grows v m s.made.machine (At i b o stage) s.control 1
  direct_case Start s new t true e falls at is =
      let there = depth_arrived v new m t s.control (sym (falls refl)) at in
      let none : depth v m (At i b o Start) ≡ 0 = ap (λ (k : Bool). if k then 0 else 1) (sym e) in
      rw is (record {
        one = omega arith;
        most = running_most m s.control (3 * m.steps + depth v m (At i b o Start) + 1) running (omega arith);
        calls = λ q. let one : calls_by (depth v m s.control) ≡ 1 = ap calls_by there in let zero_is : calls_by (depth v m (At i b o Start)) ≡ 0 = ap calls_by none in omega arith;
      })
  direct_case Low s new t true e falls at is = absurd (false≢true (sym e))
  direct_case Return s new t true e falls at is = absurd (false≢true (sym e))
  direct_case Leave s new t true e falls at is = absurd (false≢true (sym e))
  direct_case stage s new t false e falls at is = rw is (went_case stage (record m { pc = t; steps = m.steps + 1 }) s.control new running refl at)

  jump_case : (stage : Stage) (s : Stepped) (new : Record) (x : Option Instr) (return : ℕ) → JumpsBy x v new s input (At i b o stage) m return → Grows v m s.made.machine (At i b o stage) s.control 1
  jump_case stage s new (Some (instr.Jalr rd rs1 imm)) return j = by (address_of m.regs rs1 imm / 2 * 2 % 4 == 0) j
    where
      by : (q : Bool) → Jumps q v new s input (At i b o stage) m rd return (address_of m.regs rs1 imm / 2 * 2) → Grows v m s.made.machine (At i b o stage) s.control 1
      by true j = rw j.1 (went_case stage _ s.control new running refl j.0)
      by false j = rw j (fault_case stage _ (address_of m.regs rs1 imm / 2 * 2) (At i b o stage) 1)
  jump_case stage s new x return j = absurd j

  -- an exit
  pub exit_grows : (stage : Stage) (k : ExitKind) (s : Stepped) (new : Record) → ExitHome v m b o stage → ExitStep k v new m s input i b o stage → Grows v m s.made.machine (At i b o stage) s.control 1
  exit_grows stage Direct s new e step = direct_case stage s new (word_at v b (o + 1)) (is_fall v m b o stage) refl e.falls step.0 step.1
  exit_grows stage Misaligned s new e step = rw step (fault_case stage _ (word_at v b (o + 1)) (At i b o stage) 1)
  exit_grows stage Trap s new e step = rw step (fault_case stage _ m.pc (At i b o stage) 1)
  exit_grows stage Indirect s new e step = jump_case stage s new (decoded (word_at v b (o + 1))) (word_at v b (o + 2)) step
