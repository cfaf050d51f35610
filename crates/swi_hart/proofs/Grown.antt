-- What one machine step raises, for the hart.
use Rattle.std.proofs.Common.{◌≡◌, ℕ, ◌+◌, ◌≤◌, Bool, false, ◌&&◌, Option, Some, None, is_some, List, [], refl, sym, ap, subst, ◌∙◌, inl, inr, arith}
use Rattle.swi_isa.specs.declared.instr.Instr.{Instr}
use Rattle.swi_exec.specs.declared.done.FaultKind.{FaultKind}
use Rattle.swi_calls.specs.declared.end.End.TheVariants as end
use Rattle.swi_calls.specs.declared.machine.Machine.{Machine}
use Rattle.swi_calls.specs.Flat.{ends, ended}
use Rattle.swi_image.specs.Format.{ImageData}
use Rattle.swi_image.specs.Place.{word_at}
use Rattle.swi_rom.specs.Record.{Record, Transfer}
use Rattle.swi_hart.specs.declared.hart.Stage.{Stage}
use Rattle.swi_hart.specs.declared.hart.Stage.TheVariants.{Start}
use Rattle.swi_hart.specs.declared.hart.Role.{Role}
use Rattle.swi_hart.specs.declared.hart.Control.{Control}
use Rattle.swi_hart.specs.declared.hart.Control.TheVariants.{At, Outside}
use Rattle.swi_hart.specs.Hart.{HartData, word_stepped, call_stepped, role_of, original, exit_kind}
use Rattle.swi_hart.specs.Matching.{ExitStep}
use Rattle.swi_hart.specs.Calling.{WordWent, Called}
use Rattle.swi_hart.specs.Leaving.{ExitHome, WordHome, Counted, quick_role, step_to, moved}
use Rattle.swi_hart.proofs.Inside.{exit_inside, word_inside, behind_inside, no_and}
use Rattle.swi_hart.specs.Bounds.{is_outside, Grown, depth}
use Rattle.swi_hart.proofs.Growing.{Grows, exit_grows, word_grows, depth_start, most_one, calls_most}

pub moved_services : (policy : Record → ImageData → Transfer → Record) → ((r : Record) (v : ImageData) (t : Transfer) → (policy r v t).counts.services ≤ r.counts.services + 1) →
    (r new : Record) (v : ImageData) (o : Option Transfer) → new ≡ moved policy r v o → new.counts.services ≤ r.counts.services + 1
moved_services policy second r new v None is = let e = ap (λ (k : Record). k.counts.services) is in omega arith
moved_services policy second r new v (Some t) is = let e = ap (λ (k : Record). k.counts.services) is in let s = second r v t in omega arith

-- what no transfer lowers no step lowers
pub moved_rises : (measure : Record → ℕ) (policy : Record → ImageData → Transfer → Record) → ((r : Record) (v : ImageData) (t : Transfer) → measure r ≤ measure (policy r v t)) →
    (r new : Record) (v : ImageData) (o : Option Transfer) → new ≡ moved policy r v o → measure r ≤ measure new
moved_rises measure policy rises r new v None is = let e = ap (λ (k : Record). measure k) is in omega arith
moved_rises measure policy rises r new v (Some t) is = let e = ap (λ (k : Record). measure k) is in let s = rises r v t in omega arith

module _ (v : ImageData) (r new : Record) (h h' : HartData) (i b o : ℕ) (stage : Stage) (control : h.control ≡ At i b o stage) (running : None ≡ h.machine.ending) where
  grown_by : (n : ℕ) (m' : Machine) (c' : Control) → h'.machine ≡ m' → h'.control ≡ c' → h'.count ≡ h.count + 1 → h'.failed ≡ h.failed → h'.booted ≡ h.booted → (is_some h'.machine.ending && is_outside h'.control) ≡ false → new.counts.services ≤ r.counts.services + n → Grows v h.machine m' (At i b o stage) c' n → Grown v r new h h'
  grown_by n m' c' m_is c_is count failed booted ends le grows =
      let here : Grows v h.machine h'.machine h.control h'.control n =
      subst (λ (c : Control). Grows v h.machine h'.machine c h'.control n) (sym control)
      (subst (λ (m : Machine). Grows v h.machine m (At i b o stage) h'.control n) (sym m_is) (subst (λ (c : Control). Grows v h.machine m' (At i b o stage) c n) (sym c_is) grows)) in
      record { count = count; one = here.one; failed = failed; booted = booted; outside = ends ∙ sym (ap (λ (c : Control). is_outside c) control); most = here.most; calls = λ e. let k = here.calls e in omega arith }

  pub grown_exit : ExitHome v h.machine b o stage → ((input : List ℕ) → ExitStep (exit_kind (word_at v b (o + 1))) v new h.machine (step_to h' input) input i b o stage) → Counted h h' → new.counts.services ≤ r.counts.services + 1 → Grown v r new h h'
  grown_exit e step counts le =
      grown_by 1 h'.machine h'.control refl refl counts.count counts.failed counts.booted (exit_inside (exit_kind (word_at v b (o + 1))) v new h.machine (step_to h' []) [] i b o stage (sym running) e refl (step [])) le
      (exit_grows v h.machine i b o [] (sym running) stage (exit_kind (word_at v b (o + 1))) (step_to h' []) new e (step []))

  call_grows : Called i b o Start h h' → Grows v h.machine h'.machine (At i b o Start) h'.control 0
  call_grows went =
      let d = depth_start' in
      record {
        one = let s = went.steps in omega arith;
        most = let k = most_one h'.machine.ending v h'.machine h'.control in let s = went.steps in omega arith;
        calls = λ e. let k = calls_most (depth v h.machine (At i b o Start)) in let s = went.steps in omega arith;
      }
    where
      depth_start' : depth v h.machine (At i b o Start) ≤ 1
      depth_start' = depth_start _

  pub grown_word : (x : Instr) (role : Role) (left left' : Option (List ℕ)) → new ≡ r → ((w : WordHome v h.machine b o stage) × (w.instruction ≡ x)) → role ≡ quick_role stage x (original h.machine) →
      WordWent x (λ l. word_stepped role i b o stage h.machine x l) (λ l. call_stepped i b o stage h.machine l) i b o stage h h' left left' → Grown v r new h h'
  grown_word x role left left' same w by (inl plain) =
      let role_is : role ≡ role_of stage (original h.machine) = by ∙ (ap (λ (k : Instr). quick_role stage k (original h.machine)) (sym w.1) ∙ w.0.role) in
      let h_is = plain [] in
      grown_by 0 (word_stepped role i b o stage h.machine x []).made.machine (word_stepped role i b o stage h.machine x []).control
      (ap (λ (k : HartData). k.machine) h_is) (ap (λ (k : HartData). k.control) h_is) (ap (λ (k : HartData). k.count) h_is) (ap (λ (k : HartData). k.failed) h_is) (ap (λ (k : HartData). k.booted) h_is)
      (ap (λ (k : HartData). is_some k.machine.ending && is_outside k.control) h_is ∙ word_inside role i b o stage h.machine x [])
      (let e = ap (λ (k : Record). k.counts.services) same in omega arith)
      (word_grows v h.machine i b o [] (sym running) stage x (word_stepped role i b o stage h.machine x []) w.0 w.1 (ap (λ (k : Role). word_stepped k i b o stage h.machine x []) role_is))
  grown_word x role left left' same w by (inr call) =
      let goes = w.0.goes (w.1 ∙ call.0) in
      let went : Called i b o Start h h' = subst (λ (k : Stage). Called i b o k h h') goes.0 call.3 in
      grown_by 0 h'.machine h'.control refl refl went.count went.failed went.booted
      (ap (λ (c : Control). is_some h'.machine.ending && is_outside c) went.control ∙ (ap (λ (t : Bool). is_some h'.machine.ending && t) (behind_inside h'.machine.ending (i + 1) b (o + 1) i b o Start Start) ∙ no_and (is_some h'.machine.ending))) (let e = ap (λ (k : Record). k.counts.services) same in omega arith)
      (subst (λ (k : Stage). Grows v h.machine h'.machine (At i b o k) h'.control 0) (sym goes.0) (call_grows went))

-- outside the text
pub grown_outside : (v : ImageData) (r new : Record) (h h' : HartData) (k : FaultKind) (a : ℕ) → h.control ≡ Outside → new ≡ r → h' ≡ record h { machine = ended h.machine (end.Faulted k a); count = h.count + 1 } → Grown v r new h h'
grown_outside v r new h h' k a control same is =
    rw is (record { count = refl; one = omega arith; failed = refl; booted = refl; outside = refl; most = rw control (omega arith); calls = λ e. cc })
