-- Laws of runs of the flat machine: a run goes on where another stopped, and what is written stays at the front.
use Rattle.std.proofs.Common.{◌≡◌, ℕ, zero, suc, ◌+◌, ◌-◌, ◌<◌, ◌≤◌, false, is_some, Option, None, List, [], ◌++◌, refl, sym, ap, ◌∙◌, inl, inr, append_assoc, arith}
use Rattle.std.proofs.lemmas.Bool.{cases_Bool}
use Rattle.std.proofs.lemmas.List.{append-nil}
use Rattle.swi_calls.specs.declared.end.End.{End}
use Rattle.swi_calls.specs.declared.machine.Machine.{Machine}
use Rattle.swi_calls.specs.State.{FlatState}
use Rattle.swi_calls.specs.Flat.{Made, made, flat_step, flat_run, started}
use Rattle.swi_calls.specs.Laws.{flat_run_none, flat_run_over, flat_run_more}
use Rattle.swi_flat.specs.FlatData.{state_at, next_made}

-- a run of a steps and then b
pub flat_run_sum : (a b : ℕ) (s : FlatState) → flat_run (a + b) s ≡ flat_run b (flat_run a s)
flat_run_sum zero b s = let none : zero + b ≡ b = omega arith in rw (none, flat_run_none s) refl
flat_run_sum (suc a) b s =
    let more : suc a + b ≡ suc (a + b) = omega arith in
    elim (cases_Bool (is_some s.machine.ending)) [
      | inl over ↦ rw (flat_run_over (suc a) s over, flat_run_over b s over, flat_run_over (suc a + b) s over) refl
      | inr going ↦ rw (more, flat_run_more a s going, flat_run_more (a + b) s going) (flat_run_sum a b (flat_step s))
    ]

-- what a run from a state has written is what stood there, and more behind it
pub record GoesOn (output error : List ℕ) (after : FlatState) : Type 0 where
  pub more_output : List ℕ
  pub more_error : List ℕ
  pub output_is : after.output ≡ output ++ more_output
  pub error_is : after.error ≡ error ++ more_error

stays : (s after : FlatState) → after ≡ s → GoesOn s.output s.error after
stays s after is = record {
  more_output = [];
  more_error = [];
  output_is = ap (λ (q : FlatState). q.output) is ∙ sym (append-nil s.output);
  error_is = ap (λ (q : FlatState). q.error) is ∙ sym (append-nil s.error);
}

behind : (s after : FlatState) (step : Made) → GoesOn (s.output ++ step.output) (s.error ++ step.error) after → GoesOn s.output s.error after
behind s after step h = record {
  more_output = step.output ++ h.more_output;
  more_error = step.error ++ h.more_error;
  output_is = h.output_is ∙ append_assoc s.output step.output h.more_output;
  error_is = h.error_is ∙ append_assoc s.error step.error h.more_error;
}

pub run_goes_on : (n : ℕ) (s : FlatState) → GoesOn s.output s.error (flat_run n s)
run_goes_on zero s = stays s (flat_run zero s) (flat_run_none s)
run_goes_on (suc n) s =
    elim (cases_Bool (is_some s.machine.ending)) [
      | inl over ↦ stays s (flat_run (suc n) s) (flat_run_over (suc n) s over)
      | inr going ↦ behind s (flat_run (suc n) s) (made s.machine s.input) (rw (flat_run_more n s going) (run_goes_on n (flat_step s)))
    ]

-- where the steps made are fewer than the limit and the run has not ended, what they and the next step write stands at the front of
-- what the run to the limit writes
pub next_goes_on : (steps limit : ℕ) (first : Machine) (left : List ℕ) → first.steps ≤ steps → steps < limit →
    (state_at steps first left).machine.ending ≡ None →
    GoesOn ((state_at steps first left).output ++ (next_made (state_at steps first left)).output)
    ((state_at steps first left).error ++ (next_made (state_at steps first left)).error) (flat_run (limit - first.steps) (started first left))
next_goes_on steps limit first left made_some fewer open_end =
    let here : FlatState = state_at steps first left in
    let going : is_some here.machine.ending ≡ false = ap (λ (e : Option End). is_some e) open_end in
    let split : limit - first.steps ≡ (steps - first.steps) + suc (limit - steps - 1) = omega arith in
    rw (split, flat_run_sum (steps - first.steps) (suc (limit - steps - 1)) (started first left), flat_run_more (limit - steps - 1) here going)
    (run_goes_on (limit - steps - 1) (flat_step here))
