-- The same outcome, by another answer's names.
use Rattle.std.proofs.Common.{◌≡◌, List, inl, inr, ℕ}
use Rattle.swi_outside.specs.Devices.{Devices}
use Rattle.swi_outcome.specs.Broken.{Coming, FailedAtStep, Names, StepFailed, Steps}

-- what is called so by the one is called so by the other
pub record AreNamed {R Q : Type 0} (names : Names R) (others : Names Q) (r : R) (q : Q) : Type 0 where
  pub source : r ≡ names.source → q ≡ others.source
  pub sink : r ≡ names.sink → q ≡ others.sink
  pub back : q ≡ others.source → r ≡ names.source

pub step_named : {R Q : Type 0} {names : Names R} {others : Names Q} {c : Coming} {before after : Devices} {r : R} {q : Q} {last : List ℕ} →
    AreNamed names others r q → StepFailed names c before after r last → StepFailed others c before after q last
step_named {R} {Q} {names} {others} {c} {before} {after} {r} {q} {last} n h = record {
  fault = elim h.fault [ inl s ↦ inl (n.source s) | inr s ↦ inr (n.sink s) ];
  going = h.going;
  output = h.output;
  error_front = h.error_front;
  error = h.error;
  source = λ e. h.source (n.back e);
  output_failed = h.output_failed;
  error_failed = h.error_failed;
  unasked = h.unasked;
  taken = h.taken;
  no_more = h.no_more;
  input = h.input;
}

pub named_so : {R Q : Type 0} {names : Names R} {others : Names Q} {run : Steps} {before after : Devices} {r : R} {q : Q} {last : List ℕ} →
    AreNamed names others r q → FailedAtStep names run before after r last → FailedAtStep others run before after q last
named_so n h = record { steps = h.steps; fewer = h.fewer; failed = step_named n h.failed }
