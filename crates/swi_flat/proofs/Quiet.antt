-- Runs that ask for no device, step by step.
use Rattle.std.proofs.Common.{◌≡◌, ℕ, ◌+◌, ◌-◌, ◌≤◌, false, is_some, List, arith}
use Rattle.std.proofs.lemmas.List.{append-nil}
use Rattle.swi_calls.specs.declared.machine.Machine.{Machine}
use Rattle.swi_calls.specs.State.{FlatState}
use Rattle.swi_calls.specs.Flat.{made, quiet, flat_step}
use Rattle.swi_calls.specs.Laws.{flat_run_none, flat_run_more}
use Rattle.swi_flat.specs.Advanced.{Advances}
use Rattle.swi_flat.specs.Laws.{flat_run_sum}

abbrev at : Machine → List ℕ → List ℕ → List ℕ → FlatState
at m input output error = record { machine = m; input = input; output = output; error = error }

pub advances_none : (m : Machine) → Advances m m
advances_none m input output error = grind (arith, flat_run_none (at m input output error))

pub advances_more : (first now next : Machine) → Advances first now → first.steps ≤ now.steps → next.steps ≡ now.steps + 1 → is_some now.ending ≡ false →
    ((input : List ℕ) → made now input ≡ quiet next input) → Advances first next
advances_more first now next h no_fewer counted going step input output error =
    let here : FlatState = at now input output error in
    grind (arith, append-nil output, append-nil error, h input output error, flat_run_sum (now.steps - first.steps) 1 (at first input output error), flat_run_more 0 here going, flat_run_none (flat_step here), step input)
