use Rattle.std.proofs.Common.{◌≡◌, ◌≤◌, None, refl, inl, inr, arith, rules}
use Rattle.swi_outside.proofs.ToldLemmas.{as_told_stands}
use Rattle.swi_service_tests.proofs.cached.in_two_runs.Goals as goal

pub run-requires-clause-services : goal.run-requires-clause-services
run-requires-clause-services c = as_told_stands c.in-Ok.ensures.gave (λ i rest read.
    let few = ((c.in-Ok.ensures.in_steps i rest read).ended i refl).services in omega (arith, few, c.requires.limit))

pub run-requires-clause-fits : goal.run-requires-clause-fits
run-requires-clause-fits c = as_told_stands c.in-Ok.ensures.gave (λ i rest read. (c.in-Ok.ensures.in_steps i rest read).board.fits)

pub run-requires-clause-sound : goal.run-requires-clause-sound
run-requires-clause-sound c = as_told_stands c.in-Ok.ensures.gave (λ i rest read. (c.in-Ok.ensures.in_steps i rest read).board.sound)

pub run-requires-clause-unfailed : goal.run-requires-clause-unfailed
run-requires-clause-unfailed c = as_told_stands c.in-Ok.ensures.gave (λ i rest read. (c.in-Ok.ensures.in_steps i rest read).board.unfailed)

pub run-requires-clause-steps : goal.run-requires-clause-steps
run-requires-clause-steps c = as_told_stands c.in-Ok.ensures.gave (λ i rest read.
    let none : c.in-Ok.board.hart.machine.ending ≡ None = search rules in
    elim (c.in-Ok.ensures.in_steps i rest read).board.done [ inl at ↦ omega (arith, at, c.requires.limit) | inr ended ↦ let bad : ⊥ = cc in absurd bad ])

pub run-requires-clause-count : goal.run-requires-clause-count
run-requires-clause-count c = as_told_stands c.in-Ok.ensures.gave (λ i rest read.
    let few = (c.in-Ok.ensures.in_steps i rest read).board.count in
    let steps : c.in-Ok.board.hart.machine.steps ≤ 1000 = run-requires-clause-steps c in
    omega (arith, few, steps))
