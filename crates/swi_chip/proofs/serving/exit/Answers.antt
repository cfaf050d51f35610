use Rattle.std.proofs.Common.{arith, refl}
use Rattle.swi_chip.proofs.serving.exit.Goals as goal

pub returns-then-distance-chip-clause-served : goal.returns-then-distance-chip-clause-served
returns-then-distance-chip-clause-served c = ((λ lt. absurd (let ge = c.if-distance-chip.true in omega (arith, lt, ge))), (λ ge. (refl, refl)))

pub cross-requires : goal.cross-requires
cross-requires c = (let x = c.requires.can in record { can = record { some = x.some; exit = x.exit (let lt = c.if-distance-chip.false in omega (arith, lt)) } })

pub returns-clause-served : goal.returns-clause-served
returns-clause-served c = ((λ lt. c.cross.ensures.served), (λ ge. absurd (let lt = c.if-distance-chip.false in omega (arith, lt, ge))))
