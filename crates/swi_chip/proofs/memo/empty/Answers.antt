use Rattle.std.proofs.Common.{arith}
use Rattle.swi_chip.proofs.Emptying.{emptied}
use Rattle.swi_chip.proofs.memo.empty.Goals as goal

pub returns : goal.returns
returns c = (let i = c.loop-e.invariant in emptied c.loop-e.memo i.0 (λ j lt. i.1 j (let e = c.loop-e.auto.e-end in let t = c.loop-e-test.false in omega (arith, lt, e, t))))
