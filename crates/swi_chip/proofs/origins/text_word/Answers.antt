use Rattle.std.proofs.Common.{arith, sym}
use Rattle.swi_chip.proofs.Stands.{halved, halving_right, middle_inside}
use Rattle.swi_chip.proofs.origins.text_word.Goals as goal

pub returns-clause-word : goal.returns-clause-word
returns-clause-word c = λ v t. sym (halved t c.args.block c.args.offset c.requires.block c.loop-low.low c.loop-low.high (c.loop-low.invariant v t) c.loop-low-test.false).0

pub returns-clause-few : goal.returns-clause-few
returns-clause-few c = (let x = c.requires.some in (halved x.1 c.args.block c.args.offset c.requires.block c.loop-low.low c.loop-low.high (c.loop-low.invariant x.0 x.1) c.loop-low-test.false).1)

pub bounds-places-middle : goal.bounds-places-middle
bounds-places-middle c = (let x = c.requires.some in middle_inside x.1 c.args.block c.args.offset c.requires.block c.loop-low.low c.loop-low.high _ (c.loop-low.invariant x.0 x.1) (let t = c.loop-low-test.true in omega (arith, t)))

pub loop-low-preserved-then-places-middle : goal.loop-low-preserved-then-places-middle
loop-low-preserved-then-places-middle c = λ v t. halving_right t c.args.block c.args.offset c.requires.block c.loop-low.low c.loop-low.high _ (c.loop-low.invariant v t) (omega arith) (let lt = c.loop-low-test.true in omega (arith, lt)) c.if-places-middle.true
