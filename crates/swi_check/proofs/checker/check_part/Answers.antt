use Rattle.std.proofs.Common.{arith, ◌+◌, get_or, length, refl}
use Rattle.swi_image.specs.Place.{block_at}
use Rattle.swi_check.proofs.Words.{part_right, part_wrong}
use Rattle.swi_check.proofs.checker.check_part.Goals as goal

pub returns-then-held-required-clause-wrong : goal.returns-then-held-required-clause-wrong
returns-then-held-required-clause-wrong c = λ ss rr e s w.
    part_wrong ss rr (block_at c.args.view.now c.args.block) c.args.words.now c.args.from c.loop-j.j (c.args.from + c.loop-j.j) c.word-held.result (get_or c.args.words.now c.loop-j.j 0)
    e s w (omega arith) c.loop-j.invariant refl c.word-held.ensures (omega arith) refl c.if-held-required.true

pub returns-clause-right : goal.returns-clause-right
returns-clause-right c = λ ss rr e s w.
    part_right ss rr (block_at c.args.view.now c.args.block) c.args.words.now c.args.from c.loop-j.j (c.args.from + length c.args.words.now)
    e s w (omega arith) c.loop-j.invariant (omega arith)
