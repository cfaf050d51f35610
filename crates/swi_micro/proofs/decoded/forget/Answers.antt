use Rattle.swi_micro.proofs.Forgetting.{four_forgotten}
use Rattle.swi_micro.proofs.decoded.forget.Goals as goal

pub returns : goal.returns
returns c = λ old new same h. rw (c.forget_at-2.ensures, c.forget_at.ensures) (four_forgotten old new c.args.range.now c.args.ops.now c.args.a same h)
