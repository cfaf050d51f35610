use Rattle.std.proofs.Common.{length, replicate, ap, ◌∙◌}
use Rattle.swi_micro.specs.declared.translator.MicroOp.{MicroOp}
use Rattle.swi_micro.proofs.Forgetting.{all_forgotten}
use Rattle.swi_micro.proofs.decoded.forget_all.Goals as goal

pub returns : goal.returns
returns c = λ old new range h.
    let all = c.fill.ensures.after (λ y same. same) ∙ ap (λ (m : MicroOp). replicate (length c.args.ops.now) m) c.stop.ensures in
    all_forgotten old new range c.args.ops.now c.fill.new.self all h
