use Rattle.std.proofs.Common.{get_or, ap, ◌∙◌}
use Rattle.swi_micro.specs.declared.class.Class.{Class}
use Rattle.swi_flat.specs.Coasted.{is_taken_by}
use Rattle.swi_flat.proofs.Coasting.{StepsBy, steps_on}
use Rattle.swi_flat.proofs.coast.step_on.Goals as goal

steps : (c : goal.In-Some) → StepsBy c.args.range.now c.args.k (get_or c.args.ops.now c.args.k c.index-ops-k.result) c.args.regs.now c.args.bus.now c.in-Some.next c.step_as.new.regs c.step_as.new.bus
steps c =
    let ops = c.args.ops.now in
    steps_on c.args.range.now c.args.k (get_or ops c.args.k c.index-ops-k.result) c.args.regs.now c.step_as.new.regs c.args.bus.now c.step_as.new.bus c.in-Some.next ops c.class-class.result c.step_as.result
    c.requires.decoded c.requires.within (ap (get_or ops c.args.k) c.index-ops-k.is) c.class-class.ensures c.step_as.ensures.next c.in-Some.is c.step_as.ensures.regs c.step_as.ensures.bus

pub returns-in-Some-clause-step : goal.returns-in-Some-clause-step
returns-in-Some-clause-step c =
    let s = steps c in
    (s.instruction, s.step, c.is_taken-taken.ensures ∙ ap (λ (q : Class). is_taken_by q (get_or c.args.ops.now c.args.k c.index-ops-k.result) c.args.regs.now) c.class-class.ensures ∙ s.taken)
