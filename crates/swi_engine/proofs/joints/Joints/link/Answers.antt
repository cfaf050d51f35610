use Rattle.std.proofs.Common.{arith, ap}
use Rattle.swi_engine.specs.Joints.{JointsData}
use Rattle.swi_engine.proofs.Joining.{free_order, free_into, linked_tied, linked_call}
use Rattle.swi_engine.proofs.joints.Joints.link.Goals as goal

pub link-requires-clause-at : goal.link-requires-clause-at
link-requires-clause-at c = omega (arith, c.requires.at, c.self.invariant.order_words, ap (λ (d : JointsData). d.words) c.self.view_is)

pub link-requires-clause-free : goal.link-requires-clause-free
link-requires-clause-free c = free_order _ _ _ _ _ c.self.view_is c.self.invariant c.requires.free

pub enter-requires-clause-free : goal.enter-requires-clause-free
enter-requires-clause-free c = free_into _ _ _ _ _ c.self.view_is c.self.invariant c.requires.free

pub invariant_of-self : goal.invariant_of-self
invariant_of-self c =
    linked_tied _ _ _ _ _ c.args.joint c.self.invariant (free_order _ _ _ _ _ c.self.view_is c.self.invariant c.requires.free) (omega (arith, c.requires.at, ap (λ (d : JointsData). d.words) c.self.view_is)) c.link.ensures c.enter.ensures

pub returns : goal.returns
returns c =
    linked_call _ _ _ _ _ _ c.args.joint c.self.view_is c.self.invariant (free_order _ _ _ _ _ c.self.view_is c.self.invariant c.requires.free) (omega (arith, c.requires.at, ap (λ (d : JointsData). d.words) c.self.view_is)) c.link.ensures c.enter.ensures
