use Rattle.swi_engine.proofs.Joining.{empty_is, empty_tied}
use Rattle.swi_engine.proofs.joints.Joints.new.Goals as goal

pub invariant_of-result : goal.invariant_of-result
invariant_of-result c = empty_tied _ _ _ _ _ c.in_ok-table.ensures c.in_ok-order.ensures c.in_ok-into.ensures

pub returns : goal.returns
returns c = empty_is _ _ _ _ _ c.in_ok-table.ensures c.in_ok-order.ensures c.in_ok-into.ensures
