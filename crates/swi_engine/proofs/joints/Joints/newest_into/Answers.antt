use Rattle.swi_engine.proofs.Joining.{newest_call}
use Rattle.swi_engine.proofs.joints.Joints.newest_into.Goals as goal

pub returns : goal.returns
returns c = newest_call _ _ _ _ _ _ c.self.view_is c.self.invariant c.requires c.first_into.ensures.first
