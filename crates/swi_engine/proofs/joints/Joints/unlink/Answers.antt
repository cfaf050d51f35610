use Rattle.swi_engine.proofs.Joining.{unlinked_tied, unlinked_call}
use Rattle.swi_engine.proofs.joints.Joints.unlink.Goals as goal

pub invariant_of-self : goal.invariant_of-self
invariant_of-self c = unlinked_tied _ _ _ _ _ c.args.at c.self.invariant c.drop_word.ensures c.drop_word-2.ensures

pub returns : goal.returns
returns c = unlinked_call _ _ _ _ _ _ c.args.at c.self.view_is c.self.invariant c.drop_word.ensures c.drop_word-2.ensures
