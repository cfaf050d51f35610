use Rattle.swi_engine.proofs.Joining.{dropped_free}
use Rattle.swi_engine.proofs.joints.drop_word.Goals as goal

pub returns-in-None : goal.returns-in-None
returns-in-None c = dropped_free _ _ c.in-None.ensures.cases
