use Rattle.std.proofs.Common.{ap}
use Rattle.swi_engine.specs.Joints.{JointsData}
use Rattle.swi_engine.proofs.Joining.{undone_view}
use Rattle.swi_engine.proofs.engine.EngineRom.undo.Goals as goal

pub returns-clause-data : goal.returns-clause-data
returns-clause-data g c = λ k l. undone_view _ _ k c.args.at _ c.self.view_is (ap (λ (d : JointsData). d.joints) c.unlink.ensures) c.requires.apart l
