use Rattle.std.proofs.Common.{arith, ap}
use Rattle.swi_engine.specs.Joints.{JointsData}
use Rattle.swi_engine.proofs.Joining.{all_start, all_next}
use Rattle.swi_engine.proofs.joints.Joints.unlink_all.Goals as goal

pub loop-at-init : goal.loop-at-init
loop-at-init c = all_start _ _

pub unlink-requires : goal.unlink-requires
unlink-requires c = omega (arith, c.requires.within, ap (λ (d : JointsData). d.words) c.loop-at.invariant.1)

pub loop-at-preserved : goal.loop-at-preserved
loop-at-preserved c = all_next _ _ _ _ _ c.loop-at.invariant c.unlink.ensures
