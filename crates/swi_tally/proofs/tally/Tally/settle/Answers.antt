use Rattle.std.proofs.Common.{length, arith, ap}
use Rattle.swi_ring.specs.Queue.{QueueData}
use Rattle.swi_tally.specs.Tally.{TallyData}
use Rattle.swi_tally.proofs.Queueing.{absent_short}
use Rattle.swi_tally.proofs.Marking.{settled_call}
use Rattle.swi_tally.proofs.tally.Tally.settle.Goals as goal

pub push-requires : goal.push-requires
push-requires c =
    omega (arith, absent_short c.args.self.now c.args.block c.requires.shape c.requires.block c.requires.absent, c.requires.shape.room_is, ap (λ (s : TallyData). length s.queue) c.self.view_is, ap (λ (s : TallyData). s.room) c.self.view_is)

pub returns-clause-marks : goal.returns-clause-marks
returns-clause-marks c n are =
    settled_call n c.args.cache c.args.block c.with.result _ c.args.self.now.queue _ c.args.placed.now are c.requires.marks c.requires.cache c.with.ensures
    (ap (λ (s : TallyData). s.queue) c.self.view_is) (ap (λ (q : QueueData). q.blocks) c.push.ensures)
