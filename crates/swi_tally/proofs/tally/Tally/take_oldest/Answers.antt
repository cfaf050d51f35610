use Rattle.std.proofs.Common.{length, arith, ap, sym, ◌∙◌}
use Rattle.swi_tally.specs.Tally.{TallyData}
use Rattle.swi_tally.proofs.Queueing.{oldest_known}
use Rattle.swi_tally.proofs.tally.Tally.take_oldest.Goals as goal

pub index_mut-requires : goal.index_mut-requires
index_mut-requires c =
    omega (arith, oldest_known c.args.self.now c.pop-block.result _ c.requires.shape (sym (ap (λ (s : TallyData). s.queue) c.self.view_is) ∙ c.pop-block.ensures.blocks), ap (λ (s : TallyData). length s.homes) c.self.view_is)
