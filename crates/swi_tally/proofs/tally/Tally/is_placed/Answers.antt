use Rattle.std.proofs.Common.{ap}
use Rattle.swi_tally.specs.Tally.{TallyData}
use Rattle.swi_tally.proofs.Queueing.{placed_call}
use Rattle.swi_tally.proofs.tally.Tally.is_placed.Goals as goal

pub returns : goal.returns
returns c = placed_call c.args.self.now _ c.args.block _ c.requires.shape c.requires.block (ap (λ (s : TallyData). s.homes) c.self.view_is) c.index.ensures
