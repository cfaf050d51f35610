use Rattle.swi_tally.proofs.Grouping.{take_call}
use Rattle.swi_tally.proofs.groups.take.Goals as goal

pub returns-clause-drops : goal.returns-clause-drops
returns-clause-drops c = take_call _ _ _ _ c.requires.within c.without.ensures.sets
