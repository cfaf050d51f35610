use Rattle.swi_tally.proofs.Crossing.{entered}
use Rattle.swi_tally.proofs.tally.Tally.enter.Goals as goal

pub returns-clause-kept : goal.returns-clause-kept
returns-clause-kept c = (entered _ _ _ _ _ _ _ _ c.requires.serves c.serve.ensures.arrives).kept
