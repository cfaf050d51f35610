use Rattle.swi_board.proofs.Remembering.{still_found}
use Rattle.swi_board.proofs.ways.jump.Goals as goal

pub returns-clause-row : goal.returns-clause-row
returns-clause-row g c = (c.in-Some.ensures c.args.image.now _ c.requires.found).row

pub returns-clause-found : goal.returns-clause-found
returns-clause-found g c = still_found c.args.image.now _ _ _ c.visit.ensures.counted c.requires.found
