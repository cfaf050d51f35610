use Rattle.swi_hart.specs.Staying.{matches_on, fits_on}
use Rattle.swi_board.proofs.board.Board.join.Goals as goal

pub returns-clause-matches : goal.returns-clause-matches
returns-clause-matches g c = λ v old f stays same. matches_on v old (g.R.CacheRom.service.kept c.args.rom) f c.args.hart.machine c.args.hart.control stays same

pub returns-clause-fits : goal.returns-clause-fits
returns-clause-fits g c = λ v old stays fits. fits_on v old (g.R.CacheRom.service.kept c.args.rom) c.args.hart stays fits
