use Rattle.swi_tally.proofs.Sets.{fewer, parted}
use Rattle.swi_tally.proofs.masks.without.Goals as goal

pub returns-clause-sets : goal.returns-clause-sets
returns-clause-sets c = λ d lt. parted c.args.mask c.args.cache d c.requires lt

pub returns-clause-fewer : goal.returns-clause-fewer
returns-clause-fewer c = λ is. fewer c.args.mask c.args.cache c.requires is
