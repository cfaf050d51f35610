use Rattle.swi_tally.proofs.Sets.{tested}
use Rattle.swi_tally.proofs.masks.has.Goals as goal

pub returns : goal.returns
returns c = tested c.args.mask c.args.cache
