use Rattle.swi_tally.proofs.Sets.{joined}
use Rattle.swi_tally.proofs.masks.with.Goals as goal

pub returns : goal.returns
returns c = λ d lt. joined c.args.mask c.args.cache d c.requires lt
