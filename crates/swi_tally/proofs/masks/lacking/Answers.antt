use Rattle.std.proofs.Common.{arith}
use Rattle.swi_tally.proofs.Sets.{lacks}
use Rattle.swi_tally.proofs.masks.lacking.Goals as goal

pub returns : goal.returns
returns c = λ d lt. lacks c.args.mask c.args.other d (omega (arith, c.ranges.other.fits)) lt
