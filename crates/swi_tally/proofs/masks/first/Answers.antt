use Rattle.std.proofs.Common.{arith}
use Rattle.swi_tally.proofs.Sets.{first_has}
use Rattle.swi_tally.proofs.masks.first.Goals as goal

pub returns-clause-small : goal.returns-clause-small
returns-clause-small c = (first_has c.args.mask c.requires (omega (arith, c.ranges.mask.fits))).0

pub returns-clause-has : goal.returns-clause-has
returns-clause-has c = (first_has c.args.mask c.requires (omega (arith, c.ranges.mask.fits))).1
