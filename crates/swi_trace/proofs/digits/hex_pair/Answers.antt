use Rattle.std.proofs.Common.{arith}
use Rattle.swi_trace.proofs.Pairs.{pair_is}
use Rattle.swi_trace.proofs.digits.hex_pair.Goals as goal

pub returns-clause-digits : goal.returns-clause-digits
returns-clause-digits c = pair_is c.args.byte (omega arith)
