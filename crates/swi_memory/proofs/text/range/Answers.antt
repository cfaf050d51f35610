use Rattle.std.proofs.Common.{arith}
use Rattle.swi_memory.proofs.Texts.{is_range}
use Rattle.swi_memory.proofs.text.range.Goals as goal

pub returns-clause-range : goal.returns-clause-range
returns-clause-range c = λ bus text. is_range bus c.args.text.now text (omega arith)
