use Rattle.std.proofs.Common.{arith}
use Rattle.swi_chip_places.proofs.Blocks.{moves, stays}
use Rattle.swi_chip_places.proofs.filling.block_of.Goals as goal
use Rattle.swi_chip_places.proofs.filling.block_of.Goals.{else-block-starts-via-else-block-starts, else-block-starts-via-then-block-starts+else-starts-block}

pub returns-then-starts-block-clause-own : goal.returns-then-starts-block-clause-own
returns-then-starts-block-clause-own c = moves c.requires.tables c.args.k c.args.block (omega (arith, c.if-block-starts.true)) (omega (arith, c.if-starts-block.true))

pub returns-else-block-starts-clause-own : goal.returns-else-block-starts-clause-own
returns-else-block-starts-clause-own c = stays c.requires.tables c.args.k c.args.block c.requires.block c.requires.low (λ more. elim c.else-block-starts.branch [
  | else-block-starts-via-then-block-starts+else-starts-block w ↦ (let most = c.requires.high more in omega (arith, most, w.if-starts-block.false))
  | else-block-starts-via-else-block-starts w ↦ absurd (omega (arith, more, w.if-block-starts.false))
])
