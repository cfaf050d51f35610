use Rattle.std.proofs.Common.{arith}
use Rattle.swi_image.proofs.Views.{piece_at}
use Rattle.swi_image.proofs.Writing.{tables_written, AreSmall}
use Rattle.swi_image.proofs.owned.Image.of_tables.Goals as goal

small : (c : goal.In_ok-bytes) → AreSmall c.args.base c.args.starts.now c.args.ends.now c.args.offsets.now c.args.words.now
small c = record { base = c.ranges.base.fits; starts = λ i. omega (arith, c.type_inv.starts i); ends = λ i. omega (arith, c.type_inv.ends i); offsets = λ i. omega (arith, c.type_inv.offsets i); words = λ i. omega (arith, c.type_inv.words i) }

pub invariant_of-result : goal.invariant_of-result
invariant_of-result c = (tables_written c.in_ok-bytes.bytes.items c.args.block_words c.args.base c.args.starts.now c.args.ends.now c.args.offsets.now c.args.words.now c.in_ok-bytes.ensures c.requires (small c)).0

pub returns-clause-image : goal.returns-clause-image
returns-clause-image c = (tables_written c.in_ok-bytes.bytes.items c.args.block_words c.args.base c.args.starts.now c.args.ends.now c.args.offsets.now c.args.words.now c.in_ok-bytes.ensures c.requires (small c)).1

pub returns-clause-blocks : goal.returns-clause-blocks
returns-clause-blocks c = λ b within. piece_at c.args.ends.now c.args.words.now b (omega (arith, c.requires.ended))

pub returns-in_err-bytes-clause-blocks : goal.returns-in_err-bytes-clause-blocks
returns-in_err-bytes-clause-blocks c = λ b within. piece_at c.args.ends.now c.args.words.now b (omega (arith, c.requires.ended))
