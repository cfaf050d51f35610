use Rattle.std.proofs.Common.{sym}
use Rattle.swi_image.proofs.Accepted.{header_sizes, is_view}
use Rattle.swi_image.proofs.image.read_image.Goals as goal

pub invariant_of-result : goal.invariant_of-result
invariant_of-result c = is_view c.args.bytes.now c.header_of-header.result c.header_of-header.ensures (header_sizes c.args.bytes.now (sym c.in_default.ensures)) (sym c.in_default.ensures) (sym c.in_default-tables_refusal.ensures)
