use Rattle.std.proofs.Common.{arith}
use Rattle.swi_check.proofs.Places.{placing_start, placing_next}
use Rattle.swi_check.proofs.checker.check_places.Goals as goal

pub loop-k-init : goal.loop-k-init
loop-k-init c = placing_start c.args.text.now c.args.view.now.offsets c.args.first

pub loop-k-preserved : goal.loop-k-preserved
loop-k-preserved c =
    placing_next c.args.text.now c.args.view.now.offsets c.args.first c.loop-k.k c.loop-k.required c.loop-k.needs c.offset-held.result c.sizes_of-sizes.result.len c.sizes_of-sizes.result.needs
    c.loop-k.invariant (omega arith) c.offset-held.ensures c.if-held-required.false c.sizes_of-sizes.ensures.len c.sizes_of-sizes.ensures.needs (omega (arith, c.sizes_of-sizes.ensures.less, c.sizes_of-sizes.ensures.most))
