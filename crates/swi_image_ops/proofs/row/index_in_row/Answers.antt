use Rattle.std.proofs.Common.{◌≡◌, Some, arith, sym}
use Rattle.swi_image.specs.Place.{place_of}
use Rattle.swi_image_ops.proofs.Learning.{place_short}
use Rattle.swi_image_ops.proofs.row.index_in_row.Goals as goal

pub overflow_add-result : goal.overflow_add-result
overflow_add-result c =
    let place : place_of c.args.image.now c.args.a ≡ Some (c.in_ok-block.block, c.in_ok-block.offset) = sym c.in_ok-block.ensures.place in
    let short = place_short c.args.image.now c.args.a c.in_ok-block.block c.in_ok-block.offset c.begin.ensures.sound place in
    let small = c.begin.ensures.small in
    omega (arith, short, small)
