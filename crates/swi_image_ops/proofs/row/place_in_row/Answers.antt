use Rattle.std.proofs.Common.{◌≡◌, ◌+◌, ◌-◌, arith}
use Rattle.swi_image.specs.Row.{row_begin}
use Rattle.swi_image_ops.proofs.Rows.{halved_found}
use Rattle.swi_image_ops.proofs.row.place_in_row.Goals as goal

pub overflow_sub-block : goal.overflow_sub-block
overflow_sub-block c = (halved_found c.args.image.now c.args.k c.loop-low.low c.loop-low.high c.loop-low.invariant c.loop-low-test.false).some

pub overflow_sub-result : goal.overflow_sub-result
overflow_sub-result c =
    let found = halved_found c.args.image.now c.args.k c.loop-low.low c.loop-low.high c.loop-low.invariant c.loop-low-test.false in
    let at = c.begin-2.ensures.value in
    let begins = found.begins in
    omega (arith, at, begins)

pub returns-clause-index : goal.returns-clause-index
returns-clause-index c =
    let found = halved_found c.args.image.now c.args.k c.loop-low.low c.loop-low.high c.loop-low.invariant c.loop-low-test.false in
    let at = c.begin-2.ensures.value in
    let begins = found.begins in
    let same : row_begin c.args.image.now (c.loop-low.low - 1) + (c.args.k - c.begin-2.result) ≡ c.args.k = omega (arith, at, begins) in
    same

pub returns-clause-offset : goal.returns-clause-offset
returns-clause-offset c =
    let found = halved_found c.args.image.now c.args.k c.loop-low.low c.loop-low.high c.loop-low.invariant c.loop-low-test.false in
    let at = c.begin-2.ensures.value in
    let inside = found.inside in
    omega (arith, at, inside)
