use Rattle.std.proofs.Common.{◌-◌, arith}
use Rattle.swi_image.proofs.Rows.{end_few}
use Rattle.swi_image.proofs.image.ImageView.words.Goals as goal

pub returns-clause-small : goal.returns-clause-small
returns-clause-small c =
    let some = c.self.invariant.kept.sizes.some in
    let blocks = c.self.invariant.header.blocks in
    let small = end_few c.self.inside.header c.self.inside.bytes.now (c.self.inside.header.blocks - 1) c.self.invariant (omega arith) in
    omega (arith, small, c.end_at.ensures.end)
