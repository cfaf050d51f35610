use Rattle.std.proofs.Common.{◌<◌, ◌≤◌, slice_index, length, arith}
use Rattle.std.proofs.lemmas.Bool.Decides.{nat_tests}
use Rattle.swi_image.specs.Place.{next_start}
use Rattle.swi_image.proofs.Views.{has_word}
use Rattle.swi_image.proofs.image.ImageView.has.Goals as goal

pub returns-clause-own : goal.returns-clause-own
returns-clause-own c = λ held.
    let v = c.args.self.now in
    let within : c.args.block < length v.starts = omega (arith, c.blocks-2.ensures.value) in
    let low : slice_index v.starts c.args.block ≤ c.args.k = omega (arith, c.first.ensures.value) in
    let below : c.args.k < c.next.result = grind (arith, nat_tests) in
    let high : c.args.k < next_start v c.args.block = omega (arith, below, c.next.ensures.value) in
    has_word v c.args.block c.args.k c.blocks-2.ensures.sound within low high c.requires
