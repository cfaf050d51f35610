use Rattle.std.proofs.Common.{◌<◌, length, arith, subst, sym, ap, ◌∙◌}
use Rattle.swi_image.specs.Words.{words_of}
use Rattle.swi_image.specs.Format.{ImageData, image_of}
use Rattle.swi_image.specs.Row.{row_begin}
use Rattle.swi_image.specs.Sound.{IsImage}
use Rattle.swi_image.proofs.Views.{image_sound, seen_blocks}
use Rattle.swi_image.proofs.Rows.{begin_few, seen_begin}
use Rattle.swi_image.proofs.image.ImageView.begin.Goals as goal

pub begin_at-requires-clause-within : goal.begin_at-requires-clause-within
unfolding image_of
begin_at-requires-clause-within c =
    let block = subst (λ (v : ImageData). c.args.block < length v.starts) (sym c.self.view_is) c.requires in
    let few = seen_blocks (words_of c.self.inside.bytes.now) c.self.invariant.kept.sizes in
    let blocks = c.self.invariant.header.blocks in
    omega arith

pub returns-clause-value : goal.returns-clause-value
unfolding image_of
returns-clause-value c =
    let block = subst (λ (v : ImageData). c.args.block < length v.starts) (sym c.self.view_is) c.requires in
    let few = seen_blocks (words_of c.self.inside.bytes.now) c.self.invariant.kept.sizes in
    c.begin_at.ensures.begin ∙ sym (seen_begin (words_of c.self.inside.bytes.now) c.self.invariant.kept c.args.block (omega arith))
    ∙ ap (λ (v : ImageData). row_begin v c.args.block) c.self.view_is

pub returns-clause-small : goal.returns-clause-small
unfolding image_of
returns-clause-small c =
    let block = subst (λ (v : ImageData). c.args.block < length v.starts) (sym c.self.view_is) c.requires in
    let few = seen_blocks (words_of c.self.inside.bytes.now) c.self.invariant.kept.sizes in
    let small = begin_few c.self.inside.header c.self.inside.bytes.now c.args.block c.self.invariant (omega arith) in
    omega (arith, small, c.begin_at.ensures.begin)

pub returns-clause-sound : goal.returns-clause-sound
returns-clause-sound c = subst (λ (v : ImageData). IsImage v) c.self.view_is (image_sound c.self.inside.bytes.now c.self.invariant.kept)
