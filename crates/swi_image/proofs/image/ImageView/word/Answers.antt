use Rattle.std.proofs.Common.{◌+◌, ◌<◌, ℕ, length, arith, subst, sym}
use Rattle.swi_image.specs.Words.{words_of}
use Rattle.swi_image.specs.Format.{ImageData, blocks_of, image_of}
use Rattle.swi_image.specs.Place.{block_at}
use Rattle.swi_image.proofs.Views.{body_inside, seen_blocks}
use Rattle.swi_image.proofs.image.ImageView.word.Goals as goal

pub word_inside-requires : goal.word_inside-requires
unfolding image_of block_at
word_inside-requires c =
    let bytes = c.self.inside.bytes.now in
    let i = c.self.invariant in
    let b = c.args.block in
    let block = subst (λ (v : ImageData). b < length v.starts) (sym c.self.view_is) c.requires.block in
    let offset = subst (λ (v : ImageData). c.args.offset < length (block_at v b)) (sym c.self.view_is) c.requires.offset in
    let within : b < blocks_of (words_of bytes) = omega (arith, block, seen_blocks (words_of bytes) i.kept.sizes) in
    subst (λ (n : ℕ). c.self.inside.header.body + n + c.args.offset < length (words_of bytes)) (sym c.begin_at-begin.ensures.begin)
    (body_inside c.self.inside.header (words_of bytes) b c.args.offset i.header i.kept within offset)
