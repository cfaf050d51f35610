use Rattle.std.proofs.Common.{◌≡◌, ◌+◌, ◌<◌, ℕ, length, arith, ap, ◌∙◌, subst, sym}
use Rattle.swi_image.specs.Words.{words_of}
use Rattle.swi_image.specs.Format.{ImageData, blocks_of, image_of}
use Rattle.swi_image.specs.Place.{block_at}
use Rattle.swi_image.proofs.Reading.{length_words}
use Rattle.swi_image.proofs.Views.{end_within, seen_blocks}
use Rattle.swi_image.proofs.Cutting.{block_cut}
use Rattle.swi_image.proofs.image.ImageView.block.Goals as goal

pub slice_bounds-of-end : goal.slice_bounds-of-end
unfolding image_of
slice_bounds-of-end c =
    let bytes = c.self.inside.bytes.now in
    let i = c.self.invariant in
    let block = subst (λ (v : ImageData). c.args.block < length v.starts) (sym c.self.view_is) c.requires in
    let within : c.args.block < blocks_of (words_of bytes) = omega (arith, block, seen_blocks (words_of bytes) i.kept.sizes) in
    omega (arith, end_within c.self.inside.header (words_of bytes) c.args.block i.header i.kept within, c.end_at.ensures.end, length_words bytes)

pub returns : goal.returns
unfolding image_of block_at
returns c =
    let bytes = c.self.inside.bytes.now in
    let i = c.self.invariant in
    let b = c.args.block in
    let block = subst (λ (v : ImageData). b < length v.starts) (sym c.self.view_is) c.requires in
    let within : b < blocks_of (words_of bytes) = omega (arith, block, seen_blocks (words_of bytes) i.kept.sizes) in
    subst (λ (v : ImageData). c.of.result ≡ block_at v b) c.self.view_is
    (c.of.ensures ∙ block_cut c.self.inside.header bytes b (c.self.inside.header.body + c.begin_at.result) (c.self.inside.header.body + c.end_at.result) i.header i.kept within
    (ap (λ (n : ℕ). c.self.inside.header.body + n) c.begin_at.ensures.begin) (ap (λ (n : ℕ). c.self.inside.header.body + n) c.end_at.ensures.end))
