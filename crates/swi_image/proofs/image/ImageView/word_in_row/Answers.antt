use Rattle.std.proofs.Common.{◌≡◌, ◌<◌, length, arith, subst, sym, ap, ◌∙◌}
use Rattle.swi_image.specs.Words.{words_of}
use Rattle.swi_image.specs.Format.{ImageData, image_of}
use Rattle.swi_image.specs.Place.{block_at, length_at, word_at}
use Rattle.swi_image.specs.Row.{row_index, row_length}
use Rattle.swi_image.proofs.Views.{seen_blocks}
use Rattle.swi_image.proofs.Rows.{row_word, row_word_inside}
use Rattle.swi_image.proofs.image.ImageView.word_in_row.Goals as goal

pub word_inside-requires : goal.word_inside-requires
unfolding image_of
word_inside-requires c =
    let within = subst (λ (v : ImageData). c.args.k < row_length v) (sym c.self.view_is) c.requires in
    row_word_inside c.self.inside.header c.self.inside.bytes.now c.args.k c.self.invariant within

pub returns : goal.returns
unfolding image_of block_at
returns c = λ b o known inside is.
    let block = subst (λ (v : ImageData). b < length v.starts) (sym c.self.view_is) known in
    let offset = subst (λ (v : ImageData). o < length_at v b) (sym c.self.view_is) inside in
    let index = subst (λ (v : ImageData). c.args.k ≡ row_index v b o) (sym c.self.view_is) is in
    let few = seen_blocks (words_of c.self.inside.bytes.now) c.self.invariant.kept.sizes in
    c.word_inside.ensures ∙ row_word c.self.inside.header c.self.inside.bytes.now c.args.k b o c.self.invariant (omega arith) offset index
    ∙ ap (λ (v : ImageData). word_at v b o) c.self.view_is
