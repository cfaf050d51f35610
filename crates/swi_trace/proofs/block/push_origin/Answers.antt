use Rattle.std.proofs.Common.{◌≡◌, ℕ, ◌-◌, ◌/◌, ◌++◌, arith, ap, ◌∙◌, slice_index}
use Rattle.swi_image.specs.Place.{word_before}
use Rattle.swi_trace.specs.Block.{note}
use Rattle.swi_trace.proofs.TextWords.{word_inside}
use Rattle.swi_trace.proofs.block.push_origin.Goals as goal

pub overflow_sub-a : goal.overflow_sub-a
overflow_sub-a c =
    let inside = word_inside c.args.image.now c.requires.sound c.args.block c.args.offset c.requires.block in
    let a = ap (λ (p : ℕ × ℕ). p.0) c.origin-a.ensures in
    omega arith

pub word-w-requires : goal.word-w-requires
word-w-requires c =
    let inside = word_inside c.args.image.now c.requires.sound c.args.block c.args.offset c.requires.block in
    let a = ap (λ (p : ℕ × ℕ). p.0) c.origin-a.ensures in
    omega arith

pub returns-clause-bytes : goal.returns-clause-bytes
returns-clause-bytes c =
    let inside = word_inside c.args.image.now c.requires.sound c.args.block c.args.offset c.requires.block in
    let a = ap (λ (p : ℕ × ℕ). p.0) c.origin-a.ensures in
    let number : (c.origin-a.result.0 - c.base.result) / 4 ≡ word_before c.args.image.now c.args.block c.args.offset = omega arith in
    let word : c.word-w.result ≡ slice_index c.args.text.now.words (word_before c.args.image.now c.args.block c.args.offset) =
    c.word-w.ensures ∙ ap (λ (k : ℕ). slice_index c.args.text.now.words k) number in
    c.push_note.ensures.bytes
    ∙ ap (λ (w : ℕ). c.args.line.now ++ note w c.origin-a.result.0 c.origin-a.result.1) word
    ∙ ap (λ (p : ℕ × ℕ). c.args.line.now
    ++ note (slice_index c.args.text.now.words (word_before c.args.image.now c.args.block c.args.offset)) p.0 p.1) c.origin-a.ensures
