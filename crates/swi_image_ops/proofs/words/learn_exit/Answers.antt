use Rattle.std.proofs.Common.{◌≡◌, ◌+◌, ◌%◌, ◌<◌, ◌∙◌, ℕ, Some, ap, arith, slice_set, subst, sym}
use Rattle.swi_image.specs.Place.{length_at, word_at}
use Rattle.swi_image.specs.Row.{row_index, row_inside}
use Rattle.swi_render.specs.Rendering.{ebreak}
use Rattle.swi_micro.specs.declared.translator.MicroOp.{MicroOp}
use Rattle.swi_image_ops.specs.ImageOp.{AreImageOps, row_of}
use Rattle.swi_image_ops.proofs.Learning.{exit_learnt}
use Rattle.swi_image_ops.proofs.words.learn_exit.Goals as goal

pub bounds-ops-k : goal.bounds-ops-k
bounds-ops-k c =
    let within = row_inside c.args.image.now c.args.block c.args.offset c.requires.block c.requires.offset in
    let room = c.requires.room in
    let at = c.begin.ensures.value in
    omega (arith, within, room, at)

pub returns : goal.returns
returns c = λ text h.
    let v = c.args.image.now in
    let b : ℕ = c.args.block in
    let o : ℕ = c.args.offset in
    let size = c.length-end.ensures.value in
    let short = c.if-offset-end.false in
    let inside : o + 1 < length_at v b = omega (arith, size, short) in
    let leaves : word_at v b o ≡ ebreak = sym c.word.ensures ∙ c.if-word-ne-EBREAK.false in
    let descriptor : word_at v b (o + 1) ≡ c.word-descriptor.result = sym c.word-descriptor.ensures in
    let direct : word_at v b (o + 1) % 4 ≡ 0 = ap (λ n. n % 4) descriptor ∙ c.if-descriptor-ne0.false in
    let leads : row_of v (word_at v b (o + 1)) ≡ Some c.in-Some.to = ap (λ n. row_of v n) descriptor ∙ sym c.in-Some.ensures in
    subst (λ (k : ℕ). AreImageOps text v (slice_set c.args.ops.now (k + o) c.fall.result)) (sym c.begin.ensures.value)
    (subst (λ (m : MicroOp). AreImageOps text v (slice_set c.args.ops.now (row_index v b o) m)) (sym c.fall.ensures)
    (exit_learnt text v c.args.ops.now b o c.in-Some.to h c.requires.block c.requires.free inside leaves direct leads))
