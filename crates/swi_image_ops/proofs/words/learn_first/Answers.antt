use Rattle.std.proofs.Common.{◌≡◌, ◌+◌, ℕ, Some, arith, slice_set, subst, sym}
use Rattle.swi_isa.specs.Decode.{decoded}
use Rattle.swi_memory.specs.Bus.{fetched}
use Rattle.swi_image.specs.Place.{place_of}
use Rattle.swi_image.specs.Row.{row_index}
use Rattle.swi_micro.specs.declared.translator.MicroOp.{MicroOp}
use Rattle.swi_image_ops.specs.ImageOp.{AreImageOps}
use Rattle.swi_image_ops.proofs.Learning.{place_among, place_short, text_learnt}
use Rattle.swi_image_ops.proofs.words.learn_first.Goals as goal

pub overflow_add-k : goal.overflow_add-k
overflow_add-k c =
    let place : place_of c.args.image.now c.args.a ≡ Some (c.in-Some.block, c.in-Some.offset) = sym c.in-Some.ensures.place in
    let short = place_short c.args.image.now c.args.a c.in-Some.block c.in-Some.offset c.begin.ensures.sound place in
    let small = c.begin.ensures.small in
    omega (arith, short, small)

pub bounds-ops-k : goal.bounds-ops-k
bounds-ops-k c =
    let place : place_of c.args.image.now c.args.a ≡ Some (c.in-Some.block, c.in-Some.offset) = sym c.in-Some.ensures.place in
    let within = place_among (fetched c.args.bus.now) c.args.image.now c.args.ops.now c.args.a c.in-Some.block c.in-Some.offset c.begin.ensures.sound c.requires.ops place in
    let at = c.begin.ensures.value in
    omega (arith, within, at)

pub returns : goal.returns
returns c =
    let v = c.args.image.now in
    let text = fetched c.args.bus.now in
    let b : ℕ = c.in-Some.block in
    let o : ℕ = c.in-Some.offset in
    let place : place_of v c.args.a ≡ Some (b, o) = sym c.in-Some.ensures.place in
    let stands : text c.args.a ≡ Some c.in-Some-fetch.word = sym c.in-Some-fetch.ensures.value in
    let decodes : decoded c.in-Some-fetch.word ≡ Some c.in-Some-decode.instr = sym c.in-Some-decode.ensures in
    subst (λ (k : ℕ). AreImageOps text v (slice_set c.args.ops.now (k + o) c.text_op.result)) (sym c.begin.ensures.value)
    (subst (λ (m : MicroOp). AreImageOps text v (slice_set c.args.ops.now (row_index v b o) m)) (sym c.text_op.ensures)
    (text_learnt text v c.args.ops.now c.args.a b o c.in-Some-fetch.word c.in-Some-decode.instr c.begin.ensures.sound c.requires.ops c.ranges.a.fits place stands decodes))
