use Rattle.std.proofs.Common.{◌≡◌, ◌∙◌, ◌/◌, ◌<◌, ℕ, Some, length, slice_index, ap, arith, refl, sym, subst}
use Rattle.swi_image.specs.Place.{length_at}
use Rattle.swi_rom.specs.Coherent.{StandsAt}
use Rattle.swi_slots.specs.Slots.{kept_by}
use Rattle.swi_chip.specs.Service.{far_in}
use Rattle.swi_chip.proofs.Stands.{count_is, ends_order, far_few, here_known, here_stands, none_beyond, none_unfilled}
use Rattle.swi_chip.proofs.origins.standing.Goals as goal

pub returns-then-distance-chip : goal.returns-then-distance-chip
returns-then-distance-chip c = λ s vs ram lists k. ((λ lt. absurd (let ge = c.if-distance-chip.true in omega (arith, lt, ge))), (λ ge. refl))

pub slot_of-slot-requires : goal.slot_of-slot-requires
slot_of-slot-requires c = (let k = c.requires.some.stands in record { few = far_few k c.args.pc (let lt = c.if-distance-chip.false in omega (arith, lt)); inverse = k.numbers.inverse_is })

pub rest_of-offset-requires : goal.rest_of-offset-requires
rest_of-offset-requires c = (let k = c.requires.some.stands in record { few = far_few k c.args.pc (let lt = c.if-distance-chip.false in omega (arith, lt)); inverse = k.numbers.inverse_is })

pub returns-then-slot-chip : goal.returns-then-slot-chip
returns-then-slot-chip c = λ s vs ram lists k. (
  (λ lt. none_unfilled k (far_in c.args.chip.now c.args.pc / 4) (let e = c.slot_of-slot.ensures in let ge = c.if-slot-chip.true in omega (arith, e, ge))),
  (λ ge. absurd (let lt = c.if-distance-chip.false in omega (arith, lt, ge))),
)

pub bounds-chip-slot : goal.bounds-chip-slot
bounds-chip-slot c =
    (let k = c.requires.some.stands in
    let a = k.filled_is in let b = k.serves.shape.filled_most in let d = k.holds.blocks_long in
    let lt = c.if-slot-chip.false in
    omega (arith, a, b, d, lt))

pub length_of-count-requires : goal.length_of-count-requires
length_of-count-requires c =
    (let k = c.requires.some.stands in
    let i : ℕ = far_in c.args.chip.now c.args.pc / 4 in
    let e = c.slot_of-slot.ensures in
    let filled : i / c.args.chip.now.size.words < c.args.chip.now.filled = (let lt = c.if-slot-chip.false in omega (arith, e, lt)) in
    let known = here_known k (far_in c.args.chip.now c.args.pc / 4) filled in
    let o = ends_order k (slice_index c.args.chip.now.blocks.now c.slot_of-slot.result) (subst (λ (n : ℕ). slice_index c.args.chip.now.blocks.now n < length c.args.chip.now.marks.now) (sym e) known) in
    record { block = o.0; order = o.1 })

pub returns-then-offset-count : goal.returns-then-offset-count
returns-then-offset-count c = λ s vs ram lists k.
    (let i : ℕ = far_in c.args.chip.now c.args.pc / 4 in
    let e = c.slot_of-slot.ensures in
    let filled : i / c.args.chip.now.size.words < c.args.chip.now.filled = (let lt = c.if-slot-chip.false in omega (arith, e, lt)) in
    let known = here_known k (far_in c.args.chip.now c.args.pc / 4) filled in
    let block_is = ap (λ (n : ℕ). slice_index c.args.chip.now.blocks.now n) e in
    let count = count_is k (slice_index c.args.chip.now.blocks.now c.slot_of-slot.result) c.length_of-count.result (subst (λ (n : ℕ). n < length c.args.chip.now.marks.now) (sym block_is) known) c.length_of-count.ensures in
    let at : c.length_of-count.result ≡ length_at (vs s.turn) (slice_index c.args.chip.now.blocks.now (i / c.args.chip.now.size.words)) = count ∙ ap (λ (b : ℕ). length_at (vs s.turn) b) block_is in (
      (λ lt. none_beyond k (far_in c.args.chip.now c.args.pc / 4) filled (let r = c.rest_of-offset.ensures in let ge = c.if-offset-count.true in omega (arith, at, r, ge))),
      (λ ge. absurd (let lt = c.if-distance-chip.false in omega (arith, lt, ge))),
    ))

pub returns : goal.returns
returns c = λ s vs ram lists k.
    (let i : ℕ = far_in c.args.chip.now c.args.pc / 4 in
    let e = c.slot_of-slot.ensures in
    let filled : i / c.args.chip.now.size.words < c.args.chip.now.filled = (let lt = c.if-slot-chip.false in omega (arith, e, lt)) in
    let known = here_known k (far_in c.args.chip.now c.args.pc / 4) filled in
    let block_is = ap (λ (n : ℕ). slice_index c.args.chip.now.blocks.now n) e in
    let count = count_is k (slice_index c.args.chip.now.blocks.now c.slot_of-slot.result) c.length_of-count.result (subst (λ (n : ℕ). n < length c.args.chip.now.marks.now) (sym block_is) known) c.length_of-count.ensures in
    let at : c.length_of-count.result ≡ length_at (vs s.turn) (slice_index c.args.chip.now.blocks.now (i / c.args.chip.now.size.words)) = count ∙ ap (λ (b : ℕ). length_at (vs s.turn) b) block_is in
    let there = here_stands k (far_in c.args.chip.now c.args.pc / 4) filled (let r = c.rest_of-offset.ensures in let lt = c.if-offset-count.false in omega (arith, at, r, lt)) in (
      (λ lt. subst (λ (b : ℕ). StandsAt (vs s.turn) (kept_by s) (far_in c.args.chip.now c.args.pc / 4) (Some (b, c.rest_of-offset.result))) (sym block_is)
          (subst (λ (o : ℕ). StandsAt (vs s.turn) (kept_by s) (far_in c.args.chip.now c.args.pc / 4) (Some (slice_index c.args.chip.now.blocks.now (far_in c.args.chip.now c.args.pc / 4 / c.args.chip.now.size.words), o))) (sym c.rest_of-offset.ensures) there)),
      (λ ge. absurd (let lt = c.if-distance-chip.false in omega (arith, lt, ge))),
    ))
