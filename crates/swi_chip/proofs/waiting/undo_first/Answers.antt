use Rattle.std.proofs.Common.{ℕ, ◌-◌, ◌/◌, slice_index, arith, refl, ◌∙◌, ap}
use Rattle.std.proofs.lemmas.List.{length-set}
use Rattle.swi_chip.proofs.Unlinking.{can_cell, cell_low, has_cell, undone_once}
use Rattle.swi_chip.proofs.waiting.undo_first.Goals as goal

pub leave_first-requires-clause-has : goal.leave_first-requires-clause-has
leave_first-requires-clause-has c = (let x = c.requires.can in (x.some.lists, x.some.stands.holds.stand, has_cell x.some.stands x.full x.linked))

pub descriptor-word-requires-clause-can : goal.descriptor-word-requires-clause-can
descriptor-word-requires-clause-can c = (let x = c.requires.can in can_cell x.some.stands x.full x.linked)

pub overflow_sub-chip : goal.overflow_sub-chip
overflow_sub-chip c = (let x = c.requires.can in let l = (cell_low x.some.stands x.full x.linked).0 in omega (arith, l))

pub bounds-chip-cell : goal.bounds-chip-cell
bounds-chip-cell c = (let x = c.requires.can in let l = (cell_low x.some.stands x.full x.linked).1 in let a = c.leave_first.auto.cache in omega (arith, l, a))

pub bounds-chip-cell-2 : goal.bounds-chip-cell-2
bounds-chip-cell-2 c =
    (let x = c.requires.can in
    let l = (cell_low x.some.stands x.full x.linked).1 in
    let a = c.leave_first.auto.cache in
    let e = length-set c.leave_first.new.cache (slice_index c.args.chip.now.heads.now c.args.chip.now.next - 1) 1048691 in
    omega (arith, l, a, e))

pub returns-clause-undone : goal.returns-clause-undone
returns-clause-undone c = λ s vs ram lists k.
    (let x = c.requires.can in
    let has = has_cell k x.full x.linked in
    undone_once k x.full x.linked (c.leave_first.ensures.left lists k.holds.stand has) c.leave_first.auto.cache c.leave_first.ensures.others c.descriptor-word.result c.descriptor-word.ensures _ c.slot_of-row.result (c.slot_of-row.ensures ∙ ap (λ (n : ℕ). n / c.args.chip.now.size.words) c.from.ensures) refl refl refl c.count_undone.ensures refl)
