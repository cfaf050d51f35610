use Rattle.std.proofs.Common.{arith, inl, inr, refl}
use Rattle.swi_chip.proofs.Standing.{cell_inside, next_below, before_below, leave_stands_by}
use Rattle.swi_chip.proofs.lists.leave.Goals as goal
use Rattle.swi_chip.proofs.lists.leave.Goals.{then-next-ne0, else-next-ne0}

pub bounds-cache-cell : goal.bounds-cache-cell
bounds-cache-cell c = (cell_inside c.args.slot c.args.cell c.requires.has.1 c.requires.slot c.requires.has.2).1

pub bounds-cache-next : goal.bounds-cache-next
bounds-cache-next c = (let h = next_below c.args.slot c.args.cell c.requires.has.1 c.requires.slot c.requires.has.2 in omega (arith, h, c.next_of-next.ensures))

pub bounds-cache-next-then-next-ne0 : goal.bounds-cache-next-then-next-ne0
bounds-cache-next-then-next-ne0 c = (let h = next_below c.args.slot c.args.cell c.requires.has.1 c.requires.slot c.requires.has.2 in omega (arith, h, c.next_of-next.ensures))

pub bounds-cache-before : goal.bounds-cache-before
bounds-cache-before c = (let h = before_below c.args.slot c.args.cell c.requires.has.1 c.requires.slot c.requires.has.2 in omega (arith, h, c.before_of-before.ensures, c.if-next-ne0.auto.cache))

pub bounds-cache-before-then-before-ne0 : goal.bounds-cache-before-then-before-ne0
bounds-cache-before-then-before-ne0 c = (let h = before_below c.args.slot c.args.cell c.requires.has.1 c.requires.slot c.requires.has.2 in omega (arith, h, c.before_of-before.ensures, c.if-next-ne0.auto.cache))

pub returns-then-before-ne0-clause-left : goal.returns-then-before-ne0-clause-left
returns-then-before-ne0-clause-left c = λ lists s has.
    leave_stands_by {mid = c.if-next-ne0.cache} c.args.slot c.args.cell c.next_of-next.result c.before_of-before.result s c.requires.slot has c.next_of-next.ensures c.before_of-before.ensures
    (elim c.if-next-ne0.branch [
      | then-next-ne0 w ↦ inr (w.if-next-ne0.true, (w.with_before.result, w.with_before.ensures, w.cache-is))
      | else-next-ne0 w ↦ inl (w.if-next-ne0.false, w.cache-is)
    ])
    (inr (c.if-before-ne0.true, (c.with_next.result, c.with_next.ensures, refl), refl))

pub returns-else-before-ne0-clause-left : goal.returns-else-before-ne0-clause-left
returns-else-before-ne0-clause-left c = λ lists s has.
    leave_stands_by {mid = c.if-next-ne0.cache} c.args.slot c.args.cell c.next_of-next.result c.before_of-before.result s c.requires.slot has c.next_of-next.ensures c.before_of-before.ensures
    (elim c.if-next-ne0.branch [
      | then-next-ne0 w ↦ inr (w.if-next-ne0.true, (w.with_before.result, w.with_before.ensures, w.cache-is))
      | else-next-ne0 w ↦ inl (w.if-next-ne0.false, w.cache-is)
    ])
    (inl (c.if-before-ne0.false, refl, refl))
