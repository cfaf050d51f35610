use Rattle.std.proofs.Common.{arith, inl, inr, refl}
use Rattle.swi_chip.proofs.Standing.{cell_inside, first_before, leave_stands_by, next_below}
use Rattle.swi_chip.proofs.lists.leave_first.Goals as goal
use Rattle.swi_chip.proofs.lists.leave_first.Goals.{then-next-ne0, else-next-ne0}

pub bounds-cache-cell : goal.bounds-cache-cell
bounds-cache-cell c = (cell_inside c.args.slot c.args.cell c.requires.has.1 c.requires.slot c.requires.has.2).1

pub bounds-cache-next : goal.bounds-cache-next
bounds-cache-next c = (let h = next_below c.args.slot c.args.cell c.requires.has.1 c.requires.slot c.requires.has.2 in omega (arith, h, c.next_of-next.ensures))

pub bounds-cache-next-then-next-ne0 : goal.bounds-cache-next-then-next-ne0
bounds-cache-next-then-next-ne0 c = (let h = next_below c.args.slot c.args.cell c.requires.has.1 c.requires.slot c.requires.has.2 in omega (arith, h, c.next_of-next.ensures))

pub returns-clause-left : goal.returns-clause-left
returns-clause-left c = λ lists s has.
    leave_stands_by {mid = c.if-next-ne0.cache} c.args.slot c.args.cell c.next_of-next.result 0 s c.requires.slot has c.next_of-next.ensures (first_before c.args.slot c.args.cell s c.requires.slot has c.requires.first)
    (elim c.if-next-ne0.branch [
      | then-next-ne0 w ↦ inr (w.if-next-ne0.true, (w.with_before.result, w.with_before.ensures, w.cache-is))
      | else-next-ne0 w ↦ inl (w.if-next-ne0.false, w.cache-is)
    ])
    (inl (refl, refl, refl))
