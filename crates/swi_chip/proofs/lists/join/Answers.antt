use Rattle.std.proofs.Common.{arith, inl, inr}
use Rattle.std.proofs.lemmas.List.{length-set}
use Rattle.swi_chip.proofs.Standing.{head_below, join_stands}
use Rattle.swi_chip.proofs.lists.join.Goals as goal
use Rattle.swi_chip.proofs.lists.join.Goals.{then-first-ne0, else-first-ne0}

pub bounds-cache-first : goal.bounds-cache-first
bounds-cache-first c = (let h = head_below c.args.slot c.requires.stand.1 c.requires.slot (omega arith) in omega (arith, h, length-set c.args.cache.now c.args.cell c.neighbours.result))

pub bounds-cache-first-then-first-ne0 : goal.bounds-cache-first-then-first-ne0
bounds-cache-first-then-first-ne0 c = (let h = head_below c.args.slot c.requires.stand.1 c.requires.slot (omega arith) in omega (arith, h, length-set c.args.cache.now c.args.cell c.neighbours.result))

pub returns-clause-joined : goal.returns-clause-joined
returns-clause-joined c = λ lists s.
    join_stands c.args.cache.now c.if-first-ne0.cache c.args.heads.now lists c.args.slot c.args.cell c.neighbours.result s c.requires.slot c.requires.some c.requires.cell (c.requires.free lists s) c.neighbours.ensures
    (elim c.if-first-ne0.branch [
      | then-first-ne0 w ↦ inr (w.if-first-ne0.true, (w.with_before.result, w.with_before.ensures, w.cache-is))
      | else-first-ne0 w ↦ inl (w.if-first-ne0.false, w.cache-is)
    ])
