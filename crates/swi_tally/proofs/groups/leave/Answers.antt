use Rattle.std.proofs.Common.{length, ap, arith}
use Rattle.swi_tally.specs.Groups.{GroupsData}
use Rattle.swi_tally.proofs.Grouping.{leave_first, leave_next, leave_less, leave_count, leave_last}
use Rattle.swi_tally.proofs.groups.leave.Goals as goal
use Rattle.swi_tally.proofs.groups.leave.Goals.{then-take, else-take}

pub loop-end-init : goal.loop-end-init
loop-end-init c = leave_first _ _ _ c.args.groups.now.groups _ _ _ _ _ c.groups.invariant c.groups.view_is c.requires.group c.requires.long c.index-end.ensures

pub overflow_add-count : goal.overflow_add-count
overflow_add-count c = omega (arith, leave_count _ _ _ _ _ _ _ c.loop-end.invariant, ap (λ (q : GroupsData). length q.keys) c.groups.view_is, c.requires.few, c.requires.long)

pub loop-end-smaller : goal.loop-end-smaller
loop-end-smaller c = leave_less _ _ _ _ _ _ _ _ _ _ c.groups.invariant c.loop-end-test.true c.loop-end.invariant c.index-end-in-loop-end.ensures

pub loop-end-preserved : goal.loop-end-preserved
loop-end-preserved c = leave_next _ _ _ _ _ _ _ _ _ _ _ _ _ _ c.groups.invariant c.groups.view_is c.requires.long c.requires.cache c.loop-end-test.true c.loop-end.invariant
    c.index-end-in-loop-end.ensures c.take.ensures.drops c.take.ensures.was (elim c.if-take.branch [
      | then-take w ↦ rw w.if-take.true w.count-is
      | else-take w ↦ rw w.if-take.false w.count-is
    ])

pub returns-clause-left : goal.returns-clause-left
returns-clause-left c = (leave_last _ _ _ _ _ _ _ _ _ c.groups.view_is c.loop-end.invariant (omega (arith, c.loop-end-test.false))).1

pub returns-clause-count : goal.returns-clause-count
returns-clause-count c = (leave_last _ _ _ _ _ _ _ _ _ c.groups.view_is c.loop-end.invariant (omega (arith, c.loop-end-test.false))).0
