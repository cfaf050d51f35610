use Rattle.std.proofs.Common.{arith, ap}
use Rattle.swi_tally.specs.Groups.{GroupsData}
use Rattle.swi_tally.proofs.Grouping.{push_call}
use Rattle.swi_tally.proofs.groups.Groups.push.Goals as goal

pub invariant_of-self-2 : goal.invariant_of-self-2
invariant_of-self-2 c =
    push_call _ _ _ _ _ _ _ _ c.append.result c.append-2.result c.self.invariant (omega (arith, c.requires.group, ap (λ (g : GroupsData). g.groups) c.self.view_is))
    c.if-is_err.ensures.value c.append.ensures.pushed c.if-is_err-2.ensures.value c.append-2.ensures.pushed (omega (arith, c.len.ensures)) c.index-end.ensures
