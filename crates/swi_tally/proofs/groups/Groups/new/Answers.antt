use Rattle.std.proofs.Common.{arith}
use Rattle.std.proofs.lemmas.Grind.{common_steps}
use Rattle.swi_tally.proofs.Grouping.{new_call}
use Rattle.swi_tally.proofs.groups.Groups.new.Goals as goal

pub invariant_of-result : goal.invariant_of-result
invariant_of-result c = new_call _ c.in_ok-ends.ends.items _ c.args.groups c.new.ensures.items c.new-2.ensures.items (grind (arith, common_steps))
