use Rattle.swi_tally.proofs.Grouping.{Leaving}
use Rattle.swi_tally.proofs.groups.leave.Given as goal

abbrev pub invariant-loop-end : goal.invariant-loop-end
invariant-loop-end l = Leaving l.groups-inside.keys.items l.group l.cache l.initial.masks l.masks l.count l.end

abbrev pub decreases-loop-end : goal.decreases-loop-end
decreases-loop-end l = l.end
