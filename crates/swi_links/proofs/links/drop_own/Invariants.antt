use Rattle.std.proofs.Common.{◌+◌, ◌-◌, ◌≤◌}
use Rattle.swi_links.specs.Undone.{Released}
use Rattle.swi_links.proofs.links.drop_own.Given as goal

abbrev pub invariant-loop-at : goal.invariant-loop-at
invariant-loop-at l = (l.first ≤ l.from) × (l.from ≤ l.first + l.size) × Released l.first (l.from - l.first) l.fn.chains l.chains

abbrev pub decreases-loop-at : goal.decreases-loop-at
decreases-loop-at l = l.first + l.size - l.from
