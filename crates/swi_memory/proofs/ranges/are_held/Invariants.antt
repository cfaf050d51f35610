use Rattle.std.proofs.Common.{◌≡◌}
use Rattle.swi_memory.specs.Bus.{holds}
use Rattle.swi_memory.specs.Views.{areas}
use Rattle.swi_memory.proofs.ranges.are_held.Given as goal

-- what is to come is what was to come at first
abbrev pub invariant-loop-left : goal.invariant-loop-left
invariant-loop-left l = holds (areas l.banks) l.right l.at l.left ≡ holds (areas l.banks) l.right l.a l.n

abbrev pub decreases-loop-left : goal.decreases-loop-left
decreases-loop-left l = l.left
