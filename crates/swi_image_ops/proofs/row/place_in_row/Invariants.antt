use Rattle.std.proofs.Common.{◌-◌}
use Rattle.swi_image_ops.proofs.Rows.{Halved}
use Rattle.swi_image_ops.proofs.row.place_in_row.Given as goal

abbrev pub invariant-loop-low : goal.invariant-loop-low
invariant-loop-low l = Halved l.image l.k l.low l.high

abbrev pub decreases-loop-low : goal.decreases-loop-low
decreases-loop-low l = l.high - l.low
