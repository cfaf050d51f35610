use Rattle.std.proofs.Common.{◌≡◌, ◌≤◌, ◌^◌, drop, max}
use Rattle.swi_program.specs.Layout.{highest_end}
use Rattle.swi_program.proofs.placement.highest_end.Given as goal

-- the highest end so far and that of the segments to come make that of all
abbrev pub invariant-loop-segment : goal.invariant-loop-segment
invariant-loop-segment l = (max l.highest (highest_end (drop l.segment-index l.segments)) ≡ highest_end l.segments) × (l.highest ≤ 2 ^ 32)
