use Rattle.std.proofs.Common.{◌≡◌, map, take}
use Rattle.swi_tally.specs.Tallies.{empty_of}
use Rattle.swi_tally.proofs.tallies.make_caches.Given as goal

abbrev pub invariant-loop-frame : goal.invariant-loop-frame
invariant-loop-frame l = l.caches.items ≡ map (empty_of l.blocks) (take l.frame-index l.frames)
