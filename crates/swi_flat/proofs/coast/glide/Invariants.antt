use Rattle.std.proofs.Common.{◌≤◌, ◌*◌, ◌-◌}
use Rattle.swi_memory.specs.Bus.{fetched}
use Rattle.swi_micro.specs.Decoded.{AreDecoded}
use Rattle.swi_flat.specs.Coasted.{Coasts}
use Rattle.swi_flat.proofs.Coasting.{at_word}
use Rattle.swi_flat.proofs.coast.glide.Given as goal

abbrev pub invariant-loop-left : goal.invariant-loop-left
invariant-loop-left l = record {
  run : Coasts (record { base = l.range.from; words = l.gates.items; masks = l.masks; pass = l.pass }) l.first l.fn.machine (l.limit - l.left - l.fn.machine.steps) l.k (at_word l.range l.machine l.k (l.limit - l.left)) l.paid;
  index : l.k ≤ l.range.words;
  decoded : AreDecoded (fetched l.machine.bus) l.range l.ops;
  within : l.left ≤ l.limit;
  no_fewer : l.fn.machine.steps ≤ l.limit - l.left;
  few : l.paid ≤ 2 * (l.limit - l.left - l.fn.machine.steps);
}

abbrev pub decreases-loop-left : goal.decreases-loop-left
decreases-loop-left l = l.left
