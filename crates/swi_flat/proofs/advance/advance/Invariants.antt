use Rattle.std.proofs.Common.{◌≡◌, ◌≤◌, ◌-◌, None}
use Rattle.swi_memory.specs.Bus.{fetched}
use Rattle.swi_flat.specs.Advanced.{Advances}
use Rattle.swi_micro.specs.Decoded.{AreDecoded}
use Rattle.swi_micro.specs.MicroOp.{address_at}
use Rattle.swi_flat.proofs.advance.advance.Given as goal

abbrev pub invariant-loop-left : goal.invariant-loop-left
invariant-loop-left l = record {
  run : Advances l.fn.machine (record l.machine { pc = address_at l.range l.k; steps = l.limit - l.left });
  going : l.machine.ending ≡ None;
  index : l.k ≤ l.range.words;
  decoded : AreDecoded (fetched l.machine.bus) l.range l.ops;
  within : l.left ≤ l.limit;
  no_fewer : l.fn.machine.steps ≤ l.limit - l.left;
}

abbrev pub decreases-loop-left : goal.decreases-loop-left
decreases-loop-left l = l.left
