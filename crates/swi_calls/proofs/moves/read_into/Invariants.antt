use Rattle.std.proofs.Common.{◌≡◌, ◌≤◌, ◌-◌, true}
use Rattle.swi_memory.specs.declared.right.Right.TheVariants.{Write}
use Rattle.swi_memory.specs.Bus.{holds}
use Rattle.swi_calls.specs.Moves.{ReadsInto}
use Rattle.swi_calls.proofs.moves.read_into.Given as goal

abbrev pub invariant-loop-done : goal.invariant-loop-done
invariant-loop-done g l = record {
  within : l.done ≤ l.count;
  reads : ReadsInto l.fn.bus l.bus (g.I.Source.state l.fn.input) (g.I.Source.state l.input) l.a l.done;
  held : holds l.bus Write l.a l.count ≡ true;
  still : (g.I.Source.state l.input).faults ≡ (g.I.Source.state l.fn.input).faults;
}

abbrev pub decreases-loop-done : goal.decreases-loop-done
decreases-loop-done g l = l.count - l.done
