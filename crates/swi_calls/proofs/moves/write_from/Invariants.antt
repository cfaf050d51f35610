use Rattle.std.proofs.Common.{◌≡◌, ◌≤◌, ◌-◌}
use Rattle.std.specs.Io.KnownBytes.{Appends}
use Rattle.swi_memory.specs.Bus.{bytes_at}
use Rattle.swi_calls.proofs.moves.write_from.Given as goal

abbrev pub invariant-loop-done : goal.invariant-loop-done
invariant-loop-done g l = record {
  within : l.done ≤ l.count;
  written : Appends (g.S.Sink.state l.fn.sink).held (g.S.Sink.state l.sink).held (bytes_at l.bus l.a l.done);
  unasked : l.count ≡ 0 → g.S.Sink.state l.sink ≡ g.S.Sink.state l.fn.sink;
  still : (g.S.Sink.state l.sink).faults ≡ (g.S.Sink.state l.fn.sink).faults;
}

abbrev pub decreases-loop-done : goal.decreases-loop-done
decreases-loop-done g l = l.count - l.done
