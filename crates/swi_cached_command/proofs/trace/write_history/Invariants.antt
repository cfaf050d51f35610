use Rattle.std.proofs.Common.{◌≡◌, take}
use Rattle.std.specs.Io.KnownBytes.{Appends}
use Rattle.swi_cached.specs.Told.{lines_at}
use Rattle.swi_cached_command.proofs.trace.write_history.Given as goal

abbrev pub invariant-loop-k : goal.invariant-loop-k
invariant-loop-k g l = record {
  written : Appends (g.E.Sink.state l.fn.err).held (g.E.Sink.state l.err).held (lines_at l.bus (take l.k l.history));
  still : (g.E.Sink.state l.err).faults ≡ (g.E.Sink.state l.fn.err).faults;
}
