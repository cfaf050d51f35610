use Rattle.std.proofs.Common.{◌≡◌, take}
use Rattle.std.specs.Io.KnownBytes.{Appends}
use Rattle.std.specs.List.{flat_map}
use Rattle.swi_report.specs.State.{area_text}
use Rattle.swi_report.proofs.memory.write_memory.Given as goal

abbrev pub invariant-loop-k : goal.invariant-loop-k
invariant-loop-k g l = record {
  written : Appends (g.S.Sink.state l.fn.sink).held (g.S.Sink.state l.sink).held (flat_map area_text (take l.k l.bus));
  still : (g.S.Sink.state l.sink).faults ≡ (g.S.Sink.state l.fn.sink).faults;
}
