use Rattle.std.proofs.Common.{◌≡◌, take}
use Rattle.std.specs.Io.KnownBytes.{Appends}
use Rattle.std.specs.List.{flat_map}
use Rattle.swi_report.proofs.Counts.{line_of}
use Rattle.swi_report.proofs.stats.write_counts.Given as goal

abbrev pub invariant-loop-name : goal.invariant-loop-name
invariant-loop-name g l = record {
  written : Appends (g.S.Sink.state l.fn.sink).held (g.S.Sink.state l.sink).held (flat_map line_of (take l.name-index l.counts));
  still : (g.S.Sink.state l.sink).faults ≡ (g.S.Sink.state l.fn.sink).faults;
}
