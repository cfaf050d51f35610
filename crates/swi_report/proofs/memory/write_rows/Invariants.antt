use Rattle.std.proofs.Common.{◌≡◌, ◌≤◌, ◌-◌, ◌/◌}
use Rattle.std.specs.Io.KnownBytes.{Appends}
use Rattle.std.specs.List.{flat_map}
use Rattle.swi_report.specs.State.{numbers, numbered_row}
use Rattle.swi_report.proofs.memory.write_rows.Given as goal

abbrev pub invariant-loop-row : goal.invariant-loop-row
invariant-loop-row g l = record {
  from : l.area.base / 16 ≤ l.row;
  written : Appends (g.S.Sink.state l.fn.sink).held (g.S.Sink.state l.sink).held
      (flat_map (numbered_row l.area.base l.area.bytes.now) (numbers (l.area.base / 16) (l.row - l.area.base / 16)));
  still : (g.S.Sink.state l.sink).faults ≡ (g.S.Sink.state l.fn.sink).faults;
}
