use Rattle.std.proofs.Common.{◌≡◌}
use Rattle.std.specs.Io.KnownBytes.{Appends}
use Rattle.std.specs.List.{flat_map}
use Rattle.swi_report.specs.State.{numbers, register_line}
use Rattle.swi_report.proofs.state.write_registers.Given as goal

abbrev pub invariant-loop-number : goal.invariant-loop-number
invariant-loop-number g l = record {
  written : Appends (g.S.Sink.state l.fn.sink).held (g.S.Sink.state l.sink).held (flat_map (register_line l.regs) (numbers 0 l.number));
  still : (g.S.Sink.state l.sink).faults ≡ (g.S.Sink.state l.fn.sink).faults;
}
