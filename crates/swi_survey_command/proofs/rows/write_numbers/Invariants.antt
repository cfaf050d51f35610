use Rattle.std.proofs.Common.{◌≡◌, take}
use Rattle.std.specs.Io.KnownBytes.{Appends}
use Rattle.std.specs.List.{flat_map}
use Rattle.swi_survey_command.specs.Rows.{spaced}
use Rattle.swi_survey_command.proofs.rows.write_numbers.Given as goal

abbrev pub invariant-loop-number : goal.invariant-loop-number
invariant-loop-number g l = record {
  written : Appends (g.O.Sink.state l.fn.out).held (g.O.Sink.state l.out).held (flat_map spaced (take l.number-index l.numbers));
  still : (g.O.Sink.state l.out).faults ≡ (g.O.Sink.state l.fn.out).faults;
}
