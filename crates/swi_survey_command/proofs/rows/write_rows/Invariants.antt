use Rattle.std.proofs.Common.{◌≡◌, ℕ, take}
use Rattle.std.specs.Io.KnownBytes.{Appends}
use Rattle.std.specs.List.{flat_map}
use Rattle.swi_report.specs.declared.stats.Work.{Work}
use Rattle.swi_survey_command.specs.Rows.{CountsAs, size_line}
use Rattle.swi_survey_command.proofs.rows.write_rows.Given as goal

abbrev pub invariant-loop-k : goal.invariant-loop-k
invariant-loop-k g l = record {
  written : (work : ℕ → Work) → CountsAs l.surveyed l.sizes work →
      Appends (g.O.Sink.state l.fn.out).held (g.O.Sink.state l.out).held (flat_map (λ bytes. size_line bytes l.surveyed.steps (work bytes)) (take l.k l.sizes));
  still : (g.O.Sink.state l.out).faults ≡ (g.O.Sink.state l.fn.out).faults;
}
