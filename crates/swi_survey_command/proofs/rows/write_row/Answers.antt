use Rattle.std.proofs.Common.{◌++◌, ◌∙◌, codes}
use Rattle.std.specs.List.{flat_map}
use Rattle.swi_outside.proofs.SinkLemmas.{written_front, written_then}
use Rattle.swi_report.specs.Stats.{work_counts}
use Rattle.swi_survey_command.specs.Rows.{size_text, spaced, stats_numbers}
use Rattle.swi_survey_command.proofs.rows.write_row.Goals as goal

pub returns-in_err-write : goal.returns-in_err-write
returns-in_err-write g c =
    written_front (g.O.Sink.state c.args.out.now) (g.O.Sink.state c.write.new.self) c.from_residual.result (size_text c.args.bytes) (flat_map spaced (stats_numbers c.args.steps c.args.work.now) ++ codes "\n")
    c.from_residual.ensures.0 (rw (c.as_bytes.ensures ∙ c.size_text.ensures) at c.in_err-write.ensures.written)

pub returns-in_err-write_numbers : goal.returns-in_err-write_numbers
unfolding work_counts
returns-in_err-write_numbers g c =
    written_then (g.O.Sink.state c.args.out.now) (g.O.Sink.state c.write.new.self) (g.O.Sink.state c.write_numbers.new.out) c.from_residual-in_err-write_numbers.result (size_text c.args.bytes)
    (flat_map spaced (stats_numbers c.args.steps c.args.work.now) ++ codes "\n") (rw (c.as_bytes.ensures ∙ c.size_text.ensures) at c.in_ok-write.ensures.written)
    (written_front (g.O.Sink.state c.write.new.self) (g.O.Sink.state c.write_numbers.new.out) c.from_residual-in_err-write_numbers.result (flat_map spaced (stats_numbers c.args.steps c.args.work.now)) (codes "\n")
    c.from_residual-in_err-write_numbers.ensures.0 c.in_err-write_numbers.ensures)

pub returns : goal.returns
unfolding work_counts
returns g c =
    written_then (g.O.Sink.state c.args.out.now) (g.O.Sink.state c.write.new.self) (g.O.Sink.state c.write-2.new.self) c.write-2.result (size_text c.args.bytes)
    (flat_map spaced (stats_numbers c.args.steps c.args.work.now) ++ codes "\n") (rw (c.as_bytes.ensures ∙ c.size_text.ensures) at c.in_ok-write.ensures.written)
    (written_then (g.O.Sink.state c.write.new.self) (g.O.Sink.state c.write_numbers.new.out) (g.O.Sink.state c.write-2.new.self) c.write-2.result (flat_map spaced (stats_numbers c.args.steps c.args.work.now)) (codes "\n")
    c.in_ok-write_numbers.ensures c.write-2.ensures.written)
