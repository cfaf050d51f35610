use Rattle.std.proofs.Common.{Some}
use Rattle.swi_report.specs.Stats.{stats_text_of}
use Rattle.swi_report.specs.Summary.{head_text}
use Rattle.swi_outside.proofs.SinkLemmas.{written_front, written_then}
use Rattle.swi_report.proofs.summary.summary_text.Goals as goal

pub returns-in_err-write_head : goal.returns-in_err-write_head
returns-in_err-write_head g c =
    written_front (g.S.Sink.state c.args.sink.now) (g.S.Sink.state c.write_head.new.sink) c.from_residual.result (head_text c.args.measured.now)
    (stats_text_of c.args.steps (Some c.args.work.now)) c.from_residual.ensures.0 c.in_err-write_head.ensures

pub returns : goal.returns
returns g c =
    written_then (g.S.Sink.state c.args.sink.now) (g.S.Sink.state c.write_head.new.sink) (g.S.Sink.state c.stats_text.new.sink) c.stats_text.result
    (head_text c.args.measured.now) (stats_text_of c.args.steps (Some c.args.work.now)) c.in_ok-write_head.ensures c.stats_text.ensures
