use Rattle.std.proofs.Common.{◌∙◌}
use Rattle.swi_answer.specs.Lines.{refusal_line}
use Rattle.swi_task.proofs.Lines.{shows_line}
use Rattle.swi_top.proofs.call.refuse.Goals as goal

pub returns-clause-line : goal.returns-clause-line
returns-clause-line g c =
    shows_line (g.E.Sink.state c.args.err.now) (g.E.Sink.state c.write.new.self) c.write.result c.as_bytes.result.now (refusal_line c.args.refusal)
    (c.as_bytes.ensures ∙ c.line_of_refusal.ensures) c.write.ensures.written
