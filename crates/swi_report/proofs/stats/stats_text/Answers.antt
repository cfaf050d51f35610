use Rattle.std.proofs.Common.{◌∙◌, ℕ, Option, Some, None, Result, Err, codes}
use Rattle.std.specs.Option.{option_copied}
use Rattle.std.specs.Result.{IsErr}
use Rattle.swi_outside.specs.Sink.{SinkState, WasWritten}
use Rattle.swi_report.specs.Stats.{count_line, work_text, stats_text_of}
use Rattle.swi_report.specs.declared.stats.Work.{Work}
use Rattle.swi_outside.proofs.SinkLemmas.{written_front, written_part, written_then}
use Rattle.std.proofs.Common.{refl}
use Rattle.swi_report.proofs.stats.stats_text.Goals as goal

first_part : {E F : Type 0} (steps : ℕ) (work : Option Work) (o p : SinkState) {e : F} (r : Result Unit E) → IsErr r → WasWritten o p (Err e) (count_line (codes "steps") steps)
    → WasWritten o p r (stats_text_of steps work)
first_part steps None o p r err part = written_part o o p r (count_line (codes "steps") steps) err refl part part.bytes
first_part steps (Some w) o p r err part = written_front o p r (count_line (codes "steps") steps) (work_text w) err part

pub returns-in_err-write : goal.returns-in_err-write
returns-in_err-write g c =
    first_part c.args.steps (option_copied c.args.work) (g.S.Sink.state c.args.sink.now) (g.S.Sink.state c.write.new.self) c.from_residual.result c.from_residual.ensures.0
    (rw (c.as_bytes.ensures ∙ c.count_line.ensures) at c.in_err-write.ensures.written)

pub returns-in-Some : goal.returns-in-Some
returns-in-Some g c =
    rw c.in-Some.is
    (written_then (g.S.Sink.state c.args.sink.now) (g.S.Sink.state c.write.new.self) (g.S.Sink.state c.write_work.new.sink) c.write_work.result
    (count_line (codes "steps") c.args.steps) (work_text c.in-Some.work.now)
    (rw (c.as_bytes.ensures ∙ c.count_line.ensures) at c.in_ok-write.ensures.written)
    c.write_work.ensures)
