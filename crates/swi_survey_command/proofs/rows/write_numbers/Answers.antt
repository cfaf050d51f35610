use Rattle.std.proofs.Common.{◌∙◌, ◌<◌, ℕ, List, length, arith, subst}
use Rattle.std.proofs.lemmas.Option.{slice_get-get_or}
use Rattle.swi_outside.specs.Sink.{AppendsPrefix}
use Rattle.swi_outside.proofs.SinkLemmas.{written_part}
use Rattle.swi_report.proofs.Pieces.{each_broken}
use Rattle.swi_survey_command.specs.Rows.{spaced}
use Rattle.swi_survey_command.proofs.rows.write_numbers.Goals as goal

pub returns-in_err-write : goal.returns-in_err-write
returns-in_err-write g c =
    let within : c.loop-number.number-index < length c.args.numbers.now = omega arith in
    written_part (g.O.Sink.state c.args.out.now) (g.O.Sink.state c.loop-number.out) (g.O.Sink.state c.write.new.self) c.from_residual.result _ c.from_residual.ensures.0 c.loop-number.invariant.still c.in_err-write.ensures.written
    (each_broken spaced c.args.numbers.now c.loop-number.number-index _
    (g.O.Sink.state c.args.out.now).held (g.O.Sink.state c.loop-number.out).held (g.O.Sink.state c.write.new.self).held
    (slice_get-get_or c.args.numbers.now c.loop-number.number-index 0 within) c.loop-number.invariant.written
    (subst (λ (l : List ℕ). AppendsPrefix (g.O.Sink.state c.loop-number.out).held (g.O.Sink.state c.write.new.self).held l)
    (c.as_bytes.ensures ∙ c.spaced.ensures) c.in_err-write.ensures.written.bytes))
