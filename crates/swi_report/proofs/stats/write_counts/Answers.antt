use Rattle.std.proofs.Common.{◌∙◌, ◌<◌, ℕ, List, length, arith, subst}
use Rattle.swi_outside.specs.Sink.{AppendsPrefix}
use Rattle.swi_report.proofs.Counts.{count_broken}
use Rattle.swi_outside.proofs.SinkLemmas.{written_part}
use Rattle.swi_report.proofs.stats.write_counts.Goals as goal

pub returns-in_err-write : goal.returns-in_err-write
returns-in_err-write g c =
    let within : c.loop-name.name-index < length c.args.counts.now = omega arith in
    written_part (g.S.Sink.state c.args.sink.now) (g.S.Sink.state c.loop-name.sink) (g.S.Sink.state c.write.new.self) c.from_residual.result _ c.from_residual.ensures.0 c.loop-name.invariant.still c.in_err-write.ensures.written
    (count_broken c.args.counts.now c.loop-name.name-index _
    (g.S.Sink.state c.args.sink.now).held (g.S.Sink.state c.loop-name.sink).held (g.S.Sink.state c.write.new.self).held
    within c.loop-name.invariant.written
    (subst (λ (l : List ℕ). AppendsPrefix (g.S.Sink.state c.loop-name.sink).held (g.S.Sink.state c.write.new.self).held l)
    (c.as_bytes.ensures ∙ c.count_line.ensures) c.in_err-write.ensures.written.bytes))
