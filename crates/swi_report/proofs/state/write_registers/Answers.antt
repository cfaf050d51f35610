use Rattle.std.proofs.Common.{◌<◌, ◌∙◌, List, ℕ, refl, subst, arith, rules}
use Rattle.std.specs.Io.KnownBytes.{Appends}
use Rattle.swi_outside.specs.Sink.{AppendsPrefix}
use Rattle.swi_report.specs.State.{register_line}
use Rattle.swi_outside.proofs.SinkLemmas.{written_part}
use Rattle.swi_report.proofs.Pieces.{numbered_none, numbered_more, numbered_broken}
use Rattle.swi_report.proofs.state.write_registers.Goals as goal

pub loop-number-init : goal.loop-number-init
loop-number-init g c = record {
  written = numbered_none (register_line c.args.regs.now) 0 0 (g.S.Sink.state c.args.sink.now).held refl;
  still = search rules;
}

pub returns-in_err-write : goal.returns-in_err-write
returns-in_err-write g c =
    let within : c.loop-number.number < 32 = omega arith in
    written_part (g.S.Sink.state c.args.sink.now) (g.S.Sink.state c.loop-number.sink) (g.S.Sink.state c.write.new.self) c.from_residual.result _ c.from_residual.ensures.0 c.loop-number.invariant.still c.in_err-write.ensures.written
    (numbered_broken (register_line c.args.regs.now) 0 c.loop-number.number c.loop-number.number 32
    (g.S.Sink.state c.args.sink.now).held (g.S.Sink.state c.loop-number.sink).held (g.S.Sink.state c.write.new.self).held (omega arith) within
    c.loop-number.invariant.written
    (subst (λ (l : List ℕ). AppendsPrefix (g.S.Sink.state c.loop-number.sink).held (g.S.Sink.state c.write.new.self).held l)
    (c.as_bytes.ensures ∙ c.register_line.ensures) c.in_err-write.ensures.written.bytes))

pub loop-number-preserved : goal.loop-number-preserved
loop-number-preserved g c = record {
  written = numbered_more (register_line c.args.regs.now) 0 c.loop-number.number c.loop-number.number
      (g.S.Sink.state c.args.sink.now).held (g.S.Sink.state c.loop-number.sink).held (g.S.Sink.state c.write.new.self).held (omega arith)
      c.loop-number.invariant.written
      (subst (λ (l : List ℕ). Appends (g.S.Sink.state c.loop-number.sink).held (g.S.Sink.state c.write.new.self).held l)
      (c.as_bytes.ensures ∙ c.register_line.ensures) c.in_ok-write.ensures.written.bytes);
  still = search rules;
}
