use Rattle.std.proofs.Common.{slice_get, rules}
use Rattle.swi_outside.specs.Laws.{Appends-none}
use Rattle.swi_outside.proofs.SinkLemmas.{write_failed, write_done}
use Rattle.swi_cached.specs.Told.{lines_at}
use Rattle.swi_cached_command.specs.RunCached.{one_of}
use Rattle.swi_cached_command.proofs.Tracing.{line_broken, line_more}
use Rattle.swi_cached_command.proofs.trace.write_history.Goals as goal

pub loop-k-init : goal.loop-k-init
loop-k-init g c = record { written = Appends-none (g.E.Sink.state c.args.err.now).held; still = search rules }

pub loop-k-preserved : goal.loop-k-preserved
loop-k-preserved g c = record {
  written = line_more c.args.bus.now c.args.history.now c.loop-k.k (g.E.Sink.state c.args.err.now).held (g.E.Sink.state c.loop-k.err).held (g.E.Sink.state c.write_step.new.err).held c.loop-k.invariant.written
      (write_done (g.E.Sink.state c.loop-k.err).held (g.E.Sink.state c.write_step.new.err).held c.write_step.result
      (lines_at c.args.bus.now (one_of (slice_get c.args.history.now c.loop-k.k))) (search rules) c.write_step.ensures.bytes);
  still = search rules;
}

pub returns-then-is_err-clause-bytes : goal.returns-then-is_err-clause-bytes
returns-then-is_err-clause-bytes g c =
    line_broken c.args.bus.now c.args.history.now c.loop-k.k (g.E.Sink.state c.args.err.now).held (g.E.Sink.state c.loop-k.err).held (g.E.Sink.state c.write_step.new.err).held c.loop-k.invariant.written
    (write_failed (g.E.Sink.state c.loop-k.err).held (g.E.Sink.state c.write_step.new.err).held c.write_step.result
    (lines_at c.args.bus.now (one_of (slice_get c.args.history.now c.loop-k.k))) (search rules) c.write_step.ensures.bytes)
