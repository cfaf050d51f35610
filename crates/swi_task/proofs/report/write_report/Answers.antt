use Rattle.std.proofs.Common.{ℕ, List, [], Option, Result, Ok, Err}
use Rattle.std.specs.Prelude.{if◌then◌else◌}
use Rattle.std.specs.Option.{option_copied}
use Rattle.std.specs.Io.KnownBytes.{Appends}
use Rattle.std.specs.Result.{IsErr}
use Rattle.swi_outside.specs.Laws.{Appends-none}
use Rattle.swi_outside.specs.Sink.{AppendsPrefix, WritesPiece}
use Rattle.swi_outside.proofs.SinkLemmas.{prefix_last}
use Rattle.swi_report.specs.State.{state_text_of}
use Rattle.swi_report.specs.Stats.{stats_text_of}
use Rattle.swi_task.proofs.report.write_report.Goals as goal
use Rattle.swi_task.proofs.report.write_report.Goals.{then-reports+in_ok-state_text, else-reports}

-- a write that failed
writes_part : {E : Type 0} (o p : Option (List ℕ)) (r : Result Unit E) (x : List ℕ) → IsErr r → AppendsPrefix o p x → WritesPiece o p r x
writes_part o p (Ok u) x err part = cc
writes_part o p (Err e) x err part = part

pub returns-in_err-stats_text-clause-bytes : goal.returns-in_err-stats_text-clause-bytes
returns-in_err-stats_text-clause-bytes g c =
    let state = (if c.args.reports.now.state then state_text_of c.args.state.now.pc c.args.state.now.regs.now c.args.state.now.bus.now c.args.state.now.heap.now else []) in
    let first : Appends (g.O.Sink.state c.args.out.now).held (g.O.Sink.state c.if-reports.out).held state = elim c.if-reports.branch [
      | then-reports+in_ok-state_text w ↦ rw (w.if-reports.true, w.out-is) w.in_ok-state_text.ensures.bytes
      | else-reports w ↦ rw (w.if-reports.false, w.out-is) (Appends-none (g.O.Sink.state c.args.out.now).held)
    ] in
    rw c.if-reports-2.true
    (writes_part (g.O.Sink.state c.args.out.now).held (g.O.Sink.state c.stats_text.new.sink).held c.from_residual-in_err-stats_text.result _ c.from_residual-in_err-stats_text.ensures.0
    (prefix_last (g.O.Sink.state c.args.out.now).held (g.O.Sink.state c.if-reports.out).held (g.O.Sink.state c.stats_text.new.sink).held state
    (stats_text_of c.args.state.now.steps (option_copied c.args.work)) first c.in_err-stats_text.ensures.bytes))
