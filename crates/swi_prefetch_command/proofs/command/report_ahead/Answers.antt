use Rattle.std.proofs.Common.{Some}
use Rattle.std.proofs.lemmas.Result.{err_from_is_err_and}
use Rattle.swi_engine.specs.State.{kept_by}
use Rattle.swi_prefetch_command.specs.RunAhead.{board_work_with, engine_work}
use Rattle.swi_task.specs.Runs.{report}
use Rattle.swi_prefetch_command.proofs.Ahead.{engine_front, engine_is}
use Rattle.swi_prefetch_command.proofs.command.report_ahead.Goals as goal

pub returns-in_err-engine_text-clause-bytes : goal.returns-in_err-engine_text-clause-bytes
returns-in_err-engine_text-clause-bytes g c =
    let p = err_from_is_err_and c.from_residual-in_err-engine_text.result c.from_residual-in_err-engine_text.ensures.1 in
    let copied = c.copied-words.ensures in
    let worked = c.work_with-work.ensures in
    rw p.1
    (engine_front _ _ _ _ (report c.args.reports.now c.args.board.now.hart.machine (Some (board_work_with c.args.board.now.hart (kept_by c.args.board.now.rom)))) c.args.reports.now _ (engine_work (kept_by c.args.board.now.rom))
    c.in_ok-write_report.ensures.bytes c.in_err-engine_text.ensures.bytes c.if-reports.true (cc)
    (engine_is _ _ _ _ c.rom.ensures copied.words copied.copies))
