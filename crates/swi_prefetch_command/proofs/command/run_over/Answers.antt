use Rattle.std.proofs.lemmas.Result.{err_from_is_err_and}
use Rattle.swi_prefetch_command.proofs.Ahead.{report_broke, report_written, run_stopped}
use Rattle.swi_cached_task.proofs.Caching.{ending_is}
use Rattle.swi_prefetch_command.proofs.command.run_over.Goals as goal

pub returns-in_err-prefetch-clause-gave : goal.returns-in_err-prefetch-clause-gave
returns-in_err-prefetch-clause-gave g c = c.run_to_end.ensures.gave

pub returns-in_err-prefetch-clause-ran : goal.returns-in_err-prefetch-clause-ran
returns-in_err-prefetch-clause-ran g c =
    let p = err_from_is_err_and c.from_residual.result c.from_residual.ensures.1 in
    rw (p.1, p.2) (λ d input rest was. run_stopped c.args.asked.now c.args.image.now c.args.program.now c.args.layout.now _ _ c.in_err-prefetch.field-0.0 (c.in_err-prefetch.ensures.ran d input rest was))

pub returns-in-Ok-clause-gave : goal.returns-in-Ok-clause-gave
returns-in-Ok-clause-gave g c = c.run_to_end.ensures.gave

pub returns-in-Ok-clause-ran : goal.returns-in-Ok-clause-ran
returns-in-Ok-clause-ran g c = λ d input rest was.
    let wrote = c.in-Ok.ensures in
    report_written (c.in_ok-prefetch.ensures.ran d input rest was) c.board-board.ensures wrote.bytes wrote.cause.quiet (ending_is c.ending_by.ensures c.ending.ensures c.origin_pc.ensures c.steps.ensures)

pub returns-clause-gave : goal.returns-clause-gave
returns-clause-gave g c = c.run_to_end.ensures.gave

pub returns-clause-ran : goal.returns-clause-ran
returns-clause-ran g c = λ d input rest was.
    let broke = c.in-Err.ensures in
    report_broke (c.in_ok-prefetch.ensures.ran d input rest was) c.board-board.ensures broke.bytes broke.asked broke.cause.later broke.cause.failed
