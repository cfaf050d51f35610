use Rattle.std.proofs.lemmas.Result.{err_from_is_err_and}
use Rattle.swi_cached_task.proofs.Caching.{ending_is}
use Rattle.swi_cached_command.proofs.Caching.{handed_on, lines_broke, quiet_run, report_broke, run_ended, run_stopped}
use Rattle.swi_task.proofs.Images.{let_through}
use Rattle.swi_cached_command.proofs.command.run_over.Goals as goal

pub returns-in_err-ended-clause-gave : goal.returns-in_err-ended-clause-gave
returns-in_err-ended-clause-gave g c = c.run_cached.ensures.gave

pub returns-in_err-ended-clause-ran : goal.returns-in_err-ended-clause-ran
returns-in_err-ended-clause-ran g c = λ d input rest read.
    let p = err_from_is_err_and c.from_residual.result c.from_residual.ensures.1 in
    let stopped = handed_on _ _ c.in_err-ended.ensures.cases in
    let e = c.run_cached.ensures.in_steps input rest read in
    rw (p.1, p.2) (
    run_stopped stopped.0 c.in_err-ended.field-0.0 stopped.2 e.kept (rw stopped.1 at e.fetched_at) (rw stopped.1 at e.memory) (rw stopped.1 at e.failed)
    (record { streams = rw stopped.1 at e.causes; ram_cause = rw stopped.1 at e.ram_cause }))

pub returns-in_default-clause-gave : goal.returns-in_default-clause-gave
returns-in_default-clause-gave g c = c.run_cached.ensures.gave

pub returns-in_default-clause-ran : goal.returns-in_default-clause-ran
returns-in_default-clause-ran g c = λ d input rest read.
    let e = c.run_cached.ensures.in_steps input rest read in
    let is = c.in_ok-ended.ensures.cases in
    let so = let_through _ _ _ e.ended is in
    let broke = c.in_default.ensures in
    report_broke (record {
      ended = λ left told. (so left told).ended;
      told = λ left told. (so left told).told;
      short = λ left told. (so left told).short;
      after = λ left told. (so left told).ram;
      counted = let_through _ _ _ e.counted is;
    })
    e.kept (quiet_run _ _ (record { streams = e.causes; ram_cause = e.ram_cause }) is) broke.bytes broke.asked broke.cause.later broke.cause.failed

pub returns-in-Ok-write_last-clause-gave : goal.returns-in-Ok-write_last-clause-gave
returns-in-Ok-write_last-clause-gave g c = c.run_cached.ensures.gave

pub returns-in-Ok-write_last-clause-ran : goal.returns-in-Ok-write_last-clause-ran
returns-in-Ok-write_last-clause-ran g c = λ d input rest read.
    let e = c.run_cached.ensures.in_steps input rest read in
    let is = c.in_ok-ended.ensures.cases in
    let so = let_through _ _ _ e.ended is in
    let wrote = c.in-Ok.ensures in
    let shown = c.in-Ok-write_last.ensures in
    run_ended (record {
      ended = λ left told. (so left told).ended;
      told = λ left told. (so left told).told;
      short = λ left told. (so left told).short;
      after = λ left told. (so left told).ram;
      counted = let_through _ _ _ e.counted is;
    })
    e.kept (quiet_run _ _ (record { streams = e.causes; ram_cause = e.ram_cause }) is) wrote.bytes wrote.cause.quiet c.bus.ensures shown.bytes shown.cause.quiet
    (ending_is c.ending_by.ensures c.ending.ensures c.origin_pc.ensures c.steps.ensures)

pub returns-clause-gave : goal.returns-clause-gave
returns-clause-gave g c = c.run_cached.ensures.gave

pub returns-clause-ran : goal.returns-clause-ran
returns-clause-ran g c = λ d input rest read.
    let e = c.run_cached.ensures.in_steps input rest read in
    let is = c.in_ok-ended.ensures.cases in
    let so = let_through _ _ _ e.ended is in
    let wrote = c.in-Ok.ensures in
    let broke = c.in-Err.ensures in
    lines_broke (record {
      ended = λ left told. (so left told).ended;
      told = λ left told. (so left told).told;
      short = λ left told. (so left told).short;
      after = λ left told. (so left told).ram;
      counted = let_through _ _ _ e.counted is;
    })
    e.kept (quiet_run _ _ (record { streams = e.causes; ram_cause = e.ram_cause }) is) wrote.bytes wrote.cause.quiet c.bus.ensures broke.bytes broke.asked broke.cause.later broke.cause.failed
