use Rattle.std.proofs.Common.{◌≡◌, ◌<◌, ◌≤◌, None, is_some, true, subst, inl, inr, arith, rules}
use Rattle.std.proofs.lemmas.Result.{err_from_is_err_and}
use Rattle.swi_hart.specs.Hart.{HartData}
use Rattle.swi_outside.proofs.SourceLemmas.{read_first, read_last}
use Rattle.swi_outside.proofs.ToldLemmas.{as_told_stands}
use Rattle.swi_board.proofs.Along.{on_more, on_some, on_start, run_broken, run_ended, steps_on}
use Rattle.swi_board.proofs.Running.{calls_small, count_small, falls}
use Rattle.swi_board.proofs.stepwise.run_stepwise.Goals as goal

pub loop-hart-init : goal.loop-hart-init
loop-hart-init g c = on_start c.requires.fits c.requires.steps c.requires.sound

pub quick_step-requires-clause-ready : goal.quick_step-requires-clause-ready
quick_step-requires-clause-ready g c =
    let more = subst (λ (h : HartData). h.machine.steps < c.args.n) c.hart.view_is c.loop-hart-test.true in
    let running : c.loop-hart.hart.machine.ending ≡ None = search rules in
    let point = (on_some c.loop-hart.invariant).2.stays.point in
    record {
      running = running;
      few = omega (arith, more, c.requires.limit);
      count = count_small point more running c.requires.limit c.requires.count;
      services = calls_small point more running c.requires.limit c.requires.services;
      fits = point.fits;
    }

pub quick_step-requires-clause-sound : goal.quick_step-requires-clause-sound
quick_step-requires-clause-sound g c = (on_some c.loop-hart.invariant).2.stays.sound

pub loop-hart-preserved : goal.loop-hart-preserved
loop-hart-preserved g c =
    let more = subst (λ (h : HartData). h.machine.steps < c.args.n) c.hart.view_is c.loop-hart-test.true in
    let running : c.loop-hart.hart.machine.ending ≡ None = search rules in
    on_more c.loop-hart.invariant c.in_ok-quick_step.ensures.gave (λ i mid rest was read. steps_on was g.met.R.CacheRom.laws more running c.in_ok-quick_step.ensures.word (c.in_ok-quick_step.ensures.stepped mid rest read))

pub loop-hart-smaller : goal.loop-hart-smaller
loop-hart-smaller g c =
    let more = subst (λ (h : HartData). h.machine.steps < c.args.n) c.hart.view_is c.loop-hart-test.true in
    let running : c.loop-hart.hart.machine.ending ≡ None = search rules in
    let was = (on_some c.loop-hart.invariant).2 in
    falls more running (as_told_stands c.in_ok-quick_step.ensures.gave (λ i rest read. (c.in_ok-quick_step.ensures.stepped i rest read).grown was.stays.sound))

pub returns-in_err-quick_step-clause-ran : goal.returns-in_err-quick_step-clause-ran
returns-in_err-quick_step-clause-ran g c i rest read =
    let p = err_from_is_err_and c.from_residual.result c.from_residual.ensures.1 in
    let more = subst (λ (h : HartData). h.machine.steps < c.args.n) c.hart.view_is c.loop-hart-test.true in
    let running : c.loop-hart.hart.machine.ending ≡ None = search rules in
    rw (p.1, p.2) (run_broken (c.loop-hart.invariant.along i _ (read_first c.loop-hart.invariant.gave c.in_err-quick_step.ensures.gave read)) more running c.in_err-quick_step.ensures.word (c.in_err-quick_step.ensures.stepped _ rest (read_last c.loop-hart.invariant.gave c.in_err-quick_step.ensures.gave read)))

pub returns-else-is_none-clause-gave : goal.returns-else-is_none-clause-gave
returns-else-is_none-clause-gave g c = c.loop-hart.invariant.gave

pub returns-else-is_none-clause-ran : goal.returns-else-is_none-clause-ran
returns-else-is_none-clause-ran g c i rest read =
    let ended : is_some c.loop-hart.hart.machine.ending ≡ true = search rules in
    run_ended (c.loop-hart.invariant.along i rest read) (inr ended)

pub returns-after-loop-hart-clause-gave : goal.returns-after-loop-hart-clause-gave
returns-after-loop-hart-clause-gave g c = c.loop-hart.invariant.gave

pub returns-after-loop-hart-clause-ran : goal.returns-after-loop-hart-clause-ran
returns-after-loop-hart-clause-ran g c i rest read =
    let done = subst (λ (h : HartData). c.args.n ≤ h.machine.steps) c.hart.view_is c.loop-hart-test.false in
    run_ended (c.loop-hart.invariant.along i rest read) (inl done)
