use Rattle.std.proofs.Common.{◌≡◌, ◌<◌, ◌^◌, None, true, is_some, refl, sym, ap, ◌∙◌, arith, rules}
use Rattle.std.proofs.lemmas.Result.{err_from_is_err_and}
use Rattle.swi_memory.specs.declared.word_range.WordRange.{WordRange}
use Rattle.swi_micro.specs.MicroOp.{index_at}
use Rattle.swi_flat.proofs.Runs.{ran_all, ran_broken, ran_over}
use Rattle.swi_profile.specs.Profiled.{with_one}
use Rattle.swi_profile.proofs.Running.{counting_first, counting_on, profiled_err, profiled_ok}
use Rattle.swi_profile.proofs.profile.Profile.run.Goals as goal

pub loop-flat-init : goal.loop-flat-init
loop-flat-init g c = record {
  counting = counting_first c.args.flat.now c.args.limit c.args.self.now.range c.args.self.now.counts.items _ c.requires.within c.requires.unfailed c.requires.fresh;
  range = refl;
}

pub step-requires-clause-few : goal.step-requires-clause-few
step-requires-clause-few g c = omega (arith, c.loop-flat-test.true, c.steps.ensures, c.requires.few)

pub step-requires-clause-unfailed : goal.step-requires-clause-unfailed
step-requires-clause-unfailed g c = c.loop-flat.invariant.counting.going.unfailed_is

pub returns-in_err-step-clause-profiled : goal.returns-in_err-step-clause-profiled
returns-in_err-step-clause-profiled g c =
    let p = err_from_is_err_and c.from_residual.result c.from_residual.ensures.1 in
    let fewer : c.loop-flat.flat.machine.steps < c.args.limit = omega (arith, c.loop-flat-test.true, c.steps.ensures) in
    let open_end : c.loop-flat.flat.machine.ending ≡ None = search rules in
    rw (p.1, p.2) (profiled_err c.args.flat.now c.args.limit c.step.new.self c.args.self.now.range _ _ _ _
    (ran_broken c.loop-flat.invariant.counting.going c.step.new.self _ _ fewer open_end c.in_err-step.ensures.stays c.in_err-step.ensures.moved c.in_err-step.ensures.devices)
    c.loop-flat.invariant.counting.long)

pub add_execution-requires-clause-long : goal.add_execution-requires-clause-long
add_execution-requires-clause-long g c = c.loop-flat.invariant.counting.long ∙ ap (λ (r : WordRange). r.words) (sym c.loop-flat.invariant.range)

pub add_execution-requires-clause-few : goal.add_execution-requires-clause-few
add_execution-requires-clause-few g c = λ k within.
    let most = c.loop-flat.invariant.counting.few k within in
    omega (arith, most, c.loop-flat-test.true, c.steps.ensures, c.requires.few)

pub loop-flat-smaller : goal.loop-flat-smaller
loop-flat-smaller g c = omega (arith, c.in_ok-step.ensures.counted, c.loop-flat-test.true, c.steps.ensures)

pub loop-flat-preserved : goal.loop-flat-preserved
loop-flat-preserved g c =
    let f = c.loop-flat.flat in
    let fewer : f.machine.steps < c.args.limit = omega (arith, c.loop-flat-test.true, c.steps.ensures) in
    let on : f.machine.ending ≡ None = search rules in
    let word : f.machine.pc < 2 ^ 32 = omega (arith, c.pc-pc.ensures) in
    let counts = c.loop-flat.self.counts.items in
    record {
      counting = counting_on c.loop-flat.invariant.counting c.step.new.self _ c.add_execution.new.counts.items c.requires.whole word fewer (ap (λ o. is_some o) on)
          c.in_ok-step.ensures.machine c.in_ok-step.ensures.counted c.in_ok-step.ensures.failed c.in_ok-step.ensures.devices
          (c.add_execution.ensures ∙ ap (λ a. with_one counts (index_at c.loop-flat.self.range a)) c.pc-pc.ensures ∙ ap (λ r. with_one counts (index_at r f.machine.pc)) c.loop-flat.invariant.range);
      range = c.loop-flat.invariant.range;
    }

pub returns-else-is_none-clause-profiled : goal.returns-else-is_none-clause-profiled
returns-else-is_none-clause-profiled g c =
    let over : is_some c.loop-flat.flat.machine.ending ≡ true = search rules in
    profiled_ok c.loop-flat.invariant.counting (ran_over c.loop-flat.invariant.counting.going over)

pub returns-after-loop-flat-clause-profiled : goal.returns-after-loop-flat-clause-profiled
returns-after-loop-flat-clause-profiled g c =
    profiled_ok c.loop-flat.invariant.counting (ran_all c.loop-flat.invariant.counting.going (omega (arith, c.loop-flat-test.false, c.steps.ensures)))
