use Rattle.std.proofs.Common.{◌≡◌, ◌<◌, ◌≤◌, is_some, true, sym, subst, inl, inr, arith, rules}
use Rattle.std.proofs.lemmas.Result.{err_from_is_err_and}
use Rattle.swi_memory.specs.Bus.{fetched}
use Rattle.swi_hart.specs.Hart.{HartData}
use Rattle.swi_outside.proofs.SourceLemmas.{read_first, read_last}
use Rattle.swi_outside.proofs.ToldLemmas.{as_told_stands}
use Rattle.swi_board.proofs.Along.{on_more, on_onward, on_some, on_start, on_underway, onward_most, run_broken, run_ended, steps_on, text_on}
use Rattle.swi_board.proofs.Knowing.{ops_same}
use Rattle.swi_board.proofs.Running.{calls_small, count_small, falls}
use Rattle.swi_board.proofs.board.run_by_words.Goals as goal

pub loop-hart-init : goal.loop-hart-init
loop-hart-init g c = record {
  along = on_start c.requires.fits c.requires.steps c.requires.sound;
  knows = c.forget.ensures (λ a. fetched c.args.hart.now.machine.bus a) c.args.image.now c.requires.room;
}

pub returns-else-is_none-clause-gave : goal.returns-else-is_none-clause-gave
returns-else-is_none-clause-gave g c = c.loop-hart.invariant.along.gave

pub returns-else-is_none-clause-ran : goal.returns-else-is_none-clause-ran
returns-else-is_none-clause-ran g c i rest read =
    let ended : is_some c.loop-hart.hart.machine.ending ≡ true = search rules in
    run_ended (c.loop-hart.invariant.along.along i rest read) (inr ended)

pub returns-after-loop-hart-clause-gave : goal.returns-after-loop-hart-clause-gave
returns-after-loop-hart-clause-gave g c = c.loop-hart.invariant.along.gave

pub returns-after-loop-hart-clause-ran : goal.returns-after-loop-hart-clause-ran
returns-after-loop-hart-clause-ran g c i rest read =
    let done = subst (λ (h : HartData). c.args.n ≤ h.machine.steps) c.hart.view_is c.loop-hart-test.false in
    run_ended (c.loop-hart.invariant.along.along i rest read) (inl done)

pub advance-requires-clause-underway : goal.advance-requires-clause-underway
advance-requires-clause-underway g c = on_underway c.loop-hart.invariant.along c.requires.count c.requires.services

pub advance-requires-clause-sound : goal.advance-requires-clause-sound
advance-requires-clause-sound g c = (on_some c.loop-hart.invariant.along).2.stays.sound

pub advance-requires-clause-knows : goal.advance-requires-clause-knows
advance-requires-clause-knows g c =
    ops_same (λ a. fetched c.args.hart.now.machine.bus a) (λ a. fetched c.loop-hart.hart.machine.bus a) (text_on c.loop-hart.invariant.along c.requires.between c.requires.fits)
    c.args.image.now c.loop-hart.learnt.ops c.loop-hart.invariant.knows

pub returns-then-hart-n-clause-ran : goal.returns-then-hart-n-clause-ran
returns-then-hart-n-clause-ran g c i rest read =
    let on = on_onward c.loop-hart.invariant.along c.advance.ensures.onward c.advance.ensures.stays in
    let done = subst (λ (h : HartData). c.args.n ≤ h.machine.steps) c.hart-in-loop-hart.view_is c.if-hart-n.true in
    run_ended (on.along i rest read) (inl done)

pub quick_step-requires-clause-ready : goal.quick_step-requires-clause-ready
quick_step-requires-clause-ready g c =
    let on = on_onward c.loop-hart.invariant.along c.advance.ensures.onward c.advance.ensures.stays in
    let more = subst (λ (h : HartData). h.machine.steps < c.args.n) c.hart-in-loop-hart.view_is c.if-hart-n.false in
    let point = (on_some on).2.stays.point in
    record {
      running = c.advance.ensures.going;
      few = omega (arith, more, c.requires.limit);
      count = count_small point more c.advance.ensures.going c.requires.limit c.requires.count;
      services = calls_small point more c.advance.ensures.going c.requires.limit c.requires.services;
      fits = point.fits;
    }

pub quick_step-requires-clause-sound : goal.quick_step-requires-clause-sound
quick_step-requires-clause-sound g c =
    let on = on_onward c.loop-hart.invariant.along c.advance.ensures.onward c.advance.ensures.stays in
    (on_some on).2.stays.sound

pub loop-hart-preserved : goal.loop-hart-preserved
loop-hart-preserved g c =
    let on = on_onward c.loop-hart.invariant.along c.advance.ensures.onward c.advance.ensures.stays in
    let more = subst (λ (h : HartData). h.machine.steps < c.args.n) c.hart-in-loop-hart.view_is c.if-hart-n.false in
    record {
      along = on_more on c.in_ok-quick_step.ensures.gave (λ i mid rest was read. steps_on was g.met.R.CacheRom.laws more c.advance.ensures.going c.in_ok-quick_step.ensures.word (c.in_ok-quick_step.ensures.stepped mid rest read));
      knows = ops_same (λ a. fetched c.advance.new.hart.machine.bus a) (λ a. fetched c.args.hart.now.machine.bus a) (λ a. sym (text_on on c.requires.between c.requires.fits a))
          c.args.image.now c.advance.new.self.ops c.advance.ensures.knows;
    }

pub loop-hart-smaller : goal.loop-hart-smaller
loop-hart-smaller g c =
    let on = on_onward c.loop-hart.invariant.along c.advance.ensures.onward c.advance.ensures.stays in
    let more = subst (λ (h : HartData). h.machine.steps < c.args.n) c.hart-in-loop-hart.view_is c.if-hart-n.false in
    let before = (on_some c.loop-hart.invariant.along).2.stays.point in
    let raised = onward_most g.R.CacheRom.service c.advance.ensures.onward before.fits before.steps in
    let step = falls more c.advance.ensures.going (as_told_stands c.in_ok-quick_step.ensures.gave (λ i rest read. (c.in_ok-quick_step.ensures.stepped i rest read).grown (on_some on).2.stays.sound)) in
    omega (arith, raised, step)

pub returns-in_err-quick_step-clause-ran : goal.returns-in_err-quick_step-clause-ran
returns-in_err-quick_step-clause-ran g c i rest read =
    let on = on_onward c.loop-hart.invariant.along c.advance.ensures.onward c.advance.ensures.stays in
    let p = err_from_is_err_and c.from_residual.result c.from_residual.ensures.1 in
    let more = subst (λ (h : HartData). h.machine.steps < c.args.n) c.hart-in-loop-hart.view_is c.if-hart-n.false in
    rw (p.1, p.2) (run_broken (on.along i _ (read_first on.gave c.in_err-quick_step.ensures.gave read)) more c.advance.ensures.going c.in_err-quick_step.ensures.word (c.in_err-quick_step.ensures.stepped _ rest (read_last on.gave c.in_err-quick_step.ensures.gave read)))
