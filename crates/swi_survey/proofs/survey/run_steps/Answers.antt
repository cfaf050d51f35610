use Rattle.std.proofs.Common.{◌≡◌, ◌<◌, ◌≤◌, ◌^◌, ℕ, is_some, false, true, None, arith, refl, sym, ◌∙◌, ap, subst, inl, inr, rules}
use Rattle.std.proofs.lemmas.Result.{err_from_is_err_and}
use Rattle.swi_flat.specs.FlatData.{FlatData}
use Rattle.swi_survey.specs.declared.track.Here.{Here}
use Rattle.swi_survey.specs.declared.track.Step.{Step}
use Rattle.swi_survey.specs.Track.{Coasts, StandsAt, StepIs}
use Rattle.swi_survey.proofs.Places.{ground}
use Rattle.swi_survey.proofs.Coasting.{passed_more, passed_ready, passed_run, passed_word, same_run, standing_so}
use Rattle.swi_survey.proofs.Running.{is_step, leaves, ran_end, ran_failed, ran_stored, running_first, running_on, settled_ready, store_at}
use Rattle.swi_survey.proofs.survey.run_steps.Goals as goal

pub loop-flat-init : goal.loop-flat-init
loop-flat-init g c = running_first c.args.text.now c.args.image.now c.args.limit c.args.flat.now c.args.track.now _ c.requires.begun

pub coast-requires-clause-within : goal.coast-requires-clause-within
coast-requires-clause-within g c = omega (arith, c.loop-flat-test.true, c.steps.ensures)

pub next_step-step-requires : goal.next_step-step-requires
next_step-step-requires g c =
    let same = c.coast.ensures.none c.in_default.is in
    (c.settle.ensures c.coast.new.flat.machine (ap (λ (q : FlatData). q.machine.pc) same ∙ sym c.pc.ensures)).stands

pub overflow_add-track : goal.overflow_add-track
overflow_add-track g c =
    let same = c.coast.ensures.none c.in_default.is in
    let inv = same_run c.loop-flat.flat c.coast.new.flat same c.loop-flat.invariant in
    let settled = c.settle.ensures c.coast.new.flat.machine (ap (λ (q : FlatData). q.machine.pc) same ∙ sym c.pc.ensures) in
    let steps : c.coast.new.flat.machine.steps ≡ c.loop-flat.flat.machine.steps = ap (λ (q : FlatData). q.machine.steps) same in
    let fewer : c.coast.new.flat.machine.steps < c.args.limit = omega (arith, c.loop-flat-test.true, c.steps.ensures, steps) in
    let few : c.coast.new.flat.machine.steps ≤ 2 ^ 48 = omega (arith, fewer, c.requires.few) in
    let open_end : c.loop-flat.flat.machine.ending ≡ None = search rules in
    let on : c.coast.new.flat.machine.ending ≡ None = ap (λ (q : FlatData). q.machine.ending) same ∙ open_end in
    let ready = settled_ready c.args.text.now c.args.image.now c.coast.new.flat.machine c.coast.new.flat.machine.steps c.loop-flat.track c.settle.new.self settled inv.tracks few in
    omega (arith, ready.fetches_few)

pub returns-in-Store : goal.returns-in-Store
returns-in-Store g c =
    let t = c.args.text.now in
    let v = c.args.image.now in
    let same = c.coast.ensures.none c.in_default.is in
    let inv = same_run c.loop-flat.flat c.coast.new.flat same c.loop-flat.invariant in
    let settled = c.settle.ensures c.coast.new.flat.machine (ap (λ (q : FlatData). q.machine.pc) same ∙ sym c.pc.ensures) in
    let steps : c.coast.new.flat.machine.steps ≡ c.loop-flat.flat.machine.steps = ap (λ (q : FlatData). q.machine.steps) same in
    let fewer : c.coast.new.flat.machine.steps < c.args.limit = omega (arith, c.loop-flat-test.true, c.steps.ensures, steps) in
    let few : c.coast.new.flat.machine.steps ≤ 2 ^ 48 = omega (arith, fewer, c.requires.few) in
    let open_end : c.loop-flat.flat.machine.ending ≡ None = search rules in
    let on : c.coast.new.flat.machine.ending ≡ None = ap (λ (q : FlatData). q.machine.ending) same ∙ open_end in
    let is : StepIs t c.coast.new.flat c.settle.new.self.here c.next_step-step.result = c.next_step-step.ensures in
    let at = store_at t c.coast.new.flat c.settle.new.self.here c.in-Store.a (subst (λ (s : Step). StepIs t c.coast.new.flat c.settle.new.self.here s) c.in-Store.is is) in
    ran_stored inv c.settle.new.self c.in-Store.a at.0 (ground t v c.requires.sized c.requires.image c.requires.own) fewer on settled at.1
    (subst (λ (h : Here). StandsAt t c.coast.new.flat.machine.pc h) at.1 settled.stands) at.2 _ c.requires.few refl refl refl

pub returns-in_err-step : goal.returns-in_err-step
returns-in_err-step g c =
    let t = c.args.text.now in
    let v = c.args.image.now in
    let p = err_from_is_err_and c.from_residual.result c.from_residual.ensures.1 in
    let same = c.coast.ensures.none c.in_default.is in
    let inv = same_run c.loop-flat.flat c.coast.new.flat same c.loop-flat.invariant in
    let settled = c.settle.ensures c.coast.new.flat.machine (ap (λ (q : FlatData). q.machine.pc) same ∙ sym c.pc.ensures) in
    let steps : c.coast.new.flat.machine.steps ≡ c.loop-flat.flat.machine.steps = ap (λ (q : FlatData). q.machine.steps) same in
    let fewer : c.coast.new.flat.machine.steps < c.args.limit = omega (arith, c.loop-flat-test.true, c.steps.ensures, steps) in
    let few : c.coast.new.flat.machine.steps ≤ 2 ^ 48 = omega (arith, fewer, c.requires.few) in
    let open_end : c.loop-flat.flat.machine.ending ≡ None = search rules in
    let on : c.coast.new.flat.machine.ending ≡ None = ap (λ (q : FlatData). q.machine.ending) same ∙ open_end in
    rw (p.1, p.2) (ran_failed inv c.step.new.self c.settle.new.self c.next_step-step.result _ _ (ground t v c.requires.sized c.requires.image c.requires.own) fewer on settled.stands
    c.next_step-step.ensures c.in_default-step.not-Store c.in_err-step.ensures.stays c.in_err-step.ensures.moved c.in_err-step.ensures.devices)

pub follow-requires : goal.follow-requires
follow-requires g c =
    let t = c.args.text.now in
    let v = c.args.image.now in
    let same = c.coast.ensures.none c.in_default.is in
    let inv = same_run c.loop-flat.flat c.coast.new.flat same c.loop-flat.invariant in
    let settled = c.settle.ensures c.coast.new.flat.machine (ap (λ (q : FlatData). q.machine.pc) same ∙ sym c.pc.ensures) in
    let steps : c.coast.new.flat.machine.steps ≡ c.loop-flat.flat.machine.steps = ap (λ (q : FlatData). q.machine.steps) same in
    let fewer : c.coast.new.flat.machine.steps < c.args.limit = omega (arith, c.loop-flat-test.true, c.steps.ensures, steps) in
    let few : c.coast.new.flat.machine.steps ≤ 2 ^ 48 = omega (arith, fewer, c.requires.few) in
    let open_end : c.loop-flat.flat.machine.ending ≡ None = search rules in
    let on : c.coast.new.flat.machine.ending ≡ None = ap (λ (q : FlatData). q.machine.ending) same ∙ open_end in
    record {
      sized = c.requires.sized;
      image = c.requires.image;
      own = c.requires.own;
      ready = settled_ready t v c.coast.new.flat.machine c.coast.new.flat.machine.steps c.loop-flat.track c.settle.new.self settled inv.tracks few;
      leaves = leaves t c.coast.new.flat c.settle.new.self.here c.next_step-step.result settled.stands c.next_step-step.ensures c.in_default-step.not-Store;
    }

pub loop-flat-preserved : goal.loop-flat-preserved
loop-flat-preserved g c =
    let t = c.args.text.now in
    let v = c.args.image.now in
    let same = c.coast.ensures.none c.in_default.is in
    let inv = same_run c.loop-flat.flat c.coast.new.flat same c.loop-flat.invariant in
    let settled = c.settle.ensures c.coast.new.flat.machine (ap (λ (q : FlatData). q.machine.pc) same ∙ sym c.pc.ensures) in
    let steps : c.coast.new.flat.machine.steps ≡ c.loop-flat.flat.machine.steps = ap (λ (q : FlatData). q.machine.steps) same in
    let fewer : c.coast.new.flat.machine.steps < c.args.limit = omega (arith, c.loop-flat-test.true, c.steps.ensures, steps) in
    let few : c.coast.new.flat.machine.steps ≤ 2 ^ 48 = omega (arith, fewer, c.requires.few) in
    let open_end : c.loop-flat.flat.machine.ending ≡ None = search rules in
    let on : c.coast.new.flat.machine.ending ≡ None = ap (λ (q : FlatData). q.machine.ending) same ∙ open_end in
    let ground_is = ground t v c.requires.sized c.requires.image c.requires.own in
    let step = is_step inv c.step.new.self c.settle.new.self c.follow.new.self c.next_step-step.result _ ground_is fewer on settled
    c.next_step-step.ensures c.in_default-step.not-Store c.in_ok-step.ensures.machine c.in_ok-step.ensures.counted c.in_ok-step.ensures.failed c.in_ok-step.ensures.devices in
    let follows = c.follow.ensures c.coast.new.flat.machine c.step.new.self.machine c.coast.new.flat.failed step (sym c.pc-in-loop-flat.ensures)
    (ap (λ o. is_some o) (sym c.ending-in-loop-flat.ensures) ∙ sym c.is_some.ensures) in
    running_on inv c.step.new.self c.settle.new.self c.follow.new.self c.next_step-step.result _ ground_is fewer on settled
    c.next_step-step.ensures c.in_default-step.not-Store c.in_ok-step.ensures.machine c.in_ok-step.ensures.counted c.in_ok-step.ensures.failed c.in_ok-step.ensures.devices follows

-- steps that no cache has to follow
pub pass-requires-clause-ready : goal.pass-requires-clause-ready
pass-requires-clause-ready g c =
    let t = c.args.text.now in
    let v = c.args.image.now in
    let settled = c.settle.ensures c.loop-flat.flat.machine (sym c.pc.ensures) in
    let on : c.loop-flat.flat.machine.ending ≡ None = search rules in
    let ground_is = ground t v c.requires.sized c.requires.image c.requires.own in
    let coasts : Coasts t.base c.settle.new.self c.loop-flat.flat.machine c.coast.new.flat.machine c.in-Some.coasted =
    subst (λ (n : ℕ). Coasts n c.settle.new.self c.loop-flat.flat.machine c.coast.new.flat.machine c.in-Some.coasted) c.base.ensures.value c.in-Some.ensures.coasted in
    let standing = standing_so c.loop-flat.flat c.loop-flat.invariant settled in
    passed_ready ground_is c.loop-flat.flat c.coast.new.flat c.settle.new.self c.in-Some.coasted standing on c.in-Some.ensures.within c.in-Some.ensures.failed coasts c.requires.few

pub pass-requires-clause-word : goal.pass-requires-clause-word
pass-requires-clause-word g c =
    let t = c.args.text.now in
    let v = c.args.image.now in
    let settled = c.settle.ensures c.loop-flat.flat.machine (sym c.pc.ensures) in
    let on : c.loop-flat.flat.machine.ending ≡ None = search rules in
    let ground_is = ground t v c.requires.sized c.requires.image c.requires.own in
    let coasts : Coasts t.base c.settle.new.self c.loop-flat.flat.machine c.coast.new.flat.machine c.in-Some.coasted =
    subst (λ (n : ℕ). Coasts n c.settle.new.self c.loop-flat.flat.machine c.coast.new.flat.machine c.in-Some.coasted) c.base.ensures.value c.in-Some.ensures.coasted in
    let standing = standing_so c.loop-flat.flat c.loop-flat.invariant settled in
    passed_word ground_is c.loop-flat.flat c.coast.new.flat c.settle.new.self c.in-Some.coasted standing on c.in-Some.ensures.within c.in-Some.ensures.failed coasts

pub loop-flat-smaller-in-Some : goal.loop-flat-smaller-in-Some
loop-flat-smaller-in-Some g c =
    let t = c.args.text.now in
    let v = c.args.image.now in
    let settled = c.settle.ensures c.loop-flat.flat.machine (sym c.pc.ensures) in
    let on : c.loop-flat.flat.machine.ending ≡ None = search rules in
    let ground_is = ground t v c.requires.sized c.requires.image c.requires.own in
    let coasts : Coasts t.base c.settle.new.self c.loop-flat.flat.machine c.coast.new.flat.machine c.in-Some.coasted =
    subst (λ (n : ℕ). Coasts n c.settle.new.self c.loop-flat.flat.machine c.coast.new.flat.machine c.in-Some.coasted) c.base.ensures.value c.in-Some.ensures.coasted in
    let standing = standing_so c.loop-flat.flat c.loop-flat.invariant settled in
    let more = passed_more ground_is c.loop-flat.flat c.coast.new.flat c.settle.new.self c.in-Some.coasted standing on c.in-Some.ensures.within c.in-Some.ensures.failed coasts c.in-Some.ensures.some in
    let within = c.in-Some.ensures.within in
    omega (arith, more, within)

pub loop-flat-preserved-in-Some : goal.loop-flat-preserved-in-Some
loop-flat-preserved-in-Some g c =
    let t = c.args.text.now in
    let v = c.args.image.now in
    let settled = c.settle.ensures c.loop-flat.flat.machine (sym c.pc.ensures) in
    let on : c.loop-flat.flat.machine.ending ≡ None = search rules in
    let ground_is = ground t v c.requires.sized c.requires.image c.requires.own in
    let coasts : Coasts t.base c.settle.new.self c.loop-flat.flat.machine c.coast.new.flat.machine c.in-Some.coasted =
    subst (λ (n : ℕ). Coasts n c.settle.new.self c.loop-flat.flat.machine c.coast.new.flat.machine c.in-Some.coasted) c.base.ensures.value c.in-Some.ensures.coasted in
    let standing = standing_so c.loop-flat.flat c.loop-flat.invariant settled in
    passed_run ground_is c.loop-flat.flat c.coast.new.flat c.settle.new.self c.in-Some.coasted standing on c.in-Some.ensures.within c.in-Some.ensures.failed coasts c.in-Some.ensures.some c.pass.new.self c.pass.ensures.passed
    (λ taken w is read step going. c.pass.ensures.follows taken w _ c.coast.new.flat.machine false is read step (sym c.pc-in-Some.ensures) going)

pub returns-else-is_none : goal.returns-else-is_none
returns-else-is_none g c = let over : is_some c.loop-flat.flat.machine.ending ≡ true = search rules in ran_end c.loop-flat.invariant c.requires.few (inl over)

pub returns-after-loop-flat : goal.returns-after-loop-flat
returns-after-loop-flat g c = ran_end c.loop-flat.invariant c.requires.few (inr (omega (arith, c.loop-flat-test.false, c.steps.ensures)))
