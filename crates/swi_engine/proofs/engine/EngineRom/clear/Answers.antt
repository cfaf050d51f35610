use Rattle.std.proofs.Common.{length, arith, ap, refl, ◌∙◌}
use Rattle.std.proofs.lemmas.List.Edits.{length-remove}
use Rattle.swi_engine.specs.State.{EngineData, setting_of}
use Rattle.swi_engine.proofs.Working.{found_link, joint_bound}
use Rattle.swi_engine.proofs.Joining.{newest_now, none_now}
use Rattle.swi_engine.proofs.Clearing.{clearing_step, clearing_few}
use Rattle.swi_engine.proofs.engine.EngineRom.clear.Goals as goal

pub newest_into-requires : goal.newest_into-requires
newest_into-requires g c =
    omega (arith, c.requires.block, c.self.invariant.3, ap (λ (e : EngineData). length e.homes) c.self.view_is, ap (λ (e : EngineData). length e.homes) c.loop-at.invariant.rest)

pub undo-requires-clause-at : goal.undo-requires-clause-at
undo-requires-clause-at g c =
    let w = newest_now _ _ _ c.args.block _ c.self.view_is refl c.in-Some.ensures in
    omega (arith, joint_bound _ _ _ _ w.2.0 c.loop-at.invariant.stands w.2.1, w.2.2)

pub undo-requires-clause-apart : goal.undo-requires-clause-apart
undo-requires-clause-apart g c = c.loop-at.invariant.stands.apart

pub undo-requires-clause-few : goal.undo-requires-clause-few
undo-requires-clause-few g c = omega (arith, clearing_few _ _ _ _ _ _ c.loop-at.invariant, c.requires.few)

pub loop-at-smaller : goal.loop-at-smaller
loop-at-smaller g c =
    let w = newest_now _ _ _ c.args.block _ c.self.view_is refl c.in-Some.ensures in
    omega (arith, ap (λ (e : EngineData). length e.joints) (c.in_ok-undo.ensures.data w.0 w.2), length-remove c.loop-at.self.joints w.0 (found_link c.loop-at.self c.args.block w.0 w.1))

pub loop-at-preserved : goal.loop-at-preserved
loop-at-preserved g c =
    let w = newest_now _ _ _ c.args.block _ c.self.view_is refl c.in-Some.ensures in
    clearing_step _ _ _ _ _ _ _ _ _ c.loop-at.invariant w (c.in_ok-undo.ensures.data w.0 w.2) c.in_ok-undo.ensures.set

pub returns-clause-all : goal.returns-clause-all
returns-clause-all g c = none_now _ _ _ _ c.self.view_is refl c.in_default.ensures

pub returns-in_err-undo-clause-setting : goal.returns-in_err-undo-clause-setting
returns-in_err-undo-clause-setting g c = ap (λ (e : EngineData). setting_of e) c.in_err-undo.ensures.same ∙ ap (λ (e : EngineData). setting_of e) c.loop-at.invariant.rest

pub returns-clause-setting : goal.returns-clause-setting
returns-clause-setting g c = ap (λ (e : EngineData). setting_of e) c.loop-at.invariant.rest
