use Rattle.std.proofs.Common.{arith, ap, refl, sym}
use Rattle.swi_rom.specs.Record.{indirect}
use Rattle.swi_engine.specs.State.{EngineData}
use Rattle.swi_engine.proofs.Counting.{row_within}
use Rattle.swi_engine.proofs.Crossing.{entered_call, outside_served}
use Rattle.swi_engine.proofs.Unused.{unused_stays}
use Rattle.swi_engine.proofs.engine.EngineRomCacheRom.enter.Goals as goal

pub returns-in_default-clause-served : goal.returns-in_default-clause-served
returns-in_default-clause-served g c = outside_served _ c.args.self.now (indirect c.args.target) _ refl (sym c.in_default.ensures.place)

pub returns-in_default-arrive-clause-setting : goal.returns-in_default-arrive-clause-setting
returns-in_default-arrive-clause-setting g c = c.in_default-arrive.ensures.setting

pub overflow_mul-result : goal.overflow_mul-result
overflow_mul-result g c =
    let arr = c.in-Ok.ensures.arrived in
    omega (arith, (row_within _ _ _ _ _ _ _ c.in-Ok.slot c.self-2.view_is arr.sound c.in-Some.ensures.place arr.stands).1)

pub overflow_add-result : goal.overflow_add-result
overflow_add-result g c =
    let arr = c.in-Ok.ensures.arrived in
    omega (arith, (row_within _ _ _ _ _ _ _ c.in-Ok.slot c.self-2.view_is arr.sound c.in-Some.ensures.place arr.stands).0)

pub returns-clause-served : goal.returns-clause-served
returns-clause-served g c = entered_call _ _ _ _ _ _ _ _ _ _ c.in-Ok.ensures.arrived c.in-Some.ensures.place (ap (λ (e : EngineData). e.size) c.self-2.view_is)

pub returns-clause-unused : goal.returns-clause-unused
returns-clause-unused g c =
    let arr = c.in-Ok.ensures.arrived in
    let one = entered_call _ _ _ _ _ _ _ _ _ _ arr c.in-Some.ensures.place (ap (λ (e : EngineData). e.size) c.self-2.view_is) in
    unused_stays _ _ _ _ _ _ c.requires.sound arr.sound arr.setting_stays one.moves one.words
