use Rattle.std.proofs.Common.{arith, ap, refl, sym, ◌∙◌}
use Rattle.swi_rom.specs.Record.{direct}
use Rattle.swi_engine.specs.State.{EngineData}
use Rattle.swi_engine.proofs.Counting.{row_within}
use Rattle.swi_engine.proofs.Crossing.{outside_served, exit_not_linked, exit_below, crossed_call, crossed_fault, link_needs}
use Rattle.swi_engine.proofs.Unused.{unused_stays}
use Rattle.swi_engine.proofs.engine.EngineRomCacheRom.cross.Goals as goal

pub returns-in_default-clause-served : goal.returns-in_default-clause-served
returns-in_default-clause-served g c = λ b o f h lt at.
    outside_served _ c.args.self.now (direct b o c.args.target) _ (exit_not_linked _ c.args.self.now _ _ _ b o f c.requires.sound c.requires.exit h lt at) (sym c.in_default.ensures.place)

pub index-requires : goal.index-requires
index-requires g c = omega (arith, exit_below _ _ _ _ c.args.at c.args.target c.self.view_is c.requires.sound c.requires.exit)

pub returns-in_default-arrive-clause-setting : goal.returns-in_default-arrive-clause-setting
returns-in_default-arrive-clause-setting g c = c.in_default-arrive.ensures.setting

pub overflow_mul-index : goal.overflow_mul-index
overflow_mul-index g c =
    let arr = c.in-Ok.ensures.arrived in
    omega (arith, (row_within _ _ _ _ _ _ _ c.in-Ok.slot c.self-2.view_is arr.sound c.in-Some.ensures.place arr.stands).1)

pub overflow_add-index : goal.overflow_add-index
overflow_add-index g c =
    let arr = c.in-Ok.ensures.arrived in
    omega (arith, (row_within _ _ _ _ _ _ _ c.in-Ok.slot c.self-2.view_is arr.sound c.in-Some.ensures.place arr.stands).0)

pub link_exit-requires-clause-block : goal.link_exit-requires-clause-block
link_exit-requires-clause-block g c = (link_needs _ _ _ _ _ _ _ _ _ _ _ c.self.view_is c.requires.sound c.requires.exit c.in-Ok.ensures.arrived c.index.ensures).block

pub link_exit-requires-clause-at : goal.link_exit-requires-clause-at
link_exit-requires-clause-at g c = (link_needs _ _ _ _ _ _ _ _ _ _ _ c.self.view_is c.requires.sound c.requires.exit c.in-Ok.ensures.arrived c.index.ensures).at

pub link_exit-requires-clause-to : goal.link_exit-requires-clause-to
link_exit-requires-clause-to g c =
    let arr = c.in-Ok.ensures.arrived in
    (row_within _ _ _ _ _ _ _ c.in-Ok.slot c.self-2.view_is arr.sound c.in-Some.ensures.place arr.stands).2

pub link_exit-requires-clause-into : goal.link_exit-requires-clause-into
link_exit-requires-clause-into g c = (link_needs _ _ _ _ _ _ _ _ _ _ _ c.self.view_is c.requires.sound c.requires.exit c.in-Ok.ensures.arrived c.index.ensures).into

pub link_exit-requires-clause-free : goal.link_exit-requires-clause-free
link_exit-requires-clause-free g c = (link_needs _ _ _ _ _ _ _ _ _ _ _ c.self.view_is c.requires.sound c.requires.exit c.in-Ok.ensures.arrived c.index.ensures).free

pub returns-in_default-link_exit-clause-served : goal.returns-in_default-link_exit-clause-served
returns-in_default-link_exit-clause-served g c = λ b o f h lt at.
    crossed_fault _ c.args.self.now c.arrive.new.self c.link_exit.new.self _ _ _ _ b o _ _ _ (sym c.in-Some.ensures.place) c.in-Ok.ensures.arrived c.in_default-link_exit.ensures.failed

pub returns-in_default-link_exit-clause-setting : goal.returns-in_default-link_exit-clause-setting
returns-in_default-link_exit-clause-setting g c = c.in_default-link_exit.ensures.setting ∙ c.in-Ok.ensures.setting

pub returns-clause-served : goal.returns-clause-served
returns-clause-served g c = (crossed_call _ _ _ _ _ _ _ _ _ _ _ _ _ _ _ _ c.self.view_is c.requires.sound c.requires.exit (sym c.in-Some.ensures.place) c.in-Ok.ensures.arrived c.index.ensures (ap (λ (e : EngineData). e.size) c.self-2.view_is) refl c.in-Ok-link_exit.ensures.linked).0

pub returns-clause-setting : goal.returns-clause-setting
returns-clause-setting g c = c.in-Ok-link_exit.ensures.setting ∙ c.in-Ok.ensures.setting

pub returns-clause-unused : goal.returns-clause-unused
returns-clause-unused g c =
    let x = c.requires.exit in
    let call = crossed_call _ _ _ _ _ _ _ _ _ _ _ _ _ _ _ _ c.self.view_is c.requires.sound c.requires.exit (sym c.in-Some.ensures.place) c.in-Ok.ensures.arrived c.index.ensures (ap (λ (e : EngineData). e.size) c.self-2.view_is) refl c.in-Ok-link_exit.ensures.linked in
    let one = call.0 x.block x.offset x.first x.is_placed (omega (arith, x.is_exit.inside)) x.index in
    unused_stays _ _ _ _ _ _ c.requires.sound call.1 (c.in-Ok-link_exit.ensures.setting ∙ c.in-Ok.ensures.setting) one.moves one.words

pub returns-clause-stays : goal.returns-clause-stays
returns-clause-stays g c = (crossed_call _ _ _ _ _ _ _ _ _ _ _ _ _ _ _ _ c.self.view_is c.requires.sound c.requires.exit (sym c.in-Some.ensures.place) c.in-Ok.ensures.arrived c.index.ensures (ap (λ (e : EngineData). e.size) c.self-2.view_is) refl c.in-Ok-link_exit.ensures.linked).1

pub returns-clause-keeps : goal.returns-clause-keeps
returns-clause-keeps g c = λ images serves. (crossed_call _ _ _ _ _ _ _ _ _ _ _ _ _ _ _ _ c.self.view_is c.requires.sound c.requires.exit (sym c.in-Some.ensures.place) c.in-Ok.ensures.arrived c.index.ensures (ap (λ (e : EngineData). e.size) c.self-2.view_is) refl c.in-Ok-link_exit.ensures.linked).1
