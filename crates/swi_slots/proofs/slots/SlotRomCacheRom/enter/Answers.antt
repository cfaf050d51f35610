use Rattle.std.proofs.Common.{ap, arith, refl, sym, ◌∙◌}
use Rattle.swi_rom.specs.Record.{indirect}
use Rattle.swi_slots.specs.Slots.{Slots}
use Rattle.swi_slots.proofs.Crossing.{outside_served}
use Rattle.swi_slots.proofs.Calls.{place_block, index_fits, entered_call, arrived_serves, arrived_sound}
use Rattle.swi_slots.proofs.Unused.{setting_same, unused_stays}
use Rattle.swi_slots.proofs.slots.SlotRomCacheRom.enter.Goals as goal

pub returns-in_default-clause-served : goal.returns-in_default-clause-served
returns-in_default-clause-served g c = outside_served _ _ (indirect c.args.target) _ refl (sym c.in_default.ensures.place)

pub overflow_mul-result : goal.overflow_mul-result
overflow_mul-result g c =
    let q = (place_block _ _ _ _ _ c.requires.sound c.in-Some.ensures.place).1 in
    omega (arith, index_fits _ _ _ _ _ c.in-Ok.slot c.self-2.inside.size _ _ c.requires.sound c.in-Ok.ensures.arrived q (ap (λ (s : Slots). s.size) c.self-2.view_is ∙ c.in-Ok.ensures.size))

pub overflow_add-result : goal.overflow_add-result
overflow_add-result g c =
    let q = (place_block _ _ _ _ _ c.requires.sound c.in-Some.ensures.place).1 in
    omega (arith, index_fits _ _ _ _ _ c.in-Ok.slot c.self-2.inside.size _ _ c.requires.sound c.in-Ok.ensures.arrived q (ap (λ (s : Slots). s.size) c.self-2.view_is ∙ c.in-Ok.ensures.size))

pub returns-clause-served : goal.returns-clause-served
returns-clause-served g c =
    entered_call _ _ _ _ _ c.in-Ok.slot c.self-2.inside.size _ _ _ c.requires.sound c.in-Ok.ensures.arrived (sym c.in-Some.ensures.place) (ap (λ (s : Slots). s.size) c.self-2.view_is ∙ c.in-Ok.ensures.size)

pub returns-clause-unused : goal.returns-clause-unused
returns-clause-unused g c =
    let served = entered_call _ _ _ _ _ c.in-Ok.slot c.self-2.inside.size _ _ _ c.requires.sound c.in-Ok.ensures.arrived (sym c.in-Some.ensures.place) (ap (λ (s : Slots). s.size) c.self-2.view_is ∙ c.in-Ok.ensures.size) in
    unused_stays c.args.self.now c.arrive.new.self c.args.image.now (indirect c.args.target) _ _ c.requires.sound (arrived_sound _ _ _ _ _ _ _ c.requires.sound c.in-Ok.ensures.arrived) (setting_same c.args.self.now c.arrive.new.self c.in-Ok.ensures.slots c.in-Ok.ensures.size c.in-Ok.ensures.programs) served.moves served.words

pub returns-clause-stays : goal.returns-clause-stays
returns-clause-stays g c = arrived_sound _ _ _ _ _ _ _ c.requires.sound c.in-Ok.ensures.arrived

pub returns-clause-keeps : goal.returns-clause-keeps
returns-clause-keeps g c = arrived_serves _ _ _ _ _ _ _ c.in-Ok.ensures.arrived
