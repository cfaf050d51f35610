use Rattle.std.proofs.Common.{◌≤◌, length, arith, ap, sym, ◌∙◌}
use Rattle.swi_engine.specs.State.{EngineData}
use Rattle.swi_engine.proofs.Arriving.{same_ready, other_ready, free_at, made_ready}
use Rattle.swi_engine.proofs.engine.EngineRom.copy_for.Goals as goal

pub returns-then-copy-block-clause-ready : goal.returns-then-copy-block-clause-ready
returns-then-copy-block-clause-ready g c =
    let view = ap (λ (e : EngineData). e.copy) c.self.view_is in
    same_ready _ _ _ c.in-Some.copy _ c.requires.sound.stands (sym view ∙ c.in-Some.is) c.if-copy-block.true

pub returns-in-Some-clause-ready : goal.returns-in-Some-clause-ready
returns-in-Some-clause-ready g c =
    let view = ap (λ (e : EngineData). e.copy) c.self.view_is in
    other_ready _ _ _ c.in-Some.copy _ c.requires.sound.stands (sym view ∙ c.in-Some.is) c.if-copy-block.false c.requires.block c.requires.absent

pub returns-then-len-self-clause-ready : goal.returns-then-len-self-clause-ready
returns-then-len-self-clause-ready g c =
    let view = ap (λ (e : EngineData). e.copy) c.self.view_is in
    let long = ap (λ (e : EngineData). length e.queue) c.self.view_is in
    let slots = ap (λ (e : EngineData). e.slots) c.self.view_is in
    free_at _ _ c.len-slot.result _ _ c.requires.sound.stands (sym view ∙ c.in_default.is) (omega (arith, c.if-len-self.true, c.len.ensures, long, slots)) (omega (arith, c.len-slot.ensures, long)) c.requires.block c.requires.absent

pub make_room-requires-clause-some : goal.make_room-requires-clause-some
make_room-requires-clause-some g c =
    let long = ap (λ (e : EngineData). length e.queue) c.self.view_is in
    omega (arith, c.if-len-self.false, c.len.ensures, long, c.self.invariant.0.slots_some)

pub returns-clause-ready : goal.returns-clause-ready
returns-clause-ready g c =
    let view = ap (λ (e : EngineData). e.copy) c.self.view_is in
    let long = ap (λ (e : EngineData). length e.queue) c.self.view_is in
    let slots = ap (λ (e : EngineData). e.slots) c.self.view_is in
    let full : c.args.self.now.slots ≤ length c.args.self.now.queue = omega (arith, c.if-len-self.false, c.len.ensures, long, slots) in
    made_ready _ _ _ _ _ _ _ c.requires.sound (sym view ∙ c.in_default.is) full (omega (arith, full, c.requires.sound.stands.shape.slots_some)) c.requires.block c.requires.absent c.in_ok-slot.ensures.room
