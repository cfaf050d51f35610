use Rattle.std.proofs.Common.{ap, arith, sym, ◌∙◌, subst}
use Rattle.swi_slots.specs.Slots.{Slots}
use Rattle.swi_slots.specs.Sound.{SlotsSound, Serves}
use Rattle.swi_slots.proofs.Arriving.{counted_service, counted_serves, counted_alone}
use Rattle.swi_slots.proofs.Calls.{place_block, index_fits, absent_target, stood, found_target, visited}
use Rattle.swi_slots.proofs.slots.SlotRomCacheRom.revisit.Goals as goal

pub returns-in_err-slot-clause-absent : goal.returns-in_err-slot-clause-absent
returns-in_err-slot-clause-absent g c = λ none i at.
    absent_target _ _ _ _ _ _ i c.requires.sound (sym c.in_ok-block.ensures.place) c.in_err-slot.ensures at

pub overflow_mul-result : goal.overflow_mul-result
overflow_mul-result g c =
    let q = place_block _ _ _ _ _ c.requires.sound c.in_ok-block.ensures.place in
    let hit = stood _ _ _ _ (g.M.CacheRam.state c.args._ram.now) c.requires.sound q.0 c.in_ok-slot.ensures.0 c.in_ok-slot.ensures.1 in
    let size = ap (λ (s : Slots). s.size) (c.self-2.view_is ∙ c.count_near.ensures) in
    omega (arith, index_fits _ _ _ _ _ c.in_ok-slot.slot c.self-2.inside.size _ _ c.requires.sound hit q.1 size)

pub overflow_add-result : goal.overflow_add-result
overflow_add-result g c =
    let q = place_block _ _ _ _ _ c.requires.sound c.in_ok-block.ensures.place in
    let hit = stood _ _ _ _ (g.M.CacheRam.state c.args._ram.now) c.requires.sound q.0 c.in_ok-slot.ensures.0 c.in_ok-slot.ensures.1 in
    let size = ap (λ (s : Slots). s.size) (c.self-2.view_is ∙ c.count_near.ensures) in
    omega (arith, index_fits _ _ _ _ _ c.in_ok-slot.slot c.self-2.inside.size _ _ c.requires.sound hit q.1 size)

pub returns-clause-served : goal.returns-clause-served
returns-clause-served g c =
    let size = ap (λ (s : Slots). s.size) (c.self-2.view_is ∙ c.count_near.ensures) in
    visited c.args.image.now c.args.self.now _ _ _ (g.M.CacheRam.state c.args._ram.now) c.count_near.ensures c.requires.sound
    (found_target _ _ _ _ _ _ _ _ c.requires.sound c.in_ok-block.ensures.place c.in_ok-slot.ensures.0 c.in_ok-slot.ensures.1 size)

pub returns-clause-stays : goal.returns-clause-stays
returns-clause-stays g c =
    subst (λ (s : Slots). SlotsSound s c.args.image.now (g.M.CacheRam.state c.args._ram.now).words) (sym c.count_near.ensures) (counted_service _ _ _ c.requires.sound)

pub returns-clause-keeps : goal.returns-clause-keeps
returns-clause-keeps g c = λ vs serves.
    subst (λ (s : Slots). Serves s c.args.image.now vs (g.M.CacheRam.state c.args._ram.now).words) (sym c.count_near.ensures) (counted_serves _ _ _ _ serves)

pub returns-clause-placed : goal.returns-clause-placed
returns-clause-placed g c =
    let size = ap (λ (s : Slots). s.size) (c.self-2.view_is ∙ c.count_near.ensures) in
    found_target _ _ _ _ _ _ _ _ c.requires.sound c.in_ok-block.ensures.place c.in_ok-slot.ensures.0 c.in_ok-slot.ensures.1 size

pub returns-clause-counted : goal.returns-clause-counted
returns-clause-counted g c = counted_alone _ _ c.count_near.ensures
