use Rattle.std.proofs.Common.{◌≡◌, ℕ, ◌<◌, ap, sym, subst, ◌∙◌, slice_index}
use Rattle.swi_image.specs.Format.{ImageData}
use Rattle.swi_slots.specs.Slots.{Slots}
use Rattle.swi_slots.specs.Keys.{key_of}
use Rattle.swi_slots.specs.Sound.{SlotsSound}
use Rattle.swi_slots.specs.Steps.{Filled, IsAbsent, counted_slots}
use Rattle.swi_slots.specs.Arrived.{Arrived}
use Rattle.swi_slots.proofs.Arriving.{counted_service, hit_arrived}
use Rattle.swi_slots.proofs.Filling.{sound_few, sound_known}
use Rattle.swi_slots.proofs.Misses.{miss_arrived}
use Rattle.swi_slots.proofs.slots.SlotRom.arrive.Goals as goal

pub fill-requires-clause-sound : goal.fill-requires-clause-sound
fill-requires-clause-sound g c =
    subst (λ (s : Slots). SlotsSound s c.args.image.now (g.M.CacheRam.state c.args.ram.now).words) (sym c.count_near.ensures) (counted_service _ _ _ c.requires.sound)

pub returns-in-Some-clause-arrived : goal.returns-in-Some-clause-arrived
returns-in-Some-clause-arrived g c = λ vs serves.
    let a = g.M.CacheRam.state c.args.ram.now in
    subst (λ (t : Slots). Arrived vs c.args.self.now c.args.block c.in-Some.slot t a a) (sym c.count_near.ensures)
    (hit_arrived c.args.self.now vs c.args.block c.in-Some.slot a serves.1
    (subst (λ (t : Slots). c.in-Some.slot < t.filled) c.count_near.ensures c.in-Some.ensures.0)
    (sound_few _ _ c.args.block _ c.requires.sound c.requires.block)
    (subst (λ (t : Slots). slice_index t.blocks c.in-Some.slot ≡ key_of t.turn c.args.block) c.count_near.ensures c.in-Some.ensures.1))

pub returns-in_ok-fill-in-None-clause-arrived : goal.returns-in_ok-fill-in-None-clause-arrived
returns-in_ok-fill-in-None-clause-arrived g c = λ vs serves.
    let a = g.M.CacheRam.state c.args.ram.now in
    let b = g.M.CacheRam.state c.fill.new.ram in
    subst (λ (n : ℕ). Arrived vs c.args.self.now c.args.block n c.fill.new.self a b) (sym (ap (λ (s : Slots). s.next) (c.self.view_is ∙ c.count_near.ensures)))
    (miss_arrived vs c.args.self.now c.fill.new.self c.args.block a b serves.1
    (subst (λ (s : Slots). IsAbsent s (key_of s.turn c.args.block)) c.count_near.ensures c.in-None.ensures)
    (sound_known vs _ _ c.args.block _ serves c.requires.block)
    (subst (λ (v : ImageData). Filled v (counted_slots c.args.self.now) c.args.block c.fill.new.self a b) (sym serves.0)
    (subst (λ (s : Slots). Filled c.args.image.now s c.args.block c.fill.new.self a b) c.count_near.ensures c.in_ok-fill-in-None.ensures.filled)))
