use Rattle.std.proofs.Common.{◌<◌, length, arith, ap, refl, sym, ◌∙◌}
use Rattle.swi_engine.specs.State.{EngineData}
use Rattle.swi_engine.proofs.Working.{copy_worked, idle_worked, behind_last, stands_already, none_other, undone_call, queue_below, oldest_now, victim_now, slot_now, free_call, left_call, joint_bound, room_after, absent_after, here_small, found_oldest}
use Rattle.swi_engine.proofs.Views.{leaving}
use Rattle.swi_engine.proofs.Joining.{newest_now, none_now, owns_links}
use Rattle.swi_engine.proofs.Eventing.{words_kept}
use Rattle.swi_engine.proofs.engine.EngineRom.work.Goals as goal

pub returns-in-Some-clause-worked : goal.returns-in-Some-clause-worked
returns-in-Some-clause-worked g c =
    let view = ap (λ (e : EngineData). e.copy) c.self.view_is in
    copy_worked _ _ _ _ c.in-Some.copy _ _ c.requires.sound (sym view ∙ c.in-Some.is) (omega (arith, c.requires.few, words_kept c.args.self.now)) c.in_ok-write_next.ensures.data c.in_ok-write_next.ensures.set

pub overflow_add-block : goal.overflow_add-block
overflow_add-block g c = omega (arith, here_small _ _ _ c.args.here c.requires.sound.stands c.requires.here)

pub returns-then-block-blocks-clause-worked : goal.returns-then-block-blocks-clause-worked
returns-then-block-blocks-clause-worked g c =
    let view = ap (λ (e : EngineData). e.copy) c.self.view_is in
    idle_worked _ _ _ _ c.requires.sound (behind_last c.args.self.now _ c.args.here (sym view ∙ c.in_default.is) (omega (arith, c.if-block-blocks.true, c.blocks-2.ensures.value)))

pub find-requires : goal.find-requires
find-requires g c = omega (arith, c.if-block-blocks.false, c.blocks-2.ensures.value, c.requires.sound.stands.image.blocks, c.requires.sound.stands.blocks_most)

pub returns-in-Some-find-clause-worked : goal.returns-in-Some-find-clause-worked
returns-in-Some-find-clause-worked g c =
    let view = ap (λ (e : EngineData). e.copy) c.self.view_is in
    idle_worked _ _ _ _ c.requires.sound (stands_already c.args.self.now _ c.args.here _ (sym view ∙ c.in_default.is) c.in-Some-find.ensures.0 c.in-Some-find.ensures.1)

pub returns-then-len-self-clause-worked : goal.returns-then-len-self-clause-worked
returns-then-len-self-clause-worked g c =
    let view = ap (λ (e : EngineData). e.copy) c.self.view_is in
    let long = ap (λ (e : EngineData). length e.queue) c.self.view_is in
    let slots = ap (λ (e : EngineData). e.slots) c.self.view_is in
    free_call _ _ _ _ _ _ _ c.requires.sound (sym view ∙ c.in_default.is) (omega (arith, c.requires.few, words_kept c.args.self.now)) (omega (arith, c.if-block-blocks.false, c.blocks-2.ensures.value))
    c.in_default-find.ensures
    (omega (arith, c.if-len-self.true, c.len.ensures, long, slots)) (omega (arith, c.len-then-len-self.ensures, long))
    c.in_ok-write_next-2.ensures.data c.in_ok-write_next-2.ensures.set

pub oldest_but-requires : goal.oldest_but-requires
oldest_but-requires g c = record { below = queue_below _ _ c.self.invariant.0 c.deref.ensures.value }

pub returns-in_default-oldest_but-clause-worked : goal.returns-in_default-oldest_but-clause-worked
returns-in_default-oldest_but-clause-worked g c =
    let view = ap (λ (e : EngineData). e.copy) c.self.view_is in
    let long = ap (λ (e : EngineData). length e.queue) c.self.view_is in
    let slots = ap (λ (e : EngineData). e.slots) c.self.view_is in
    idle_worked _ _ _ _ c.requires.sound
    (none_other c.args.self.now _ _ c.args.here c.requires.sound.stands (sym view ∙ c.in_default.is) (omega (arith, c.if-block-blocks.false, c.blocks-2.ensures.value))
    c.in_default-find.ensures
    (omega (arith, c.if-len-self.false, c.len.ensures, long, slots))
    (oldest_now _ _ _ _ _ _ c.self.view_is c.deref.ensures.value c.oldest_but.ensures c.in_default-oldest_but.is))

pub index-requires : goal.index-requires
index-requires g c =
    let long = ap (λ (e : EngineData). length e.queue) c.self.view_is in
    let at = oldest_now _ _ _ _ _ _ c.self.view_is c.deref.ensures.value c.oldest_but.ensures c.in-Some-oldest_but.is in
    omega (arith, found_oldest c.args.self.now c.args.here c.in-Some-oldest_but.k at, long)

pub index-victim-requires : goal.index-victim-requires
index-victim-requires g c =
    let long = ap (λ (e : EngineData). length e.queue) c.self.view_is in
    let at = oldest_now _ _ _ _ _ _ c.self.view_is c.deref.ensures.value c.oldest_but.ensures c.in-Some-oldest_but.is in
    let lt : c.in-Some-oldest_but.k < length c.self.inside.queue.items = omega (arith, found_oldest c.args.self.now c.args.here c.in-Some-oldest_but.k at, long) in
    omega (arith, slot_now _ _ c.index.result.now c.self.invariant.0 lt c.index.ensures)

pub newest_into-requires : goal.newest_into-requires
newest_into-requires g c =
    let long = ap (λ (e : EngineData). length e.queue) c.self.view_is in
    let at = oldest_now _ _ _ _ _ _ c.self.view_is c.deref.ensures.value c.oldest_but.ensures c.in-Some-oldest_but.is in
    omega (arith, (leaving _ _ c.in-Some-oldest_but.k _ _ c.self.view_is c.self.invariant.0 (found_oldest c.args.self.now c.args.here c.in-Some-oldest_but.k at) c.index.ensures c.index-victim.ensures).2, c.self.invariant.3)

pub undo-requires-clause-at : goal.undo-requires-clause-at
undo-requires-clause-at g c =
    let w = newest_now _ _ _ _ _ c.self.view_is refl c.in-Some-newest_into.ensures in
    omega (arith, joint_bound _ _ _ _ w.2.0 c.requires.sound.stands w.2.1, w.2.2)

pub undo-requires-clause-apart : goal.undo-requires-clause-apart
undo-requires-clause-apart g c = c.requires.sound.stands.apart

pub undo-requires-clause-few : goal.undo-requires-clause-few
undo-requires-clause-few g c = omega (arith, c.requires.sound.few.unlinks_few, c.requires.sound.few.links_few, c.requires.sound.few.services_few)

pub returns-in-Some-newest_into-clause-worked : goal.returns-in-Some-newest_into-clause-worked
returns-in-Some-newest_into-clause-worked g c =
    let view = ap (λ (e : EngineData). e.copy) c.self.view_is in
    let long = ap (λ (e : EngineData). length e.queue) c.self.view_is in
    let slots = ap (λ (e : EngineData). e.slots) c.self.view_is in
    let at = oldest_now _ _ _ _ _ _ c.self.view_is c.deref.ensures.value c.oldest_but.ensures c.in-Some-oldest_but.is in
    let lt : c.in-Some-oldest_but.k < length c.self.inside.queue.items = omega (arith, found_oldest c.args.self.now c.args.here c.in-Some-oldest_but.k at, long) in
    let victim = victim_now _ _ _ _ _ c.self.view_is c.self.invariant.0 lt c.index.ensures c.index-victim.ensures in
    let w = newest_now _ _ _ _ _ c.self.view_is victim.2 c.in-Some-newest_into.ensures in
    undone_call _ _ _ _ _ _ _ _ c.requires.sound (sym view ∙ c.in_default.is) (omega (arith, c.if-block-blocks.false, c.blocks-2.ensures.value))
    c.in_default-find.ensures
    (omega (arith, c.if-len-self.false, c.len.ensures, long, slots)) at
    w (c.in_ok-undo.ensures.data w.0 w.2) c.in_ok-undo.ensures.set

pub leave-slot-requires-clause-k : goal.leave-slot-requires-clause-k
leave-slot-requires-clause-k g c =
    let at = oldest_now _ _ _ _ _ _ c.self.view_is c.deref.ensures.value c.oldest_but.ensures c.in-Some-oldest_but.is in
    omega (arith, found_oldest c.args.self.now c.args.here c.in-Some-oldest_but.k at)

pub leave-slot-requires-clause-owned : goal.leave-slot-requires-clause-owned
leave-slot-requires-clause-owned g c =
    let at = oldest_now _ _ _ _ _ _ c.self.view_is c.deref.ensures.value c.oldest_but.ensures c.in-Some-oldest_but.is in
    owns_links _ _ _ _ c.requires.sound.stands (found_oldest c.args.self.now c.args.here c.in-Some-oldest_but.k at)

pub leave-slot-requires-clause-few : goal.leave-slot-requires-clause-few
leave-slot-requires-clause-few g c = omega (arith, c.requires.sound.few.evictions_few, c.requires.sound.few.misses_few, c.requires.sound.few.services_few, c.requires.sound.few.words_few)

pub write_next-requires-2-clause-slot : goal.write_next-requires-2-clause-slot
write_next-requires-2-clause-slot g c =
    let at = oldest_now _ _ _ _ _ _ c.self.view_is c.deref.ensures.value c.oldest_but.ensures c.in-Some-oldest_but.is in
    (room_after _ _ _ _ _ _ c.requires.sound.stands (omega (arith, found_oldest c.args.self.now c.args.here c.in-Some-oldest_but.k at)) c.leave-slot.ensures.data c.leave-slot.ensures.slot).0

pub write_next-requires-2-clause-room : goal.write_next-requires-2-clause-room
write_next-requires-2-clause-room g c =
    let at = oldest_now _ _ _ _ _ _ c.self.view_is c.deref.ensures.value c.oldest_but.ensures c.in-Some-oldest_but.is in
    (room_after _ _ _ _ _ _ c.requires.sound.stands (omega (arith, found_oldest c.args.self.now c.args.here c.in-Some-oldest_but.k at)) c.leave-slot.ensures.data c.leave-slot.ensures.slot).1

pub returns-clause-worked : goal.returns-clause-worked
returns-clause-worked g c =
    let view = ap (λ (e : EngineData). e.copy) c.self.view_is in
    let long = ap (λ (e : EngineData). length e.queue) c.self.view_is in
    let slots = ap (λ (e : EngineData). e.slots) c.self.view_is in
    let at = oldest_now _ _ _ _ _ _ c.self.view_is c.deref.ensures.value c.oldest_but.ensures c.in-Some-oldest_but.is in
    let lt : c.in-Some-oldest_but.k < length c.self.inside.queue.items = omega (arith, found_oldest c.args.self.now c.args.here c.in-Some-oldest_but.k at, long) in
    let victim = victim_now _ _ _ _ _ c.self.view_is c.self.invariant.0 lt c.index.ensures c.index-victim.ensures in
    left_call _ _ _ _ _ c.requires.here.0 _ _ _ _ c.requires.sound (sym view ∙ c.in_default.is) (omega (arith, c.requires.few, words_kept c.args.self.now)) c.requires.here.1 (omega (arith, c.if-block-blocks.false, c.blocks-2.ensures.value))
    c.in_default-find.ensures
    (omega (arith, c.if-len-self.false, c.len.ensures, long, slots)) at
    (none_now _ _ _ _ c.self.view_is victim.2 c.in_default-newest_into.ensures)
    c.leave-slot.ensures.data c.leave-slot.ensures.slot c.in_ok-write_next-3.ensures.data c.in_ok-write_next-3.ensures.set

pub leave-slot-requires-clause-once : goal.leave-slot-requires-clause-once
leave-slot-requires-clause-once g c = c.requires.sound.stands.once

pub write_next-requires-2-clause-absent : goal.write_next-requires-2-clause-absent
write_next-requires-2-clause-absent g c = absent_after c.args.self.now _ c.in-Some-oldest_but.k _ c.leave-slot.ensures.data c.in_default-find.ensures

pub write_next-requires-2-clause-free : goal.write_next-requires-2-clause-free
write_next-requires-2-clause-free g c =
    let at = oldest_now _ _ _ _ _ _ c.self.view_is c.deref.ensures.value c.oldest_but.ensures c.in-Some-oldest_but.is in
    (room_after _ _ _ _ _ _ c.requires.sound.stands (omega (arith, found_oldest c.args.self.now c.args.here c.in-Some-oldest_but.k at)) c.leave-slot.ensures.data c.leave-slot.ensures.slot).2
