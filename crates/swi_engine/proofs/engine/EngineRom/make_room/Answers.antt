use Rattle.std.proofs.Common.{◌<◌, length, arith, ap}
use Rattle.swi_engine.specs.State.{EngineData}
use Rattle.swi_engine.proofs.Working.{slot_now, victim_now}
use Rattle.swi_engine.proofs.Arriving.{room_made}
use Rattle.swi_engine.proofs.Views.{leaving}
use Rattle.swi_engine.proofs.Joining.{owns_links}
use Rattle.swi_engine.proofs.engine.EngineRom.make_room.Goals as goal

pub index-requires : goal.index-requires
index-requires g c = omega (arith, c.requires.some, ap (λ (e : EngineData). length e.queue) c.self.view_is)

pub index-block-requires : goal.index-block-requires
index-block-requires g c =
    omega (arith, slot_now _ 0 c.index.result.now c.self.invariant.0 (omega (arith, c.requires.some, ap (λ (e : EngineData). length e.queue) c.self.view_is)) c.index.ensures)

pub leave-requires-clause-k : goal.leave-requires-clause-k
leave-requires-clause-k g c = omega (arith, c.requires.some, ap (λ (e : EngineData). length e.queue) c.in_ok-clear.ensures.cleared.rest)

pub clear-requires-clause-block : goal.clear-requires-clause-block
clear-requires-clause-block g c =
    omega (arith, (leaving _ _ 0 _ _ c.self.view_is c.self.invariant.0 c.requires.some c.index.ensures c.index-block.ensures).2, ap (λ (e : EngineData). length e.homes) c.self.view_is)

pub leave-requires-clause-owned : goal.leave-requires-clause-owned
leave-requires-clause-owned g c =
    owns_links _ _ _ 0 c.in_ok-clear.ensures.cleared.stands (omega (arith, c.requires.some, ap (λ (e : EngineData). length e.queue) c.in_ok-clear.ensures.cleared.rest))

pub leave-requires-clause-once : goal.leave-requires-clause-once
leave-requires-clause-once g c = c.in_ok-clear.ensures.cleared.stands.once

pub leave-requires-clause-few : goal.leave-requires-clause-few
leave-requires-clause-few g c = omega (arith, c.requires.evictions, ap (λ (e : EngineData). e.counts.evictions) c.in_ok-clear.ensures.cleared.rest)

pub returns-clause-room : goal.returns-clause-room
returns-clause-room g c =
    let lt : 0 < length c.self.inside.queue.items = omega (arith, c.requires.some, ap (λ (e : EngineData). length e.queue) c.self.view_is) in
    let w = victim_now _ _ 0 _ _ c.self.view_is c.self.invariant.0 lt c.index.ensures c.index-block.ensures in
    room_made _ _ _ _ _ _ _ _ w.2 c.in_ok-clear.ensures.cleared c.in_ok-clear.ensures.all c.leave.ensures.data c.leave.ensures.slot
