use Rattle.std.proofs.Common.{◌<◌, ◌≤◌, length, slice_index, rules, refl}
use Rattle.std.proofs.lemmas.Result.{err_from_is_err_and}
use Rattle.swi_share.proofs.Scheduling.{guest_next, room_at, schedule_made, schedule_stopped, scheduled_next, scheduled_none}
use Rattle.swi_share.proofs.share.Share.run.Goals as goal

pub loop-g-init : goal.loop-g-init
loop-g-init g c = scheduled_none c.args.order.now _ c.requires.sharing

pub event-requires-clause-guest : goal.event-requires-clause-guest
event-requires-clause-guest g c =
    let lt : c.loop-g.g-index < length c.args.order.now = search rules in
    guest_next c.args.order.now c.loop-g.g-index (slice_index c.args.order.now c.loop-g.g-index) c.args.self.now c.loop-g.self lt refl c.requires.room c.loop-g.invariant.programs

pub event-requires-clause-sharing : goal.event-requires-clause-sharing
event-requires-clause-sharing g c = c.loop-g.invariant.sharing

pub event-requires-clause-room : goal.event-requires-clause-room
event-requires-clause-room g c =
    let lt : c.loop-g.g-index < length c.args.order.now = search rules in
    room_at c.args.order.now c.loop-g.g-index (slice_index c.args.order.now c.loop-g.g-index) c.args.self.now c.loop-g.self lt refl c.requires.room c.loop-g.invariant.came.came.share

pub loop-g-preserved : goal.loop-g-preserved
loop-g-preserved g c =
    let lt : c.loop-g.g-index < length c.args.order.now = search rules in
    scheduled_next c.args.order.now c.loop-g.g-index (slice_index c.args.order.now c.loop-g.g-index) _ _ _ lt refl c.loop-g.invariant c.in_ok-event.ensures

pub returns-in_err-event : goal.returns-in_err-event
returns-in_err-event g c =
    let p = err_from_is_err_and c.from_residual.result c.from_residual.ensures.1 in
    let lt : c.loop-g.g-index < length c.args.order.now = search rules in
    rw (p.1, p.2) (schedule_stopped c.args.order.now c.loop-g.g-index (slice_index c.args.order.now c.loop-g.g-index) _ _ _ c.in_err-event.field-0.0 lt refl c.loop-g.invariant c.in_err-event.ensures)

pub returns : goal.returns
returns g c =
    let past : length c.args.order.now ≤ c.loop-g.g-index = search rules in
    schedule_made c.args.order.now c.loop-g.g-index _ _ past c.loop-g.invariant
