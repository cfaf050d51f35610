use Rattle.std.proofs.Common.{◌≡◌, ◌<◌, ◌≤◌, length, rules, sym, ◌∙◌, arith}
use Rattle.std.proofs.lemmas.Result.{err_from_is_err_and}
use Rattle.swi_make.proofs.Drawn.{number_first}
use Rattle.swi_share.proofs.Scheduling.{room_at, schedule_made, schedule_stopped, scheduled_next, scheduled_none}
use Rattle.swi_share_command.specs.RunShared.{order_of}
use Rattle.swi_share_command.proofs.Sharing.{order_at, order_length, run_ended, turn_is}
use Rattle.swi_share_command.proofs.command.run_schedule.Goals as goal

pub loop-init : goal.loop-init
loop-init g c = record {
  x = sym (number_first c.args.schedule.seed);
  made = scheduled_none (order_of c.args.programs c.args.schedule) _ c.requires.sharing;
}

pub event-requires-clause-sharing : goal.event-requires-clause-sharing
event-requires-clause-sharing g c = c.loop.invariant.made.sharing

pub event-requires-clause-room : goal.event-requires-clause-room
event-requires-clause-room g c =
    let order = order_of c.args.programs c.args.schedule in
    let lt : c.loop.counter < c.args.schedule.events = search rules in
    let within : c.loop.counter < length order = let n = order_length c.args.programs c.args.schedule in omega (arith, lt, n) in
    let t = turn_is c.args.programs c.args.schedule.seed c.loop.counter c.loop.x c.next_number-x.result c.loop.invariant.x c.next_number-x.ensures in
    room_at order c.loop.counter _ c.args.share.now c.loop.share within (order_at c.args.programs c.args.schedule c.loop.counter lt ∙ sym t.1) c.requires.room c.loop.invariant.made.came.came.share

pub loop-preserved : goal.loop-preserved
loop-preserved g c =
    let order = order_of c.args.programs c.args.schedule in
    let lt : c.loop.counter < c.args.schedule.events = search rules in
    let within : c.loop.counter < length order = let n = order_length c.args.programs c.args.schedule in omega (arith, lt, n) in
    let t = turn_is c.args.programs c.args.schedule.seed c.loop.counter c.loop.x c.next_number-x.result c.loop.invariant.x c.next_number-x.ensures in
    let at = order_at c.args.programs c.args.schedule c.loop.counter lt ∙ sym t.1 in
    record {
      x = t.0;
      made = scheduled_next order c.loop.counter _ _ _ _ within at c.loop.invariant.made c.in_ok-event.ensures;
    }

pub returns-in_err-event : goal.returns-in_err-event
returns-in_err-event g c =
    let p = err_from_is_err_and c.from_residual.result c.from_residual.ensures.1 in
    let order = order_of c.args.programs c.args.schedule in
    let lt : c.loop.counter < c.args.schedule.events = search rules in
    let within : c.loop.counter < length order = let n = order_length c.args.programs c.args.schedule in omega (arith, lt, n) in
    let t = turn_is c.args.programs c.args.schedule.seed c.loop.counter c.loop.x c.next_number-x.result c.loop.invariant.x c.next_number-x.ensures in
    let at = order_at c.args.programs c.args.schedule c.loop.counter lt ∙ sym t.1 in
    rw (p.1, p.2) (schedule_stopped order c.loop.counter _ _ _ _ c.in_err-event.field-0.0 within at c.loop.invariant.made c.in_err-event.ensures)

pub returns-then-have_ended : goal.returns-then-have_ended
returns-then-have_ended g c =
    run_ended (order_of c.args.programs c.args.schedule) c.loop.counter _ _ (c.have_ended.ensures (search rules)) c.loop.invariant.made

pub returns : goal.returns
returns g c =
    let order = order_of c.args.programs c.args.schedule in
    let past : length order ≤ c.loop.counter = let n = order_length c.args.programs c.args.schedule in let done : c.loop.counter ≡ c.args.schedule.events = search rules in omega (arith, n, done) in
    schedule_made order c.loop.counter _ _ past c.loop.invariant.made
