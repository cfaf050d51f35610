use Rattle.std.proofs.Common.{◌≡◌, ℕ, Err, length, rules, sym, subst}
use Rattle.swi_share.specs.Run.{CanRun, ScheduleRan}
use Rattle.swi_share.specs.Sharing.{ShareWith, seen}
use Rattle.swi_answer.specs.declared.answer.Refusal.{Refusal}
use Rattle.swi_share_command.specs.RunShared.{SharesOver, order_of}
use Rattle.swi_share_command.proofs.SharedOver.{events_made, no_share, over_broken, over_told, over_untold, room_start, with_streams}
use Rattle.swi_share_command.proofs.command.run_guests.Goals as goal

pub returns-in_default : goal.returns-in_default
returns-in_default g c = λ d. no_share c.args.options.now c.args.cache_bytes c.args.guests.items (record d { output = g.O.Sink.state c.args.out.now; error = g.E.Sink.state c.args.err.now; ram = g.R.CacheRam.state c.args.ram.now })

pub run_schedule-requires-clause-sharing : goal.run_schedule-requires-clause-sharing
run_schedule-requires-clause-sharing g c = c.in-Ok.ensures.sharing _ c.requires.held

pub run_schedule-requires-clause-room : goal.run_schedule-requires-clause-room
run_schedule-requires-clause-room g c =
    let count : c.len-programs.result ≡ length c.args.guests.items = search rules in
    subst (λ (n : ℕ). CanRun (order_of n c.args.options.now.schedule) (seen c.in-Ok.share)) (sym count)
    (room_start c.args.cache_bytes c.args.guests.items c.args.options.now _ c.in-Ok.ensures.start (search rules) c.requires.ranges.events)

pub returns-in-Err : goal.returns-in-Err
returns-in-Err g c = λ d.
    let count : c.len-programs.result ≡ length c.args.guests.items = search rules in
    let first : ShareWith = record { share = c.in-Ok.share; ram = g.R.CacheRam.state c.args.ram.now; out = g.O.Sink.state c.args.out.now; err = g.E.Sink.state c.args.err.now } in
    let after : ShareWith = record { share = c.run_schedule.new.share; ram = g.R.CacheRam.state c.run_schedule.new.ram; out = g.O.Sink.state c.run_schedule.new.out; err = g.E.Sink.state c.run_schedule.new.err } in
    let ran = subst (λ (n : ℕ). ScheduleRan (order_of n c.args.options.now.schedule) first after (Err c.in-Err.fault)) count c.in-Err.ensures in
    subst (λ (r : Refusal). SharesOver c.args.options.now c.args.cache_bytes c.args.guests.items (with_streams d first) (with_streams d after) (Err r)) (sym c.refusal_of.ensures)
    (over_broken c.args.options.now c.args.cache_bytes c.args.guests.items d first after c.in-Ok.ensures.start c.in-Err.fault ran)

pub returns-in-Ok-report_share : goal.returns-in-Ok-report_share
returns-in-Ok-report_share g c = λ d.
    let count : c.len-programs.result ≡ length c.args.guests.items = search rules in
    let first : ShareWith = record { share = c.in-Ok.share; ram = g.R.CacheRam.state c.args.ram.now; out = g.O.Sink.state c.args.out.now; err = g.E.Sink.state c.args.err.now } in
    let now : ShareWith = record { share = c.run_schedule.new.share; ram = g.R.CacheRam.state c.run_schedule.new.ram; out = g.O.Sink.state c.run_schedule.new.out; err = g.E.Sink.state c.run_schedule.new.err } in
    over_told c.args.options.now c.args.cache_bytes c.args.guests.items d first now (g.O.Sink.state c.report_share.new.out)
    (events_made c.len-programs.result c.args.options.now c.args.cache_bytes c.args.guests.items first now count c.in-Ok.ensures.start c.in_default-run_schedule.ensures) c.in-Ok-report_share.ensures

pub returns : goal.returns
returns g c = λ d.
    let count : c.len-programs.result ≡ length c.args.guests.items = search rules in
    let first : ShareWith = record { share = c.in-Ok.share; ram = g.R.CacheRam.state c.args.ram.now; out = g.O.Sink.state c.args.out.now; err = g.E.Sink.state c.args.err.now } in
    let now : ShareWith = record { share = c.run_schedule.new.share; ram = g.R.CacheRam.state c.run_schedule.new.ram; out = g.O.Sink.state c.run_schedule.new.out; err = g.E.Sink.state c.run_schedule.new.err } in
    over_untold c.args.options.now c.args.cache_bytes c.args.guests.items d first now (g.O.Sink.state c.report_share.new.out)
    (events_made c.len-programs.result c.args.options.now c.args.cache_bytes c.args.guests.items first now count c.in-Ok.ensures.start c.in_default-run_schedule.ensures) c.in-Err-report_share.ensures
