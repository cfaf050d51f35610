use Rattle.std.proofs.Common.{ℕ, ◌+◌, arith, ap}
use Rattle.swi_slots.specs.Slots.{Slots, kept_by}
use Rattle.swi_board.specs.Board.{BoardOf}
use Rattle.swi_share.specs.Event.{EventDevices}
use Rattle.swi_share.proofs.Making.{Entry, count_few, entry_broke, hart_event, ready}
use Rattle.swi_share.proofs.event.make_event.Goals as goal

pub returns-in-Err : goal.returns-in-Err
returns-in-Err g c =
    let old : BoardOf Slots = record { hart = c.args.hart.now; rom = c.args.rom.now } in
    let new : BoardOf Slots = record { hart = c.make_ready.new.hart; rom = c.make_ready.new.rom } in
    let before : EventDevices = record { ram = g.M.CacheRam.state c.args.ram.now; left = c.args.input.now.left; out = g.O.Sink.state c.args.out.now; err = g.E.Sink.state c.args.err.now } in
    entry_broke c.args.image.now old new before (g.M.CacheRam.state c.make_ready.new.ram) c.in-Err.ensures.entering c.in-Err.ensures.placed c.in-Err.ensures.failed

pub run_stepwise-requires-clause-count : goal.run_stepwise-requires-clause-count
run_stepwise-requires-clause-count g c =
    let old : BoardOf Slots = record { hart = c.args.hart.now; rom = c.args.rom.now } in
    let new : BoardOf Slots = record { hart = c.make_ready.new.hart; rom = c.make_ready.new.rom } in
    omega (arith, (ready c.args.image.now old new c.in-Ok.ensures.boarded).2, count_few c.args.image.now (kept_by c.args.rom.now) c.args.hart.now c.requires.waits c.requires.running c.requires.few)

pub run_stepwise-requires-clause-services : goal.run_stepwise-requires-clause-services
run_stepwise-requires-clause-services g c =
    let old : BoardOf Slots = record { hart = c.args.hart.now; rom = c.args.rom.now } in
    let new : BoardOf Slots = record { hart = c.make_ready.new.hart; rom = c.make_ready.new.rom } in
    omega (arith, (ready c.args.image.now old new c.in-Ok.ensures.boarded).3, c.requires.services)

pub returns-in-Ok : goal.returns-in-Ok
returns-in-Ok g c =
    let old : BoardOf Slots = record { hart = c.args.hart.now; rom = c.args.rom.now } in
    let mid : BoardOf Slots = record { hart = c.make_ready.new.hart; rom = c.make_ready.new.rom } in
    let new : BoardOf Slots = record { hart = c.run_stepwise.new.hart; rom = c.run_stepwise.new.rom } in
    let b = c.in-Ok.ensures in
    let ram = g.M.CacheRam.state c.make_ready.new.ram in
    let before : EventDevices = record { ram = g.M.CacheRam.state c.args.ram.now; left = c.args.input.now.left; out = g.O.Sink.state c.args.out.now; err = g.E.Sink.state c.args.err.now } in
    let after : EventDevices = record { ram = g.M.CacheRam.state c.run_stepwise.new.ram; left = c.run_stepwise.new.input.left; out = g.O.Sink.state c.run_stepwise.new.out; err = g.E.Sink.state c.run_stepwise.new.err } in
    let entry : Entry c.args.image.now old mid before.ram ram = record { waited = c.requires.waits; going = c.requires.running; boarded = b.boarded; setting = b.setting; ram = b.ram; unused = b.unused; keeps = b.keeps } in
    hart_event c.args.image.now old mid before c.args.input.now.given c.run_stepwise.new.input.given ram entry _ (ap (λ (k : ℕ). k + 1) c.steps-n.ensures) new after c.run_stepwise.result (c.run_stepwise.ensures.gave, c.run_stepwise.ensures.ran)
