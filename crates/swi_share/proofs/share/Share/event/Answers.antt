use Rattle.std.proofs.Common.{◌≡◌, Some, true, false, is_some, List, slice_set, rules, refl, ap}
use Rattle.swi_share.specs.declared.process.Process.{Process}
use Rattle.swi_share.specs.Event.{EventDevices}
use Rattle.swi_share.specs.Sharing.{ShareData}
use Rattle.swi_share.proofs.Seating.{InTurn, event_done, event_idle, event_stopped, left_with, seat_read, told_ended, told_running, turn_below, turn_few, turn_serves, turn_services, turn_waits}
use Rattle.swi_share.proofs.Turning.{share_of}
use Rattle.swi_share.proofs.share.Share.event.Goals as goal

pub returns-then-is_some : goal.returns-then-is_some
returns-then-is_some g c =
    let ended : is_some c.hart.result.now.machine.ending ≡ true = search rules in
    event_idle c.args.g (record { share = c.args.self.now; ram = g.M.CacheRam.state c.args.ram.now; out = g.O.Sink.state c.args.out.now; err = g.E.Sink.state c.args.err.now }) c.requires.sharing
    (told_ended c.args.self.now c.args.g c.hart.result.now c.requires.guest c.hart.ensures ended)

pub turn_to-requires : goal.turn_to-requires
turn_to-requires g c =
    let is : c.args.self.now.rom ≡ Some c.in-Some.rom = search rules in
    turn_below c.args.g c.in-Some.rom c.requires.sharing is c.requires.guest

pub make_event-requires : goal.make_event-requires
make_event-requires g c =
    let p = c.index_mut-process.result.now in
    let is : c.args.self.now.rom ≡ Some c.in-Some.rom = search rules in
    let going : is_some c.hart.result.now.machine.ending ≡ false = search rules in
    let at = seat_read c.args.self.now c.self.inside.processes.items c.args.g p (ap (λ (x : ShareData). x.processes) c.self.view_is) c.requires.guest c.index_mut-process.ensures.value in
    let t : InTurn c.args.self.now c.args.g p c.in-Some.rom c.turn_to.new.self = record {
      at = at;
      going = told_running c.args.self.now c.args.g p c.hart.result.now at c.hart.ensures going;
      before_is = is;
      rom_is = c.turn_to.ensures.turned;
      kept = c.turn_to.ensures.kept;
      serves = c.turn_to.ensures.serves;
    } in
    record {
      waits = turn_waits t c.requires.sharing;
      running = t.going;
      few = turn_few t c.requires.room;
      sound = (c.requires.sharing.images, turn_serves t c.requires.sharing);
      services = turn_services t c.requires.sharing;
    }

pub returns-in-Ok : goal.returns-in-Ok
returns-in-Ok g c =
    let p = c.index_mut-process.result.now in
    let is : c.args.self.now.rom ≡ Some c.in-Some.rom = search rules in
    let going : is_some c.hart.result.now.machine.ending ≡ false = search rules in
    let items = ap (λ (x : ShareData). x.processes) c.self.view_is in
    let at = seat_read c.args.self.now c.self.inside.processes.items c.args.g p items c.requires.guest c.index_mut-process.ensures.value in
    let t : InTurn c.args.self.now c.args.g p c.in-Some.rom c.turn_to.new.self = record {
      at = at;
      going = told_running c.args.self.now c.args.g p c.hart.result.now at c.hart.ensures going;
      before_is = is;
      rom_is = c.turn_to.ensures.turned;
      kept = c.turn_to.ensures.kept;
      serves = c.turn_to.ensures.serves;
    } in
    let before : EventDevices = record { ram = g.M.CacheRam.state c.args.ram.now; left = p.input.left; out = g.O.Sink.state c.args.out.now; err = g.E.Sink.state c.args.err.now } in
    let after : EventDevices = record { ram = g.M.CacheRam.state c.make_event.new.ram; left = c.make_event.new.input.left; out = g.O.Sink.state c.make_event.new.out; err = g.E.Sink.state c.make_event.new.err } in
    let left = left_with p c.make_event.new.hart c.make_event.new.input in
    event_done t c.make_event.new.hart c.make_event.new.rom c.make_event.new.input before after _ refl refl c.requires.sharing c.requires.room c.in-Ok.ensures
    (ap (λ (ps : List Process). share_of (slice_set ps c.args.g left) c.make_event.new.rom) items)

pub returns-in-Err : goal.returns-in-Err
returns-in-Err g c =
    let p = c.index_mut-process.result.now in
    let is : c.args.self.now.rom ≡ Some c.in-Some.rom = search rules in
    let going : is_some c.hart.result.now.machine.ending ≡ false = search rules in
    let items = ap (λ (x : ShareData). x.processes) c.self.view_is in
    let at = seat_read c.args.self.now c.self.inside.processes.items c.args.g p items c.requires.guest c.index_mut-process.ensures.value in
    let t : InTurn c.args.self.now c.args.g p c.in-Some.rom c.turn_to.new.self = record {
      at = at;
      going = told_running c.args.self.now c.args.g p c.hart.result.now at c.hart.ensures going;
      before_is = is;
      rom_is = c.turn_to.ensures.turned;
      kept = c.turn_to.ensures.kept;
      serves = c.turn_to.ensures.serves;
    } in
    let before : EventDevices = record { ram = g.M.CacheRam.state c.args.ram.now; left = p.input.left; out = g.O.Sink.state c.args.out.now; err = g.E.Sink.state c.args.err.now } in
    let after : EventDevices = record { ram = g.M.CacheRam.state c.make_event.new.ram; left = c.make_event.new.input.left; out = g.O.Sink.state c.make_event.new.out; err = g.E.Sink.state c.make_event.new.err } in
    let left = left_with p c.make_event.new.hart c.make_event.new.input in
    event_stopped t c.make_event.new.hart c.make_event.new.rom c.make_event.new.input before after c.in-Err.fault _ refl refl c.in-Err.ensures refl
    (ap (λ (ps : List Process). slice_set ps c.args.g left) items)
