use Rattle.std.proofs.Common.{refl}
use Rattle.std.proofs.lemmas.Result.{err_from_is_err_and}
use Rattle.swi_make.specs.Made.{IsMade}
use Rattle.swi_task.specs.Devices.{Devices}
use Rattle.swi_measure_command.specs.MeasureMade.{IsMadeRun, measure_task}
use Rattle.swi_cached_task.proofs.Caching.{ring_chosen, slots_chosen}
use Rattle.swi_measure_command.proofs.Measuring.{made_long, made_memory, made_of, measured_so, ram_holds, small_refused}
use Rattle.swi_task.proofs.Refusals.{refusal_is, size_refused}
use Rattle.swi_measure_command.proofs.command.measure.Goals as goal

pub returns-in_err-check_size : goal.returns-in_err-check_size
returns-in_err-check_size g c =
    let p = err_from_is_err_and c.from_residual.result c.from_residual.ensures.1 in
    rw (p.1, p.2) (λ d. size_refused (measure_task c.args.command.now.seed c.args.command.now.functions c.args.command.now.cache) (record d { output = g.O.Sink.state c.args.out.now; ram = g.R.CacheRam.state c.args.ram.now }) _ c.in_err-check_size.ensures.refused)

pub returns-in_err-text : goal.returns-in_err-text
returns-in_err-text g c =
    let p = err_from_is_err_and c.from_residual-in_err-text.result c.from_residual-in_err-text.ensures.1 in
    rw (p.1, p.2) (λ d.
    made_memory c.args.command.now.seed c.args.command.now.functions c.args.command.now.cache (record d { output = g.O.Sink.state c.args.out.now; ram = g.R.CacheRam.state c.args.ram.now }) _ c.in_ok-check_size.ensures.ok (refusal_is c.in_err-text.ensures.memory))

pub returns-in_err-prepared : goal.returns-in_err-prepared
returns-in_err-prepared g c =
    let p = err_from_is_err_and c.from_residual-in_err-prepared.result c.from_residual-in_err-prepared.ensures.1 in
    rw (p.1, p.2) (λ d.
    made_memory c.args.command.now.seed c.args.command.now.functions c.args.command.now.cache (record d { output = g.O.Sink.state c.args.out.now; ram = g.R.CacheRam.state c.args.ram.now }) _ c.in_ok-check_size.ensures.ok (refusal_is c.in_err-prepared.ensures.memory))

pub returns-in_err-image : goal.returns-in_err-image
returns-in_err-image g c =
    let p = err_from_is_err_and c.from_residual-in_err-image.result c.from_residual-in_err-image.ensures.1 in
    let made : IsMade c.args.command.now.seed c.args.command.now.functions c.in_ok-prepared.prepared.program = made_of _ _ _ _ _ c.in_ok-prepared.ensures.program c.deref.ensures.value c.in_ok-text.ensures.made in
    rw (p.1, p.2) (λ d.
    made_long c.args.command.now.seed c.args.command.now.functions c.args.command.now.cache c.in_ok-prepared.prepared.program (record d { output = g.O.Sink.state c.args.out.now; ram = g.R.CacheRam.state c.args.ram.now }) _ c.in_ok-check_size.ensures.ok made c.in_err-image.ensures.refused)

pub returns-in_default : goal.returns-in_default
returns-in_default g c = λ d. made_memory c.args.command.now.seed c.args.command.now.functions c.args.command.now.cache (record d { output = g.O.Sink.state c.args.out.now; ram = g.R.CacheRam.state c.args.ram.now }) _ c.in_ok-check_size.ensures.ok refl

pub returns-in_default-ring_for : goal.returns-in_default-ring_for
returns-in_default-ring_for g c = λ d. made_memory c.args.command.now.seed c.args.command.now.functions c.args.command.now.cache (record d { output = g.O.Sink.state c.args.out.now; ram = g.R.CacheRam.state c.args.ram.now }) _ c.in_ok-check_size.ensures.ok refl

pub returns-in_err-check_block : goal.returns-in_err-check_block
returns-in_err-check_block g c =
    let p = err_from_is_err_and c.from_residual-in_err-check_block.result c.from_residual-in_err-check_block.ensures.1 in
    let made : IsMade c.args.command.now.seed c.args.command.now.functions c.in_ok-prepared.prepared.program = made_of _ _ _ _ _ c.in_ok-prepared.ensures.program c.deref.ensures.value c.in_ok-text.ensures.made in
    rw (p.1, p.2) (λ d.
    let before : Devices = record d { output = g.O.Sink.state c.args.out.now; ram = g.R.CacheRam.state c.args.ram.now } in
    small_refused c.args.command.now.seed c.args.command.now.functions c.args.command.now.cache c.in_ok-prepared.prepared.program before _ c.in_ok-check_size.ensures.ok made
    c.in_ok-image.ensures.fits c.in_err-check_block.ensures.refused)

pub returns-in-Slots : goal.returns-in-Slots
returns-in-Slots g c =
    let made : IsMade c.args.command.now.seed c.args.command.now.functions c.in_ok-prepared.prepared.program = made_of _ _ _ _ _ c.in_ok-prepared.ensures.program c.deref.ensures.value c.in_ok-text.ensures.made in
    let is : IsMadeRun c.args.command.now.seed c.args.command.now.functions c.args.command.now.cache c.in_ok-prepared.prepared.program c.in_ok-prepared.prepared.layout c.view-view.result =
    record { made = made; layout = c.in_ok-prepared.ensures.layout; sound = rw c.view-view.ensures.value c.in_ok-image.ensures.sound; cut = rw c.view-view.ensures.value c.in_ok-image.ensures.cut } in
    λ d.
    let before : Devices = record d { output = g.O.Sink.state c.args.out.now; ram = g.R.CacheRam.state c.args.ram.now } in
    measured_so c.args.command.now.seed c.args.command.now.functions c.args.command.now.cache c.in_ok-prepared.prepared.program c.in_ok-prepared.prepared.layout c.view-view.result before
    (g.O.Sink.state c.measure_over.new.out) (g.R.CacheRam.state c.measure_over.new.ram) c.measure_over.result _
    (slots_chosen c.args.command.now.cache c.view-view.result _ c.in-Slots.is c.in-Ok.ensures.cache) c.in_ok-check_size.ensures.ok is c.in_ok-image.ensures.fits c.in_ok-check_block.ensures.holds
    (c.measure_over.ensures d)

pub returns : goal.returns
returns g c =
    let made : IsMade c.args.command.now.seed c.args.command.now.functions c.in_ok-prepared.prepared.program = made_of _ _ _ _ _ c.in_ok-prepared.ensures.program c.deref.ensures.value c.in_ok-text.ensures.made in
    let is : IsMadeRun c.args.command.now.seed c.args.command.now.functions c.args.command.now.cache c.in_ok-prepared.prepared.program c.in_ok-prepared.prepared.layout c.view-view.result =
    record { made = made; layout = c.in_ok-prepared.ensures.layout; sound = rw c.view-view.ensures.value c.in_ok-image.ensures.sound; cut = rw c.view-view.ensures.value c.in_ok-image.ensures.cut } in
    λ d.
    let before : Devices = record d { output = g.O.Sink.state c.args.out.now; ram = g.R.CacheRam.state c.args.ram.now } in
    measured_so c.args.command.now.seed c.args.command.now.functions c.args.command.now.cache c.in_ok-prepared.prepared.program c.in_ok-prepared.prepared.layout c.view-view.result before
    (g.O.Sink.state c.measure_over-in-Ring.new.out) (g.R.CacheRam.state c.measure_over-in-Ring.new.ram) c.measure_over-in-Ring.result _
    (ring_chosen c.args.command.now.cache c.view-view.result _ c.in-Ring.is c.in-Ok-ring_for.ensures.cache) c.in_ok-check_size.ensures.ok is c.in_ok-image.ensures.fits c.in_ok-check_block.ensures.holds
    (c.measure_over-in-Ring.ensures d)

pub measure_over-requires-clause-sound : goal.measure_over-requires-clause-sound
measure_over-requires-clause-sound g c = c.in-Ok.ensures.sound (g.R.CacheRam.state c.args.ram.now).words (ram_holds _ _ c.in_ok-check_size.ensures.ok)

pub measure_over-requires-in-Ring-clause-sound : goal.measure_over-requires-in-Ring-clause-sound
measure_over-requires-in-Ring-clause-sound g c = c.in-Ok-ring_for.ensures.sound (g.R.CacheRam.state c.args.ram.now).words (ram_holds _ _ c.in_ok-check_size.ensures.ok)
