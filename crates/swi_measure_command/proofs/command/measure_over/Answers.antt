use Rattle.std.proofs.lemmas.Result.{err_from_is_err_and}
use Rattle.swi_rom.specs.Service.{cache_of}
use Rattle.swi_task.specs.Devices.{Devices}
use Rattle.swi_measure_command.proofs.Measuring.{over_refused, over_summarized}
use Rattle.swi_task.proofs.Refusals.{same_count}
use Rattle.swi_measure_command.proofs.command.measure_over.Goals as goal

pub returns-in_err-board : goal.returns-in_err-board
returns-in_err-board g c =
    let p = err_from_is_err_and c.from_residual.result c.from_residual.ensures.1 in
    rw (p.1, p.2) (λ d.
    let before : Devices = record d { output = g.O.Sink.state c.args.out.now; ram = g.R.CacheRam.state c.args.ram.now } in
    over_refused c.args.functions (cache_of g.S.CacheRom.service c.args.rom) c.args.prepared.now.program c.args.prepared.now.layout c.args.image.now before
    (g.R.CacheRam.state c.run_made.new.ram) c.in_err-board.field-0.0 c.in_err-board.ensures.kept c.in_err-board.ensures.refused c.in_err-board.ensures.cause)

pub returns : goal.returns
returns g c = λ d.
    let before : Devices = record d { output = g.O.Sink.state c.args.out.now; ram = g.R.CacheRam.state c.args.ram.now } in
    over_summarized c.args.functions (cache_of g.S.CacheRom.service c.args.rom) c.args.prepared.now.program c.args.prepared.now.layout c.args.image.now before
    (g.O.Sink.state c.summarize.new.out) (g.R.CacheRam.state c.run_made.new.ram) _ _ c.summarize.result
    c.in_ok-board.ensures.ran c.in_ok-board.ensures.kept (same_count c.in_ok-board.ensures.cause (λ e. let never : ⊥ = cc in never)) c.summarize.ensures.done c.summarize.ensures.failed c.summarize.ensures.asked c.summarize.ensures.cause
