use Rattle.std.proofs.Common.{[], Err, ap, refl, ◌∙◌, inr}
use Rattle.swi_cached.specs.declared.run.CachedStop.{CachedStop}
use Rattle.swi_cached.specs.declared.run.CachedStop.TheVariants as stop
use Rattle.swi_hart.specs.declared.fault.BoardFault.{BoardFault}
use Rattle.swi_hart.specs.declared.fault.BoardFault.TheVariants.{RamFault}
use Rattle.swi_rom.specs.Service.{cache_of}
use Rattle.swi_measure_command.specs.MeasureMade.{made_run}
use Rattle.swi_measure_command.proofs.Measuring.{made_ran}
use Rattle.swi_measure_command.proofs.command.run_made.Goals as goal

pub returns-in-Ok-clause-ran : goal.returns-in-Ok-clause-ran
returns-in-Ok-clause-ran g c =
    let e = c.in-Ok.ensures.in_steps in
    let so = e.ended [] refl in
    made_ran (made_run (cache_of g.S.CacheRom.service c.args.rom) c.args.prepared.now.program c.args.prepared.now.layout c.args.image.now) _ _ _ _ _ _ _ _ _ so.ended so.short so.ram (e.counted [])

pub returns-in-Err-Fault-RamFault-clause-refused : goal.returns-in-Err-Fault-RamFault-clause-refused
returns-in-Err-Fault-RamFault-clause-refused g c =
    let e = c.in-Err-Fault-RamFault.ensures.in_steps in
    let is = ap (λ (s : CachedStop). Err s) (c.in-Err-Fault-RamFault.field-0-is ∙ ap (λ (f : BoardFault). stop.Fault f) c.in-Err-Fault-RamFault.field-0-0-is) in
    inr (refl, record { fetched_at = e.fetched_at [] refl; last_failed = (e.failed RamFault is [] refl).last_failed })
