use Rattle.swi_measure_command.proofs.Measuring.{ran_nowhere}
use Rattle.swi_measure_command.proofs.command.run_nowhere.Goals as goal

pub returns : goal.returns
returns g c = record { in_steps = ran_nowhere g.S.CacheRom.service _ c.args.rom _ _ c.run_cached.result c.run_cached.ensures.gave c.run_cached.ensures.in_steps }
