use Rattle.swi_engine.specs.Sound.{EngineSound}
use Rattle.swi_service_tests.proofs.engine.after_all.Given as goal

abbrev pub invariant-loop-step : goal.invariant-loop-step
invariant-loop-step g l = EngineSound l.rom l.image l.ram.words
