use Rattle.swi_rom.specs.Rams.{on_err}
use Rattle.swi_engine.proofs.Filling.{fill_fault}
use Rattle.swi_engine.proofs.engine.EngineRom.fill.Goals as goal

pub returns-in_err-copy_rest-clause-failed : goal.returns-in_err-copy_rest-clause-failed
returns-in_err-copy_rest-clause-failed g c =
    on_err _ _ (fill_fault _ _ _ _ _ _ _ _ _ _ c.self.view_is c.in_ok-copy.ensures.ready c.length-length.ensures.value c.in_err-copy_rest.ensures.failed)
