use Rattle.std.proofs.Common.{arith}
use Rattle.swi_rom.specs.Rams.{on_err, failed_one}
use Rattle.swi_engine.proofs.Views.{word_in, word_fits}
use Rattle.swi_engine.proofs.engine.EngineRom.write_next.Goals as goal

pub overflow_add-copy : goal.overflow_add-copy
overflow_add-copy g c = omega (arith, word_fits _ _ c.args.copy.slot c.args.copy.done c.self.view_is c.self.invariant.0 c.requires.slot c.requires.inside)

pub set-requires : goal.set-requires
set-requires g c = omega (arith, word_in _ _ c.args.copy.slot c.args.copy.done c.self.view_is c.requires.slot c.requires.inside, c.requires.fits)

pub returns-in_err-set-clause-failed : goal.returns-in_err-set-clause-failed
returns-in_err-set-clause-failed g c =
    on_err _ _ (failed_one _ _ _ _ _ (word_in _ _ c.args.copy.slot c.args.copy.done c.self.view_is c.requires.slot c.requires.inside) c.in_err-set.ensures.set)
