use Rattle.std.proofs.Common.{refl, ap}
use Rattle.swi_outside.proofs.SourceLemmas.{rest_is}
use Rattle.swi_hart.specs.Leaving.{broken}
use Rattle.swi_hart.proofs.Answered.{ram_stopped}
use Rattle.swi_hart.proofs.Fetching.{index_below}
use Rattle.swi_hart.proofs.Steps.{ram_unfetched}
use Rattle.swi_hart.proofs.quick.at_step.Goals as goal

pub returns-clause-stepped : goal.returns-clause-stepped
returns-clause-stepped g c i rest read = c.at_word.ensures.stepped i rest read (g.M.CacheRam.state c.args.ram.now) c.in-Ok.ensures.fetched

pub returns-in-Err-clause-stepped : goal.returns-in-Err-clause-stepped
returns-in-Err-clause-stepped g c i rest read =
    rw (rest_is read) (
    let below = index_below c.args.image.now (g.R.CacheRom.service.kept c.args.rom.now) c.args.hart.now.machine _ _ c.args.at.index c.args.at.block c.args.at.offset c.args.at.stage
    (g.met.R.CacheRom.laws.coherent _ _ _ c.requires.sound) c.requires.home in
    ram_stopped _ _ _ _ _ (ap broken c.hart.view_is) refl
    (ram_unfetched c.args.image.now c.args.hart.now.machine c.args.hart.now.control _ c.args.at.index c.args.at.block c.args.at.offset c.args.at.stage _ _ c.requires.control below c.in-Err.ensures.fetched))
