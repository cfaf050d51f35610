use Rattle.swi_engine.proofs.Filling.{counted_few}
use Rattle.swi_engine.proofs.Counting.{counted_alone}
use Rattle.swi_engine.proofs.Crossing.{visited}
use Rattle.swi_engine.proofs.engine.EngineRomCacheRom.visit.Goals as goal

pub returns-clause-served : goal.returns-clause-served
returns-clause-served g c =
    visited _ _ _ _ _ (g.M.CacheRam.state c.args._ram.now) c.count.ensures c.requires.sound c.requires.services c.requires.stands

pub returns-clause-stays : goal.returns-clause-stays
returns-clause-stays g c = (counted_few _ _ _ _ c.count.ensures c.requires.sound c.requires.services).0

pub returns-clause-keeps : goal.returns-clause-keeps
returns-clause-keeps g c = λ images serves. (counted_few _ _ _ _ c.count.ensures c.requires.sound c.requires.services).0

pub returns-clause-counted : goal.returns-clause-counted
returns-clause-counted g c = counted_alone _ _ c.count.ensures
