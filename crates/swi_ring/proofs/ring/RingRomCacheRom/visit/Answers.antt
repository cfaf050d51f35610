use Rattle.std.proofs.Common.{sym, subst}
use Rattle.swi_ring.specs.Ring.{Ring}
use Rattle.swi_ring.specs.Sound.{RingSound}
use Rattle.swi_ring.proofs.Placing.{counted_sound, counted_alone}
use Rattle.swi_ring.proofs.Crossing.{visited}
use Rattle.swi_ring.proofs.ring.RingRomCacheRom.visit.Goals as goal

pub returns-clause-served : goal.returns-clause-served
returns-clause-served g c =
    visited _ _ _ _ _ (g.M.CacheRam.state c.args._ram.now) c.count.ensures c.requires.sound c.requires.stands

pub returns-clause-stays : goal.returns-clause-stays
returns-clause-stays g c =
    subst (λ (s : Ring). RingSound s c.args._image.now (g.M.CacheRam.state c.args._ram.now).words) (sym c.count.ensures) (counted_sound _ _ _ c.requires.sound)

pub returns-clause-keeps : goal.returns-clause-keeps
returns-clause-keeps g c = λ images serves.
    subst (λ (s : Ring). RingSound s c.args._image.now (g.M.CacheRam.state c.args._ram.now).words) (sym c.count.ensures) (counted_sound _ _ _ c.requires.sound)

pub returns-clause-counted : goal.returns-clause-counted
returns-clause-counted g c = counted_alone _ _ c.count.ensures
