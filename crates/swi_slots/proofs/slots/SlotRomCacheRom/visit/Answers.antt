use Rattle.std.proofs.Common.{sym, subst}
use Rattle.swi_slots.specs.Slots.{Slots}
use Rattle.swi_slots.specs.Sound.{SlotsSound, Serves}
use Rattle.swi_slots.proofs.Arriving.{counted_service, counted_serves, counted_alone}
use Rattle.swi_slots.proofs.Calls.{visited}
use Rattle.swi_slots.proofs.slots.SlotRomCacheRom.visit.Goals as goal

pub returns-clause-served : goal.returns-clause-served
returns-clause-served g c =
    visited c.args._image.now c.args.self.now _ _ _ (g.M.CacheRam.state c.args._ram.now) c.count.ensures c.requires.sound c.requires.stands

pub returns-clause-stays : goal.returns-clause-stays
returns-clause-stays g c =
    subst (λ (s : Slots). SlotsSound s c.args._image.now (g.M.CacheRam.state c.args._ram.now).words) (sym c.count.ensures) (counted_service _ _ _ c.requires.sound)

pub returns-clause-keeps : goal.returns-clause-keeps
returns-clause-keeps g c = λ vs serves.
    subst (λ (s : Slots). Serves s c.args._image.now vs (g.M.CacheRam.state c.args._ram.now).words) (sym c.count.ensures) (counted_serves _ _ _ _ serves)

pub returns-clause-counted : goal.returns-clause-counted
returns-clause-counted g c = counted_alone _ _ c.count.ensures
