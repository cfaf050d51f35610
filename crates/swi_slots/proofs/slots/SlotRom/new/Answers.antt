use Rattle.swi_slots.proofs.Empty.{alone}
use Rattle.swi_slots.proofs.slots.SlotRom.new.Goals as goal

pub returns-clause-sound : goal.returns-clause-sound
returns-clause-sound g c = alone _ _ _ _ c.shared.ensures.empty c.shared.ensures.serves
