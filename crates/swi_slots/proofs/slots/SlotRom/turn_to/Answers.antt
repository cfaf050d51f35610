use Rattle.swi_slots.proofs.Turned.{turned_kept, turned_serves}
use Rattle.swi_slots.proofs.slots.SlotRom.turn_to.Goals as goal

pub returns-clause-kept : goal.returns-clause-kept
returns-clause-kept g c = turned_kept _ _ _ c.self.view_is

pub returns-clause-serves : goal.returns-clause-serves
returns-clause-serves g c = λ image images words serves. turned_serves _ _ _ image images words c.self.view_is c.requires serves
