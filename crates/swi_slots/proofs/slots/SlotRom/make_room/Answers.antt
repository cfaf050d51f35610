use Rattle.swi_slots.proofs.Filling.{room_inside}
use Rattle.swi_slots.proofs.slots.SlotRom.make_room.Goals as goal

pub clear-requires-clause-inside : goal.clear-requires-clause-inside
clear-requires-clause-inside g c = room_inside _ _ _ _ _ c.self.view_is c.self.invariant.0 c.self.invariant.1 c.self.invariant.2 c.index-words.ensures c.requires.inside
