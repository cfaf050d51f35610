use Rattle.std.proofs.Common.{ap, arith, ◌*◌}
use Rattle.swi_slots.specs.Slots.{Slots}
use Rattle.swi_rom.specs.Rams.{on_err}
use Rattle.swi_slots.proofs.Filling.{fill_failed, links_inside, sound_short}
use Rattle.swi_slots.proofs.slots.SlotRom.fill.Goals as goal

pub returns-in_err-copy-clause-failed : goal.returns-in_err-copy-clause-failed
returns-in_err-copy-clause-failed g c =
    on_err _ _ (fill_failed _ _ _ _ _ _ _ c.requires.sound.1.1.shape
    (omega (arith, sound_short _ _ c.args.block _ c.requires.sound c.requires.block, c.length-length.ensures.value))
    (ap (λ (x : Slots). x.next * x.size) c.self.view_is) c.in_ok-make_room.ensures.room c.in_err-copy.ensures.failed)

pub make_room-requires-clause-inside : goal.make_room-requires-clause-inside
make_room-requires-clause-inside g c = links_inside _ _ _ c.requires.sound
