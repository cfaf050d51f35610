use Rattle.std.proofs.Common.{arith}
use Rattle.swi_tally.specs.Masks.{has_at}
use Rattle.swi_tally.proofs.Arriving.{ring_arrives}
use Rattle.swi_tally.proofs.Leading.{settled_last}
use Rattle.swi_tally.proofs.Marking.{marks_both}
use Rattle.swi_tally.proofs.tally.Tally.fill_ring.Goals as goal

pub returns-clause-arrives : goal.returns-clause-arrives
returns-clause-arrives c =
    ring_arrives _ _ _ _ _ _ c.args.self.now c.make_room.new.self c.settle.new.self c.args.masks.now c.make_room.new.masks c.make_room.ensures.stands c.make_room.ensures.moved c.make_room.ensures.receded c.make_room.ensures.kept
    c.requires.placing c.requires.one (omega (arith, c.requires.block, c.requires.stands.homes)) c.requires.absent c.length-size.ensures.value c.length-size.ensures.some (omega (arith, c.length-size.ensures.most, c.requires.stands.image.most))
    c.ring_place-first.ensures.within (c.ring_place-first.ensures.value c.args.exits.now (has_at c.args.masks.now c.args.cache) c.requires.placing) c.requires.missed c.settle.ensures.settled

pub returns-clause-marks : goal.returns-clause-marks
returns-clause-marks c = marks_both _ _ _ _ _ _ _ c.make_room.ensures.marks (c.settle.ensures.marks c.args.exits.now.blocks c.make_room.ensures.marks.are)

pub returns-clause-leading : goal.returns-clause-leading
returns-clause-leading c = settled_last c.make_room.new.self _ _ _ _ c.settle.ensures.settled
