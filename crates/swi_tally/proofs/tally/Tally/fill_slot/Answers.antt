use Rattle.std.proofs.Common.{arith}
use Rattle.swi_tally.proofs.Arriving.{slot_arrives}
use Rattle.swi_tally.proofs.Leading.{settled_last}
use Rattle.swi_tally.proofs.Marking.{marks_both}
use Rattle.swi_tally.proofs.tally.Tally.fill_slot.Goals as goal

pub returns-clause-arrives : goal.returns-clause-arrives
returns-clause-arrives c =
    slot_arrives _ _ _ _ _ _ c.args.self.now c.free_slot.new.self c.settle.new.self c.args.masks.now c.free_slot.new.masks c.free_slot.ensures.stands c.free_slot.ensures.moved c.free_slot.ensures.receded c.free_slot.ensures.kept
    c.requires.placing (omega (arith, c.requires.block, c.requires.stands.homes)) c.requires.absent c.length-size.ensures.value c.length-size.ensures.some (omega (arith, c.length-size.ensures.most, c.requires.stands.image.most))
    (omega (arith, c.length-size.ensures.most, c.requires.stands.words)) c.next_slot-first.ensures.within c.next_slot-first.ensures.value c.requires.missed c.settle.ensures.settled

pub returns-clause-marks : goal.returns-clause-marks
returns-clause-marks c = marks_both _ _ _ _ _ _ _ c.free_slot.ensures.marks (c.settle.ensures.marks c.args.exits.now.blocks c.free_slot.ensures.marks.are)

pub returns-clause-leading : goal.returns-clause-leading
returns-clause-leading c = settled_last c.free_slot.new.self _ _ _ _ c.settle.ensures.settled
