use Rattle.std.proofs.Common.{sym, ◌∙◌}
use Rattle.swi_tally.proofs.Arriving.{clearing_start, clearing_more, clearing_end, met_some}
use Rattle.swi_tally.proofs.Marking.{marks_both, marks_none}
use Rattle.swi_tally.proofs.tally.Tally.make_room.Goals as goal

pub loop-self-init : goal.loop-self-init
loop-self-init c = (clearing_start _ _ _ _ _ _ _ c.requires.stands, marks_none _ _ _ _ c.requires.marked)

pub loop-self-preserved : goal.loop-self-preserved
loop-self-preserved c = (
  clearing_more _ _ _ _ _ c.args.self.now c.loop-self.self c.evict.new.self c.args.masks.now c.loop-self.masks c.evict.new.masks c.loop-self.invariant.0 (sym c.is_met.ensures ∙ c.loop-self-test.true)
      (record { kept = c.evict.ensures.kept; moved = c.evict.ensures.moved; services = c.evict.ensures.services; misses = c.evict.ensures.misses; links = c.evict.ensures.links; next = c.evict.ensures.next; oldest = c.evict.ensures.oldest }),
  marks_both _ _ _ _ _ _ _ c.loop-self.invariant.1 c.evict.ensures.marks,
)

pub returns-clause-kept : goal.returns-clause-kept
returns-clause-kept c = clearing_end _ _ _ _ _ _ _ _ _ c.loop-self.invariant.0 (sym c.is_met.ensures ∙ c.loop-self-test.false)

pub evict-requires-clause-some : goal.evict-requires-clause-some
evict-requires-clause-some c = met_some _ _ _ _ _ (sym c.is_met.ensures ∙ c.loop-self-test.true)

pub evict-requires-clause-marked : goal.evict-requires-clause-marked
evict-requires-clause-marked c = c.loop-self.invariant.1.are

pub returns-clause-marks : goal.returns-clause-marks
returns-clause-marks c = c.loop-self.invariant.1
