use Rattle.std.proofs.Common.{length, arith, ap, sym, ◌∙◌}
use Rattle.swi_tally.specs.Tally.{TallyData}
use Rattle.swi_tally.proofs.Arriving.{freed_full, freed_free}
use Rattle.swi_tally.proofs.Marking.{marks_none}
use Rattle.swi_tally.proofs.tally.Tally.free_slot.Goals as goal

pub returns-then-len-self-clause-kept : goal.returns-then-len-self-clause-kept
returns-then-len-self-clause-kept c =
    c.evict.ensures.kept ∙ sym (freed_full c.args.exits.now _ c.args.self.now (omega (arith, c.len.ensures, ap (λ (s : TallyData). length s.queue) c.self.view_is, ap (λ (s : TallyData). s.slots) c.self.view_is)))

pub returns-else-len-self-clause-kept : goal.returns-else-len-self-clause-kept
returns-else-len-self-clause-kept c =
    sym (freed_free c.args.exits.now _ c.args.self.now (omega (arith, c.len.ensures, ap (λ (s : TallyData). length s.queue) c.self.view_is, ap (λ (s : TallyData). s.slots) c.self.view_is)))

pub returns-else-len-self-clause-marks : goal.returns-else-len-self-clause-marks
returns-else-len-self-clause-marks c = marks_none _ _ _ _ c.requires.marked
