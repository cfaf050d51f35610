use Rattle.std.proofs.Common.{ap, refl, sym}
use Rattle.swi_tally.specs.declared.exits.Exit.{Exit}
use Rattle.swi_tally.proofs.Crossing.{arrives_call, crossed, still_unlinked}
use Rattle.swi_tally.proofs.Marking.{marks_as}
use Rattle.swi_tally.proofs.tally.Tally.cross.Goals as goal

pub link-requires-clause-unlinked : goal.link-requires-clause-unlinked
link-requires-clause-unlinked c = still_unlinked _ _ _ _ _ _ _ _ _ c.requires.serves.stands.are c.requires.exit c.requires.unlinked c.serve.ensures.arrives

pub returns-clause-kept : goal.returns-clause-kept
returns-clause-kept c =
    (crossed _ _ _ _ _ _ _ _ _ _ c.requires.serves c.requires.exit c.requires.unlinked
    (arrives_call _ _ _ _ _ _ _ _ _ _ (ap (λ (x : Exit). x.into) c.exit-into.ensures.value) refl c.serve.ensures.arrives) c.link.ensures.links).kept

pub returns-clause-marks : goal.returns-clause-marks
returns-clause-marks c = marks_as _ _ _ _ _ _ (sym c.link.ensures.links.queue) c.serve.ensures.marks
