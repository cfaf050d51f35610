use Rattle.std.proofs.Common.{length}
use Rattle.swi_tally.specs.Tally.{Marks}
use Rattle.swi_tally.proofs.Arriving.{Clearing}
use Rattle.swi_tally.proofs.tally.Tally.make_room.Given as goal

abbrev pub invariant-loop-self : goal.invariant-loop-self
invariant-loop-self l = Clearing l.image l.exits l.cache l.first l.size l.initial.self l.self l.initial.masks l.masks × Marks l.exits.blocks l.cache l.self.queue l.initial.placed l.placed

abbrev pub decreases-loop-self : goal.decreases-loop-self
decreases-loop-self l = length l.self.queue
