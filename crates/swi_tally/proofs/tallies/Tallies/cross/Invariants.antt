use Rattle.swi_tally.proofs.Walking.{Over, Passing, Unlinked}
use Rattle.swi_tally.proofs.tallies.Tallies.cross.Given as goal

abbrev pub invariant-loop-rest : goal.invariant-loop-rest
invariant-loop-rest l = Passing (Over l.image l.initial.self.exits l.x) (Unlinked l.initial.self l.x) l.image l.rest l.initial.self.jumps l.initial.self l.self

abbrev pub decreases-loop-rest : goal.decreases-loop-rest
decreases-loop-rest l = l.rest
