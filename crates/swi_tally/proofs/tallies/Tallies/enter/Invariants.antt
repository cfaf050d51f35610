use Rattle.swi_tally.specs.Tallies.{before}
use Rattle.swi_tally.proofs.Walking.{Earlier, Into, Passing}
use Rattle.swi_tally.proofs.tallies.Tallies.enter.Given as goal

abbrev pub invariant-loop-rest : goal.invariant-loop-rest
invariant-loop-rest l = Passing (Into l.image l.block) (Earlier (before l.initial.self)) l.image l.rest l.initial.self.jumps (before l.initial.self) l.self

abbrev pub decreases-loop-rest : goal.decreases-loop-rest
decreases-loop-rest l = l.rest
