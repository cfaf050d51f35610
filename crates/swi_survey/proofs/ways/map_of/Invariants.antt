use Rattle.swi_survey.proofs.Mapping.{MapSoFar}
use Rattle.swi_survey.proofs.ways.map_of.Given as goal

abbrev pub invariant-loop-k : goal.invariant-loop-k
invariant-loop-k l = MapSoFar l.text l.image l.k l.exits l.ways.items
