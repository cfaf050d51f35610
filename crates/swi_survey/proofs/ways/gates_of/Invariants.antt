use Rattle.std.proofs.Common.{◌≡◌, map, take}
use Rattle.swi_survey.specs.Ways.{gate_of}
use Rattle.swi_survey.proofs.ways.gates_of.Given as goal

abbrev pub invariant-loop-way : goal.invariant-loop-way
invariant-loop-way l = l.gates.items ≡ map (gate_of l.exits) (take l.way-index l.ways)
