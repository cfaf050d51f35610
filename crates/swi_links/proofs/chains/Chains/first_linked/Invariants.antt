use Rattle.swi_links.specs.Chains.{AreFree}
use Rattle.swi_links.proofs.chains.Chains.first_linked.Given as goal

abbrev pub invariant-loop-at : goal.invariant-loop-at
invariant-loop-at l = AreFree l.self l.from l.at
