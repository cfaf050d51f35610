use Rattle.swi_chip.proofs.Repeating.{enters_repeated, exits_repeated, leaves_repeated}
use Rattle.swi_chip.proofs.laws.laws_of_calls.Goals as goal

pub returns-clause-enters : goal.returns-clause-enters
returns-clause-enters c = enters_repeated

pub returns-clause-exits : goal.returns-clause-exits
returns-clause-exits c = exits_repeated

pub returns-clause-leaves : goal.returns-clause-leaves
returns-clause-leaves c = leaves_repeated
