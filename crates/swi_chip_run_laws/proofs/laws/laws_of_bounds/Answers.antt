use Rattle.swi_chip.proofs.Bounding.{bounds_nothing, keeps_bound}
use Rattle.swi_chip_run_laws.proofs.laws.laws_of_bounds.Goals as goal

pub returns-clause-keeps : goal.returns-clause-keeps
returns-clause-keeps c = keeps_bound

pub returns-clause-nothing : goal.returns-clause-nothing
returns-clause-nothing c = bounds_nothing
