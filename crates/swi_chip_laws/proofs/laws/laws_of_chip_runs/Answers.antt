use Rattle.swi_chip_laws.proofs.Running.{follows_events, runs_in_steps}
use Rattle.swi_chip_laws.proofs.laws.laws_of_chip_runs.Goals as goal

pub returns-clause-events : goal.returns-clause-events
returns-clause-events c = λ by v span n f at run. follows_events by v span n f at run

pub returns-clause-runs : goal.returns-clause-runs
returns-clause-runs c = λ by v span n k f at run none many. runs_in_steps by v span n k f at run none many
