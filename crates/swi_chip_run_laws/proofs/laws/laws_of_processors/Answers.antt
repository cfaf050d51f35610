use Rattle.swi_chip_run_laws.proofs.Answering.{enters_right}
use Rattle.swi_chip_run_laws.proofs.Running.{processor_follows, processor_runs}
use Rattle.swi_chip_run_laws.proofs.laws.laws_of_processors.Goals as goal

pub returns-clause-enters : goal.returns-clause-enters
returns-clause-enters c = enters_right

pub returns-clause-follows : goal.returns-clause-follows
returns-clause-follows c = processor_follows

pub returns-clause-runs : goal.returns-clause-runs
returns-clause-runs c = processor_runs
