use Rattle.swi_interrupt_laws.proofs.Resuming.{goes_on_right, runs_on_right, enters_again}
use Rattle.swi_interrupt_laws.proofs.laws.laws_of_interrupts.Goals as goal

pub returns-clause-right : goal.returns-clause-right
returns-clause-right c = λ t v r f m k text low running same. goes_on_right t v r f m k text low running same

pub returns-clause-runs : goal.returns-clause-runs
returns-clause-runs c = λ t v r s m k text low running same. runs_on_right t v r s m k text low running same

pub returns-clause-enters : goal.returns-clause-enters
returns-clause-enters c = λ t v r new f m k there is_done text running same at. enters_again t v r new f m k there is_done text running same at
