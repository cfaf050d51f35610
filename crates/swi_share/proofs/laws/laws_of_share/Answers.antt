use Rattle.swi_share.specs.Laws.{fetched_words, follows}
use Rattle.swi_share.proofs.Bounds.{run_services}
use Rattle.swi_share.proofs.Pieces.{in_pieces, writes_alone}
use Rattle.swi_share.proofs.Stopped.{ram_stopped, sink_stopped}
use Rattle.swi_share.proofs.laws.laws_of_share.Goals as goal

pub returns-clause-sink : goal.returns-clause-sink
returns-clause-sink c = λ g before after s. sink_stopped g before after s

pub returns-clause-ram : goal.returns-clause-ram
returns-clause-ram c = λ g before after s. ram_stopped g before after s

pub returns-clause-follows : goal.returns-clause-follows
returns-clause-follows c = λ order g s x is. follows order g s x is

pub returns-clause-split : goal.returns-clause-split
returns-clause-split c = λ order s. in_pieces order s

pub returns-clause-alone : goal.returns-clause-alone
returns-clause-alone c = λ order g s x is. writes_alone order g s x is

pub returns-clause-fetched : goal.returns-clause-fetched
returns-clause-fetched c = λ order s. fetched_words order s

pub returns-clause-services : goal.returns-clause-services
returns-clause-services c = λ order s. run_services order s
