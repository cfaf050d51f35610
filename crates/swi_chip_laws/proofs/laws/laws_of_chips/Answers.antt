use Rattle.swi_chip_laws.proofs.Holding.{fetches_held, reads_exits, links_lead}
use Rattle.swi_chip_laws.proofs.Stepping.{steps_as_model, follows_flat}
use Rattle.swi_chip_laws.proofs.laws.laws_of_chips.Goals as goal

pub returns-clause-fetches : goal.returns-clause-fetches
returns-clause-fetches c = λ v r span words held h i b o stage u holds. fetches_held v r span words held h i b o stage u holds

pub returns-clause-exits : goal.returns-clause-exits
returns-clause-exits c = λ v r span words held h i b o stage u holds is. reads_exits v r span words held h i b o stage u holds is

pub returns-clause-links : goal.returns-clause-links
returns-clause-links c = λ v r span words held h i b o stage u holds linked. links_lead v r span words held h i b o stage u holds linked

pub returns-clause-steps : goal.returns-clause-steps
returns-clause-steps c = λ v r new span words held h s input i b o stage u holds step. steps_as_model v r new span words held h s input i b o stage u holds step

pub returns-clause-follows : goal.returns-clause-follows
returns-clause-follows c = λ v r new span words held h f s input i b o stage u holds image same step. follows_flat v r new span words held h f s input i b o stage u holds image same step
