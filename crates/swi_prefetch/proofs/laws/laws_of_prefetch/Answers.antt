use Rattle.swi_prefetch.proofs.Apart.{copy_apart, copy_stays_apart}
use Rattle.swi_prefetch.proofs.Bounds.{stays_few}
use Rattle.swi_prefetch.proofs.Standing.{stood}
use Rattle.swi_prefetch.proofs.Writing.{booted_written, keeps_fetched, written}
use Rattle.swi_prefetch.proofs.laws.laws_of_prefetch.Goals as goal

pub returns-clause-stands : goal.returns-clause-stands
returns-clause-stands c = stood

pub returns-clause-begins_written : goal.returns-clause-begins_written
returns-clause-begins_written c = booted_written

pub returns-clause-stays_written : goal.returns-clause-stays_written
returns-clause-stays_written c = written

pub returns-clause-keeps_fetched : goal.returns-clause-keeps_fetched
returns-clause-keeps_fetched c = keeps_fetched

pub returns-clause-stays_apart : goal.returns-clause-stays_apart
returns-clause-stays_apart c = copy_stays_apart

pub returns-clause-board_apart : goal.returns-clause-board_apart
returns-clause-board_apart c = copy_apart

pub returns-clause-few : goal.returns-clause-few
returns-clause-few c = stays_few
