use Rattle.swi_cached.proofs.Failed.{are_counted, is_flat_run, stops_before_store}
use Rattle.swi_cached.proofs.laws.laws_of_cached_runs.Goals as goal

pub returns-clause-flat : goal.returns-clause-flat
returns-clause-flat c = is_flat_run

pub returns-clause-stops : goal.returns-clause-stops
returns-clause-stops c = stops_before_store

pub returns-clause-words : goal.returns-clause-words
returns-clause-words c = are_counted
