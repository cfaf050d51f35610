use Rattle.swi_cache_laws.proofs.Computed.{misses_all}
use Rattle.swi_cache_laws.proofs.Phases.{misses_few}
use Rattle.swi_cache_laws.proofs.laws.laws_of_paging.Goals as goal

pub returns-clause-misses_few : goal.returns-clause-misses_few
returns-clause-misses_few c = λ by v r ts most h before choices le is. misses_few by v r ts most h before choices le is

pub returns-clause-example : goal.returns-clause-example
returns-clause-example c = misses_all
