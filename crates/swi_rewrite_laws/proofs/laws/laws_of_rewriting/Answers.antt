use Rattle.std.proofs.Common.{refl}
use Rattle.swi_rewrite_laws.proofs.Left.{run_alike}
use Rattle.swi_rewrite_laws.proofs.Stored.{written}
use Rattle.swi_rewrite_laws.proofs.laws.laws_of_rewriting.Goals as goal

pub returns-clause-results : goal.returns-clause-results
returns-clause-results c = λ file. run_alike file file (λ o input. refl)

pub returns-clause-originals : goal.returns-clause-originals
returns-clause-originals c = written
