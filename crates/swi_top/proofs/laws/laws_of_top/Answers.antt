use Rattle.swi_top.proofs.Alike.{completes, ends_alike}
use Rattle.swi_top.proofs.laws.laws_of_top.Goals as goal

pub returns-clause-complete : goal.returns-clause-complete
returns-clause-complete c = completes

pub returns-clause-alike : goal.returns-clause-alike
returns-clause-alike c = ends_alike
