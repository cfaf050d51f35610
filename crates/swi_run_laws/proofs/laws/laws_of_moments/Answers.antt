use Rattle.swi_run_laws.proofs.After.{is_within}
use Rattle.swi_run_laws.proofs.Midway.{after_midway}
use Rattle.swi_run_laws.proofs.laws.laws_of_moments.Goals as goal

pub returns-clause-midway : goal.returns-clause-midway
returns-clause-midway c = λ by v k s p here going plain few enough. after_midway by v k s p here going plain few enough

pub returns-clause-within : goal.returns-clause-within
returns-clause-within c = λ by v k s h known none j lt. is_within by v k s h known none j lt
