use Rattle.swi_run_laws.proofs.Broken.{broke_off}
use Rattle.swi_run_laws.proofs.Runs.{ran_steps}
use Rattle.swi_run_laws.proofs.laws.laws_of_runs.Goals as goal

pub returns-clause-steps : goal.returns-clause-steps
returns-clause-steps g c = λ v n old new u ran le left told f image same none. ran_steps g.S.CacheRom.service v old left told f image same n new u ran le none

pub returns-clause-broke : goal.returns-clause-broke
returns-clause-broke g c = λ v n mid new fault sound off s from at. broke_off g.S.CacheRom.service g.met.S.CacheRom.laws v n mid new fault sound off s from at
