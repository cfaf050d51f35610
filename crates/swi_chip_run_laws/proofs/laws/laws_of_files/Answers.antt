use Rattle.swi_chip_run_laws.proofs.Files.{runs_from_file}
use Rattle.swi_chip_run_laws.proofs.laws.laws_of_files.Goals as goal

pub returns : goal.returns
returns c = runs_from_file
