use Rattle.swi_chip_start_laws.proofs.Files.{starts_from_file}
use Rattle.swi_chip_start_laws.proofs.laws.laws_of_starts.Goals as goal

pub returns : goal.returns
returns c = starts_from_file
