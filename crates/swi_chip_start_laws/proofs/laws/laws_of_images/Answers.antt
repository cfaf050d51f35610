use Rattle.swi_chip_start_laws.proofs.Jumps.{no_jump}
use Rattle.swi_chip_start_laws.proofs.laws.laws_of_images.Goals as goal

pub returns : goal.returns
returns c = no_jump
