use Rattle.swi_cut_laws.proofs.Bytes.{cut_bytes_are_one, image_bytes_are_one, upgrade_bytes_are_one}
use Rattle.swi_cut_laws.proofs.laws.laws_of_bytes.Goals as goal

pub returns-clause-image : goal.returns-clause-image
returns-clause-image c = image_bytes_are_one

pub returns-clause-cut : goal.returns-clause-cut
returns-clause-cut c = cut_bytes_are_one

pub returns-clause-upgrade : goal.returns-clause-upgrade
returns-clause-upgrade c = upgrade_bytes_are_one
