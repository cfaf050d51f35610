use Rattle.swi_cut_laws.proofs.Cuts.{cut_is_one, decodes_beyond, decodes_once, upgrade_is_one}
use Rattle.swi_cut_laws.proofs.laws.laws_of_cuts.Goals as goal

pub returns-clause-cut : goal.returns-clause-cut
returns-clause-cut c = cut_is_one

pub returns-clause-upgrade : goal.returns-clause-upgrade
returns-clause-upgrade c = upgrade_is_one

pub returns-clause-decodes : goal.returns-clause-decodes
returns-clause-decodes c = decodes_once

pub returns-clause-beyond : goal.returns-clause-beyond
returns-clause-beyond c = decodes_beyond
