use Rattle.swi_links.proofs.Undoing.{number_is, gone}
use Rattle.swi_links.proofs.links.undo.Goals as goal

pub returns-clause-gone : goal.returns-clause-gone
returns-clause-gone g c = gone _ _ _ _ _ _ _ _ _ c.in_ok-undone.ensures.undone c.in_ok-undone.ensures.emptied c.drop_own.ensures

pub returns-clause-number : goal.returns-clause-number
returns-clause-number g c = number_is _ _ _ _ _ _ _ _ c.in_ok-undone.ensures.undone c.in_ok-undone.ensures.emptied
