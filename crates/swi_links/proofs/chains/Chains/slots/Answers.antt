use Rattle.swi_links.proofs.Calls.{apart}
use Rattle.swi_links.proofs.chains.Chains.slots.Goals as goal

pub returns-clause-apart : goal.returns-clause-apart
returns-clause-apart c = apart _ _ _ _ _ _ c.self.view_is c.self.invariant
