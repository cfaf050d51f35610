use Rattle.swi_links.proofs.Calls.{first_some, first_none, apart}
use Rattle.swi_links.proofs.chains.Chains.first_into.Goals as goal

pub returns-then-first-self-clause-first : goal.returns-then-first-self-clause-first
returns-then-first-self-clause-first c = first_some _ _ _ _ _ _ _ _ c.self.view_is c.self.invariant c.requires c.index-first.ensures c.if-first-self.true

pub returns-else-first-self-clause-first : goal.returns-else-first-self-clause-first
returns-else-first-self-clause-first c = first_none _ _ _ _ _ _ _ _ c.self.view_is c.self.invariant c.requires c.index-first.ensures c.if-first-self.false

pub returns-then-first-self-clause-apart : goal.returns-then-first-self-clause-apart
returns-then-first-self-clause-apart c = apart _ _ _ _ _ _ c.self.view_is c.self.invariant

pub returns-else-first-self-clause-apart : goal.returns-else-first-self-clause-apart
returns-else-first-self-clause-apart c = apart _ _ _ _ _ _ c.self.view_is c.self.invariant
