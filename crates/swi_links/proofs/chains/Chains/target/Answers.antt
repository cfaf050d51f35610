use Rattle.std.proofs.Common.{arith}
use Rattle.swi_links.proofs.Calls.{target_none, apart}
use Rattle.swi_links.proofs.chains.Chains.target.Goals as goal

pub returns-else-slot-len-clause-cases : goal.returns-else-slot-len-clause-cases
returns-else-slot-len-clause-cases c = target_none _ _ _ _ _ _ _ _ c.self.view_is c.self.invariant c.requires c.index-slot.ensures (omega (arith, c.len.ensures))

pub returns-then-slot-len-clause-apart : goal.returns-then-slot-len-clause-apart
returns-then-slot-len-clause-apart c = apart _ _ _ _ _ _ c.self.view_is c.self.invariant

pub returns-else-slot-len-clause-apart : goal.returns-else-slot-len-clause-apart
returns-else-slot-len-clause-apart c = apart _ _ _ _ _ _ c.self.view_is c.self.invariant
