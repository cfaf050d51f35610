use Rattle.swi_links.proofs.Tying.{ready_tied}
use Rattle.swi_links.proofs.Calls.{linked_put, lists_now}
use Rattle.swi_links.proofs.chains.Chains.link.Goals as goal

pub invariant_of-self : goal.invariant_of-self
invariant_of-self c =
    ready_tied _ _ _ _ _ _ (linked_put _ _ _ _ _ _ _ _ _ _ _ _ _ _ c.self.view_is c.self.invariant c.requires.at c.requires.free c.requires.slot
    c.index-first.ensures c.put.ensures c.put-2.ensures c.put-3.ensures c.put-4.ensures c.put-5.ensures)

pub returns : goal.returns
returns c =
    lists_now _ _ _ _ _ _ _ _ _ c.self.view_is (linked_put _ _ _ _ _ _ _ _ _ _ _ _ _ _ c.self.view_is c.self.invariant c.requires.at c.requires.free c.requires.slot
    c.index-first.ensures c.put.ensures c.put-2.ensures c.put-3.ensures c.put-4.ensures c.put-5.ensures)
