use Rattle.std.proofs.Common.{arith}
use Rattle.swi_links.proofs.Tying.{ready_tied}
use Rattle.swi_links.proofs.Calls.{has_slot, unlinked_put, lists_now}
use Rattle.swi_links.proofs.chains.Chains.unlink.Goals as goal

pub index-slot-requires : goal.index-slot-requires
index-slot-requires c =
    let w = has_slot _ _ _ _ _ _ _ _ c.self.view_is c.self.invariant c.requires.at.1 in
    omega (arith, w.0, c.self.invariant.owners_long)

pub index-next-requires : goal.index-next-requires
index-next-requires c =
    let w = has_slot _ _ _ _ _ _ _ _ c.self.view_is c.self.invariant c.requires.at.1 in
    omega (arith, w.0, c.self.invariant.nexts_long)

pub index-prev-requires : goal.index-prev-requires
index-prev-requires c =
    let w = has_slot _ _ _ _ _ _ _ _ c.self.view_is c.self.invariant c.requires.at.1 in
    omega (arith, w.0, c.self.invariant.prevs_long)

pub invariant_of-self : goal.invariant_of-self
invariant_of-self c =
    ready_tied _ _ _ _ _ _ (unlinked_put _ _ _ _ _ _ _ _ _ _ _ _ _ _ _ _ _ c.self.view_is c.self.invariant c.requires.at.1
    c.index-slot.ensures c.index-next.ensures c.index-prev.ensures (omega (arith, c.len-slots.ensures)) c.head_at-head.ensures c.put.ensures c.put-2.ensures c.put-3.ensures c.put-4.ensures)

pub returns : goal.returns
returns c =
    lists_now _ _ _ _ _ _ _ _ _ c.self.view_is (unlinked_put _ _ _ _ _ _ _ _ _ _ _ _ _ _ _ _ _ c.self.view_is c.self.invariant c.requires.at.1
    c.index-slot.ensures c.index-next.ensures c.index-prev.ensures (omega (arith, c.len-slots.ensures)) c.head_at-head.ensures c.put.ensures c.put-2.ensures c.put-3.ensures c.put-4.ensures)
