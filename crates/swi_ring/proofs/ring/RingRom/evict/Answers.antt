use Rattle.std.proofs.Common.{sym, arith, ◌∙◌}
use Rattle.std.proofs.lemmas.List.{length-set}
use Rattle.swi_ring.specs.Ring.{Ring}
use Rattle.swi_ring.proofs.Evicting.{oldest_known, oldest_within, evicted_shape, evict_call}
use Rattle.swi_ring.proofs.ring.RingRom.evict.Goals as goal

pub index-first-requires : goal.index-first-requires
index-first-requires g c = omega (arith, oldest_known _ _ _ c.self.view_is c.self.invariant.0 c.requires.some c.get-block.ensures)

pub undo-requires-clause-list : goal.undo-requires-clause-list
undo-requires-clause-list g c = omega (arith, oldest_known _ _ _ c.self.view_is c.self.invariant.0 c.requires.some c.get-block.ensures, c.self.invariant.0.chain_lists)

pub undo-requires-clause-within : goal.undo-requires-clause-within
undo-requires-clause-within g c = omega (arith, oldest_within _ _ _ _ _ c.self.view_is c.self.invariant.0 c.requires.some c.get-block.ensures c.index-first.ensures c.index-size.ensures, c.self.invariant.0.chain_words)

pub invariant_of-self-2 : goal.invariant_of-self-2
invariant_of-self-2 g c =
    let s = c.self.inside in
    let old : Ring = record { words = s.words; next = s.next; queue = s.queue.blocks; firsts = s.firsts.items; lengths = s.lengths.items; owners = s.owners.items; chains = s.chains; counts = s.counts } in (
      evicted_shape old _ _ _ _ _ c.self.invariant.0 c.pop.ensures.blocks c.get-block.ensures c.in_ok-undone.ensures.words c.in_ok-undone.ensures.lists,
      c.pop.ensures.room ∙ c.self.invariant.1 ∙ sym (length-set s.firsts.items c.get-block.result s.words),
    )

pub returns-clause-left : goal.returns-clause-left
returns-clause-left g c =
    let s = c.self.inside in
    let old : Ring = record { words = s.words; next = s.next; queue = s.queue.blocks; firsts = s.firsts.items; lengths = s.lengths.items; owners = s.owners.items; chains = s.chains; counts = s.counts } in
    evict_call old _ _ _ _ _ _ _ _ _ _ c.self.view_is c.self.invariant.0 c.requires.some c.pop.ensures.blocks c.get-block.ensures c.index-first.ensures c.index-size.ensures
    c.in_ok-undone.ensures.gone c.in_ok-undone.ensures.number c.in_ok-undone.ensures.words c.in_ok-undone.ensures.lists
