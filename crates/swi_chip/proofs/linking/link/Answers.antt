use Rattle.std.proofs.Common.{◌+◌, ℕ, List, slice_set, arith, sym, subst, ◌∙◌}
use Rattle.std.proofs.lemmas.List.{length-set}
use Rattle.swi_links.specs.Chains.{Has}
use Rattle.swi_chip.specs.Lists.{list_at}
use Rattle.swi_chip.proofs.Evicting.{stands_same}
use Rattle.swi_chip.proofs.Joining.{cell_free, links_fewer, stands_set, linked_so}
use Rattle.swi_chip.proofs.linking.link.Goals as goal

pub join-requires-clause-stand : goal.join-requires-clause-stand
join-requires-clause-stand c = (let k = c.requires.known.5 in (c.requires.known.4, stands_set k c.jump.result))

pub join-requires-clause-free : goal.join-requires-clause-free
join-requires-clause-free c = λ lists st.
    (let k = c.requires.known.5 in
    let same = stands_same (slice_set c.args.cache.now c.args.at c.jump.result) c.args.heads.now c.requires.known.4 lists (stands_set k c.jump.result) st in
    subst (λ (L : List (List ℕ)). (n : ℕ) → Has (list_at L n) (c.args.at + 1) → ⊥) (sym same) (cell_free k))

pub overflow_add-links : goal.overflow_add-links
overflow_add-links c = (let k = c.requires.known.5 in let f = links_fewer k in let g = k.holds.stand.few in omega (arith, f, g))

pub returns : goal.returns
returns c = record {
  linked = λ s vs ram blocks lists k.
      linked_so k c.join.new.cache c.join.new.heads c.jump.result c.jump.ensures (c.join.ensures.joined lists (stands_set k c.jump.result)) (c.join.auto.cache ∙ length-set c.args.cache.now c.args.at c.jump.result) c.join.auto.heads c.join.ensures.others;
}
