use Rattle.std.proofs.Common.{◌≡◌, ◌+◌, ◌*◌, ℕ, List, length, slice_index, sym, subst}
use Rattle.swi_links.specs.Chains.{Has}
use Rattle.swi_chip.specs.Lists.{list_at}
use Rattle.swi_chip.specs.Undone.{IsApart, CanRestore}
use Rattle.swi_chip.specs.Owned.{AreCounted, AreTied}
use Rattle.swi_chip.proofs.Evicting.{stands_same, known_tied, known_room, known_apart, now_apart, now_can, now_count, evicted}
use Rattle.swi_chip.proofs.eviction.evict.Goals as goal

pub take_out_from-requires-clause-room : goal.take_out_from-requires-clause-room
take_out_from-requires-clause-room c = known_room c.requires.known.4

pub take_out_from-requires-clause-counts : goal.take_out_from-requires-clause-counts
take_out_from-requires-clause-counts c = λ lists st.
    (let k = c.requires.known.4 in
    let same = stands_same c.args.cache.now c.args.heads.now c.requires.known.3 lists k.holds.stand st in
    subst (λ (L : List (List ℕ)). AreCounted c.args.links.now L) (sym same) k.holds.counted)

pub take_out_from-requires-clause-apart : goal.take_out_from-requires-clause-apart
take_out_from-requires-clause-apart c = λ lists st.
    (let k = c.requires.known.4 in
    let same = stands_same c.args.cache.now c.args.heads.now c.requires.known.3 lists k.holds.stand st in
    subst (λ (L : List (List ℕ)). IsApart L) (sym same) (known_apart k))

pub take_out_from-requires-clause-tied : goal.take_out_from-requires-clause-tied
take_out_from-requires-clause-tied c = λ lists st.
    (let k = c.requires.known.4 in
    let same = stands_same c.args.cache.now c.args.heads.now c.requires.known.3 lists k.holds.stand st in
    subst (λ (L : List (List ℕ)). AreTied c.args.cache.now c.args.size.words (c.args.slot * c.args.size.words) (c.args.slot * c.args.size.words + c.args.words_of_block) L) (sym same) (known_tied k))

pub undo_into-requires-clause-stand : goal.undo_into-requires-clause-stand
undo_into-requires-clause-stand c = (let k = c.requires.known.4 in let d = c.take_out_from.ensures.dropped c.requires.known.3 k.holds.stand in (d.now, d.stand))

pub undo_into-requires-clause-count : goal.undo_into-requires-clause-count
undo_into-requires-clause-count c = λ lists st.
    (let k = c.requires.known.4 in
    let d = c.take_out_from.ensures.dropped c.requires.known.3 k.holds.stand in
    let same = stands_same c.take_out_from.new.cache c.take_out_from.new.heads d.now lists d.stand st in
    subst (λ (L : List (List ℕ)). length (list_at L c.args.slot) ≡ slice_index c.take_out_from.new.links c.args.slot) (sym same) (now_count k d))

pub undo_into-requires-clause-apart : goal.undo_into-requires-clause-apart
undo_into-requires-clause-apart c = λ lists st.
    (let k = c.requires.known.4 in
    let d = c.take_out_from.ensures.dropped c.requires.known.3 k.holds.stand in
    let same = stands_same c.take_out_from.new.cache c.take_out_from.new.heads d.now lists d.stand st in
    subst (λ (L : List (List ℕ)). IsApart L) (sym same) (now_apart k d))

pub undo_into-requires-clause-can : goal.undo_into-requires-clause-can
undo_into-requires-clause-can c = λ lists st.
    (let k = c.requires.known.4 in
    let d = c.take_out_from.ensures.dropped c.requires.known.3 k.holds.stand in
    let same = stands_same c.take_out_from.new.cache c.take_out_from.new.heads d.now lists d.stand st in
    subst (λ (L : List (List ℕ)). (x : ℕ) → Has (list_at L c.args.slot) x → CanRestore c.args.blocks.now c.args.ends.now c.args.words.now c.args.size.words x) (sym same) (now_can k d))

pub returns : goal.returns
returns c = record {
  evicted = λ s vs ram lists k.
      (let d = c.take_out_from.ensures.dropped lists k.holds.stand in
      evicted k d (c.undo_into.ensures.undone d.now d.stand) (c.undo_into.ensures.stand d.now d.stand) c.take_out_from.auto.links c.take_out_from.auto.cache);
}
