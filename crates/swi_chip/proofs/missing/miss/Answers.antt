use Rattle.std.proofs.Common.{◌≡◌, ◌+◌, ◌-◌, ◌*◌, ◌<◌, ℕ, slice_index, arith, sym, ◌∙◌, ap, inl, inr}
use Rattle.swi_chip.specs.Undone.{begin_in}
use Rattle.swi_chip.proofs.Arriving.{Room, room_free, room_full, room_as, length_is, short_block, slot_row, row_at_key, some_words, begin_is, missed}
use Rattle.swi_chip.proofs.missing.miss.Goals as goal
use Rattle.swi_chip.proofs.missing.miss.Goals.{then-is_full, else-is_full, then-block-eq0, else-block-eq0}

pub bounds-ends-block : goal.bounds-ends-block
bounds-ends-block c = (let k = c.requires.known.4 in let r = (row_at_key k 0 (some_words k)).0 in let ne = c.if-block-eq0.false in omega (arith, r, ne))

pub copy-requires-clause-to : goal.copy-requires-clause-to
copy-requires-clause-to c =
    (let k = c.requires.known.4 in
    let a = slot_row k in let b = short_block k in let l = length_is k in let h = k.holds.long in
    let e = ap (λ (z : ℕ). c.args.slot * z) k.size_is in
    omega (arith, a, b, l, h, e, c.if-is_full.auto.cache))

pub copy-requires-clause-from : goal.copy-requires-clause-from
copy-requires-clause-from c =
    (let k = c.requires.known.4 in
    let l = length_is k in
    let some = some_words k in
    let r = (row_at_key k (c.args.new_words - 1) (omega (arith, l, some))).1 in
    let e : c.if-block-eq0.begin ≡ begin_in c.args.ends.now c.args.block = begin_is c.args.ends.now c.args.block c.if-block-eq0.begin (elim c.if-block-eq0.branch [
      | then-block-eq0 w ↦ inl (w.if-block-eq0.true, w.begin-is)
      | else-block-eq0 w ↦ inr (w.if-block-eq0.false, w.begin-is)
    ]) in
    omega (arith, l, some, r, e))

pub returns : goal.returns
returns c = record {
  missed = λ s vs ram lists k.
      (let room : Room s ram c.args.slot c.if-is_full.undone c.if-is_full.cache c.if-is_full.heads c.if-is_full.links c.args.blocks.now = elim c.if-is_full.branch [
        | then-is_full w ↦
            (let le = k.is_full w.if-is_full.true in
            let inside : c.args.slot < s.filled = (let a = k.next_is in let b = k.serves.shape.next_below in omega (arith, a, b, le)) in
            let e = w.evict-undone.ensures.evicted s vs ram lists (record { serves = k.serves; holds = k.holds; rows = k.rows; filled = inside; length_is = k.old_is w.if-is_full.true; size_is = k.size_is }) in
            room_as s ram c.args.slot w.evict-undone.result c.if-is_full.undone w.evict-undone.new.cache c.if-is_full.cache w.evict-undone.new.heads c.if-is_full.heads w.evict-undone.new.links c.if-is_full.links c.args.blocks.now w.undone-is w.cache-is w.heads-is w.links-is
            (room_full s vs ram w.evict-undone.new.cache w.evict-undone.new.heads w.evict-undone.new.links c.args.blocks.now c.args.slot w.evict-undone.result k.serves k.next_is le e))
        | else-is_full w ↦
            room_as s ram c.args.slot 0 c.if-is_full.undone c.args.cache.now c.if-is_full.cache c.args.heads.now c.if-is_full.heads c.args.links.now c.if-is_full.links c.args.blocks.now w.undone-is w.cache-is w.heads-is w.links-is
            (room_free s vs ram c.args.cache.now c.args.heads.now c.args.links.now c.args.blocks.now lists c.args.slot 0 k.serves k.holds k.next_is (k.not_full w.if-is_full.false))
      ] in
      let begin : c.if-block-eq0.begin ≡ begin_in c.args.ends.now c.args.block = begin_is c.args.ends.now c.args.block c.if-block-eq0.begin (elim c.if-block-eq0.branch [
        | then-block-eq0 w ↦ inl (w.if-block-eq0.true, w.begin-is)
        | else-block-eq0 w ↦ inr (w.if-block-eq0.false, w.begin-is)
      ]) in
      let l = length_is k in
      let row : c.args.slot * c.args.size.words ≡ c.args.slot * s.size = ap (λ (z : ℕ). c.args.slot * z) k.size_is in
      missed k c.copy.new.cache room c.copy.auto.cache
      (λ j lt. ap (λ (z : ℕ). slice_index c.copy.new.cache (z + j)) (sym row) ∙ (c.copy.ensures.copied j (omega (arith, lt, l)) ∙ ap (λ (z : ℕ). slice_index c.args.words.now (z + j)) begin))
      (λ i w. c.copy.ensures.others i (elim w [ inl lt ↦ inl (omega (arith, lt, row)) | inr ge ↦ inr (omega (arith, ge, row, l)) ])));
}
