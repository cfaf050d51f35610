-- What no list has is as in the ram.
use Rattle.std.proofs.Common.{◌≡◌, ◌∙◌, ℕ, ◌+◌, ◌-◌, ◌*◌, ◌/◌, ◌%◌, ◌^◌, ◌<◌, ◌≤◌, true, nat_lt, List, length, slice_index, ap, arith, refl, sym, subst}
use Rattle.std.proofs.lemmas.Bool.{lt-ltb}
use Rattle.std.proofs.lemmas.Nat.{row_fits}
use Rattle.swi_links.specs.Chains.{Has}
use Rattle.swi_rom.specs.Record.{Placed, is_linked}
use Rattle.swi_slots.specs.Coheres.{placed_most, tidy_of}
use Rattle.swi_slots.specs.Keys.{Images, key_number, key_of, key_owner, number_of, owner_of, words_in}
use Rattle.swi_slots.specs.Queue.{placed_slot, slot_placed}
use Rattle.swi_slots.specs.SlotLinks.{among_is, word_slot}
use Rattle.swi_slots.specs.Slots.{Slots, kept_by}
use Rattle.swi_chip.specs.declared.chip.Chip.{Chip}
use Rattle.swi_chip.specs.Held.{InBlock}
use Rattle.swi_chip.specs.Lists.{list_at}
use Rattle.swi_chip.specs.Service.{StandsFor}
use Rattle.swi_chip.proofs.Facts.{LinkAt, cell_link}
use Rattle.swi_chip.proofs.Filling.{few_blocks, key_is}
use Rattle.swi_image.specs.Place.{length_at}
use Rattle.swi_chip_laws.specs.Holding.{BehindLink, HoldsWords, InPlaced}

module _ {s : Slots} {vs : Images} {ram : List ℕ} {lists : List (List ℕ)} {c : Chip} (k : StandsFor s vs ram lists c) where
  -- a cell stands behind a link of the record
  cell_behind : (n x : ℕ) → Has (list_at lists n) x → BehindLink (kept_by s) x
  cell_behind n x has =
      let h = k.holds.linked n x has in
      let l : LinkAt k.serves k.holds (x - 1) = cell_link k.serves k.holds n x has in
      let block : ℕ = slice_index s.blocks l.slot in
      let known = (k.marks.known l.slot l.filled).0 in
      let small : block < 2 ^ 19 = (let f = few_blocks k in omega (arith, known, f)) in
      let key : slice_index s.blocks l.slot ≡ key_of s.turn block = sym (key_is k block) in
      let low : l.offset < s.size = (let o = l.low in omega (arith, o)) in
      let target : slice_index s.targets (l.slot * s.size + l.offset) < s.slots =
      subst (λ (i : ℕ). slice_index s.targets i < s.slots) l.index (subst (λ (m : ℕ). m < s.slots) (sym h.3) h.0) in
      record {
        block = block;
        offset = l.offset;
        first = l.slot * s.size;
        is_link = among_is s l.slot s.turn block l.offset (tidy_of s vs ram k.serves) l.filled low small key ∙ lt-ltb _ _ target;
        stands = slot_placed s l.slot block k.serves.shape l.filled small key;
        index = (let p = h.1 in let i = l.index in omega (arith, p, i));
      }

  pub holds_words : HoldsWords (vs s.turn) (kept_by s) ram c.cache.now
  holds_words = record {
    same = λ i placed free.
        (let p = placed_slot s placed.block placed.first k.serves.shape placed.stands in
        let m = placed_most s vs ram p.0 placed.block k.serves p.1 p.2 p.4 in
        let o = placed.inside in
        let low : placed.offset < s.size = omega (arith, m, o) in
        let at : i ≡ p.0 * s.size + placed.offset = (let e = placed.index in let f = p.3 in omega (arith, e, f)) in
        let w = word_slot s p.0 placed.offset low in
        let row : i / s.size ≡ p.0 = ap (λ (x : ℕ). x / s.size) at ∙ w.0 in
        let rest : i % s.size ≡ placed.offset = ap (λ (x : ℕ). x % s.size) at ∙ w.1 in
        let slot : p.0 < s.slots = (let f = p.1 in let g = k.serves.shape.filled_most in omega (arith, f, g)) in
        let r = row_fits p.0 s.size s.slots s.size slot (omega arith) in
        let inside : i < s.slots * s.size = omega (arith, r, at, low) in
        let words : slice_index s.lengths p.0 ≡ length_at (vs s.turn) placed.block =
        k.serves.lengths_are p.0 p.1 ∙ ap (λ (key : ℕ). words_in vs key) p.2
        ∙ ap (λ (q : ℕ). length_at (vs q) (number_of (key_of s.turn placed.block))) (key_owner s.turn placed.block p.4) ∙ ap (λ (b : ℕ). length_at (vs s.turn) b) (key_number s.turn placed.block p.4) in
        let in_block : InBlock s i = (subst (λ (n : ℕ). n < s.filled) (sym row) p.1, subst (λ (n : ℕ). i % s.size < slice_index s.lengths n) (sym row) (omega (arith, rest, words, o))) in
        k.holds.held i inside in_block (λ n has. free (cell_behind n i has)));
  }
