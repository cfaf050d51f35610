-- What the model's data say of a chip's lists.
use Rattle.std.proofs.Common.{◌≡◌, ℕ, ◌+◌, ◌-◌, ◌*◌, ◌/◌, ◌%◌, ◌<◌, ◌≤◌, true, List, length, slice_index, arith, refl, sym, ◌∙◌, ap, subst, inl, inr}
use Rattle.std.proofs.lemmas.Bool.{cases_lt}
use Rattle.std.proofs.Math.Nat.{mul-le-mul_left}
use Rattle.std.proofs.lemmas.Nat.{mod-mul-add, div-mul-add, div-add-mod', mod_below}
use Rattle.swi_rom.specs.Record.{ebreak}
use Rattle.swi_rom.specs.Coherent.{IsExit}
use Rattle.swi_rom.specs.Blocks.{block_short}
use Rattle.swi_links.specs.Chains.{Has}
use Rattle.swi_slots.specs.Slots.{Slots}
use Rattle.swi_slots.specs.Keys.{Images, ExitOf, owner_of, number_of, word_in, words_in}
use Rattle.swi_slots.specs.Sound.{SlotsServe, LinkStands}
use Rattle.swi_chip.specs.Lists.{list_at}
use Rattle.swi_chip.specs.Undone.{IsApart, CanRestore, begin_in, row_of, restored}
use Rattle.swi_chip.specs.Owned.{AreTied, is_jump, lands_in}
use Rattle.swi_chip.specs.Held.{RowsHold, Holds, InBlock}

module _ {s : Slots} {vs : Images} {ram cache heads links blocks : List ℕ} {lists : List (List ℕ)} (serves : SlotsServe s vs ram) (h : Holds s ram cache heads links blocks lists) where
  some_size : 0 < s.size
  some_size = (let l = serves.shape.size_least in omega (arith, l))

  key_at : ℕ → ℕ
  key_at n = slice_index s.blocks n

  pub short : (n : ℕ) → n < s.filled → words_in vs (slice_index s.blocks n) ≤ s.size
  short n lt =
      let k : ℕ = slice_index s.blocks n in
      let a = block_short (vs (owner_of k)) (number_of k) (serves.images (owner_of k)) (serves.known n lt) in
      let b = serves.size_most (owner_of k) in
      omega (arith, a, b)

  -- a linked word is an exit of a filled slot's block
  pub record LinkAt (i : ℕ) : Type 0 where
    pub slot : ℕ
    pub offset : ℕ
    pub filled : slot < s.filled
    pub index : i ≡ slot * s.size + offset
    pub is_exit : ExitOf vs (slice_index s.blocks slot) offset
    pub low : offset + 1 < s.size
    pub is_slot : slot ≡ i / s.size
    pub is_offset : offset ≡ i % s.size

  pub link_at : (i : ℕ) → i < s.slots * s.size → slice_index s.targets i < s.slots → LinkAt i
  link_at i inside linked =
      let n : ℕ = i / s.size in
      let o : ℕ = i % s.size in
      let whole : n * s.size + o ≡ i = div-add-mod' i s.size in
      let filled : n < s.filled = serves.stands i inside linked in
      let below : o < s.size = mod_below i s.size some_size in
      let there : slice_index s.targets (n * s.size + o) < s.slots = subst (λ (k : ℕ). slice_index s.targets k < s.slots) (sym whole) linked in
      let l : LinkStands s vs ram n o = serves.linked n o filled below there in
      let e : IsExit (vs (owner_of (slice_index s.blocks n))) (number_of (slice_index s.blocks n)) o = l.is_exit in
      let size = short n filled in
      record { slot = n; offset = o; filled = filled; index = sym whole; is_exit = l.is_exit; low = (let q = e.inside in omega (arith, q, size)); is_slot = refl; is_offset = refl }

  -- the word behind one
  pub behind_slot : (i : ℕ) → (l : LinkAt i) → ((i + 1) / s.size ≡ l.slot) × ((i + 1) % s.size ≡ l.offset + 1)
  behind_slot i l =
      let e : i + 1 ≡ l.slot * s.size + (l.offset + 1) = (let q = l.index in omega (arith, q)) in
      (ap (λ (k : ℕ). k / s.size) e ∙ div-mul-add l.slot s.size (l.offset + 1) l.low, ap (λ (k : ℕ). k % s.size) e ∙ mod-mul-add l.slot s.size (l.offset + 1) l.low)

  pub cell_link : (n x : ℕ) → Has (list_at lists n) x → LinkAt (x - 1)
  cell_link n x has =
      let k = h.linked n x has in
      link_at (x - 1) k.2 (subst (λ (m : ℕ). m < s.slots) (sym k.3) k.0)

  pub in_block : (i : ℕ) → LinkAt i → InBlock s i
  in_block i l =
      let e : IsExit (vs (owner_of (slice_index s.blocks l.slot))) (number_of (slice_index s.blocks l.slot)) l.offset = l.is_exit in
      let long = serves.lengths_are l.slot l.filled in
      let low : l.offset < slice_index s.lengths l.slot = (let q = e.inside in omega (arith, q, long)) in
      (subst (λ (k : ℕ). k < s.filled) l.is_slot l.filled, subst (λ (k : ℕ). i % s.size < slice_index s.lengths k) l.is_slot (subst (λ (k : ℕ). k < slice_index s.lengths l.slot) l.is_offset low))

  -- no link stands behind one
  pub never_two : (i j : ℕ) → LinkAt i → LinkAt j → (i ≡ j + 1 → ⊥)
  never_two i j l m e =
      let b = behind_slot j m in
      let slot : l.slot ≡ m.slot = (let a = l.is_slot in a ∙ ap (λ (k : ℕ). k / s.size) e ∙ b.0) in
      let offset : l.offset ≡ m.offset + 1 = (let a = l.is_offset in a ∙ ap (λ (k : ℕ). k % s.size) e ∙ b.1) in
      let x : IsExit (vs (owner_of (slice_index s.blocks l.slot))) (number_of (slice_index s.blocks l.slot)) l.offset = l.is_exit in
      let y : IsExit (vs (owner_of (slice_index s.blocks m.slot))) (number_of (slice_index s.blocks m.slot)) m.offset = m.is_exit in
      let one : word_in vs (slice_index s.blocks m.slot) (m.offset + 1) ≡ ebreak = subst (λ (k : ℕ). word_in vs (slice_index s.blocks m.slot) k ≡ ebreak) offset (subst (λ (k : ℕ). word_in vs (slice_index s.blocks k) l.offset ≡ ebreak) slot x.leaves) in
      let three : word_in vs (slice_index s.blocks m.slot) (m.offset + 1) % 4 ≡ 3 = ap (λ (k : ℕ). k % 4) one in
      (let four = y.direct in omega (arith, three, four))

  pub lists_apart : IsApart lists
  lists_apart n m x y hx hy e =
      let a = h.linked n x hx in
      let b = h.linked m y hy in
      let px = a.1 in
      let py = b.1 in
      never_two (x - 1) (y - 1) (cell_link n x hx) (cell_link m y hy) (omega (arith, e, px, py))

  -- no block's first word is a cell
  pub first_clear : (slot : ℕ) → slot < s.slots → (n : ℕ) → Has (list_at lists n) (slot * s.size) → ⊥
  first_clear slot lt n has =
      let a = h.linked n (slot * s.size) has in
      let pos = a.1 in
      let back : slot * s.size - 1 + 1 ≡ slot * s.size = omega (arith, pos) in
      let l = cell_link n (slot * s.size) has in
      let b = (behind_slot (slot * s.size - 1) l).1 in
      let zero : slot * s.size % s.size ≡ 0 = (let z : slot * s.size + 0 ≡ slot * s.size = omega arith in ap (λ (k : ℕ). k % s.size) (sym z) ∙ mod-mul-add slot s.size 0 some_size) in
      let one : (slot * s.size - 1 + 1) % s.size ≡ 0 = ap (λ (k : ℕ). k % s.size) back ∙ zero in
      omega (arith, one, b)

  module _ {ends words : List ℕ} (rows : RowsHold vs ends words) where
    pub lists_tied : (slot : ℕ) → slot < s.filled → AreTied cache s.size (slot * s.size) (slot * s.size + words_in vs (slice_index s.blocks slot)) lists
    lists_tied slot lt =
        let filled = serves.shape.filled_most in
        record {
          jumps = λ n x has.
              let a = h.linked n x has in
              let pos = a.1 in
              let apart : (m : ℕ) → Has (list_at lists m) (x - 1) → ⊥ = λ m k. lists_apart n m x (x - 1) has k (omega (arith, pos)) in
              let same : slice_index cache (x - 1) ≡ slice_index ram (x - 1) = h.held (x - 1) a.2 (in_block (x - 1) (cell_link n x has)) apart in
              ap is_jump same ∙ (h.leads (x - 1) a.2 (subst (λ (m : ℕ). m < s.slots) (sym a.3) a.0)).0;
          listed = λ i low high jump none. tied_at slot lt i low high jump none;
          begins = first_clear slot (omega (arith, lt, filled));
        }
      where
        row_inside : (slot i size slots filled length : ℕ) → slot < filled → filled ≤ slots → i < slot * size + length → length ≤ size → slot * size + size ≤ slots * size → i < slots * size
        row_inside slot i size slots filled length a b c d e = omega arith

        rows_below : (slot slots size : ℕ) → slot < slots → slot * size + size ≤ slots * size
        rows_below slot slots size lt = (let up : slot + 1 ≤ slots = omega arith in let m = mul-le-mul_left size up in omega (arith, m))

        tied_at : (slot : ℕ) → slot < s.filled → (i : ℕ) → slot * s.size ≤ i → i < slot * s.size + words_in vs (slice_index s.blocks slot) → is_jump (slice_index cache i) ≡ true → ((n : ℕ) → Has (list_at lists n) i → ⊥) →
            (lands_in s.size i (slice_index cache i) < length lists) × Has (list_at lists (lands_in s.size i (slice_index cache i))) (i + 1)
        tied_at slot lt i low high jump none =
            let filled = serves.shape.filled_most in
            let size = short slot lt in
            let row = rows_below slot s.slots s.size (omega (arith, lt, filled)) in
            let inside : i < s.slots * s.size = row_inside slot i s.size s.slots s.filled (words_in vs (slice_index s.blocks slot)) lt filled high size row in
            let o : ℕ = i - slot * s.size in
            let whole : slot * s.size + o ≡ i = omega (arith, low) in
            let short_o : o < words_in vs (slice_index s.blocks slot) = omega (arith, low, high) in
            let low_o : o < s.size = omega (arith, short_o, size) in
            let row_is : i / s.size ≡ slot = ap (λ (n : ℕ). n / s.size) (sym whole) ∙ div-mul-add slot s.size o low_o in
            let col_is : i % s.size ≡ o = ap (λ (n : ℕ). n % s.size) (sym whole) ∙ mod-mul-add slot s.size o low_o in
            let long = serves.lengths_are slot lt in
            let here : InBlock s i = (
              subst (λ (n : ℕ). n < s.filled) (sym row_is) lt,
              subst (λ (n : ℕ). i % s.size < slice_index s.lengths n) (sym row_is) (omega (arith, col_is, long, short_o)),
            ) in
            let same : slice_index cache i ≡ slice_index ram i = h.held i inside here none in
            elim (cases_lt (slice_index s.targets i) s.slots) [
              | inl linked ↦
                  let k = h.leads i inside linked in
                  let to : lands_in s.size i (slice_index cache i) ≡ slice_index s.targets i = ap (lands_in s.size i) same ∙ k.1 in
                  let below : slice_index s.targets i < length lists = (let p = h.slots_are in let q = h.stand.long in omega (arith, p, q, linked)) in
                  (subst (λ (n : ℕ). n < length lists) (sym to) below, subst (λ (n : ℕ). Has (list_at lists n) (i + 1)) (sym to) (h.listed i inside linked))
              | inr plain ↦
                  let free : s.slots ≤ slice_index s.targets (slot * s.size + o) = subst (λ (n : ℕ). s.slots ≤ slice_index s.targets n) (sym whole) plain in
                  let word : slice_index ram (slot * s.size + o) ≡ word_in vs (slice_index s.blocks slot) o = serves.plain slot o lt short_o free in
                  let own : slice_index cache i ≡ word_in vs (slice_index s.blocks slot) o = same ∙ (ap (λ (n : ℕ). slice_index ram n) (sym whole) ∙ word) in
                  absurd (rows.no_jump (slice_index s.blocks slot) o short_o (ap is_jump (sym own) ∙ jump))
            ]

    -- where a cell stands
    record CellAt (x : ℕ) : Type 0 where
      slot : ℕ
      offset : ℕ
      filled : slot < s.filled
      is_exit : ExitOf vs (slice_index s.blocks slot) offset
      low : offset + 1 < s.size
      is_slot : x / s.size ≡ slot
      is_offset : x % s.size ≡ offset + 1
      link : LinkAt (x - 1)

    cell_at : (n x : ℕ) → Has (list_at lists n) x → CellAt x
    cell_at n x has =
        let pos = (h.linked n x has).1 in
        let back : x - 1 + 1 ≡ x = omega (arith, pos) in
        let l = cell_link n x has in
        let b = behind_slot (x - 1) l in
        record { slot = l.slot; offset = l.offset; filled = l.filled; is_exit = l.is_exit; low = l.low; is_slot = ap (λ (k : ℕ). k / s.size) (sym back) ∙ b.0; is_offset = ap (λ (k : ℕ). k % s.size) (sym back) ∙ b.1; link = l }

    row_is : (x : ℕ) → (c : CellAt x) → row_of blocks ends s.size x ≡ begin_in ends (number_of (slice_index s.blocks c.slot)) + (c.offset + 1)
    row_is x c =
        let e : slice_index blocks (x / s.size) ≡ number_of (slice_index s.blocks c.slot) = ap (λ (k : ℕ). slice_index blocks k) c.is_slot ∙ h.blocks_are c.slot c.filled in
        let f = ap (begin_in ends) e in
        let g = c.is_offset in
        omega (arith, f, g)

    row_at : (x : ℕ) → (c : CellAt x) → (number_of (slice_index s.blocks c.slot) ≤ length ends) × (begin_in ends (number_of (slice_index s.blocks c.slot)) + (c.offset + 1) < length words) × (slice_index words (begin_in ends (number_of (slice_index s.blocks c.slot)) + (c.offset + 1)) ≡ word_in vs (slice_index s.blocks c.slot) (c.offset + 1))
    row_at x c =
        let e : IsExit (vs (owner_of (slice_index s.blocks c.slot))) (number_of (slice_index s.blocks c.slot)) c.offset = c.is_exit in
        rows.row (slice_index s.blocks c.slot) (c.offset + 1) (serves.known c.slot c.filled) e.inside

    pub can_restore : (n x : ℕ) → Has (list_at lists n) x → CanRestore blocks ends words s.size x
    can_restore n x has =
        let c = cell_at n x has in
        let r = row_at x c in
        record {
          some = some_size;
          slot = subst (λ (k : ℕ). k < length blocks) (sym c.is_slot) (let a = c.filled in let b = serves.shape.filled_most in let d = h.blocks_long in omega (arith, a, b, d));
          block = subst (λ (k : ℕ). slice_index blocks k ≤ length ends) (sym c.is_slot) (subst (λ (k : ℕ). k ≤ length ends) (sym (h.blocks_are c.slot c.filled)) r.0);
          row = subst (λ (k : ℕ). k < length words) (sym (row_is x c)) r.1;
          few = rows.few;
        }

    -- and what is restored there is the model's word
    pub restores_ram : (n x : ℕ) → Has (list_at lists n) x → x < s.slots * s.size → restored blocks ends words s.size x ≡ slice_index ram x
    restores_ram n x has inside =
        let c = cell_at n x has in
        let r = row_at x c in
        let pos = (h.linked n x has).1 in
        let whole : c.slot * s.size + (c.offset + 1) ≡ x = (let a = c.link.index in restore_index x c pos) in
        let e : IsExit (vs (owner_of (slice_index s.blocks c.slot))) (number_of (slice_index s.blocks c.slot)) c.offset = c.is_exit in
        let free : s.slots ≤ slice_index s.targets (c.slot * s.size + (c.offset + 1)) = elim (cases_lt (slice_index s.targets x) s.slots) [
          | inl linked ↦ absurd (never_two x (x - 1) (link_at x inside linked) c.link (omega (arith, pos)))
          | inr free ↦ subst (λ (k : ℕ). s.slots ≤ slice_index s.targets k) (sym whole) free
        ] in
        let word : slice_index ram (c.slot * s.size + (c.offset + 1)) ≡ word_in vs (slice_index s.blocks c.slot) (c.offset + 1) = serves.plain c.slot (c.offset + 1) c.filled e.inside free in
        ap (λ (k : ℕ). slice_index words k) (row_is x c) ∙ (r.2 ∙ (sym word ∙ ap (λ (k : ℕ). slice_index ram k) whole))
      where
        restore_index : (x : ℕ) (c : CellAt x) → 0 < x → c.slot * s.size + (c.offset + 1) ≡ x
        restore_index x c pos =
            let a : x / s.size * s.size + x % s.size ≡ x = div-add-mod' x s.size in
            let b : x / s.size * s.size + x % s.size ≡ c.slot * s.size + (c.offset + 1) = ap (λ (k : ℕ). k * s.size + x % s.size) c.is_slot ∙ ap (λ (k : ℕ). c.slot * s.size + k) c.is_offset in
            sym b ∙ a
