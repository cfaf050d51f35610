-- What stands at an address of the cache.
use Rattle.std.proofs.Common.{◌≡◌, ◌∙◌, ℕ, ◌+◌, ◌-◌, ◌*◌, ◌/◌, ◌%◌, ◌^◌, ◌<◌, ◌≤◌, List, length, slice_index, Some, None, ap, arith, refl, sym, subst, inl, inr}
use Rattle.std.proofs.lemmas.Bool.{cases_eq, cases_lt, lt-ltb, le-ltb}
use Rattle.std.proofs.lemmas.Nat.{div-add-mod', mod_below, mul-le, row_fits}
use Rattle.std.proofs.Math.Nat.{mul-le-mul_left}
use Rattle.swi_image.specs.Checks.{block_of}
use Rattle.swi_image.specs.Format.{ImageData}
use Rattle.swi_image.specs.Laws.{block_inside}
use Rattle.swi_image.specs.Place.{length_at, next_of, next_start, word_at, word_before}
use Rattle.swi_image.specs.Sound.{IsImage}
use Rattle.swi_image.proofs.Views.{Narrowed, narrowed_all, narrowed_left, narrowed_right, narrowed_word}
use Rattle.swi_rom.specs.Coherent.{StandsAt}
use Rattle.swi_slots.specs.Coheres.{placed_most}
use Rattle.swi_slots.specs.Keys.{Images, IsKnown, key_of, key_owner, key_number, owner_of, number_of, word_in, words_in}
use Rattle.swi_slots.specs.Queue.{placed_slot, slot_placed}
use Rattle.swi_slots.specs.Slots.{Slots, kept_by}
use Rattle.swi_chip.specs.declared.chip.Chip.{Chip}
use Rattle.swi_chip.specs.Service.{StandsFor, far_in}
use Rattle.swi_chip.specs.Standing.{StandsIn, TextTables}
use Rattle.swi_chip.specs.Undone.{begin_in}
use Rattle.swi_chip.proofs.Filling.{ends_at, few_blocks, key_is, own_block}

module _ {s : Slots} {vs : Images} {ram : List ℕ} {lists : List (List ℕ)} {c : Chip} (k : StandsFor s vs ram lists c) where
  -- an address of the cache has a small index
  pub far_few : (pc : ℕ) → far_in c pc < c.cache_bytes → far_in c pc / 4 < 2 ^ 16
  far_few pc lt = (let b = k.numbers.bytes_are in let l = k.holds.long in let f = k.holds.stand.few in omega (arith, lt, b, l, f))

  module _ (i : ℕ) where
    row_is : i / c.size.words ≡ i / s.size
    row_is = ap (λ (n : ℕ). i / n) k.size_is

    rest_is : i % c.size.words ≡ i % s.size
    rest_is = ap (λ (n : ℕ). i % n) k.size_is

    some_size : 0 < s.size
    some_size = (let l = k.serves.shape.size_least in omega (arith, l))

    -- a slot before the row ends before the index, and one behind it begins behind it
    before_row : (n : ℕ) → n < i / s.size → n * s.size + s.size ≤ i
    before_row n lt =
        let up : n + 1 ≤ i / s.size = omega (arith, lt) in
        let m = mul-le-mul_left s.size up in
        let w = div-add-mod' i s.size in
        omega (arith, m, w)

    behind_row : (n : ℕ) → i / s.size < n → i < n * s.size
    behind_row n lt =
        let up : i / s.size + 1 ≤ n = omega (arith, lt) in
        let m = mul-le-mul_left s.size up in
        let w = div-add-mod' i s.size in
        let r = mod_below i s.size some_size in
        omega (arith, m, w, r)

    pub none_unfilled : c.filled ≤ i / c.size.words → StandsAt (vs s.turn) (kept_by s) i None
    none_unfilled past b f placed le =
        let p = placed_slot s b f k.serves.shape placed in
        let m = placed_most s vs ram p.0 b k.serves p.1 p.2 p.4 in
        let low : p.0 < i / s.size = (let a = p.1 in let r = row_is in let e = k.filled_is in omega (arith, a, r, e, past)) in
        let r = before_row p.0 low in
        let f_is = p.3 in
        omega (arith, m, r, f_is)

    pub here_known : i / c.size.words < c.filled → slice_index c.blocks.now (i / c.size.words) < length c.marks.now
    here_known lt =
        let low : i / c.size.words < s.filled = (let e = k.filled_is in omega (arith, e, lt)) in
        let o = own_block k (i / c.size.words) low in
        subst (λ (b : ℕ). b < length c.marks.now) (sym o.1) o.0

    here_block : (lt : i / c.size.words < c.filled) → slice_index s.blocks (i / s.size) ≡ slice_index c.blocks.now (i / c.size.words)
    here_block lt =
        let low : i / c.size.words < s.filled = (let e = k.filled_is in omega (arith, e, lt)) in
        ap (λ (n : ℕ). slice_index s.blocks n) (sym row_is) ∙ sym (own_block k (i / c.size.words) low).1

    pub none_beyond : i / c.size.words < c.filled → length_at (vs s.turn) (slice_index c.blocks.now (i / c.size.words)) ≤ i % c.size.words → StandsAt (vs s.turn) (kept_by s) i None
    none_beyond lt past b f placed le =
        let p = placed_slot s b f k.serves.shape placed in
        let m = placed_most s vs ram p.0 b k.serves p.1 p.2 p.4 in
        let f_is = p.3 in
        elim (cases_lt p.0 (i / s.size)) [
          | inl low ↦ (let r = before_row p.0 low in omega (arith, m, r, f_is))
          | inr ge ↦ elim (cases_eq p.0 (i / s.size)) [
            | inl same ↦
                let block : slice_index c.blocks.now (i / c.size.words) ≡ b = sym (here_block lt) ∙ ap (λ (n : ℕ). slice_index s.blocks n) (sym same) ∙ p.2 ∙ key_is k b in
                let short : length_at (vs s.turn) b ≤ i % s.size = (let l = ap (λ (n : ℕ). length_at (vs s.turn) n) block in let r = rest_is in omega (arith, past, l, r)) in
                let w = div-add-mod' i s.size in
                let row : p.0 * s.size ≡ i / s.size * s.size = ap (λ (n : ℕ). n * s.size) same in
                omega (arith, short, w, row, f_is)
            | inr ne ↦ absurd (let r = behind_row p.0 (omega (arith, ge, ne)) in omega (arith, r, f_is, le))
          ]
        ]

    pub here_stands : i / c.size.words < c.filled → i % c.size.words < length_at (vs s.turn) (slice_index c.blocks.now (i / c.size.words)) → StandsAt (vs s.turn) (kept_by s) i (Some (slice_index c.blocks.now (i / c.size.words), i % c.size.words))
    here_stands lt inside =
        let b : ℕ = slice_index c.blocks.now (i / c.size.words) in
        let known = here_known lt in
        let small : b < 2 ^ 19 = (let a = few_blocks k in omega (arith, known, a)) in
        let filled : i / s.size < s.filled = (let e = k.filled_is in let r = row_is in omega (arith, e, r, lt)) in (
          i / s.size * s.size,
          slot_placed s (i / s.size) b k.serves.shape filled small (here_block lt ∙ sym (key_is k b)),
          inside,
          (let w = div-add-mod' i s.size in let r = rest_is in omega (arith, w, r)),
        )

  -- what stands at an address is a word of a block
  stands_some : (pc block offset : ℕ) → StandsIn c (vs s.turn) (kept_by s) pc (Some (block, offset)) → StandsAt (vs s.turn) (kept_by s) (far_in c pc / 4) (Some (block, offset))
  stands_some pc block offset st = elim (cases_lt (far_in c pc) c.cache_bytes) [
    | inl lt ↦ st.0 lt
    | inr ge ↦ absurd (none_some (block, offset) (sym (st.1 ge)))
  ]
    where
      none_some : (p : ℕ × ℕ) → None ≡ Some p → ⊥
      none_some p e = grind arith

  pub stands_known : (pc block offset : ℕ) → StandsIn c (vs s.turn) (kept_by s) pc (Some (block, offset)) → (block < length c.marks.now) × (offset < length_at (vs s.turn) block) × (block < length c.starts.now)
  stands_known pc block offset st =
      let a = stands_some pc block offset st in
      let p = placed_slot s block a.0 k.serves.shape a.1 in
      let m = (k.marks.known p.0 p.1).0 in
      let same : slice_index s.blocks p.0 ≡ block = p.2 ∙ key_is k block in
      let low : block < length c.marks.now = (omega (arith, m, same)) in
      let long = k.marks_long in let blocks = (k.serves.images s.turn).blocks in
      let starts = ap (λ (xs : List ℕ). length xs) k.starts_are in
      (low, a.2, omega (arith, low, long, blocks, starts))

  pub stands_short : (pc block offset : ℕ) → StandsIn c (vs s.turn) (kept_by s) pc (Some (block, offset)) → offset < 1024
  stands_short pc block offset st =
      let a = stands_some pc block offset st in
      let p = placed_slot s block a.0 k.serves.shape a.1 in
      let m = placed_most s vs ram p.0 block k.serves p.1 p.2 p.4 in
      let most = k.serves.shape.size_most in let i = a.2 in
      omega (arith, m, most, i)

  -- a block's length by the table
  pub count_is : (block count : ℕ) → block < length c.marks.now → count ≡ slice_index c.ends.now block - begin_in c.ends.now block → count ≡ length_at (vs s.turn) block
  count_is block count known is = (let e = (ends_at k block known).1 in omega (arith, e, is))

  pub ends_order : (block : ℕ) → block < length c.marks.now → (block < length c.ends.now) × (begin_in c.ends.now block ≤ slice_index c.ends.now block)
  ends_order block known = (let e = ends_at k block known in (e.0, (let q = e.1 in omega (arith, q))))

  -- the image's word by the tables
  pub row_word : (block offset : ℕ) → block < length c.marks.now → offset < length_at (vs s.turn) block →
      (block ≤ length c.ends.now) × (begin_in c.ends.now block + offset < length c.words.now) × (slice_index c.words.now (begin_in c.ends.now block + offset) ≡ word_at (vs s.turn) block offset)
  row_word block offset known inside =
      let small : block < 2 ^ 19 = (let a = few_blocks k in omega (arith, known, a)) in
      let key : ℕ = key_of s.turn block in
      let number : number_of (key_of s.turn block) ≡ block = key_number s.turn block small in
      let owner : owner_of (key_of s.turn block) ≡ s.turn = key_owner s.turn block small in
      let is_known : IsKnown vs (key_of s.turn block) = subst (λ (p : ℕ). number_of (key_of s.turn block) < length (vs p).blocks) (sym owner) (subst (λ (b : ℕ). b < length (vs s.turn).blocks) (sym number) (let l = k.marks_long in omega (arith, l, known))) in
      let words : words_in vs (key_of s.turn block) ≡ length_at (vs s.turn) block = ap (λ (p : ℕ). length_at (vs p) (number_of (key_of s.turn block))) owner ∙ ap (λ (b : ℕ). length_at (vs s.turn) b) number in
      let word : word_in vs (key_of s.turn block) offset ≡ word_at (vs s.turn) block offset = ap (λ (p : ℕ). word_at (vs p) (number_of (key_of s.turn block)) offset) owner ∙ ap (λ (b : ℕ). word_at (vs s.turn) b offset) number in
      let r = k.rows.row (key_of s.turn block) offset is_known (omega (arith, words, inside)) in (
        subst (λ (b : ℕ). b ≤ length c.ends.now) number r.0,
        subst (λ (b : ℕ). begin_in c.ends.now b + offset < length c.words.now) number r.1,
        subst (λ (b : ℕ). slice_index c.words.now (begin_in c.ends.now b + offset) ≡ word_at (vs s.turn) block offset) number (r.2 ∙ word),
      )

  -- the bytes of the cache
  pub room_is : (c.cache_bytes ≡ 4 * length c.cache.now) × (8 ≤ c.cache_bytes)
  room_is =
      let b = k.numbers.bytes_are in let l = k.cache_long in
      let m : 1 * 2 ≤ s.slots * s.size = mul-le 1 2 s.slots s.size k.serves.shape.some_slot k.serves.shape.size_least in
      (omega (arith, b, l), omega (arith, b, m))

  -- a word that is not its block's last but one
  pub put_inside : (pc block offset : ℕ) → StandsIn c (vs s.turn) (kept_by s) pc (Some (block, offset)) → offset + 2 < length_at (vs s.turn) block → far_in c pc / 4 + 1 < length c.cache.now
  put_inside pc block offset st lt =
      let a = stands_some pc block offset st in
      let p = placed_slot s block a.0 k.serves.shape a.1 in
      let m = placed_most s vs ram p.0 block k.serves p.1 p.2 p.4 in
      let low : p.0 < s.slots = (let q = p.1 in let r = k.serves.shape.filled_most in omega (arith, q, r)) in
      let row = row_fits p.0 s.size s.slots s.size low (omega arith) in
      let f = p.3 in let i = a.3 in let l = k.cache_long in
      omega (arith, m, row, f, i, l, lt)

  pub texts : TextTables (vs s.turn) c.starts.now c.places.now
  texts = record {
    image = k.serves.images s.turn;
    starts_are = k.starts_are;
    places_long = k.tables.places_long;
    places_are = λ n lt. (let e = k.tables.places_are n lt in offset_is n (k.serves.images s.turn) (let l = k.tables.places_long in omega (arith, l, lt)) e);
  }
    where
      short : (v : ImageData) (n : ℕ) → IsImage v → n < length v.offsets → slice_index v.offsets n < 2 ^ 10
      short v n i lt =
          let b : ℕ = block_of v.starts n in
          let known : b < length v.starts = block_inside v.starts n i.some in
          let w = i.within n lt in let l = (i.lengths b known).1 in let m = i.most in
          omega (arith, w, l, m)

      offset_is : (n : ℕ) → IsImage (vs s.turn) → n < length (vs s.turn).offsets → slice_index c.places.now n ≡ block_of (vs s.turn).starts n * 2 ^ 13 + slice_index (vs s.turn).offsets n → slice_index c.places.now n % 2 ^ 10 ≡ slice_index (vs s.turn).offsets n
      offset_is n i lt e = (let o = short (vs s.turn) n i lt in omega (arith, e, o))

-- ---- the text word before an offset, by halving

next_fits : (v : ImageData) (b : ℕ) → IsImage v → b < length v.starts → (slice_index v.starts b < next_start v b) × (next_start v b ≤ length v.offsets)
next_fits v b i within = elim (cases_lt (b + 1) (length v.starts)) [
  | inl more ↦
      let e : next_start v b ≡ slice_index v.starts (b + 1) = rw (lt-ltb (b + 1) (length v.starts) more) refl in
      let a = i.ascending b more in let d = i.inside (b + 1) more in
      (omega (arith, e, a), omega (arith, e, d))
  | inr last ↦
      let e : next_start v b ≡ length v.offsets = rw (le-ltb (b + 1) (length v.starts) last) refl in
      let d = i.inside b within in
      (omega (arith, e, d), omega (arith, e))
]

module _ {v : ImageData} {starts places : List ℕ} (t : TextTables v starts places) (block offset : ℕ) (within : block < length starts) where
  known : block < length v.starts
  known = subst (λ (xs : List ℕ). block < length xs) t.starts_are within

  pub halving_all : (low high : ℕ) → low ≡ slice_index starts block → high ≡ next_of starts (length places) block → Narrowed v block offset low high
  halving_all low high low_is high_is =
      let first : low ≡ slice_index v.starts block = low_is ∙ ap (λ (xs : List ℕ). slice_index xs block) t.starts_are in
      let next : high ≡ next_start v block = high_is ∙ ap (λ (xs : List ℕ). next_of xs (length places) block) t.starts_are ∙ ap (λ (n : ℕ). next_of v.starts n block) t.places_long in
      let f = (next_fits v block t.image known).0 in
      narrowed_all v block offset low high first next (omega (arith, f, first, next))

  pub middle_inside : (low high middle : ℕ) → Narrowed v block offset low high → middle < high → middle < length places
  middle_inside low high middle n lt = (let f = n.fits in let g = (next_fits v block t.image known).1 in let l = t.places_long in omega (arith, f, g, l, lt))

  pub halving_right : (low high middle : ℕ) → Narrowed v block offset low high → low ≤ middle → middle < high → slice_index places middle % 2 ^ 10 ≤ offset → Narrowed v block offset (middle + 1) high
  halving_right low high middle n from to le = narrowed_right v block offset low high middle n from to (let e = t.places_are middle (middle_inside low high middle n to) in omega (arith, e, le))

  pub halving_left : (low high middle : ℕ) → Narrowed v block offset low high → low ≤ middle → middle < high → offset < slice_index places middle % 2 ^ 10 → Narrowed v block offset low middle
  halving_left low high middle n from to lt = narrowed_left v block offset low high middle n from to (let e = t.places_are middle (middle_inside low high middle n to) in omega (arith, e, lt))

  pub halved : (low high : ℕ) → Narrowed v block offset low high → high ≤ low → (word_before v block offset ≡ low - 1) × (low - 1 < 2 ^ 19) × (0 < low)
  halved low high n done =
      let w = narrowed_word v block offset low high t.image known n done in
      let few = t.image.few in let a = w.1 in
      (w.0, omega (arith, a, few), w.3)
