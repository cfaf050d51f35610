-- A block leaves its slot: what the chip's lists and words are then stands for what the model says.
use Rattle.std.proofs.Common.{◌≡◌, ◌⊎◌, ℕ, ◌+◌, ◌-◌, ◌*◌, ◌/◌, ◌<◌, ◌≤◌, Bool, true, false, nat_lt, if◌then◌else◌, List, [], ◌∷◌, map, length, slice_index, slice_set, arith, refl, sym, ◌∙◌, ap, subst, inl, inr}
use Rattle.std.specs.List.{range_with_len}
use Rattle.std.proofs.lemmas.Bool.{cases_eq, cases_lt, lt-ltb, le-ltb}
use Rattle.std.proofs.lemmas.List.{length-set, get_or-set_same, get_or-set_other, ext_get_or, get_or_past}
use Rattle.std.proofs.lemmas.List.FromFn.{length-map-range_with_len, get_or-map-range_with_len}
use Rattle.std.proofs.lemmas.Nat.{div-mul-add}
use Rattle.swi_rom.specs.Record.{ebreak}
use Rattle.swi_rom.specs.Coherent.{IsExit}
use Rattle.swi_links.specs.Chains.{Has}
use Rattle.swi_slots.specs.Slots.{Slots}
use Rattle.swi_slots.specs.Keys.{Images, owner_of, number_of, words_in}
use Rattle.swi_slots.specs.Steps.{is_dropped, leads_in, leading_in}
use Rattle.swi_slots.specs.Tells.{own_tells, leads_tells, none_tells}
use Rattle.swi_chip.specs.Lists.{StandIn, Run, nexts, befores, list_at}
use Rattle.swi_chip.specs.Undone.{IsApart, IsUndone, CanRestore, restored}
use Rattle.swi_chip.specs.Owned.{AreCounted, AreTied, Dropped, is_jump, lands_in}
use Rattle.swi_chip.specs.Held.{InBlock}
use Rattle.swi_chip.specs.Evicted.{Known, Evicted}
use Rattle.swi_chip.proofs.Owning.{set_has, has_set_other}
use Rattle.swi_chip.proofs.Counting.{counted_cells, leading_told}
use Rattle.swi_chip.proofs.Facts.{short, LinkAt, link_at, cell_link, never_two, lists_apart, lists_tied, can_restore, restores_ram}

-- ---- the lists that stand there are these alone

run_same : (n b : ℕ → ℕ) (size q p h : ℕ) (L M : List ℕ) → Run n b size q h L → Run n b size p h M → M ≡ L
run_same n b size q p h [] [] c d = refl
run_same n b size q p h [] (y ∷ ys) c d = absurd (let e = d.0 in let f = d.1 in omega (arith, c, e, f))
run_same n b size q p h (x ∷ xs) [] c d = absurd (let e = c.0 in let f = c.1 in omega (arith, d, e, f))
run_same n b size q p h (x ∷ xs) (y ∷ ys) c d =
    let e : y ≡ x = sym d.0 ∙ c.0 in
    let rest : ys ≡ xs = run_same n b size x y (n x) xs ys c.4 (subst (λ (z : ℕ). Run n b size y (n z) ys) e d.4) in
    ap (λ (z : ℕ). z ∷ ys) e ∙ ap (λ (zs : List ℕ). x ∷ zs) rest

pub stands_same : (words heads : List ℕ) (L M : List (List ℕ)) → StandIn words heads L → StandIn words heads M → M ≡ L
stands_same words heads L M a b =
    ext_get_or [] M L (b.long ∙ sym a.long) (λ s lt. run_same (nexts words) (befores words) (length words) 0 0 (slice_index heads s) (list_at L s) (list_at M s)
    (a.runs s (let e = b.long in omega (arith, e, lt))) (b.runs s (let e = b.long in omega (arith, e, lt))))

has_dec : (L : List ℕ) (x : ℕ) → Has L x ⊎ (Has L x → ⊥)
has_dec [] x = inr (λ h. h)
has_dec (y ∷ ys) x = elim (cases_eq y x) [
  | inl e ↦ inl (inl e)
  | inr ne ↦ elim (has_dec ys x) [ inl h ↦ inl (inr h) | inr none ↦ inr (λ h. elim h [ inl e ↦ ne e | inr r ↦ none r ]) ]
]

-- ---- what is known of the lists of a service

module _ {s : Slots} {vs : Images} {ram cache heads links blocks ends words : List ℕ} {slot len size : ℕ} {lists : List (List ℕ)} (k : Known s vs ram cache heads links slot len blocks ends words size lists) where
  pub known_tied : AreTied cache size (slot * size) (slot * size + len) lists
  known_tied =
      subst (λ (z : ℕ). AreTied cache z (slot * z) (slot * z + len) lists) (sym k.size_is)
      (subst (λ (z : ℕ). AreTied cache s.size (slot * s.size) (slot * s.size + z) lists) (sym k.length_is) (lists_tied k.serves k.holds k.rows slot k.filled))

  pub known_apart : IsApart lists
  known_apart = lists_apart k.serves k.holds

  pub known_can : (n x : ℕ) → Has (list_at lists n) x → CanRestore blocks ends words size x
  known_can n x has = subst (λ (z : ℕ). CanRestore blocks ends words z x) (sym k.size_is) (can_restore k.serves k.holds k.rows n x has)

  pub known_room : length heads * size ≤ length cache
  known_room =
      let a = k.holds.long in let b = k.holds.slots_are in
      let e : length heads * size ≡ s.slots * s.size = ap (λ (z : ℕ). length heads * z) k.size_is ∙ ap (λ (z : ℕ). z * s.size) b in
      omega (arith, a, e)

  slot_low : slot < s.slots
  slot_low = (let a = k.filled in let b = k.serves.shape.filled_most in omega (arith, a, b))

  some_size : 0 < s.size
  some_size = (let l = k.serves.shape.size_least in omega (arith, l))

  module _ {cache1 heads1 links1 : List ℕ} (d : Dropped (slot * size) (slot * size + len) cache cache1 heads1 links1 lists) where
    pub now_apart : IsApart d.now
    now_apart n m x y hx hy e = known_apart n m x y (d.dropped.were n x hx).0 (d.dropped.were m y hy).0 e

    pub now_can : (x : ℕ) → Has (list_at d.now slot) x → CanRestore blocks ends words size x
    now_can x has = known_can slot x (d.dropped.were slot x has).0

    now_inside : slot < length d.now
    now_inside = (let a = slot_low in let b = k.holds.slots_are in let c = k.holds.stand.long in let e = d.dropped.long in omega (arith, a, b, c, e))

    pub now_count : length (list_at d.now slot) ≡ slice_index links1 slot
    now_count = sym (d.counted slot now_inside)

    abbrev N : ℕ
    N = s.slots * s.size

    -- an own link of the slot is out of its list
    not_own : (n x : ℕ) → Has (list_at d.now n) x → (x - 1) / s.size ≡ slot → ⊥
    not_own n x has e =
        let w = d.dropped.were n x has in
        let l : LinkAt k.serves k.holds (x - 1) = cell_link k.serves k.holds n x w.0 in
        let pos = (k.holds.linked n x w.0).1 in
        let is : l.slot ≡ slot = l.is_slot ∙ e in
        let at : x - 1 ≡ slot * s.size + l.offset = l.index ∙ ap (λ (z : ℕ). z * s.size + l.offset) is in
        let exit : IsExit (vs (owner_of (slice_index s.blocks l.slot))) (number_of (slice_index s.blocks l.slot)) l.offset = l.is_exit in
        let inside : l.offset + 1 < len = (let a : l.offset + 1 < words_in vs (slice_index s.blocks slot) = subst (λ (z : ℕ). l.offset + 1 < words_in vs (slice_index s.blocks z)) is exit.inside in let b = k.length_is in omega (arith, a, b)) in
        let size_is : slot * size ≡ slot * s.size = ap (λ (z : ℕ). slot * z) k.size_is in
        elim w.1 [ inl le ↦ omega (arith, pos, at, size_is, le) | inr lt ↦ omega (arith, pos, at, size_is, lt, inside) ]

    -- a word of another slot stands before the first or behind the end
    outside : (i : ℕ) → (i / s.size ≡ slot → ⊥) → (i + 1 ≤ slot * size) ⊎ (slot * size + len < i + 1)
    outside i ne = by (cases_lt i (slot * s.size)) (cases_lt i (slot * s.size + s.size))
      where
        size_is : slot * size ≡ slot * s.size
        size_is = ap (λ (z : ℕ). slot * z) k.size_is

        small : len ≤ s.size
        small = (let a = k.length_is in let b = short k.serves k.holds slot k.filled in omega (arith, a, b))

        by : (i < slot * s.size) ⊎ (slot * s.size ≤ i) → (i < slot * s.size + s.size) ⊎ (slot * s.size + s.size ≤ i) → (i + 1 ≤ slot * size) ⊎ (slot * size + len < i + 1)
        by (inl lt) q = inl (let e = size_is in omega (arith, lt, e))
        by (inr le) (inr ge) = inr (let e = size_is in let m = small in omega (arith, ge, e, m))
        by (inr le) (inl lt) =
            let o : ℕ = i - slot * s.size in
            let whole : slot * s.size + o ≡ i = omega (arith, le) in
            let low : o < s.size = omega (arith, le, lt) in
            absurd (ne (ap (λ (z : ℕ). z / s.size) (sym whole) ∙ div-mul-add slot s.size o low))

    -- what becomes of each word
    abbrev target_of : ℕ → ℕ
    target_of i = if is_dropped s.size slot s.targets i then s.slots else slice_index s.targets i

    abbrev word_of : ℕ → ℕ
    word_of i = if nat_lt i (s.slots * s.size) then (if leads_in s.size slot s.targets i then ebreak else slice_index ram i) else slice_index ram i

    abbrev targets' : List ℕ
    targets' = map target_of (range_with_len 0 (length s.targets))

    abbrev ram' : List ℕ
    ram' = map word_of (range_with_len 0 (length ram))

    target_at : (i : ℕ) → i < N → slice_index targets' i ≡ target_of i
    target_at i lt = get_or-map-range_with_len target_of 0 (length s.targets) i i 0 (let e = k.serves.shape.targets_long in omega (arith, e, lt)) (omega arith)

    word_at_index : (i : ℕ) → slice_index ram' i ≡ word_of i
    word_at_index i = elim (cases_lt i (length ram)) [
      | inl lt ↦ get_or-map-range_with_len word_of 0 (length ram) i i 0 lt (omega arith)
      | inr past ↦
          let a : slice_index ram' i ≡ 0 = get_or_past ram' i 0 (let e = length-map-range_with_len word_of 0 (length ram) in omega (arith, e, past)) in
          let b : slice_index ram i ≡ 0 = get_or_past ram i 0 past in
          let c : nat_lt i N ≡ false = le-ltb i N (let f = k.serves.fits in omega (arith, f, past)) in
          let w : word_of i ≡ slice_index ram i = ap (λ (t : Bool). if t then (if leads_in s.size slot s.targets i then ebreak else slice_index ram i) else slice_index ram i) c in
          a ∙ sym b ∙ sym w
    ]

    word_in_slots : (i : ℕ) → i < N → slice_index ram' i ≡ (if leads_in s.size slot s.targets i then ebreak else slice_index ram i)
    word_in_slots i lt = word_at_index i ∙ ap (λ (t : Bool). if t then (if leads_in s.size slot s.targets i then ebreak else slice_index ram i) else slice_index ram i) (lt-ltb i N lt)

    word_beyond : (i : ℕ) → N ≤ i → slice_index ram' i ≡ slice_index ram i
    word_beyond i le = word_at_index i ∙ ap (λ (t : Bool). if t then (if leads_in s.size slot s.targets i then ebreak else slice_index ram i) else slice_index ram i) (le-ltb i N le)

    -- what each word is to the slot
    target_dropped : (i : ℕ) → i < N → is_dropped s.size slot s.targets i ≡ true → slice_index targets' i ≡ s.slots
    target_dropped i lt e = target_at i lt ∙ ap (λ (t : Bool). if t then s.slots else slice_index s.targets i) e

    target_stays : (i : ℕ) → i < N → is_dropped s.size slot s.targets i ≡ false → slice_index targets' i ≡ slice_index s.targets i
    target_stays i lt e = target_at i lt ∙ ap (λ (t : Bool). if t then s.slots else slice_index s.targets i) e

    word_undone : (i : ℕ) → i < N → leads_in s.size slot s.targets i ≡ true → slice_index ram' i ≡ ebreak
    word_undone i lt e = word_in_slots i lt ∙ ap (λ (t : Bool). if t then ebreak else slice_index ram i) e

    word_stays : (i : ℕ) → i < N → leads_in s.size slot s.targets i ≡ false → slice_index ram' i ≡ slice_index ram i
    word_stays i lt e = word_in_slots i lt ∙ ap (λ (t : Bool). if t then ebreak else slice_index ram i) e

    -- a linked word that is not dropped
    record Kept (i : ℕ) : Type 0 where
      other : i / s.size ≡ slot → ⊥
      elsewhere : slice_index s.targets i ≡ slot → ⊥
      same : slice_index targets' i ≡ slice_index s.targets i
      linked : slice_index s.targets i < s.slots

    kept_at : (i : ℕ) → i < N → slice_index targets' i < s.slots → Kept i
    kept_at i lt linked = elim (cases_eq (i / s.size) slot) [
      | inl own ↦ absurd (let e = target_dropped i lt (own_tells s.size slot i s.targets own).0 in omega (arith, e, linked))
      | inr ne ↦ elim (cases_eq (slice_index s.targets i) slot) [
        | inl leads ↦ absurd (let e = target_dropped i lt (leads_tells s.size slot i s.targets ne leads).0 in omega (arith, e, linked))
        | inr other ↦
            let same = target_stays i lt (none_tells s.size slot i s.targets ne other).0 in
            record { other = ne; elsewhere = other; same = same; linked = omega (arith, same, linked) }
      ]
    ]

    abbrev lists' : List (List ℕ)
    lists' = slice_set d.now slot []

    -- a cell of the lists that are left
    record Left (n x : ℕ) : Type 0 where
      ne : n ≡ slot → ⊥
      now_has : Has (list_at d.now n) x
      has : Has (list_at lists n) x
      inside : n < s.slots
      pos : 0 < x
      low : x - 1 < N
      target : slice_index s.targets (x - 1) ≡ n

    left_at : (n x : ℕ) → Has (list_at lists' n) x → Left n x
    left_at n x h = elim (set_has d.now slot [] n x now_inside h) [
      | inl e ↦ absurd e.1
      | inr e ↦
          let w = (d.dropped.were n x e.1).0 in
          let a = k.holds.linked n x w in
          record { ne = e.0; now_has = e.1; has = w; inside = a.0; pos = a.1; low = a.2; target = a.3 }
    ]

    left_has : (n x : ℕ) → (n ≡ slot → ⊥) → Has (list_at d.now n) x → Has (list_at lists' n) x
    left_has n x ne h = has_set_other d.now slot [] n x ne h

    -- the links into the slot that are undone are those from other slots
    number_is : slice_index links1 slot ≡ leading_in s.size slot s.targets N
    number_is = sym now_count ∙ counted_cells (leads_in s.size slot s.targets) N (list_at d.now slot) (d.stand.distinct slot (let a = now_inside in let b = d.stand.long in omega (arith, a, b)))
        (λ x h. (let w = (d.dropped.were slot x h).0 in let a = k.holds.linked slot x w in (a.1, a.2, (leads_tells s.size slot (x - 1) s.targets (not_own slot x h) a.3).1)))
        (λ i lt g. into i lt g)
        ∙ sym (leading_told s.size slot s.targets N)
      where
        into : (i : ℕ) → i < s.slots * s.size → leads_in s.size slot s.targets i ≡ true → Has (list_at d.now slot) (i + 1)
        into i lt g = elim (cases_eq (i / s.size) slot) [
          | inl own ↦ absurd (let two : true ≡ false = sym g ∙ (own_tells s.size slot i s.targets own).1 in cc)
          | inr ne ↦ elim (cases_eq (slice_index s.targets i) slot) [
            | inl leads ↦ d.dropped.stay slot (i + 1) (subst (λ (z : ℕ). Has (list_at lists z) (i + 1)) leads (k.holds.listed i lt (let a = slot_low in omega (arith, leads, a)))) (outside i ne)
            | inr other ↦ absurd (let two : true ≡ false = sym g ∙ (none_tells s.size slot i s.targets ne other).1 in cc)
          ]
        ]

    module _ {cache2 heads2 : List ℕ} (u : IsUndone cache1 cache2 (restored blocks ends words size) (list_at d.now slot)) (st : StandIn cache2 heads2 (slice_set d.now slot [])) (long1 : length links1 ≡ length links) (longc : length cache1 ≡ length cache) where
      -- a cell of another slot's range has not left
      cell_outside : (n i : ℕ) → Has (list_at lists n) i → (i / s.size ≡ slot → ⊥) → (i ≤ slot * size) ⊎ (slot * size + len < i)
      cell_outside n i has ne = by (outside i ne) (cases_eq i (slot * size + len))
        where
          l : LinkAt k.serves k.holds (i - 1)
          l = cell_link k.serves k.holds n i has

          pos : 0 < i
          pos = (k.holds.linked n i has).1

          size_is : slot * size ≡ slot * s.size
          size_is = ap (λ (z : ℕ). slot * z) k.size_is

          small : len ≤ s.size
          small = (let a = k.length_is in let b = short k.serves k.holds slot k.filled in omega (arith, a, b))

          last : i ≡ slot * size + len → 0 < len → ⊥
          last e some =
              let p : i - 1 ≡ slot * s.size + (len - 1) = (let q = size_is in omega (arith, e, some, q)) in
              let low : len - 1 < s.size = (let m = small in omega (arith, m, some)) in
              let here : (i - 1) / s.size ≡ slot = ap (λ (z : ℕ). z / s.size) p ∙ div-mul-add slot s.size (len - 1) low in
              let is : l.slot ≡ slot = l.is_slot ∙ here in
              let at : i - 1 ≡ slot * s.size + l.offset = l.index ∙ ap (λ (z : ℕ). z * s.size + l.offset) is in
              let exit : IsExit (vs (owner_of (slice_index s.blocks l.slot))) (number_of (slice_index s.blocks l.slot)) l.offset = l.is_exit in
              let inside : l.offset + 1 < len = (let a : l.offset + 1 < words_in vs (slice_index s.blocks slot) = subst (λ (z : ℕ). l.offset + 1 < words_in vs (slice_index s.blocks z)) is exit.inside in let b = k.length_is in omega (arith, a, b)) in
              omega (arith, p, at, inside)

          by : (i + 1 ≤ slot * size) ⊎ (slot * size + len < i + 1) → (i ≡ slot * size + len) ⊎ (i ≡ slot * size + len → ⊥) → (i ≤ slot * size) ⊎ (slot * size + len < i)
          by (inl le) q = inl (omega (arith, le))
          by (inr lt) (inr other) = inr (omega (arith, lt, other))
          by (inr lt) (inl e) = elim (cases_eq len 0) [ inl nil ↦ inl (omega (arith, e, nil)) | inr some ↦ absurd (last e (omega (arith, some))) ]

      held_now : (i : ℕ) → i < N → InBlock s i → (i / s.size ≡ slot → ⊥) → ((n : ℕ) → Has (list_at lists' n) i → ⊥) → slice_index cache2 i ≡ slice_index ram' i
      held_now i lt ib ne none = by (has_dec (list_at d.now slot) i) (has_dec (list_at d.now slot) (i + 1))
        where
          back : i + 1 - 1 ≡ i
          back = omega arith

          no_lead : (slice_index s.targets i ≡ slot → ⊥) → slice_index ram' i ≡ slice_index ram i
          no_lead other = word_stays i lt (none_tells s.size slot i s.targets ne other).1

          by : Has (list_at d.now slot) i ⊎ (Has (list_at d.now slot) i → ⊥) → Has (list_at d.now slot) (i + 1) ⊎ (Has (list_at d.now slot) (i + 1) → ⊥) → slice_index cache2 i ≡ slice_index ram' i
          by (inl h) q =
              let w = (d.dropped.were slot i h).0 in
              let pos = (k.holds.linked slot i w).1 in
              let other : slice_index s.targets i ≡ slot → ⊥ = λ e. never_two k.serves k.holds i (i - 1) (link_at k.serves k.holds i lt (let a = slot_low in omega (arith, e, a))) (cell_link k.serves k.holds slot i w) (omega (arith, pos)) in
              u.restores i h ∙ (ap (λ (z : ℕ). restored blocks ends words z i) k.size_is ∙ (restores_ram k.serves k.holds k.rows slot i w lt ∙ sym (no_lead other)))
          by (inr a) (inl h) =
              let w = (d.dropped.were slot (i + 1) h).0 in
              let target : slice_index s.targets i ≡ slot = ap (λ (z : ℕ). slice_index s.targets z) (sym back) ∙ (k.holds.linked slot (i + 1) w).3 in
              ap (λ (z : ℕ). slice_index cache2 z) (sym back) ∙ (u.exits (i + 1) h ∙ sym (word_undone i lt (leads_tells s.size slot i s.targets ne target).1))
          by (inr a) (inr b) =
              let clear : (n : ℕ) → Has (list_at lists n) i → ⊥ = λ n h.
              (let now = d.dropped.stay n i h (cell_outside n i h ne) in
              elim (cases_eq n slot) [ inl e ↦ a (subst (λ (z : ℕ). Has (list_at d.now z) i) e now) | inr other ↦ none n (left_has n i other now) ]) in
              let other : slice_index s.targets i ≡ slot → ⊥ = λ e.
              b (d.dropped.stay slot (i + 1) (subst (λ (z : ℕ). Has (list_at lists z) (i + 1)) e (k.holds.listed i lt (let q = slot_low in omega (arith, e, q)))) (outside i ne)) in
              u.others i a b ∙ (d.others i clear ∙ (k.holds.held i lt ib clear ∙ sym (no_lead other)))

      heads_long : length heads2 ≡ s.slots
      heads_long = (let a = st.long in let b = length-set d.now slot [] in let e = d.dropped.long in let f = k.holds.stand.long in let g = k.holds.slots_are in omega (arith, a, b, e, f, g))

      counted_now : AreCounted (slice_set links1 slot 0) lists'
      counted_now n lt = elim (cases_eq n slot) [
        | inl e ↦
            let inside : slot < length links1 = (let a = slot_low in let b = k.holds.slots_are in let f = k.holds.links_long in omega (arith, a, b, f, long1)) in
            subst (λ (m : ℕ). slice_index (slice_set links1 slot 0) m ≡ length (list_at lists' m)) (sym e)
            (get_or-set_same links1 slot 0 0 inside ∙ ap (λ (L : List ℕ). length L) (sym (get_or-set_same d.now slot [] [] now_inside)))
        | inr ne ↦
            get_or-set_other links1 slot n 0 0 ne
            ∙ (d.counted n (let a = length-set d.now slot [] in omega (arith, a, lt))
            ∙ ap (λ (L : List ℕ). length L) (sym (get_or-set_other d.now slot n [] [] ne)))
      ]

      pub evicted : Evicted s ram slot (slice_index links1 slot) cache2 heads2 (slice_set links1 slot 0) blocks
      evicted = record {
        targets = targets';
        words = ram';
        lists = lists';
        targets_long = length-map-range_with_len target_of 0 (length s.targets);
        words_long = length-map-range_with_len word_of 0 (length ram);
        dropped = target_at;
        undone = word_in_slots;
        beyond = word_beyond;
        number_is = number_is;
        holds = record {
          stand = st;
          slots_are = heads_long;
          long = (let a = k.holds.long in let b = u.long in omega (arith, a, b, longc));
          links_long = (let a = length-set links1 slot 0 in let b = heads_long in let e = k.holds.slots_are in let f = k.holds.links_long in omega (arith, a, b, e, f, long1));
          counted = counted_now;
          linked = λ n x h. (let l = left_at n x h in (l.inside, l.pos, l.low, target_stays (x - 1) l.low (none_tells s.size slot (x - 1) s.targets (not_own n x l.now_has) (λ e. l.ne (sym l.target ∙ e))).0 ∙ l.target));
          listed = λ i lt linked.
              (let q = kept_at i lt linked in
              let now = d.dropped.stay (slice_index s.targets i) (i + 1) (k.holds.listed i lt q.linked) (outside i q.other) in
              subst (λ (z : ℕ). Has (list_at lists' z) (i + 1)) (sym q.same) (left_has (slice_index s.targets i) (i + 1) q.elsewhere now));
          leads = λ i lt linked.
              (let q = kept_at i lt linked in
              let w = word_stays i lt (none_tells s.size slot i s.targets q.other q.elsewhere).1 in
              let a = k.holds.leads i lt q.linked in
              (ap is_jump w ∙ a.0, ap (lands_in s.size i) w ∙ (a.1 ∙ sym q.same)));
          held = λ i lt w none. held_now i lt w.0 w.1 none;
          blocks_long = k.holds.blocks_long;
          blocks_are = k.holds.blocks_are;
        };
      }
