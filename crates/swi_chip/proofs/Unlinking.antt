-- A link into the slot that is filled next has become an exit again: the chip stands for the service without it.
use Rattle.std.proofs.Common.{◌≡◌, ◌⊎◌, ◌==◌, ◌+◌, ◌-◌, ◌*◌, ◌/◌, ◌%◌, ◌^◌, ◌<◌, ◌≤◌, ℕ, Bool, true, false, nat_lt, not, if◌then◌else◌, List, [], ◌∷◌, length, slice_index, slice_set, arith, refl, sym, ◌∙◌, ap, subst, inl, inr}
use Rattle.std.proofs.lemmas.Bool.{and_parts, cases_eq, eqb-true, ltb-true}
use Rattle.std.proofs.lemmas.List.{length-set, get_or-set_same, get_or-set_other}
use Rattle.swi_rom.specs.Record.{ebreak}
use Rattle.swi_links.specs.Chains.{Has, without}
use Rattle.swi_links.specs.Laws.{has_without, without_has}
use Rattle.swi_slots.specs.Slots.{Slots}
use Rattle.swi_slots.specs.Keys.{Images}
use Rattle.swi_chip.specs.declared.chip.Chip.{Chip}
use Rattle.swi_chip.specs.declared.chip.ChipCounts.{ChipCounts}
use Rattle.swi_chip.specs.Held.{Holds, InBlock}
use Rattle.swi_chip.specs.Lists.{Run, StandIn, befores, list_at, next_in, nexts}
use Rattle.swi_chip.specs.Owned.{AreCounted, is_jump, lands_in}
use Rattle.swi_chip.specs.Service.{CanUndo, CanWait, CountedUndone, CountsBy, HasFewer, IsSome, StandsFor, Undoes, is_crowded, portion, with_links}
use Rattle.swi_chip.specs.Undone.{CanRestore, restored}
use Rattle.swi_chip.proofs.Arriving.{stands_frame}
use Rattle.swi_chip.proofs.Facts.{behind_slot, can_restore, cell_link, lists_apart, restores_ram}
use Rattle.swi_chip.proofs.Fewer.{arrives_alike, exits_were, still_linked, target_other, unlinked, unlinked_ram, unlinked_serves, was_target, word_here, word_other}
use Rattle.swi_chip.proofs.Owning.{has_set_other, set_has, without_shorter}
use Rattle.swi_chip.proofs.Standing.{cell_inside, next_known}

head_has : (n b : ℕ → ℕ) (size q h : ℕ) (L : List ℕ) → Run n b size q h L → 0 < length L → Has L h
head_has n b size q h [] run some = absurd (omega (arith, some))
head_has n b size q h (x ∷ xs) run some = inl (sym run.0)

has_set_same : (lists : List (List ℕ)) (slot : ℕ) (Y : List ℕ) (t x : ℕ) → slot < length lists → t ≡ slot → Has Y x → Has (list_at (slice_set lists slot Y) t) x
has_set_same lists slot Y t x lt e has = subst (λ (n : ℕ). Has (list_at (slice_set lists slot Y) n) x) (sym e) (subst (λ (L : List ℕ). Has L x) (sym (get_or-set_same lists slot Y [] lt)) has)

module _ {s : Slots} {vs : Images} {ram : List ℕ} {lists : List (List ℕ)} {c : Chip} (k : StandsFor s vs ram lists c) (full : c.filled ≡ c.slots) (some : 0 < slice_index c.links.now c.next) where
  abbrev slot : ℕ
  slot = c.next

  abbrev cell : ℕ
  cell = slice_index c.heads.now c.next

  abbrev L : List ℕ
  L = list_at lists c.next

  pub slot_low : c.next < length c.heads.now
  slot_low = (let a = k.next_is in let b = k.serves.shape.next_below in let d = k.holds.slots_are in omega (arith, a, b, d))

  slot_listed : c.next < length lists
  slot_listed = (let a = slot_low in let b = k.holds.stand.long in omega (arith, a, b))

  pub has_cell : Has L cell
  has_cell =
      head_has (nexts c.cache.now) (befores c.cache.now) (length c.cache.now) 0 cell L (k.holds.stand.runs c.next slot_low)
      (let n = k.holds.counted c.next slot_listed in omega (arith, n, some))

  pub cell_low : (0 < cell) × (cell < length c.cache.now)
  cell_low = cell_inside c.next cell k.holds.stand slot_low has_cell

  pub links_low : c.next < length c.links.now
  links_low = (let a = slot_low in let b = k.holds.links_long in omega (arith, a, b))

  pub can_cell : CanRestore c.blocks.now c.ends.now c.words.now c.size.words cell
  can_cell = subst (λ (n : ℕ). CanRestore c.blocks.now c.ends.now c.words.now n cell) (sym k.size_is) (can_restore k.serves k.holds k.rows c.next cell has_cell)

  abbrev at : ℕ
  at = cell - 1

  at_low : at < s.slots * s.size
  at_low = (k.holds.linked c.next cell has_cell).2

  led : slice_index s.targets at ≡ s.next
  led = (k.holds.linked c.next cell has_cell).3 ∙ k.next_is

  full' : s.slots ≤ s.filled
  full' = (let a = k.filled_is in let b = k.slots_are in omega (arith, a, b, full))

  abbrev t : Slots
  t = unlinked k.serves at at_low led

  abbrev ram' : List ℕ
  ram' = unlinked_ram k.serves at at_low led

  abbrev lists' : List (List ℕ)
  lists' = slice_set lists c.next (without cell L)

  one_up : at + 1 ≡ cell
  one_up = (let p = cell_low.0 in omega (arith, p))

  -- the cells that are left
  was_cell : (n x : ℕ) → Has (list_at lists' n) x → Has (list_at lists n) x × (x ≡ cell → ⊥)
  was_cell n x h = elim (set_has lists c.next (without cell L) n x slot_listed h) [
    | inl e ↦ (let w = has_without cell x L e.1 in (subst (λ (m : ℕ). Has (list_at lists m) x) (sym e.0) w.0, w.1))
    | inr e ↦ (e.1, λ is. e.0 (k.holds.stand.one n c.next x e.1 (subst (λ (y : ℕ). Has L y) (sym is) has_cell)))
  ]

  still_cell : (n x : ℕ) → Has (list_at lists n) x → (x ≡ cell → ⊥) → Has (list_at lists' n) x
  still_cell n x h ne = elim (cases_eq n c.next) [
    | inl e ↦ has_set_same lists c.next (without cell L) n x slot_listed e (without_has cell x L (subst (λ (m : ℕ). Has (list_at lists m) x) e h) ne)
    | inr other ↦ has_set_other lists c.next (without cell L) n x other h
  ]

  cell_some : (n x : ℕ) → Has (list_at lists n) x → 0 < x
  cell_some n x h = (k.holds.linked n x h).1

  not_at : (n x : ℕ) → Has (list_at lists n) x → x ≡ at → ⊥
  not_at n x h e = lists_apart k.serves k.holds c.next n cell x has_cell h (let u = one_up in omega (arith, e, u))

  module _ {cache1 heads1 : List ℕ} (st : StandIn cache1 heads1 lists') (long1 : length cache1 ≡ length c.cache.now)
      (others : (i : ℕ) → (i ≡ next_in (slice_index c.cache.now cell) → i ≡ 0) → slice_index cache1 i ≡ slice_index c.cache.now i)
      (w : ℕ) (w_is : w ≡ restored c.blocks.now c.ends.now c.words.now c.size.words cell) where
    abbrev cache2 : List ℕ
    cache2 = slice_set (slice_set cache1 at ebreak) cell w

    abbrev links2 : List ℕ
    links2 = slice_set c.links.now c.next (slice_index c.links.now c.next - 1)

    long2 : length cache2 ≡ length c.cache.now
    long2 = length-set (slice_set cache1 at ebreak) cell w ∙ (length-set cache1 at ebreak ∙ long1)

    word_same : (i : ℕ) → (i ≡ cell → ⊥) → (i ≡ at → ⊥) → slice_index cache2 i ≡ slice_index cache1 i
    word_same i ne other = get_or-set_other (slice_set cache1 at ebreak) cell i w 0 ne ∙ get_or-set_other cache1 at i ebreak 0 other

    at_cell : slice_index cache2 cell ≡ w
    at_cell = get_or-set_same (slice_set cache1 at ebreak) cell w 0 (let a = length-set cache1 at ebreak in let b = cell_low.1 in omega (arith, a, b, long1))

    at_exit : slice_index cache2 at ≡ ebreak
    at_exit =
        get_or-set_other (slice_set cache1 at ebreak) cell at w 0 (λ e. (let u = one_up in omega (arith, u, e)))
        ∙ get_or-set_same cache1 at ebreak 0 (let b = cell_low.1 in let u = one_up in omega (arith, b, u, long1))

    stand2 : StandIn cache2 heads1 lists'
    stand2 = stands_frame cache1 cache2 heads1 lists' st long2' (λ n x h. (let q = was_cell n x h in word_same x q.1 (not_at n x q.0)))
      where
        long2' : length cache2 ≡ length cache1
        long2' = length-set (slice_set cache1 at ebreak) cell w ∙ length-set cache1 at ebreak

    counted2 : AreCounted links2 lists'
    counted2 n lt = elim (cases_eq n c.next) [
      | inl e ↦
          let here : slice_index links2 n ≡ slice_index c.links.now c.next - 1 = ap (λ (m : ℕ). slice_index links2 m) e ∙ get_or-set_same c.links.now c.next (slice_index c.links.now c.next - 1) 0 links_low in
          let list : length (list_at lists' n) ≡ length (without cell L) = ap (λ (m : ℕ). length (list_at lists' m)) e ∙ ap (λ (xs : List ℕ). length xs) (get_or-set_same lists c.next (without cell L) [] slot_listed) in
          let less = without_shorter cell L (k.holds.stand.distinct c.next slot_low) has_cell in
          let count = k.holds.counted c.next slot_listed in
          omega (arith, here, list, less, count)
      | inr ne ↦
          get_or-set_other c.links.now c.next n (slice_index c.links.now c.next - 1) 0 ne ∙ (k.holds.counted n (let a = length-set lists c.next (without cell L) in omega (arith, lt, a))
          ∙ sym (ap (λ (xs : List ℕ). length xs) (get_or-set_other lists c.next n (without cell L) [] ne)))
    ]

    held2 : (i : ℕ) → i < s.slots * s.size → InBlock s i → ((n : ℕ) → Has (list_at lists' n) i → ⊥) → slice_index cache2 i ≡ slice_index ram' i
    held2 i lt ib none = elim (cases_eq i cell) [
      | inl e ↦
          let ne : i ≡ at → ⊥ = λ z. (let u = one_up in omega (arith, u, e, z)) in
          let restore : restored c.blocks.now c.ends.now c.words.now c.size.words cell ≡ slice_index ram cell =
          ap (λ (n : ℕ). restored c.blocks.now c.ends.now c.words.now n cell) k.size_is ∙ restores_ram k.serves k.holds k.rows c.next cell has_cell (subst (λ (n : ℕ). n < s.slots * s.size) e lt) in
          ap (λ (n : ℕ). slice_index cache2 n) e ∙ (at_cell ∙ (w_is ∙ (restore ∙ (ap (λ (n : ℕ). slice_index ram n) (sym e) ∙ sym (word_other k.serves at at_low led i ne)))))
      | inr ne ↦ elim (cases_eq i at) [
        | inl e ↦ ap (λ (n : ℕ). slice_index cache2 n) e ∙ (at_exit ∙ (sym (word_here k.serves at at_low led) ∙ ap (λ (n : ℕ). slice_index ram' n) (sym e)))
        | inr other ↦
            let clear : (n : ℕ) → Has (list_at lists n) i → ⊥ = λ n h. none n (still_cell n i h ne) in
            let beside : (j : ℕ) → (j ≡ 0) ⊎ Has L j → i ≡ j → i ≡ 0 = λ j q e. elim q [ inl zero ↦ e ∙ zero | inr h ↦ absurd (clear c.next (subst (λ (n : ℕ). Has L n) (sym e) h)) ] in
            word_same i ne other
            ∙ (others i (beside (nexts c.cache.now cell) (next_known c.next cell k.holds.stand slot_low has_cell))
            ∙ (k.holds.held i lt ib clear ∙ sym (word_other k.serves at at_low led i other)))
      ]
    ]

    holds2 : Holds t ram' cache2 heads1 links2 c.blocks.now lists'
    holds2 = record {
      stand = stand2;
      slots_are = (let a = st.long in let b = length-set lists c.next (without cell L) in let d = k.holds.stand.long in let e = k.holds.slots_are in omega (arith, a, b, d, e));
      long = (let a = k.holds.long in let b = long2 in omega (arith, a, b));
      links_long = (let a = st.long in let b = length-set lists c.next (without cell L) in let d = k.holds.stand.long in let e = k.holds.links_long in let f = length-set c.links.now c.next (slice_index c.links.now c.next - 1) in omega (arith, a, b, d, e, f));
      counted = counted2;
      linked = λ n x h.
          (let q = was_cell n x h in
          let l = k.holds.linked n x q.0 in
          let pos = cell_some n x q.0 in
          let low = cell_low.0 in
          let ne : x - 1 ≡ at → ⊥ = λ e. q.1 (omega (arith, e, pos, low)) in
          (l.0, l.1, l.2, target_other k.serves at at_low led (x - 1) ne ∙ l.3));
      listed = λ i lt is.
          (let ne = still_linked k.serves at at_low led i is in
          let same = target_other k.serves at at_low led i ne in
          let up = one_up in
          let h = k.holds.listed i lt (was_target k.serves at at_low led i is) in
          subst (λ (n : ℕ). Has (list_at lists' n) (i + 1)) (sym same) (still_cell (slice_index s.targets i) (i + 1) h (λ e. ne (omega (arith, e, up)))));
      leads = λ i lt is.
          (let ne = still_linked k.serves at at_low led i is in
          let same = target_other k.serves at at_low led i ne in
          let word = word_other k.serves at at_low led i ne in
          let l = k.holds.leads i lt (was_target k.serves at at_low led i is) in
          (ap is_jump word ∙ l.0, ap (lands_in s.size i) word ∙ (l.1 ∙ sym same)));
      held = held2;
      blocks_long = k.holds.blocks_long;
      blocks_are = k.holds.blocks_are;
    }

    -- the exit's slot is that of the word behind it
    row_same : cell / c.size.words ≡ at / s.size
    row_same =
        let l = cell_link k.serves k.holds c.next cell has_cell in
        ap (λ (n : ℕ). cell / n) k.size_is ∙ (ap (λ (n : ℕ). n / s.size) (sym one_up) ∙ ((behind_slot k.serves k.holds at l).0 ∙ l.is_slot))

    counts2 : (q : ChipCounts) (row : ℕ) → row ≡ cell / c.size.words → CountedUndone c.counts q (not (row == c.next)) → CountsBy t.counts q
    counts2 q row row_is did = record {
      services = did.services ∙ k.counts.services;
      misses = did.misses ∙ k.counts.misses;
      evictions = did.evictions ∙ k.counts.evictions;
      links = did.links ∙ k.counts.links;
      unlinks = unlinks_by (row == c.next) (at / s.size == s.next) same c.counts.unlinks s.counts.unlinks q.unlinks k.counts.unlinks did.unlinks;
      copied = did.copied ∙ k.counts.copied;
    }
      where
        same : (row == c.next) ≡ (at / s.size == s.next)
        same = ap (λ (n : ℕ). n == c.next) (row_is ∙ row_same) ∙ ap (λ (n : ℕ). at / s.size == n) k.next_is

        unlinks_by : (x y : Bool) → x ≡ y → (u m q : ℕ) → u ≡ m % 2 ^ 32 → q ≡ (if not x then (u + 1) % 2 ^ 32 else u) → q ≡ (m + (if y then 0 else 1)) % 2 ^ 32
        unlinks_by true true e u m q a b = b ∙ a ∙ ap (λ (n : ℕ). n % 2 ^ 32) (let z : m ≡ m + 0 = omega arith in z)
        unlinks_by false false e u m q a b = omega (arith, a, b)
        unlinks_by true false e u m q a b = absurd (cc)
        unlinks_by false true e u m q a b = absurd (cc)

    -- in the same order as the chip's fields
    pub undone_once : (c' : Chip) (row : ℕ) → row ≡ cell / c.size.words → c'.cache.now ≡ cache2 → c'.heads.now ≡ heads1 → c'.links.now ≡ links2 → CountedUndone c.counts c'.counts (not (row == c.next)) →
        c' ≡ record c { counts = c'.counts; cache = c'.cache; heads = c'.heads; links = c'.links } → HasFewer 1 s vs c c'
    undone_once c' row row_is cache_is heads_is links_is did is = record {
      targets = t.targets;
      unlinks = t.counts.unlinks;
      words = ram';
      lists = lists';
      stands = subst (λ (x : Chip). StandsFor t vs ram' lists' x) (sym is) stands2;
      arrives = arrives_alike k.serves at at_low led full';
      among = exits_were k.serves at at_low led;
      fewer = subst (λ (x : Chip). slice_index x.links.now x.next + 1 ≡ slice_index c.links.now c.next) (sym is) (let a = get_or-set_same c.links.now c.next (slice_index c.links.now c.next - 1) 0 links_low in let b = ap (λ (xs : List ℕ). slice_index xs c.next) links_is in omega (arith, a, b, some));
    }
      where
        stands2 : StandsFor t vs ram' lists' (record c { counts = c'.counts; cache = c'.cache; heads = c'.heads; links = c'.links })
        stands2 = record {
          serves = unlinked_serves k.serves at at_low led;
          holds = subst (λ (xs : List ℕ). Holds t ram' xs c'.heads.now c'.links.now c.blocks.now lists') (sym cache_is)
              (subst (λ (xs : List ℕ). Holds t ram' cache2 xs c'.links.now c.blocks.now lists') (sym heads_is) (subst (λ (xs : List ℕ). Holds t ram' cache2 heads1 xs c.blocks.now lists') (sym links_is) holds2));
          rows = k.rows;
          tables = k.tables;
          one = k.one;
          slots_are = k.slots_are;
          size_is = k.size_is;
          next_is = k.next_is;
          filled_is = k.filled_is;
          cache_long = ap (λ (xs : List ℕ). length xs) cache_is ∙ (long2 ∙ k.cache_long);
          marks = record { found = k.marks.found; known = k.marks.known };
          marks_long = k.marks_long;
          counts = counts2 c'.counts row row_is did;
          starts_are = k.starts_are;
          numbers = k.numbers;
        }

-- ---- one after the other

pub fewer_none : {s : Slots} {vs : Images} {ram : List ℕ} {lists : List (List ℕ)} {c : Chip} → StandsFor s vs ram lists c → HasFewer 0 s vs c c
fewer_none {s} {vs} {ram} {lists} {c} k = record {
  targets = s.targets;
  unlinks = s.counts.unlinks;
  words = ram;
  lists = lists;
  stands = k;
  arrives = λ v b absent. refl;
  among = λ p b o h. h;
  fewer = omega arith;
}

pub fewer_more : {n : ℕ} {s : Slots} {vs : Images} {a b c : Chip} → HasFewer n s vs a b → Undoes 1 b c → HasFewer (n + 1) s vs a c
fewer_more {n} {s} {vs} {a} {b} {c} h u =
    let m : HasFewer 1 (with_links s h.targets h.unlinks) vs b c = u (with_links s h.targets h.unlinks) vs h.words h.lists h.stands in
    record {
      targets = m.targets;
      unlinks = m.unlinks;
      words = m.words;
      lists = m.lists;
      stands = m.stands;
      arrives = λ v x absent. m.arrives v x absent ∙ h.arrives v x absent;
      among = λ p x o i. h.among p x o (m.among p x o i);
      fewer = (let e = m.fewer in let f = h.fewer in omega (arith, e, f));
    }

pub crowded_full : {c : Chip} → IsSome c → is_crowded c ≡ true → (c.filled ≡ c.slots) × (portion < slice_index c.links.now c.next)
crowded_full {c} some e =
    let p = and_parts (c.filled == c.slots) (nat_lt portion (slice_index c.links.now c.next)) e in
    (eqb-true _ _ p.0, ltb-true _ _ p.1)

pub can_undo : {a b : Chip} → CanWait a → (n : ℕ) → n < portion → Undoes n a b → b.filled ≡ b.slots → CanUndo b
can_undo {a} {b} x n lt u full =
    let h = u x.some.s x.some.vs x.some.ram x.some.lists x.some.stands in
    let many = (crowded_full x.some x.crowded).1 in
    record {
      some = record { s = with_links x.some.s h.targets h.unlinks; vs = x.some.vs; ram = h.words; lists = h.lists; stands = h.stands };
      full = full;
      linked = (let e = h.fewer in omega (arith, e, many, lt));
    }
