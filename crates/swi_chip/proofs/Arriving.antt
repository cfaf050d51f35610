-- A block takes the next slot: what the chip's lists and words are then stands for what the model says.
use Rattle.std.proofs.Common.{◌≡◌, ◌⊎◌, ◌&&◌, ℕ, ◌+◌, ◌-◌, ◌*◌, ◌/◌, ◌%◌, ◌^◌, ◌<◌, ◌≤◌, Bool, true, false, nat_lt, nat_le, min, if◌then◌else◌, List, map, length, slice_index, slice_set, arith, refl, sym, ◌∙◌, ap, subst, inl, inr}
use Rattle.std.specs.List.{range_with_len}
use Rattle.std.proofs.lemmas.Bool.{cases_eq, cases_lt, cases_Bool, ne_eqb}
use Rattle.std.proofs.lemmas.Bool.Decides.{nat_tests}
use Rattle.std.proofs.lemmas.List.{length-set, get_or-set_same, get_or-set_other, get_or_past}
use Rattle.std.proofs.lemmas.List.FromFn.{length-map-range_with_len, get_or-map-range_with_len}
use Rattle.std.proofs.lemmas.Nat.{div-mul-add, mod-mul-add, div-add-mod'}
use Rattle.swi_image.specs.Place.{word_at, length_at}
use Rattle.swi_outside.specs.Causes.{risen}
use Rattle.swi_outside.specs.CacheRam.{RamState}
use Rattle.swi_rom.specs.Writing.{Wrote, Copied}
use Rattle.swi_rom.specs.Blocks.{block_short}
use Rattle.std.proofs.Math.Nat.{mul-le-mul_left}
use Rattle.swi_rom.specs.declared.rom.Counts.{Counts}
use Rattle.swi_links.specs.Chains.{Has}
use Rattle.swi_slots.specs.Slots.{Slots}
use Rattle.swi_slots.specs.Keys.{Images, key_of, key_owner, key_number, owner_of, number_of, word_in, words_in}
use Rattle.swi_slots.specs.Sound.{SlotsServe}
use Rattle.swi_slots.specs.Steps.{Cleared, MadeRoom, settled, is_dropped, leads_in, leading_in}
use Rattle.swi_slots.specs.Tells.{own_tells}
use Rattle.swi_slots.proofs.Missing.{slot_cases}
use Rattle.swi_chip.specs.Lists.{StandIn, Run, nexts, befores, list_at}
use Rattle.swi_chip.specs.Owned.{is_jump, lands_in}
use Rattle.swi_chip.specs.Undone.{begin_in}
use Rattle.swi_chip.specs.Parts.{HoldsParts}
use Rattle.swi_chip.specs.Held.{Holds, InBlock}
use Rattle.swi_chip.specs.Evicted.{Evicted}
use Rattle.swi_chip.specs.Missed.{ToMiss, Missed}
use Rattle.swi_chip.proofs.Runs.{frame}
use Rattle.swi_chip.proofs.Facts.{LinkAt, link_at, behind_slot}

-- lists stand in other words that have their cells
pub stands_frame : (words words' heads : List ℕ) (lists : List (List ℕ)) → StandIn words heads lists → length words' ≡ length words → ((n x : ℕ) → Has (list_at lists n) x → slice_index words' x ≡ slice_index words x) → StandIn words' heads lists
stands_frame words words' heads lists s long same = record {
  long = s.long;
  few = omega (arith, long, s.few);
  runs = λ n lt. subst (λ (z : ℕ). Run (nexts words') (befores words') z 0 (slice_index heads n) (list_at lists n)) (sym long)
      (frame (nexts words) (befores words) (nexts words') (befores words') (length words) 0 (slice_index heads n) (list_at lists n) (s.runs n lt)
      (λ x h. ap (λ (z : ℕ). z % 2 ^ 16) (same n x h)) (λ x h. ap (λ (z : ℕ). z / 2 ^ 16) (same n x h)));
  distinct = s.distinct;
  one = s.one;
}

-- the model has room: its slots then, and its words, for which the lists and the memory stand but for the slot's own words
pub record Room (s : Slots) (ram : List ℕ) (slot number : ℕ) (cache heads links blocks : List ℕ) : Type 0 where
  pub targets : List ℕ
  pub counts : Counts
  pub words : List ℕ
  pub lists : List (List ℕ)
  pub words_long : length words ≡ length ram
  pub counts_free : s.filled < s.slots → counts ≡ s.counts
  pub counts_full : s.slots ≤ s.filled → counts ≡ record s.counts { evictions = s.counts.evictions + 1; unlinks = s.counts.unlinks + number }
  pub made : (before : RamState) → before.words ≡ ram → (between : RamState) × (between.words ≡ words) × MadeRoom s (record s { targets = targets; counts = counts }) before between
  pub holds : HoldsParts (record s { targets = targets }) words cache heads links blocks lists (λ i. InBlock s i × (i / s.size ≡ slot → ⊥))
  pub free : (i : ℕ) → i < s.slots * s.size → i / s.size ≡ slot → s.slots ≤ slice_index targets i
  pub kept : (i : ℕ) → i < s.slots * s.size → slice_index targets i < s.slots → slice_index s.targets i < s.slots

-- while a slot is free
pub room_free : (s : Slots) (vs : Images) (ram cache heads links blocks : List ℕ) (lists : List (List ℕ)) (slot number : ℕ) → SlotsServe s vs ram → Holds s ram cache heads links blocks lists → slot ≡ s.next → s.filled < s.slots → Room s ram slot number cache heads links blocks
room_free s vs ram cache heads links blocks lists slot number serves h is lt = record {
  targets = s.targets;
  counts = s.counts;
  words = ram;
  lists = lists;
  words_long = refl;
  counts_free = λ f. refl;
  counts_full = λ le. absurd (omega (arith, lt, le));
  made = λ before e. (before, e, record { free = λ f. (refl, refl); full = λ le. absurd (omega (arith, lt, le)) });
  holds = record {
    stand = h.stand;
    slots_are = h.slots_are;
    long = h.long;
    links_long = h.links_long;
    counted = h.counted;
    linked = h.linked;
    listed = h.listed;
    leads = h.leads;
    held = λ i inside w none. h.held i inside w.0 none;
    blocks_long = h.blocks_long;
    blocks_are = h.blocks_are;
  };
  free = λ i inside own. elim (cases_lt (slice_index s.targets i) s.slots) [
    | inl linked ↦ absurd (let a = serves.stands i inside linked in let b = next_filled in omega (arith, a, own, b))
    | inr free ↦ free
  ];
  kept = λ i inside linked. linked;
}
  where
    next_filled : slot ≡ s.filled
    next_filled = (let a = serves.shape.next_is in let b = serves.shape.filled_is in is ∙ (a ∙ by s.counts.misses s.slots s.filled b lt))
      where
        by : (m n f : ℕ) → f ≡ min m n → f < n → m % n ≡ f
        by m n f e lt =
            let low : m < n = omega (arith, e, lt) in
            let same : 0 * n + m ≡ m = omega arith in
            let own : m ≡ f = omega (arith, e, lt) in
            ap (λ (z : ℕ). z % n) (sym same) ∙ (mod-mul-add 0 n m low ∙ own)

-- the ram, where so many words were set, below so many
abbrev pub with_words : RamState → List ℕ → ℕ → RamState
with_words r words n = record r { words = words; sets = risen r.sets n }

pub wrote_words : (r : RamState) (words : List ℕ) (span n : ℕ) → length words ≡ length r.words → ((i : ℕ) → span ≤ i → slice_index words i ≡ slice_index r.words i) → Wrote span n r (with_words r words n)
wrote_words r words span n long beyond = record {
  spared = record { later = omega arith; fetches_stay = refl; fetched_at_stays = refl; length_stays = long; beyond = beyond; reached = omega arith };
  quiet = refl;
  sets_rise = refl;
}

module _ (s : Slots) (vs : Images) (ram cache heads links blocks : List ℕ) (slot number : ℕ) (serves : SlotsServe s vs ram) (is : slot ≡ s.next) (le : s.slots ≤ s.filled) (e : Evicted s ram slot number cache heads links blocks) where
  cleared_in : (before : RamState) → before.words ≡ ram →
      Cleared s.slots s.size slot (s.slots * s.size) s.targets e.targets before (with_words before e.words (leading_in s.size slot s.targets (s.slots * s.size)))
  cleared_in before same = record {
    length_stays = e.targets_long;
    dropped = e.dropped;
    rest = λ i past. (let a = serves.shape.targets_long in let b = e.targets_long in get_or_past e.targets i 0 (omega (arith, a, b, past)) ∙ sym (get_or_past s.targets i 0 (omega (arith, a, past))));
    undone = λ i inside. e.undone i inside ∙ ap (λ (ws : List ℕ). if leads_in s.size slot s.targets i then 0x00100073 else slice_index ws i) (sym same);
    beyond = λ i past. e.beyond i past ∙ ap (λ (ws : List ℕ). slice_index ws i) (sym same);
    wrote = wrote_words before e.words (s.slots * s.size) (leading_in s.size slot s.targets (s.slots * s.size)) (e.words_long ∙ ap (λ (ws : List ℕ). length ws) (sym same))
        (λ i past. e.beyond i past ∙ ap (λ (ws : List ℕ). slice_index ws i) (sym same));
  }

  counts_with : ℕ → Counts
  counts_with z = record s.counts { evictions = s.counts.evictions + 1; unlinks = s.counts.unlinks + leading_in s.size z s.targets (s.slots * s.size) }

  pub room_full : Room s ram slot number cache heads links blocks
  unfolding counts_with
  room_full = record {
    targets = e.targets;
    counts = counts_with slot;
    words = e.words;
    lists = e.lists;
    words_long = e.words_long;
    counts_free = λ f. absurd (omega (arith, f, le));
    counts_full = λ _. ap (λ (n : ℕ). record s.counts { evictions = s.counts.evictions + 1; unlinks = s.counts.unlinks + n }) (sym e.number_is);
    made = λ before same. (
      with_words before e.words (leading_in s.size slot s.targets (s.slots * s.size)),
      refl,
      record {
        free = λ f. absurd (omega (arith, f, le));
        full = λ f. (
          subst (λ (z : ℕ). Cleared s.slots s.size z (s.slots * s.size) s.targets e.targets before (with_words before e.words (leading_in s.size slot s.targets (s.slots * s.size)))) is (cleared_in before same),
          ap (λ (z : ℕ). record s { targets = e.targets; counts = record s.counts { evictions = s.counts.evictions + 1; unlinks = s.counts.unlinks + leading_in s.size z s.targets (s.slots * s.size) } }) is,
        );
      },
    );
    holds = e.holds;
    free = λ i inside own. (let a = own_tells s.size slot i s.targets own in let b = e.dropped i inside ∙ ap (λ (t : Bool). if t then s.slots else slice_index s.targets i) a.0 in omega (arith, b));
    kept = λ i inside linked. elim (cases_Bool (is_dropped s.size slot s.targets i)) [
      | inl t ↦ absurd (let b = e.dropped i inside ∙ ap (λ (q : Bool). if q then s.slots else slice_index s.targets i) t in omega (arith, b, linked))
      | inr f ↦ (let b = e.dropped i inside ∙ ap (λ (q : Bool). if q then s.slots else slice_index s.targets i) f in omega (arith, b, linked))
    ];
  }

-- ---- the block is copied

module _ {s : Slots} {vs : Images} {ram cache heads links blocks ends words : List ℕ} {slot old block len size : ℕ} {full : Bool} {lists : List (List ℕ)} (tm : ToMiss s vs ram cache heads links slot full old block len blocks ends words size lists) where
  abbrev key : ℕ
  key = key_of s.turn block

  owner_is : owner_of key ≡ s.turn
  owner_is = key_owner s.turn block tm.small

  number_is : number_of key ≡ block
  number_is = key_number s.turn block tm.small

  abbrev L : ℕ
  L = length_at (vs s.turn) block

  pub length_is : len ≡ L
  length_is = tm.len_is ∙ (ap (λ (p : ℕ). length_at (vs p) (number_of key)) owner_is ∙ ap (λ (n : ℕ). length_at (vs s.turn) n) number_is)

  word_is : (o : ℕ) → word_in vs key o ≡ word_at (vs s.turn) block o
  word_is o = ap (λ (p : ℕ). word_at (vs p) (number_of key) o) owner_is ∙ ap (λ (n : ℕ). word_at (vs s.turn) n o) number_is

  known_key : number_of key < length (vs (owner_of key)).blocks
  known_key = subst (λ (p : ℕ). number_of key < length (vs p).blocks) (sym owner_is) (subst (λ (n : ℕ). n < length (vs s.turn).blocks) (sym number_is) tm.known)

  pub short_block : L ≤ s.size
  short_block = (let a = block_short (vs s.turn) block (tm.serves.images s.turn) tm.known in let b = tm.serves.size_most s.turn in omega (arith, a, b))

  pub row_at_key : (o : ℕ) → o < L → (block ≤ length ends) × (begin_in ends block + o < length words) × (slice_index words (begin_in ends block + o) ≡ word_at (vs s.turn) block o)
  row_at_key o lt =
      let low : o < words_in vs key = (let a = length_is in let b = tm.len_is in omega (arith, a, b, lt)) in
      let r = tm.rows.row key o known_key low in (
        subst (λ (n : ℕ). n ≤ length ends) number_is r.0,
        subst (λ (n : ℕ). begin_in ends n + o < length words) number_is r.1,
        subst (λ (n : ℕ). slice_index words (begin_in ends n + o) ≡ word_in vs key o) number_is r.2 ∙ word_is o,
      )

  slot_low : slot < s.slots
  slot_low = (let a = tm.next_is in let b = tm.serves.shape.next_below in omega (arith, a, b))

  pub slot_row : slot * s.size + s.size ≤ s.slots * s.size
  slot_row = (let up : slot + 1 ≤ s.slots = (let a = slot_low in omega (arith, a)) in let m = mul-le-mul_left s.size up in omega (arith, m))

  module _ {cache1 heads1 links1 : List ℕ} {undone : ℕ} (cache2 : List ℕ) (room : Room s ram slot undone cache1 heads1 links1 blocks) (long2 : length cache2 ≡ length cache1)
      (copied : (k : ℕ) → k < L → slice_index cache2 (slot * s.size + k) ≡ slice_index words (begin_in ends block + k))
      (others : (i : ℕ) → (i < slot * s.size) ⊎ (slot * s.size + L ≤ i) → slice_index cache2 i ≡ slice_index cache1 i) where
    -- a word of the slot, and one beside its block
    row_is : (i : ℕ) → slot * s.size ≤ i → i < slot * s.size + L → i / s.size ≡ slot
    row_is i low high =
        let o : ℕ = i - slot * s.size in
        let whole : slot * s.size + o ≡ i = omega (arith, low) in
        let short : o < s.size = (let a = short_block in omega (arith, a, low, high)) in
        ap (λ (z : ℕ). z / s.size) (sym whole) ∙ div-mul-add slot s.size o short

    beside : (i : ℕ) → (i / s.size ≡ slot → ⊥) → (i < slot * s.size) ⊎ (slot * s.size + L ≤ i)
    beside i ne = elim (cases_lt i (slot * s.size)) [
      | inl lt ↦ inl lt
      | inr le ↦ elim (cases_lt i (slot * s.size + L)) [ inl lt ↦ absurd (ne (row_is i le lt)) | inr ge ↦ inr ge ]
    ]

    abbrev word_of : ℕ → ℕ
    word_of i = if nat_le (slot * s.size) i && nat_lt i (slot * s.size + L) then word_at (vs s.turn) block (i - slot * s.size) else slice_index room.words i

    abbrev ram2 : List ℕ
    ram2 = map word_of (range_with_len 0 (length room.words))

    in_range : (i : ℕ) → slot * s.size ≤ i → i < slot * s.size + L → slice_index ram2 i ≡ word_at (vs s.turn) block (i - slot * s.size)
    in_range i low high =
        let inside : i < length room.words = (let a = room.words_long in let b = tm.serves.fits in let c = short_block in let d = slot_row in omega (arith, a, b, c, d, high)) in
        let t : (nat_le (slot * s.size) i && nat_lt i (slot * s.size + L)) ≡ true = grind (arith, nat_tests) in
        get_or-map-range_with_len word_of 0 (length room.words) i i 0 inside (omega arith) ∙ ap (λ (q : Bool). if q then word_at (vs s.turn) block (i - slot * s.size) else slice_index room.words i) t

    out_range : (i : ℕ) → (i < slot * s.size) ⊎ (slot * s.size + L ≤ i) → slice_index ram2 i ≡ slice_index room.words i
    out_range i w = by (cases_lt i (length room.words)) (test w)
      where
        test : (i < slot * s.size) ⊎ (slot * s.size + L ≤ i) → (nat_le (slot * s.size) i && nat_lt i (slot * s.size + L)) ≡ false
        test (inl lt) = grind (arith, nat_tests)
        test (inr ge) = grind (arith, nat_tests)

        by : (i < length room.words) ⊎ (length room.words ≤ i) → (nat_le (slot * s.size) i && nat_lt i (slot * s.size + L)) ≡ false → slice_index ram2 i ≡ slice_index room.words i
        by (inl lt) t = get_or-map-range_with_len word_of 0 (length room.words) i i 0 lt (omega arith) ∙ ap (λ (q : Bool). if q then word_at (vs s.turn) block (i - slot * s.size) else slice_index room.words i) t
        by (inr past) t = get_or_past ram2 i 0 (let e = length-map-range_with_len word_of 0 (length room.words) in omega (arith, e, past)) ∙ sym (get_or_past room.words i 0 past)

    -- a linked word stands in another slot
    linked_other : (i : ℕ) → i < s.slots * s.size → slice_index room.targets i < s.slots → i / s.size ≡ slot → ⊥
    linked_other i inside linked e = (let f = room.free i inside e in omega (arith, f, linked))

    -- and so does its cell
    cell_beside : (n x : ℕ) → Has (list_at room.lists n) x → (x < slot * s.size) ⊎ (slot * s.size + L ≤ x)
    cell_beside n x has = beside x (λ e.
        (let a = room.holds.linked n x has in
        let pos = a.1 in
        let back : x - 1 + 1 ≡ x = omega (arith, pos) in
        let there : slice_index room.targets (x - 1) < s.slots = subst (λ (z : ℕ). z < s.slots) (sym a.3) a.0 in
        let l : LinkAt tm.serves tm.holds (x - 1) = link_at tm.serves tm.holds (x - 1) a.2 (room.kept (x - 1) a.2 there) in
        let b = (behind_slot tm.serves tm.holds (x - 1) l).0 in
        let same : (x - 1) / s.size ≡ slot = sym l.is_slot ∙ (sym b ∙ (ap (λ (z : ℕ). z / s.size) back ∙ e)) in
        linked_other (x - 1) a.2 there same))

    abbrev roomy : Slots
    roomy = record s { targets = room.targets; counts = room.counts }

    abbrev next : Slots
    next = settled roomy key L

    length_here : slice_index next.lengths slot ≡ L
    length_here = subst (λ (z : ℕ). slice_index (slice_set s.lengths z L) slot ≡ L) tm.next_is (get_or-set_same s.lengths slot L 0 (let a = tm.serves.shape.lengths_long in let b = slot_low in omega (arith, a, b)))

    length_other : (n : ℕ) → (n ≡ slot → ⊥) → slice_index next.lengths n ≡ slice_index s.lengths n
    length_other n ne = subst (λ (z : ℕ). slice_index (slice_set s.lengths z L) n ≡ slice_index s.lengths n) tm.next_is (get_or-set_other s.lengths slot n L 0 ne)

    filled_other : (n : ℕ) → (n ≡ slot → ⊥) → n < min (s.filled + 1) s.slots → n < s.filled
    filled_other n ne lt = elim (slot_cases s n tm.serves.shape lt) [ inl e ↦ absurd (ne (e ∙ sym tm.next_is)) | inr w ↦ w.0 ]

    held_next : (i : ℕ) → i < s.slots * s.size → InBlock next i → ((n : ℕ) → Has (list_at room.lists n) i → ⊥) → slice_index cache2 i ≡ slice_index ram2 i
    held_next i inside b none = elim (cases_eq (i / s.size) slot) [
      | inl e ↦
          let o : ℕ = i % s.size in
          let low : o < L = (let q = subst (λ (z : ℕ). o < slice_index next.lengths z) e b.1 in let w = length_here in omega (arith, q, w)) in
          let whole : slot * s.size + o ≡ i = ap (λ (z : ℕ). z * s.size + o) (sym e) ∙ div-add-mod' i s.size in
          let at : i - slot * s.size ≡ o = omega (arith, whole) in
          ap (λ (z : ℕ). slice_index cache2 z) (sym whole) ∙ (copied o low ∙ ((row_at_key o low).2 ∙ (ap (λ (z : ℕ). word_at (vs s.turn) block z) (sym at) ∙ sym (in_range i (omega (arith, whole)) (omega (arith, whole, low))))))
      | inr ne ↦
          let here : InBlock s i = (filled_other (i / s.size) ne b.0, (let q = length_other (i / s.size) ne in let w = b.1 in omega (arith, q, w))) in
          others i (beside i ne) ∙ (room.holds.held i inside (here, ne) none ∙ sym (out_range i (beside i ne)))
    ]

    blocks_next : (n : ℕ) → n < min (s.filled + 1) s.slots → slice_index (slice_set blocks slot block) n ≡ number_of (slice_index next.blocks n)
    blocks_next n lt = elim (cases_eq n slot) [
      | inl e ↦
          let a : slice_index (slice_set blocks slot block) slot ≡ block = get_or-set_same blocks slot block 0 (let q = room.holds.blocks_long in let w = slot_low in omega (arith, q, w)) in
          let b : slice_index next.blocks slot ≡ key = subst (λ (z : ℕ). slice_index (slice_set s.blocks z key) slot ≡ key) tm.next_is (get_or-set_same s.blocks slot key 0 (let q = tm.serves.shape.blocks_long in let w = slot_low in omega (arith, q, w))) in
          subst (λ (z : ℕ). slice_index (slice_set blocks slot block) z ≡ number_of (slice_index next.blocks z)) (sym e) (a ∙ (sym number_is ∙ ap number_of (sym b)))
      | inr ne ↦
          let b : slice_index next.blocks n ≡ slice_index s.blocks n = subst (λ (z : ℕ). slice_index (slice_set s.blocks z key) n ≡ slice_index s.blocks n) tm.next_is (get_or-set_other s.blocks slot n key 0 ne) in
          get_or-set_other blocks slot n block 0 ne ∙ (room.holds.blocks_are n (filled_other n ne lt) ∙ ap number_of (sym b))
    ]

    copied_in : (between : RamState) → between.words ≡ room.words → Copied (word_at (vs s.turn) block) (slot * s.size) L between (with_words between ram2 L)
    copied_in between same = record {
      wrote = wrote_words between ram2 (slot * s.size + L) L (length-map-range_with_len word_of 0 (length room.words) ∙ ap (λ (ws : List ℕ). length ws) (sym same))
          (λ i past. out_range i (inr past) ∙ ap (λ (ws : List ℕ). slice_index ws i) (sym same));
      copied = λ k lt. in_range (slot * s.size + k) (omega arith) (omega arith) ∙ ap (λ (z : ℕ). word_at (vs s.turn) block z) (omega arith);
      below = λ i lt. out_range i (inl lt) ∙ ap (λ (ws : List ℕ). slice_index ws i) (sym same);
    }

    pub missed : Missed s vs ram block undone cache2 heads1 links1 (slice_set blocks slot block)
    missed = record {
      targets = room.targets;
      counts = room.counts;
      counts_free = room.counts_free;
      counts_full = room.counts_full;
      next = next;
      next_is = refl;
      words = ram2;
      lists = room.lists;
      holds = record {
        stand = stands_frame cache1 cache2 heads1 room.lists room.holds.stand long2 (λ n x h. others x (cell_beside n x h));
        slots_are = room.holds.slots_are;
        long = (let a = room.holds.long in omega (arith, a, long2));
        links_long = room.holds.links_long;
        counted = room.holds.counted;
        linked = room.holds.linked;
        listed = room.holds.listed;
        leads = λ i inside linked.
            (let w = out_range i (beside i (linked_other i inside linked)) in
            let a = room.holds.leads i inside linked in
            (ap is_jump w ∙ a.0, ap (lands_in s.size i) w ∙ a.1));
        held = held_next;
        blocks_long = length-set blocks slot block ∙ room.holds.blocks_long;
        blocks_are = blocks_next;
      };
      filled = λ before same.
          (let m = room.made before same in (
            with_words m.0 ram2 L,
            refl,
            record {
              room = roomy;
              between = m.0;
              made_room = m.2;
              copied = subst (λ (z : ℕ). Copied (word_at (vs s.turn) block) (z * s.size) L m.0 (with_words m.0 ram2 L)) tm.next_is (copied_in m.0 m.1);
              settles = refl;
            },
          ));
    }

pub some_words : {s : Slots} {vs : Images} {ram cache heads links blocks ends words : List ℕ} {slot old block len size : ℕ} {full : Bool} {lists : List (List ℕ)} → ToMiss s vs ram cache heads links slot full old block len blocks ends words size lists → 0 < length_at (vs s.turn) block
some_words {s} {vs} {block = block} tm =
    let i = tm.serves.images s.turn in
    let lt : block < length (vs s.turn).starts = (let a = i.blocks in let b = tm.known in omega (arith, a, b)) in
    (let w = (i.lengths block lt).0 in omega (arith, w))

pub begin_is : (ends : List ℕ) (block begin : ℕ) → ((block ≡ 0) × (begin ≡ 0)) ⊎ ((block ≡ 0 → ⊥) × (begin ≡ slice_index ends (block - 1))) → begin ≡ begin_in ends block
begin_is ends block begin (inl w) = w.1 ∙ ap (λ (b : ℕ). begin_in ends b) (sym w.0)
begin_is ends block begin (inr w) = w.1 ∙ sym (ap (λ (t : Bool). if t then 0 else slice_index ends (block - 1)) (ne_eqb block 0 w.0))

pub room_as : (s : Slots) (ram : List ℕ) (slot number number' : ℕ) (cache cache' heads heads' links links' blocks : List ℕ) → number' ≡ number → cache' ≡ cache → heads' ≡ heads → links' ≡ links → Room s ram slot number cache heads links blocks →
    Room s ram slot number' cache' heads' links' blocks
room_as s ram slot number number' cache cache' heads heads' links links' blocks en ec eh el r =
    subst (λ (n : ℕ). Room s ram slot n cache' heads' links' blocks) (sym en)
    (subst (λ (xs : List ℕ). Room s ram slot number xs heads' links' blocks) (sym ec)
    (subst (λ (xs : List ℕ). Room s ram slot number cache xs links' blocks) (sym eh)
    (subst (λ (xs : List ℕ). Room s ram slot number cache heads xs blocks) (sym el) r)))
