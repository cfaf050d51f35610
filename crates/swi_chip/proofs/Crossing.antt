-- What `link_exit` and `cross` come to.
use Rattle.std.proofs.Common.{◌≡◌, ◌==◌, ◌&&◌, ℕ, ◌+◌, ◌-◌, ◌*◌, ◌/◌, ◌%◌, ◌^◌, ◌<◌, ◌≤◌, Bool, true, false, nat_le, List, length, slice_index, slice_set, Option, Some, None, arith, refl, sym, ◌∙◌, ap, subst, inl, inr}
use Rattle.std.proofs.lemmas.Bool.{and_parts, eq-eqb, eqb-true, ne_eqb, both_ways}
use Rattle.std.proofs.lemmas.Bool.Decides.{nat_tests}
use Rattle.std.proofs.lemmas.List.{length-set, get_or-set_same, get_or-set_other}
use Rattle.std.proofs.lemmas.Nat.{row_fits}
use Rattle.swi_image.specs.Format.{ImageData}
use Rattle.swi_image.specs.Place.{length_at, place_of}
use Rattle.swi_outside.specs.CacheRam.{RamState}
use Rattle.swi_rom.specs.Blocks.{block_short}
use Rattle.swi_rom.specs.Coherent.{ExitAt}
use Rattle.swi_rom.specs.Policy.{first_of, is_placed, linked, with_link}
use Rattle.swi_rom.specs.Record.{IsJump, Placed, Record, direct, ebreak, indirect, reaches}
use Rattle.swi_rom.specs.Service.{Setting}
use Rattle.swi_slots.specs.Arrived.{Arrived}
use Rattle.swi_slots.specs.Coheres.{length_most, tidy_of}
use Rattle.swi_slots.specs.Fifo.{fifo}
use Rattle.swi_slots.specs.Keys.{Images, key_of, word_in, words_in}
use Rattle.swi_slots.specs.SlotLinks.{Tidy, word_slot}
use Rattle.swi_slots.specs.Slots.{Slots, kept_by, setting_of}
use Rattle.swi_slots.specs.Sound.{SlotsServe}
use Rattle.swi_slots.specs.Steps.{MaybeLinked, can_link}
use Rattle.swi_slots.proofs.Arriving.{slot_is_placed}
use Rattle.swi_slots.proofs.Calls.{exit_row}
use Rattle.swi_slots.proofs.Crossing.{ExitIn, crossed, crossed_sound, entered, exit_in, exit_same, free_stays}
use Rattle.swi_slots.proofs.Linking.{first_of_slot}
use Rattle.swi_chip.specs.declared.chip.Chip.{Chip}
use Rattle.swi_chip.specs.Bounded.{has_most, is_refused, leading_into}
use Rattle.swi_chip.specs.Linked.{LinkedSo, ToLink}
use Rattle.swi_chip.specs.Service.{AnswersAt, ChipServed, CountsRefused, HasArrived, LinkedExit, LinkedStands, StandsFor, ToLinkExit, address_of, linked_to, no_text}
use Rattle.swi_chip.proofs.Arriving.{with_words, wrote_words}
use Rattle.swi_chip.proofs.Bounding.{direct_is, entry_is, entry_links, few_entry, few_fifo, few_outside, linked_counts, none_made, outside_not, refused_when, some_room}
use Rattle.swi_chip.proofs.Entering.{address_is, mark_low, place_known, refuses_none}
use Rattle.swi_chip.proofs.Filled.{any_ram, any_words}
use Rattle.swi_chip.proofs.Filling.{own_block}
use Rattle.swi_chip.proofs.Leading.{counts_leading}

-- ---- link_exit

reaches_small : (at to : ℕ) → at < 2 ^ 16 → to < 2 ^ 16 → reaches at to ≡ true
reaches_small at to a b =
    let one : 4 * (to - at) ≤ 2 ^ 20 - 4 = omega (arith, b) in
    let two : 4 * (at - to) ≤ 2 ^ 20 = omega (arith, a) in
    both (4 * (to - at)) (4 * (at - to)) one two
  where
    both : (x y : ℕ) → x ≤ 2 ^ 20 - 4 → y ≤ 2 ^ 20 → (nat_le x (2 ^ 20 - 4) && nat_le y (2 ^ 20)) ≡ true
    both x y p q = grind (arith, nat_tests)

and_true : (p q : Bool) → p ≡ true → q ≡ true → (p && q) ≡ true
and_true true q e f = f
and_true false q e f = e

and_false : (p q : Bool) → p ≡ false → (p && q) ≡ false
and_false true q e = absurd (both_ways true e refl)
and_false false q e = refl

module _ {t : Slots} {vs : Images} {words : List ℕ} {lists : List (List ℕ)} {at home slot to : ℕ} {c : Chip} (k : ToLinkExit t vs words lists at home slot to c) where
  pub size_some : 0 < c.size.words
  size_some = (let a = k.stands.size_is in let b = k.stands.serves.shape.size_least in omega (arith, a, b))

  row_is : at / c.size.words ≡ at / t.size
  row_is = ap (λ (n : ℕ). at / n) k.stands.size_is

  pub row_low : at / c.size.words < length c.blocks.now
  row_low = (let a = row_is in let b = k.row in let d = k.stands.serves.shape.filled_most in let e = k.stands.holds.blocks_long in omega (arith, a, b, d, e))

  block_here : slice_index c.blocks.now (at / c.size.words) ≡ slice_index t.blocks (at / t.size)
  block_here = ap (λ (n : ℕ). slice_index c.blocks.now n) row_is ∙ (own_block k.stands (at / t.size) k.row).1

  cache_small : t.slots * t.size < 2 ^ 16
  cache_small = (let a = k.stands.holds.long in let b = k.stands.holds.stand.few in omega (arith, a, b))

  pub few_at : at < 2 ^ 16
  few_at = (let b = k.behind in let s = cache_small in omega (arith, b, s))

  -- the block is gone
  pub gone : (slice_index c.blocks.now (at / c.size.words) ≡ home → ⊥) → LinkedExit t vs words lists at home slot to c c
  gone ne = inl (and_false (slice_index t.blocks (at / t.size) == home) (reaches at to) (ne_eqb _ _ (λ e. ne (block_here ∙ e))), k.stands, record { most = refl; refused = refl })

  -- it still stands
  pub to_link : slice_index c.blocks.now (at / c.size.words) ≡ home → ToLink t vs words c.cache.now c.heads.now c.links.now c.blocks.now at slot to lists
  to_link same =
      let x = k.exit (sym block_here ∙ same) in
      record { serves = k.stands.serves; holds = k.stands.holds; behind = k.behind; exit = x.0; free = x.1; low = k.low; target = k.target; in_slot = k.in_slot }

  wraps : (x m : ℕ) → x ≡ m % 2 ^ 32 → (x + 1) % 2 ^ 32 ≡ (m + 1) % 2 ^ 32
  wraps x m e = omega (arith, e)

  pub links_low : slot < length c.links.now
  links_low = (let a = k.low in let b = k.stands.holds.slots_are in let d = k.stands.holds.links_long in omega (arith, a, b, d))

  can_be : slice_index c.blocks.now (at / c.size.words) ≡ home → can_link t at home to ≡ true
  can_be same =
      and_true (slice_index t.blocks (at / t.size) == home) (reaches at to) (eq-eqb _ _ (sym block_here ∙ same))
      (reaches_small at to (let a = k.behind in let b = cache_small in omega (arith, a, b)) (let a = k.target in let b = cache_small in omega (arith, a, b)))

  -- as many lead there as may
  pub refused_stands : slice_index c.blocks.now (at / c.size.words) ≡ home → c.most ≤ slice_index c.links.now slot → LinkedExit t vs words lists at home slot to c (record c { counts = record c.counts { refused = (c.counts.refused + 1) % 2 ^ 32 } })
  refused_stands same full =
      inr (inr (
        can_be same,
        full,
        record {
          serves = k.stands.serves;
          holds = k.stands.holds;
          rows = k.stands.rows;
          tables = k.stands.tables;
          one = k.stands.one;
          slots_are = k.stands.slots_are;
          size_is = k.stands.size_is;
          next_is = k.stands.next_is;
          filled_is = k.stands.filled_is;
          cache_long = k.stands.cache_long;
          marks = k.stands.marks;
          marks_long = k.stands.marks_long;
          counts = record {
            services = k.stands.counts.services;
            misses = k.stands.counts.misses;
            evictions = k.stands.counts.evictions;
            links = k.stands.counts.links;
            unlinks = k.stands.counts.unlinks;
            copied = k.stands.counts.copied;
          };
          starts_are = k.stands.starts_are;
          numbers = k.stands.numbers;
        },
        record { most = refl; refused = refl },
      ))

  -- or one more may
  pub linked_stands : (c' : Chip) → slice_index c.blocks.now (at / c.size.words) ≡ home → slice_index c.links.now slot < c.most → LinkedSo t words at slot to c'.cache.now c'.heads.now c'.links.now c.blocks.now →
      c' ≡ record c { counts = record c.counts { links = (c.counts.links + 1) % 2 ^ 32 }; cache = c'.cache; heads = c'.heads; links = c'.links } → length c'.cache.now ≡ length c.cache.now → LinkedExit t vs words lists at home slot to c c'
  linked_stands c' same less l is kept =
      inr (inl (
        can_be same,
        less,
        subst (λ (x : Chip). LinkedStands t vs words at slot to x) (sym is) (let long : length c'.cache.now ≡ length c.cache.now = kept in record {
          word = l.word;
          jumps = l.jumps;
          lists = l.lists;
          stands = λ serves. record {
            serves = serves;
            holds = record {
              stand = l.holds.stand;
              slots_are = l.holds.slots_are;
              long = l.holds.long;
              links_long = l.holds.links_long;
              counted = l.holds.counted;
              linked = l.holds.linked;
              listed = l.holds.listed;
              leads = l.holds.leads;
              held = l.holds.held;
              blocks_long = l.holds.blocks_long;
              blocks_are = l.holds.blocks_are;
            };
            rows = k.stands.rows;
            tables = k.stands.tables;
            one = k.stands.one;
            slots_are = k.stands.slots_are;
            size_is = k.stands.size_is;
            next_is = k.stands.next_is;
            filled_is = k.stands.filled_is;
            cache_long = long ∙ k.stands.cache_long;
            marks = record { found = k.stands.marks.found; known = k.stands.marks.known };
            marks_long = k.stands.marks_long;
            counts = record {
              services = k.stands.counts.services;
              misses = k.stands.counts.misses;
              evictions = k.stands.counts.evictions;
              links = wraps c.counts.links t.counts.links k.stands.counts.links;
              unlinks = k.stands.counts.unlinks;
              copied = k.stands.counts.copied;
            };
            starts_are = k.stands.starts_are;
            numbers = k.stands.numbers;
          };
        }),
        subst (λ (x : Chip). CountsRefused false c x) (sym is) (record { most = refl; refused = refl }),
      ))

-- ---- cross

pub crossed_none : {s : Slots} {vs : Images} {ram : List ℕ} {lists : List (List ℕ)} {c : Chip} (k : StandsFor s vs ram lists c) (b o target : ℕ) → place_of (vs s.turn) target ≡ None → ChipServed s vs (direct b o target) no_text c c
crossed_none {s} {vs} {ram} {lists} {c} k b o target none = record {
  next = s;
  words = ram;
  lists = lists;
  stands = k;
  setting = refl;
  moves = sym (few_outside c.most (setting_of s) (kept_by s) (vs s.turn) (direct b o target) none);
  bound = refuses_none (outside_not c.most (setting_of s) (kept_by s) (vs s.turn) (direct b o target) none) (record { most = refl; refused = refl });
  answers = subst (λ (p : Option (ℕ × ℕ)). AnswersAt p s s (vs s.turn) c target no_text) (sym none) (refl, refl);
}

module _ {s : Slots} {vs : Images} {ram : List ℕ} {lists : List (List ℕ)} {c : Chip} (k : StandsFor s vs ram lists c) (at target : ℕ) (x : ExitAt (vs s.turn) (kept_by s) at target) where
  exit : ExitIn vs s at target
  exit = exit_in vs s ram at target k.serves x

  exit_at : at / s.size ≡ exit.slot
  exit_at = exit_row vs s at target exit

  pub exit_low : at / c.size.words < length c.blocks.now
  exit_low =
      let a = ap (λ (n : ℕ). at / n) k.size_is in
      let b = exit_at in let d = exit.filled in let e = k.serves.shape.filled_most in let f = k.holds.blocks_long in
      omega (arith, a, b, d, e, f)

  pub exit_few : at < 2 ^ 16
  exit_few =
      let low : exit.slot < s.slots = (let d = exit.filled in let e = k.serves.shape.filled_most in omega (arith, d, e)) in
      let r = row_fits exit.slot s.size s.slots s.size low (omega arith) in
      let i = exit.index in let n = exit.inside in
      let a = k.holds.long in let b = k.holds.stand.few in
      omega (arith, r, i, n, a, b)

  pub size_low : 0 < c.size.words
  size_low = (let a = k.size_is in let b = k.serves.shape.size_least in omega (arith, a, b))

  -- the block of the exit's slot
  home_is : slice_index c.blocks.now (at / c.size.words) ≡ slice_index s.blocks exit.slot
  home_is = ap (λ (n : ℕ). slice_index c.blocks.now (at / n)) k.size_is ∙ (ap (λ (n : ℕ). slice_index c.blocks.now n) exit_at ∙ (own_block k exit.slot exit.filled).1)

  module _ {block offset mark : ℕ} {c' : Chip} (is : place_of (vs s.turn) target ≡ Some (block, offset)) (h : HasArrived s vs ram block mark c') where
    abbrev t : Slots
    t = h.next

    abbrev a : RamState
    a = any_ram ram

    b : RamState
    b = (h.arrived (any_ram ram) (any_words ram)).0

    b_words : b.words ≡ h.words
    unfolding b
    b_words = (h.arrived (any_ram ram) (any_words ram)).1

    arr : Arrived vs s block h.slot h.next (any_ram ram) b
    unfolding b
    arr = (h.arrived (any_ram ram) (any_words ram)).2

    serves_a : SlotsServe s vs (any_ram ram).words
    serves_a = subst (λ (ws : List ℕ). SlotsServe s vs ws) (sym (any_words ram)) k.serves

    offset_low : offset < s.size
    offset_low =
        let p = place_known (vs s.turn) target block offset (k.serves.images s.turn) is in
        let q = block_short (vs s.turn) block (k.serves.images s.turn) p.0 in
        let m = k.serves.size_most s.turn in let o = p.1 in
        omega (arith, o, q, m)

    abbrev index : ℕ
    index = h.slot * s.size + offset

    slot_low : h.slot < t.slots
    slot_low = (let u = arr.filled in let w = arr.sound.shape.filled_most in omega (arith, u, w))

    index_low : index < t.slots * t.size
    index_low =
        let r = row_fits h.slot t.size t.slots t.size slot_low (omega arith) in
        let w = offset_low in let z = arr.size_stays in
        let same : h.slot * s.size ≡ h.slot * t.size = ap (λ (n : ℕ). h.slot * n) (sym arr.size_stays) in
        omega (arith, r, w, z, same)

    index_low_at : h.slot * s.size + offset < h.next.slots * h.next.size
    index_low_at = index_low

    index_slot : index / t.size ≡ h.slot
    index_slot = ap (λ (n : ℕ). index / n) arr.size_stays ∙ (word_slot s h.slot offset offset_low).0

    exit_row_is : at / t.size ≡ exit.slot
    exit_row_is = ap (λ (n : ℕ). at / n) arr.size_stays ∙ exit_at

    at_is : at ≡ exit.slot * t.size + exit.offset
    at_is = exit.index ∙ ap (λ (n : ℕ). exit.slot * n + exit.offset) (sym arr.size_stays)

    exit_filled : exit.slot < t.filled
    exit_filled = (let g = arr.grows in let e = exit.filled in omega (arith, g, e))

    exit_behind : at + 1 < t.slots * t.size
    exit_behind =
        let low : exit.slot < t.slots = (let g = exit_filled in let e = arr.sound.shape.filled_most in omega (arith, g, e)) in
        let r = row_fits exit.slot t.size t.slots t.size low (omega arith) in
        let l = length_most s vs ram exit.slot k.serves exit.filled in
        let i = exit.is_exit.inside in
        let z = arr.size_stays in
        let w = at_is in
        omega (arith, r, l, i, z, w)

    free_at : slice_index t.blocks (at / t.size) ≡ slice_index s.blocks exit.slot → (slice_index h.words at ≡ ebreak) × (t.slots ≤ slice_index t.targets at)
    free_at same =
        let stays : slice_index t.blocks exit.slot ≡ slice_index s.blocks exit.slot = ap (λ (n : ℕ). slice_index t.blocks n) (sym exit_row_is) ∙ same in
        let free : t.slots ≤ slice_index t.targets (exit.slot * t.size + exit.offset) = free_stays vs s t block h.slot exit.slot exit.offset (any_ram ram) b serves_a arr exit.filled exit.inside exit.free stays in
        let inside : exit.offset < words_in vs (slice_index t.blocks exit.slot) = subst (λ (key : ℕ). exit.offset < words_in vs key) (sym stays) (let i = exit.is_exit.inside in omega (arith, i)) in (
          ap (λ (n : ℕ). slice_index h.words n) at_is ∙ (h.stands.serves.plain exit.slot exit.offset exit_filled inside free ∙ (ap (λ (key : ℕ). word_in vs key exit.offset) stays ∙ exit.is_exit.leaves)),
          subst (λ (n : ℕ). t.slots ≤ slice_index t.targets n) (sym at_is) free,
        )

    pub to_link_exit : (home slot to : ℕ) → home ≡ slice_index c.blocks.now (at / c.size.words) → slot ≡ h.slot → to ≡ h.slot * s.size + offset → ToLinkExit h.next vs h.words h.lists at home slot to c'
    to_link_exit home slot to home_at slot_is to_is = record {
      stands = h.stands;
      behind = exit_behind;
      row = (let r = exit_row_is in let f = exit_filled in omega (arith, r, f));
      low = (let l = slot_low in omega (arith, l, slot_is));
      target = (let l = index_low in omega (arith, l, to_is));
      in_slot = ap (λ (n : ℕ). n / t.size) to_is ∙ (index_slot ∙ sym slot_is);
      exit = λ same. free_at (same ∙ home_at ∙ home_is);
    }

    -- ---- behind it, where nothing was refused yet

    module _ (stays : CountsRefused false c c') where
      abbrev served : Slots → RamState → Type 0
      served u d = MaybeLinked t u (can_link t at (slice_index s.blocks exit.slot) (h.slot * s.size + offset)) at h.slot (h.slot * s.size + offset) b d

      setting_by : (u : Slots) → u.slots ≡ s.slots → u.size ≡ s.size → u.programs ≡ s.programs → setting_of u ≡ setting_of s
      setting_by u p q r = λ i. record { slots = p i; slot_words = q i; programs = r i }

      -- the entry alone
      abbrev by : Setting
      by = setting_of s

      abbrev v : ImageData
      v = vs s.turn

      entry_moves : kept_by t ≡ fifo by (kept_by s) v (indirect target)
      entry_moves = arr.moves ∙ sym (entry_is by (kept_by s) v target (block, offset) is)

      links_stay : (kept_by t).counts.links ≡ (kept_by s).counts.links
      links_stay = ap (λ (r : Record). r.counts.links) entry_moves ∙ entry_links by (kept_by s) v target

      -- so many links lead into the target's block
      leading_is : slice_index c'.links.now h.slot ≡ leading_into (fifo by (kept_by s) v (indirect target)) block
      leading_is =
          counts_leading h.stands.serves h.slot arr.filled h.stands.holds block arr.small (arr.stands ∙ ap (λ (p : ℕ). key_of p block) (sym arr.turn_stays))
          ∙ ap (λ (r : Record). leading_into r block) entry_moves

      has_room : slice_index c'.links.now h.slot < c'.most → has_most c.most (fifo by (kept_by s) v (indirect target)) (place_of v target) ≡ false
      has_room less =
          ap (has_most c.most (fifo by (kept_by s) v (indirect target))) is ∙ below _ _ (let a = leading_is in let m = stays.most in omega (arith, less, a, m))
        where
          below : (m n : ℕ) → n < m → nat_le m n ≡ false
          below m n lt = grind (arith, nat_tests)

      has_none : c'.most ≤ slice_index c'.links.now h.slot → has_most c.most (fifo by (kept_by s) v (indirect target)) (place_of v target) ≡ true
      has_none full =
          ap (has_most c.most (fifo by (kept_by s) v (indirect target))) is ∙ at_least _ _ (let a = leading_is in let m = stays.most in omega (arith, full, a, m))
        where
          at_least : (m n : ℕ) → m ≤ n → nat_le m n ≡ true
          at_least m n le = grind (arith, nat_tests)

      counts_refused : (q : Bool) (c'' : Chip) → CountsRefused q c' c'' → CountsRefused q c c''
      counts_refused true c'' b = record { most = b.most ∙ stays.most; refused = b.refused ∙ ap (λ (n : ℕ). (n + 1) % 2 ^ 32) stays.refused }
      counts_refused false c'' b = record { most = b.most ∙ stays.most; refused = b.refused ∙ stays.refused }

      -- where the bound refuses nothing
      crossed_by : (u : Slots) (d : RamState) (ws : List ℕ) (ls : List (List ℕ)) (c'' : Chip) → served u d → d.words ≡ ws → (SlotsServe u vs ws → StandsFor u vs ws ls c'') → setting_of u ≡ setting_of s → CountsRefused false c' c'' →
          (bl o f : ℕ) → Placed (kept_by s) bl f → o < length_at (vs s.turn) bl → at ≡ f + o →
          (kept_by u ≡ fifo by (kept_by s) v (direct bl o target) → is_refused c.most by (kept_by s) v (direct bl o target) ≡ false) →
          (answer : ℕ) → answer ≡ address_of c'' (h.slot * s.size + offset) → ChipServed s vs (direct bl o target) answer c c''
      crossed_by u d ws ls c'' maybe words stands setting counted bl o f placed inside at_place none answer answer_is =
          let sound = crossed_sound vs s t u block offset h.slot at target (any_ram ram) b d serves_a exit is arr maybe in
          let done = crossed vs s t u block offset h.slot at target (any_ram ram) b d serves_a exit is arr maybe bl o f placed inside at_place in
          let free = none done.moves in
          record {
            next = u;
            words = ws;
            lists = ls;
            stands = stands (subst (λ (xs : List ℕ). SlotsServe u vs xs) words sound.0);
            setting = setting;
            moves = done.moves ∙ sym (few_fifo c.most by (kept_by s) v (direct bl o target) free);
            bound = refuses_none free (counts_refused false c'' counted);
            answers = subst (λ (p : Option (ℕ × ℕ)). AnswersAt p s u (vs s.turn) c'' target answer) (sym is) (h.slot * s.size + offset, answer_is, done.answer);
          }

      -- where it refuses the link: the exit's block stands there, so that it could be one
      home_stays : can_link t at (slice_index s.blocks exit.slot) (h.slot * s.size + offset) ≡ true → slice_index t.blocks exit.slot ≡ slice_index s.blocks exit.slot
      home_stays can = ap (λ (n : ℕ). slice_index t.blocks n) (sym exit_row_is) ∙ eqb-true _ _ (and_parts (slice_index t.blocks (at / t.size) == slice_index s.blocks exit.slot) (reaches at (h.slot * s.size + offset)) can).0

      tidy : Tidy t
      tidy = tidy_of t vs h.words h.stands.serves

      could_link : can_link t at (slice_index s.blocks exit.slot) (h.slot * s.size + offset) ≡ true →
          (is_placed (kept_by t) exit.block && reaches (first_of (kept_by t) exit.block + exit.offset) (first_of (kept_by t) block + offset)) ≡ true
      could_link can =
          let key : slice_index t.blocks exit.slot ≡ key_of t.turn exit.block = home_stays can ∙ exit.key ∙ ap (λ (p : ℕ). key_of p exit.block) (sym arr.turn_stays) in
          let home : first_of (kept_by t) exit.block ≡ exit.slot * t.size = first_of_slot t exit.slot exit.block tidy exit_filled exit.small key in
          let first : first_of (kept_by t) block ≡ h.slot * s.size = first_of_slot t h.slot block tidy arr.filled arr.small (arr.stands ∙ ap (λ (p : ℕ). key_of p block) (sym arr.turn_stays)) ∙ ap (λ (n : ℕ). h.slot * n) arr.size_stays in
          and_true (is_placed (kept_by t) exit.block) (reaches (first_of (kept_by t) exit.block + exit.offset) (first_of (kept_by t) block + offset))
          (slot_is_placed t exit.slot exit.block h.stands.serves.shape exit_filled exit.small key)
          (ap (λ (n : ℕ). reaches (n + exit.offset) (first_of (kept_by t) block + offset)) home ∙ ap (λ (n : ℕ). reaches n (first_of (kept_by t) block + offset)) (sym at_is) ∙ ap (λ (n : ℕ). reaches at (n + offset)) first
          ∙ (and_parts (slice_index t.blocks (at / t.size) == slice_index s.blocks exit.slot) (reaches at (h.slot * s.size + offset)) can).1)

      refused_by : (c'' : Chip) → StandsFor t vs h.words h.lists c'' → CountsRefused true c' c'' → can_link t at (slice_index s.blocks exit.slot) (h.slot * s.size + offset) ≡ true → c'.most ≤ slice_index c'.links.now h.slot →
          (answer : ℕ) → answer ≡ address_of c'' (h.slot * s.size + offset) → ChipServed s vs (direct exit.block exit.offset target) answer c c''
      refused_by c'' stands counted can full answer answer_is =
          let made : (fifo by (kept_by s) v (direct exit.block exit.offset target)).counts.links ≡ (kept_by s).counts.links + 1 =
          ap (λ (r : Record). r.counts.links) (direct_is by (kept_by s) v exit.block exit.offset target (block, offset) exit.unlinked is)
          ∙ ap (λ (r : Record). (linked with_link r exit.block exit.offset (block, offset)).counts.links) (sym entry_moves)
          ∙ linked_counts (kept_by t) exit.block exit.offset (block, offset) (could_link can) ∙ ap (λ (n : ℕ). n + 1) links_stay in
          let refused = refused_when c.most by (kept_by s) v (direct exit.block exit.offset target) made (has_none full) in
          let e = entered vs s t block offset h.slot target (any_ram ram) b arr is in
          record {
            next = t;
            words = h.words;
            lists = h.lists;
            stands = stands;
            setting = setting_by t arr.slots_stay arr.size_stays arr.programs_stay;
            moves = entry_moves ∙ sym (few_entry c.most by (kept_by s) v (direct exit.block exit.offset target) refused);
            bound = subst (λ (q : Bool). CountsRefused q c c'') (sym refused) (counts_refused true c'' counted);
            answers = subst (λ (p : Option (ℕ × ℕ)). AnswersAt p s t (vs s.turn) c'' target answer) (sym is) (h.slot * s.size + offset, answer_is, e.answer);
          }

      refused_at : (c'' : Chip) → StandsFor t vs h.words h.lists c'' → CountsRefused true c' c'' → can_link t at (slice_index s.blocks exit.slot) (h.slot * s.size + offset) ≡ true → c'.most ≤ slice_index c'.links.now h.slot →
          (bl o f : ℕ) → Placed (kept_by s) bl f → o < length_at (vs s.turn) bl → at ≡ f + o → (answer : ℕ) → answer ≡ address_of c'' (h.slot * s.size + offset) → ChipServed s vs (direct bl o target) answer c c''
      refused_at c'' stands counted can full bl o f placed inside at_place answer answer_is =
          let same = exit_same vs s ram at target bl o f k.serves exit placed inside at_place in
          subst (λ (n : ℕ). ChipServed s vs (direct bl n target) answer c c'') same.1 (subst (λ (n : ℕ). ChipServed s vs (direct n exit.offset target) answer c c'') same.0 (refused_by c'' stands counted can full answer answer_is))

      same_maybe : can_link t at (slice_index s.blocks exit.slot) (h.slot * s.size + offset) ≡ false → served t b
      same_maybe never = record { yes = λ can. absurd (both_ways (can_link t at (slice_index s.blocks exit.slot) (h.slot * s.size + offset)) never can); no = λ _. (refl, refl) }

      link_maybe : (word : ℕ) → IsJump at (h.slot * s.size + offset) word → can_link t at (slice_index s.blocks exit.slot) (h.slot * s.size + offset) ≡ true → served (linked_to t at h.slot) (with_words b (slice_set h.words at word) 1)
      link_maybe word jumps can =
          let fits : at < length h.words = (let f = h.stands.serves.fits in let e = exit_behind in omega (arith, f, e)) in
          record {
            yes = λ _. record {
              slots_are = refl;
              jumps = subst (λ (w : ℕ). IsJump at (h.slot * s.size + offset) w) (sym (get_or-set_same h.words at word 0 fits)) jumps;
              others = λ i ne. get_or-set_other h.words at i word 0 ne ∙ ap (λ (ws : List ℕ). slice_index ws i) (sym b_words);
              wrote = wrote_words b (slice_set h.words at word) (t.slots * t.size) 1 (length-set h.words at word ∙ ap (λ (ws : List ℕ). length ws) (sym b_words))
                  (λ i past. get_or-set_other h.words at i word 0 (λ e. (let l = exit_behind in omega (arith, l, e, past))) ∙ ap (λ (ws : List ℕ). slice_index ws i) (sym b_words));
            };
            no = λ never. absurd (both_ways (can_link t at (slice_index s.blocks exit.slot) (h.slot * s.size + offset)) never can);
          }

      pub crossed_some : (home slot to : ℕ) (c'' : Chip) → home ≡ slice_index c.blocks.now (at / c.size.words) → slot ≡ h.slot → to ≡ h.slot * s.size + offset → LinkedExit h.next vs h.words h.lists at home slot to c' c'' →
          (bl o f : ℕ) → Placed (kept_by s) bl f → o < length_at (vs s.turn) bl → at ≡ f + o →
          (answer : ℕ) → answer ≡ (c''.cache_at + 4 * to) % 2 ^ 32 → c''.cache_at ≡ c'.cache_at → ChipServed s vs (direct bl o target) answer c c''
      crossed_some home slot to c'' home_at slot_is to_is l bl o f placed inside at_place result result_is put =
          let l' : LinkedExit h.next vs h.words h.lists at (slice_index s.blocks exit.slot) h.slot (h.slot * s.size + offset) c' c'' =
          subst (λ (n : ℕ). LinkedExit h.next vs h.words h.lists at n h.slot (h.slot * s.size + offset) c' c'') (home_at ∙ home_is)
          (subst (λ (n : ℕ). LinkedExit h.next vs h.words h.lists at home n (h.slot * s.size + offset) c' c'') slot_is
          (subst (λ (n : ℕ). LinkedExit h.next vs h.words h.lists at home slot n c' c'') to_is l)) in
          let answer : result ≡ address_of c'' (h.slot * s.size + offset) =
          result_is ∙ ap (λ (n : ℕ). (c''.cache_at + 4 * n) % 2 ^ 32) to_is ∙ ap (λ (n : ℕ). (n + 4 * (h.slot * s.size + offset)) % 2 ^ 32) put
          ∙ address_is h.stands (h.slot * s.size + offset) index_low_at ∙ ap (λ (n : ℕ). n + 4 * (h.slot * s.size + offset)) (sym put) in
          elim l' [
            | inl none ↦
                crossed_by t b h.words h.lists c'' (same_maybe none.0) b_words (λ _. none.1) (setting_by t arr.slots_stay arr.size_stays arr.programs_stay) none.2 bl o f placed inside at_place
                (λ moves. none_made c.most by (kept_by s) v (direct bl o target) (sym (ap (λ (r : Record). r.counts.links) moves) ∙ links_stay)) result answer
            | inr some ↦ elim some [
              | inl linked ↦
                  crossed_by (linked_to t at h.slot) (with_words b (slice_set h.words at linked.2.word) 1) (slice_set h.words at linked.2.word) linked.2.lists c'' (link_maybe linked.2.word linked.2.jumps linked.0) refl linked.2.stands
                  (setting_by (linked_to t at h.slot) arr.slots_stay arr.size_stays arr.programs_stay) linked.3 bl o f placed inside at_place
                  (λ moves. some_room c.most by (kept_by s) v (direct bl o target) (has_room linked.1)) result answer
              | inr refused ↦ refused_at c'' refused.2 refused.3 refused.0 refused.1 bl o f placed inside at_place result answer
            ]
          ]

-- ---- the numbers that `cross` reckons with

module _ {s : Slots} {vs : Images} {ram : List ℕ} {block mark : ℕ} {c' : Chip} (h : HasArrived s vs ram block mark c') where
  pub mark_some : 1 ≤ mark
  mark_some = (let m = h.mark_is in omega (arith, m))

  size_stays : c'.size.words ≡ s.size
  size_stays = h.stands.size_is ∙ (h.arrived (any_ram ram) (any_words ram)).2.size_stays

  size_least : 2 ≤ s.size
  size_least = (let arr = (h.arrived (any_ram ram) (any_words ram)).2 in let a = arr.sound.shape.size_least in let b = arr.size_stays in omega (arith, a, b))

  pub size_new : 0 < c'.size.words
  size_new = (let a = size_stays in let b = size_least in omega (arith, a, b))

  pub slot_found : (mark - 1) / c'.size.words ≡ h.slot
  slot_found =
      let first : mark - 1 ≡ h.slot * s.size + 0 = (let m = h.mark_is in omega (arith, m)) in
      ap (λ (n : ℕ). (mark - 1) / n) size_stays ∙ (ap (λ (n : ℕ). n / s.size) first ∙ (word_slot s h.slot 0 (let l = size_least in omega (arith, l))).0)

  pub place_found : (offset : ℕ) → mark - 1 + offset ≡ h.slot * s.size + offset
  place_found offset = (let m = h.mark_is in omega (arith, m))

  pub place_few : mark - 1 < 2 ^ 16
  place_few = (let m = mark_low h mark refl in omega (arith, m))
