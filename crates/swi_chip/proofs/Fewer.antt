-- A service with one link less into the slot that is filled next: it serves the same images, and a block that stands in no slot arrives as
-- it would have before.
use Rattle.std.proofs.Common.{◌≡◌, ◌==◌, ◌+◌, ◌*◌, ◌/◌, ◌<◌, ◌≤◌, ◌%◌, ◌&&◌, ◌||◌, ◌⊎◌, ℕ, zero, suc, Bool, true, false, not, nat_lt, if◌then◌else◌, List, ◌∷◌, filter, length, slice_index, slice_set, Option, Some, None, arith, refl, sym, ◌∙◌, ap, subst, inl, inr}
use Rattle.std.proofs.lemmas.Bool.{and_from, and_parts, both_ways, cases_eq, eq-eqb, le-ltb, lt-ltb, ne_eqb}
use Rattle.std.proofs.lemmas.List.{length-set, get_or-set_same, get_or-set_other}
use Rattle.swi_image.specs.Format.{ImageData}
use Rattle.swi_image.specs.Place.{place_of}
use Rattle.swi_rom.specs.Collected.{add_link, collected, filter_ascending, has_filter, length_with_all, passes}
use Rattle.swi_rom.specs.Links.{among_has, has_among, same_ascending, same_tests}
use Rattle.swi_rom.specs.Policy.{counted, evicted, is_from, is_kept, is_over_link, is_placed, is_undone, leads_to, linked_over, served_by, went, with_link}
use Rattle.swi_rom.specs.Record.{IsJump, Link, Placement, Record, Transfer, ebreak, exit_among, has_link, indirect, target_of}
use Rattle.swi_rom.specs.Service.{Setting}
use Rattle.swi_slots.specs.Coheres.{length_most, tidy_of}
use Rattle.swi_slots.specs.Fifo.{appended, arrived, fifo}
use Rattle.swi_slots.specs.Keys.{Images, goes, key_of, number_of, owner_of, word_in, words_in}
use Rattle.swi_slots.specs.Queue.{length_queue, queue_full}
use Rattle.swi_slots.specs.SlotLinks.{link_here, link_of, linked_word, links_ascending, word_linked}
use Rattle.swi_slots.specs.Slots.{InShape, Slots, kept_by, link_at, links_of, queue_of, setting_of}
use Rattle.swi_slots.specs.Sound.{LinkStands, SlotsServe}
use Rattle.swi_slots.specs.Steps.{IsAbsent, leading_in, leads_in}
use Rattle.swi_slots.specs.Tells.{leads_tells, none_tells, own_tells}
use Rattle.swi_slots.proofs.Arriving.{absent_not_placed}
use Rattle.swi_slots.proofs.MissLinks.{entry, leads_at, undone_count}
use Rattle.swi_chip.specs.Bounded.{fifo_few, has_most, is_refused}
use Rattle.swi_chip.specs.Service.{with_links}

-- ---- of how many numbers a test holds, where it fails for one that it held for

abbrev count : (ℕ → Bool) → ℕ → ℕ
count q zero = 0
count q (suc n) = if q n then count q n + 1 else count q n

count_alike : (q r : ℕ → Bool) (n : ℕ) → ((i : ℕ) → i < n → q i ≡ r i) → count q n ≡ count r n
count_alike q r zero same = refl
count_alike q r (suc n) same = rw (same n (omega arith), count_alike q r n (λ i lt. same i (omega (arith, lt)))) refl

count_less : (q r : ℕ → Bool) (n at : ℕ) → at < n → q at ≡ true → r at ≡ false → ((i : ℕ) → i < n → (i ≡ at → ⊥) → q i ≡ r i) → count q n ≡ count r n + 1
count_less q r zero at lt holds never same = absurd (omega (arith, lt))
count_less q r (suc n) at lt holds never same = elim (cases_eq at n) [
  | inl e ↦
      let holds' : q n ≡ true = subst (λ (i : ℕ). q i ≡ true) e holds in
      let never' : r n ≡ false = subst (λ (i : ℕ). r i ≡ false) e never in
      let rest : count q n ≡ count r n = count_alike q r n (λ i low. same i (omega (arith, low)) (λ z. omega (arith, z, e, low))) in
      rw (holds', never', rest) refl
  | inr ne ↦ step (q n) (r n) (same n (omega arith) (λ z. ne (sym z))) (count_less q r n at (omega (arith, lt, ne)) holds never (λ i low. same i (omega (arith, low))))
]
  where
    step : (x y : Bool) → x ≡ y → count q n ≡ count r n + 1 → (if x then count q n + 1 else count q n) ≡ (if y then count r n + 1 else count r n) + 1
    step true true e f = omega (arith, f)
    step false false e f = f
    step true false e f = absurd (cc)
    step false true e f = absurd (cc)

leading_count : (size slot n : ℕ) (targets : List ℕ) → leading_in size slot targets n ≡ count (leads_in size slot targets) n
unfolding leading_in
leading_count size slot zero targets = refl
leading_count size slot (suc n) targets = rw (leading_count size slot n targets) refl

collected_count : (f : ℕ → Option Link) (n : ℕ) → length (collected f n) ≡ count (λ i. passes (λ l. true) (f i)) n
unfolding collected
collected_count f zero = refl
collected_count f (suc n) = added (f n) (collected f n) (count (λ i. passes (λ l. true) (f i)) n) (collected_count f n)
  where
    added : (o : Option Link) (ls : List Link) (m : ℕ) → length ls ≡ m → length (add_link o ls) ≡ (if passes (λ l. true) o then m + 1 else m)
    added None ls m e = e
    added (Some l) ls m e = length_with_all l ls ∙ ap (λ (k : ℕ). k + 1) e

-- ---- the policy

abbrev with_record : Record → List Link → ℕ → Record
with_record r ls u = record r { links = ls; counts = record r.counts { unlinks = u } }

evicted_alike : (r : Record) (ls ks : List Link) (u w : ℕ) (e : Placement) (es : List Placement) → r.placed ≡ e ∷ es → filter (is_kept e) ls ≡ filter (is_kept e) ks →
    u + length (filter (is_undone e) ls) ≡ w + length (filter (is_undone e) ks) → evicted (counted (with_record r ls u)) r.placed ≡ evicted (counted (with_record r ks w)) r.placed
unfolding evicted counted
evicted_alike r ls ks u w e es is kept number = rw (is, kept, number) refl

arrived_full : (by : Setting) (v : ImageData) (r : Record) (b : ℕ) → is_placed r b ≡ false → nat_lt (length r.placed) by.slots ≡ false → arrived by v r b ≡ appended by v (evicted r r.placed) b
unfolding arrived
arrived_full by v r b absent full = rw (absent, full) refl

placed_counted : (r : Record) (ls : List Link) (u b : ℕ) → is_placed (counted (with_record r ls u)) b ≡ is_placed r b
unfolding is_placed counted
placed_counted r ls u b = refl

counted_placed : (r : Record) (ls : List Link) (u : ℕ) → (counted (with_record r ls u)).placed ≡ r.placed
unfolding counted
counted_placed r ls u = refl

arrived_alike : (by : Setting) (v : ImageData) (r : Record) (ls ks : List Link) (u w b : ℕ) (e : Placement) (es : List Placement) → is_placed r b ≡ false → nat_lt (length r.placed) by.slots ≡ false →
    r.placed ≡ e ∷ es → filter (is_kept e) ls ≡ filter (is_kept e) ks → u + length (filter (is_undone e) ls) ≡ w + length (filter (is_undone e) ks) →
    arrived by v (counted (with_record r ls u)) b ≡ arrived by v (counted (with_record r ks w)) b
arrived_alike by v r ls ks u w b e es absent full is kept number =
    evicts ls u ∙ ap (λ (q : Record). appended by v q b) (evicted_alike r ls ks u w e es is kept number) ∙ sym (evicts ks w)
  where
    evicts : (ms : List Link) (m : ℕ) → arrived by v (counted (with_record r ms m)) b ≡ appended by v (evicted (counted (with_record r ms m)) r.placed) b
    evicts ms m =
        arrived_full by v (counted (with_record r ms m)) b (placed_counted r ms m b ∙ absent)
        (ap (λ (ps : List Placement). nat_lt (length ps) by.slots) (counted_placed r ms m) ∙ full)
        ∙ ap (λ (ps : List Placement). appended by v (evicted (counted (with_record r ms m)) ps) b) (counted_placed r ms m)

-- a transfer over no link comes to the same where its block arrives so
pub moves_alike : (by : Setting) (v : ImageData) (r q : Record) (t : Transfer) (p : ℕ × ℕ) → place_of v (target_of t) ≡ Some p → is_over_link r t ≡ false → is_over_link q t ≡ false →
    arrived by v (counted r) p.0 ≡ arrived by v (counted q) p.0 → fifo by r v t ≡ fifo by q v t
unfolding served_by went
moves_alike by v r q t p is over over' same = rw (over, over', is) (ap (λ (x : Record). linked_over with_link x t p) same)

-- and the bound refuses it where it did
pub refused_alike : (most : ℕ) (by : Setting) (v : ImageData) (r q : Record) (t : Transfer) → r.counts.links ≡ q.counts.links → fifo by r v t ≡ fifo by q v t → fifo by r v (indirect (target_of t)) ≡ fifo by q v (indirect (target_of t)) →
    is_refused most by r v t ≡ is_refused most by q v t
unfolding is_refused
refused_alike most by v r q t links one other =
    let p : Option (ℕ × ℕ) = place_of v (target_of t) in
    ap (λ (n : ℕ). nat_lt n (fifo by r v t).counts.links && has_most most (fifo by r v (indirect (target_of t))) p) links
    ∙ ap (λ (x : Record). nat_lt q.counts.links x.counts.links && has_most most (fifo by r v (indirect (target_of t))) p) one
    ∙ ap (λ (x : Record). nat_lt q.counts.links (fifo by q v t).counts.links && has_most most x p) other

pub few_alike : (most : ℕ) (by : Setting) (v : ImageData) (r q : Record) (t : Transfer) → r.counts.links ≡ q.counts.links → fifo by r v t ≡ fifo by q v t → fifo by r v (indirect (target_of t)) ≡ fifo by q v (indirect (target_of t)) →
    fifo_few most by r v t ≡ fifo_few most by q v t
unfolding fifo_few
few_alike most by v r q t links one other =
    ap (λ (x : Bool). if x then fifo by r v (indirect (target_of t)) else fifo by r v t) (refused_alike most by v r q t links one other)
    ∙ ap (λ (x : Record). if is_refused most by q v t then x else fifo by r v t) other
    ∙ ap (λ (x : Record). if is_refused most by q v t then fifo by q v (indirect (target_of t)) else x) one

-- ---- the service

-- the link that a word is, by where it leads
abbrev link_to : Slots → ℕ → ℕ → ℕ → Link
link_to s n o i = record { program = owner_of (slice_index s.blocks n); block = number_of (slice_index s.blocks n); offset = o; into = number_of (slice_index s.blocks i) }

link_same : (s : Slots) (n o i j : ℕ) → i ≡ j → link_to s n o i ≡ link_to s n o j
link_same s n o i j e = ap (λ (k : ℕ). link_to s n o k) e

module _ {s : Slots} {vs : Images} {ram : List ℕ} (serves : SlotsServe s vs ram) (at : ℕ) (low : at < s.slots * s.size) (led : slice_index s.targets at ≡ s.next) where
  abbrev targets' : List ℕ
  targets' = slice_set s.targets at s.slots

  -- what is counted: an own link isn't
  abbrev lost : ℕ
  lost = if at / s.size == s.next then 0 else 1

  abbrev pub unlinked : Slots
  unlinked = with_links s targets' (s.counts.unlinks + lost)

  abbrev pub unlinked_ram : List ℕ
  unlinked_ram = slice_set ram at ebreak

  pub was_linked : slice_index s.targets at < s.slots
  was_linked = (let b = serves.shape.next_below in omega (arith, led, b))

  pub target_here : slice_index targets' at ≡ s.slots
  target_here = get_or-set_same s.targets at s.slots 0 (let l = serves.shape.targets_long in omega (arith, l, low))

  pub target_other : (i : ℕ) → (i ≡ at → ⊥) → slice_index targets' i ≡ slice_index s.targets i
  target_other i ne = get_or-set_other s.targets at i s.slots 0 ne

  pub still_linked : (i : ℕ) → slice_index targets' i < s.slots → i ≡ at → ⊥
  still_linked i lt e = (let h = target_here in let g = ap (λ (j : ℕ). slice_index targets' j) e in omega (arith, h, g, lt))

  pub was_target : (i : ℕ) → slice_index targets' i < s.slots → slice_index s.targets i < s.slots
  was_target i lt = (let o = target_other i (still_linked i lt) in omega (arith, o, lt))

  pub word_other : (i : ℕ) → (i ≡ at → ⊥) → slice_index unlinked_ram i ≡ slice_index ram i
  word_other i ne = get_or-set_other ram at i ebreak 0 ne

  pub word_here : slice_index unlinked_ram at ≡ ebreak
  word_here = get_or-set_same ram at ebreak 0 (let f = serves.fits in omega (arith, f, low))

  -- the links
  link_other : (i : ℕ) → (i ≡ at → ⊥) → link_at unlinked i ≡ link_at s i
  unfolding link_at
  link_other i ne =
      ap (λ (j : ℕ). if nat_lt j s.slots
      then Some (let l : Link = record {
        program = owner_of (slice_index s.blocks (i / s.size));
        block = number_of (slice_index s.blocks (i / s.size));
        offset = i % s.size;
        into = number_of (slice_index s.blocks j);
      } in l)
      else None) (target_other i ne)

  link_there : link_at s at ≡ Some (link_here s at)
  unfolding link_at
  link_there = rw (lt-ltb (slice_index s.targets at) s.slots was_linked) refl

  link_gone : link_at unlinked at ≡ None
  unfolding link_at
  link_gone = rw (le-ltb (slice_index targets' at) s.slots (let h = target_here in omega (arith, h))) refl

  links_less : length (links_of s) ≡ length (links_of unlinked) + 1
  unfolding links_of
  links_less =
      collected_count (link_at s) (s.slots * s.size)
      ∙ count_less (λ i. passes (λ l. true) (link_at s i)) (λ i. passes (λ l. true) (link_at unlinked i)) (s.slots * s.size) at low
      (ap (passes (λ l. true)) link_there) (ap (passes (λ l. true)) link_gone) (λ i lt ne. ap (passes (λ l. true)) (sym (link_other i ne)))
      ∙ ap (λ (n : ℕ). n + 1) (sym (collected_count (link_at unlinked) (s.slots * s.size)))

  shape' : InShape unlinked
  shape' = (let h = serves.shape in record {
    some_slot = h.some_slot;
    size_least = h.size_least;
    size_most = h.size_most;
    words_few = h.words_few;
    turn_below = h.turn_below;
    programs_most = h.programs_most;
    next_below = h.next_below;
    filled_most = h.filled_most;
    blocks_long = h.blocks_long;
    lengths_long = h.lengths_long;
    targets_long = length-set s.targets at s.slots ∙ h.targets_long;
    next_is = h.next_is;
    filled_is = h.filled_is;
  })

  linked_on : (n o : ℕ) → n < s.filled → o < s.size → slice_index targets' (n * s.size + o) < s.slots → LinkStands unlinked vs unlinked_ram n o
  linked_on n o lt lt' is =
      let i : ℕ = n * s.size + o in
      let ne = still_linked (n * s.size + o) is in
      let same : slice_index targets' (n * s.size + o) ≡ slice_index s.targets (n * s.size + o) = target_other (n * s.size + o) ne in
      let l = serves.linked n o lt lt' (was_target (n * s.size + o) is) in
      record {
        is_exit = l.is_exit;
        target = subst (λ (j : ℕ). j < s.filled) (sym same) l.target;
        offset = l.offset;
        place_is = subst (λ (j : ℕ). goes vs (slice_index s.blocks n) (word_in vs (slice_index s.blocks n) (o + 1)) ≡ Some (slice_index s.blocks j, l.offset)) (sym same) l.place_is;
        jumps = subst (λ (w : ℕ). IsJump (n * s.size + o) (slice_index targets' (n * s.size + o) * s.size + l.offset) w) (sym (word_other (n * s.size + o) ne))
            (subst (λ (j : ℕ). IsJump (n * s.size + o) (j * s.size + l.offset) (slice_index ram (n * s.size + o))) (sym same) l.jumps);
      }

  plain_on : (n o : ℕ) → n < s.filled → o < words_in vs (slice_index s.blocks n) → s.slots ≤ slice_index targets' (n * s.size + o) → slice_index unlinked_ram (n * s.size + o) ≡ word_in vs (slice_index s.blocks n) o
  plain_on n o lt inside free = elim (cases_eq (n * s.size + o) at) [
    | inl e ↦
        let small : o < s.size = (let m = length_most s vs ram n serves lt in omega (arith, inside, m)) in
        let l = serves.linked n o lt small (subst (λ (i : ℕ). slice_index s.targets i < s.slots) (sym e) was_linked) in
        ap (λ (i : ℕ). slice_index unlinked_ram i) e ∙ (word_here ∙ sym l.is_exit.leaves)
    | inr ne ↦ word_other (n * s.size + o) ne ∙ serves.plain n o lt inside (let t = target_other (n * s.size + o) ne in omega (arith, t, free))
  ]

  pub unlinked_serves : SlotsServe unlinked vs unlinked_ram
  unlinked_serves = record {
    shape = shape';
    images = serves.images;
    size_most = serves.size_most;
    fits = (let f = serves.fits in let l = length-set ram at ebreak in omega (arith, f, l));
    distinct = serves.distinct;
    known = serves.known;
    lengths_are = serves.lengths_are;
    stands = λ i lt is. serves.stands i lt (was_target i is);
    linked = linked_on;
    plain = plain_on;
    misses_few = serves.misses_few;
    evictions_few = serves.evictions_few;
    copied_few = serves.copied_few;
    links_few = serves.links_few;
    unlinks_few = few (at / s.size == s.next) serves.unlinks_few links_less;
  }
    where
      few : (own : Bool) → s.counts.unlinks + length (links_of s) ≤ s.counts.links → length (links_of s) ≡ length (links_of unlinked) + 1 → s.counts.unlinks + (if own then 0 else 1) + length (links_of unlinked) ≤ s.counts.links
      few true a b = omega (arith, a, b)
      few false a b = omega (arith, a, b)

  -- the links that are left are among those that were
  link_was : (k : Link) → has_link (links_of unlinked) k ≡ true → has_link (links_of s) k ≡ true
  link_was k h =
      let w = linked_word unlinked k (tidy_of unlinked vs unlinked_ram unlinked_serves) h in
      let same : slice_index targets' (w.0 * s.size + w.1) ≡ slice_index s.targets (w.0 * s.size + w.1) = target_other (w.0 * s.size + w.1) (still_linked (w.0 * s.size + w.1) w.5) in
      let is : link_of s w.0 w.1 ≡ k = link_same s w.0 w.1 (slice_index s.targets (w.0 * s.size + w.1)) (slice_index targets' (w.0 * s.size + w.1)) (sym same) ∙ w.4 in
      subst (λ (l : Link). has_link (links_of s) l ≡ true) is
      (word_linked s w.0 w.1 serves.shape (let a = w.2 in let b = serves.shape.filled_most in omega (arith, a, b)) w.3 (was_target (w.0 * s.size + w.1) w.5))

  pub exits_were : (p b o : ℕ) → exit_among (links_of unlinked) p b o ≡ true → exit_among (links_of s) p b o ≡ true
  exits_were p b o h =
      let w = among_has (links_of unlinked) p b o h in
      subst (λ (x : ℕ). exit_among (links_of s) x b o ≡ true) w.program
      (subst (λ (x : ℕ). exit_among (links_of s) w.link.program x o ≡ true) w.block
      (subst (λ (x : ℕ). exit_among (links_of s) w.link.program w.link.block x ≡ true) w.offset (has_among (links_of s) w.link (link_was w.link w.has))))

  module _ (full : s.slots ≤ s.filled) where
    -- a link into the slot leaves with its block
    never_kept : (n o : ℕ) → n < s.filled → o < s.size → slice_index s.targets (n * s.size + o) < s.slots → slice_index s.targets (n * s.size + o) ≡ s.next → is_kept (entry s s.next) (link_of s n o) ≡ true → ⊥
    unfolding is_kept
    never_kept n o lt lt' is next kept =
        let leads : leads_to (entry s s.next) (link_of s n o) ≡ true = leads_at s vs ram n o s.next serves (serves.linked n o lt lt' is) ∙ eq-eqb _ _ (ap (λ (i : ℕ). slice_index s.blocks i) next) in
        both_ways (leads_to (entry s s.next) (link_of s n o)) (kept_out (is_from (entry s s.next) (link_of s n o)) (leads_to (entry s s.next) (link_of s n o)) kept) leads
      where
        kept_out : (x y : Bool) → not (x || y) ≡ true → y ≡ false
        kept_out true y e = absurd (both_ways false refl e)
        kept_out false true e = absurd (both_ways false refl e)
        kept_out false false e = refl

    -- and all that lead elsewhere are left
    link_stays : (k : Link) → has_link (links_of s) k ≡ true → is_kept (entry s s.next) k ≡ true → has_link (links_of unlinked) k ≡ true
    link_stays k h kept =
        let w = linked_word s k (tidy_of s vs ram serves) h in
        let ne : w.0 * s.size + w.1 ≡ at → ⊥ = λ e. never_kept w.0 w.1 w.2 w.3 w.5 (ap (λ (i : ℕ). slice_index s.targets i) e ∙ led) (subst (λ (l : Link). is_kept (entry s s.next) l ≡ true) (sym w.4) kept) in
        let same : slice_index targets' (w.0 * s.size + w.1) ≡ slice_index s.targets (w.0 * s.size + w.1) = target_other (w.0 * s.size + w.1) ne in
        let is : link_of unlinked w.0 w.1 ≡ k = link_same s w.0 w.1 (slice_index targets' (w.0 * s.size + w.1)) (slice_index s.targets (w.0 * s.size + w.1)) same ∙ w.4 in
        subst (λ (l : Link). has_link (links_of unlinked) l ≡ true) is
        (word_linked unlinked w.0 w.1 shape' (let a = w.2 in let b = serves.shape.filled_most in omega (arith, a, b)) w.3 (let t = w.5 in omega (arith, same, t)))

    kept_same : filter (is_kept (entry s s.next)) (links_of unlinked) ≡ filter (is_kept (entry s s.next)) (links_of s)
    kept_same =
        let p : Link → Bool = is_kept (entry s s.next) in
        same_ascending _ _ (filter_ascending p (links_of unlinked) (links_ascending unlinked (tidy_of unlinked vs unlinked_ram unlinked_serves)))
        (filter_ascending p (links_of s) (links_ascending s (tidy_of s vs ram serves)))
        (λ k. has_filter p (links_of unlinked) k ∙ same_tests _ _
        (λ h. let q = and_parts _ _ h in and_from _ _ (link_was k q.0) q.1)
        (λ h. let q = and_parts _ _ h in and_from _ _ (link_stays k q.0 q.1) q.1)
        ∙ sym (has_filter p (links_of s) k))

    leading_less : leading_in s.size s.next s.targets (s.slots * s.size) ≡ leading_in s.size s.next targets' (s.slots * s.size) + lost
    leading_less =
        leading_count s.size s.next (s.slots * s.size) s.targets ∙ (counts_less (cases_eq (at / s.size) s.next) ∙ ap (λ (n : ℕ). n + lost) (sym (leading_count s.size s.next (s.slots * s.size) targets')))
      where
        others : (i : ℕ) → (i ≡ at → ⊥) → leads_in s.size s.next s.targets i ≡ leads_in s.size s.next targets' i
        others i ne = ap (λ (j : ℕ). j == s.next && not (i / s.size == s.next)) (sym (target_other i ne))

        own_alike : at / s.size ≡ s.next → (i : ℕ) → leads_in s.size s.next s.targets i ≡ leads_in s.size s.next targets' i
        own_alike own i = elim (cases_eq i at) [
          | inl e ↦ subst (λ (j : ℕ). leads_in s.size s.next s.targets j ≡ leads_in s.size s.next targets' j) (sym e) ((own_tells s.size s.next at s.targets own).1 ∙ sym (own_tells s.size s.next at targets' own).1)
          | inr ne ↦ others i ne
        ]

        counts_less : (at / s.size ≡ s.next) ⊎ (at / s.size ≡ s.next → ⊥) → count (leads_in s.size s.next s.targets) (s.slots * s.size) ≡ count (leads_in s.size s.next targets') (s.slots * s.size) + lost
        counts_less (inl own) =
            let none : lost ≡ 0 = ap (λ (t : Bool). if t then 0 else 1) (eq-eqb _ _ own) in
            let same = count_alike (leads_in s.size s.next s.targets) (leads_in s.size s.next targets') (s.slots * s.size) (λ i lt. own_alike own i) in
            omega (arith, none, same)
        counts_less (inr ne) =
            let one : lost ≡ 1 = ap (λ (t : Bool). if t then 0 else 1) (ne_eqb _ _ ne) in
            let less = count_less (leads_in s.size s.next s.targets) (leads_in s.size s.next targets') (s.slots * s.size) at low (leads_tells s.size s.next at s.targets ne led).1
            (none_tells s.size s.next at targets' ne (λ e. (let h = target_here in let b = serves.shape.next_below in omega (arith, h, e, b)))).1 (λ i lt other. others i other) in
            omega (arith, one, less)

    number_same : s.counts.unlinks + lost + length (filter (is_undone (entry s s.next)) (links_of unlinked)) ≡ s.counts.unlinks + length (filter (is_undone (entry s s.next)) (links_of s))
    number_same =
        let a : leading_in s.size s.next s.targets (s.slots * s.size) ≡ length (filter (is_undone (entry s s.next)) (links_of s)) = undone_count s vs ram serves full in
        let b : leading_in s.size s.next targets' (s.slots * s.size) ≡ length (filter (is_undone (entry s s.next)) (links_of unlinked)) = undone_count unlinked vs unlinked_ram unlinked_serves full in
        let c = leading_less in
        omega (arith, a, b, c)

    unlinked_kept : kept_by unlinked ≡ with_record (kept_by s) (links_of unlinked) (s.counts.unlinks + lost)
    unfolding queue_of
    unlinked_kept = refl

    pub arrives_alike : (v : ImageData) (b : ℕ) → IsAbsent s (key_of s.turn b) → arrived (setting_of s) v (counted (kept_by unlinked)) b ≡ arrived (setting_of s) v (counted (kept_by s)) b
    arrives_alike v b absent =
        let old = queue_full s 0 0 serves.shape full in
        ap (λ (r : Record). arrived (setting_of s) v (counted r) b) unlinked_kept
        ∙ arrived_alike (setting_of s) v (kept_by s) (links_of unlinked) (links_of s) (s.counts.unlinks + lost) s.counts.unlinks b (entry s s.next) old.0 (absent_not_placed s b serves.shape absent)
        (le-ltb _ _ (let l = length_queue s serves.shape in omega (arith, full, l))) old.1 kept_same number_same
