-- What a bound on the links into a block refuses.
use Rattle.std.proofs.Common.{◌≡◌, ℕ, zero, suc, ◌+◌, ◌*◌, ◌/◌, ◌%◌, ◌<◌, ◌≤◌, ◌==◌, ◌&&◌, Bool, true, false, List, [], ◌∷◌, length, filter, cond, nat_le, nat_lt, slice_index, Option, Some, None, if◌then◌else◌, arith, refl, sym, ◌∙◌, ap, subst, inl, inr}
use Rattle.std.proofs.lemmas.Bool.{and_left, cases_Bool, cases_lt, both_ways, cases_eq, ltb-true}
use Rattle.std.proofs.lemmas.Bool.Decides.{nat_tests}
use Rattle.swi_image.specs.Format.{ImageData}
use Rattle.swi_image.specs.Place.{place_of}
use Rattle.std.proofs.lemmas.Nat.{row_fits}
use Rattle.swi_rom.specs.Coherent.{IsExit}
use Rattle.swi_rom.specs.Collected.{collected, length_collected, length_with, passes, passing}
use Rattle.swi_rom.specs.Policy.{counted, evicted, first_of, is_kept, is_placed, linked, served_by, served_outside, served_over_link, went, with_link}
use Rattle.swi_rom.specs.Record.{Link, Placement, Record, Transfer, direct, indirect, is_linked, reaches, target_of}
use Rattle.swi_rom.specs.Service.{Setting}
use Rattle.swi_slots.specs.Fifo.{appended, arrived, fifo}
use Rattle.swi_slots.specs.Coheres.{length_most, slot_within}
use Rattle.swi_slots.specs.Keys.{Images, number_of, owner_of, words_in}
use Rattle.swi_slots.specs.SlotLinks.{link_here, word_is}
use Rattle.swi_slots.specs.Slots.{Slots, kept_by, link_at, links_of, setting_of}
use Rattle.swi_slots.specs.Sound.{LinkStands, SlotsServe}
use Rattle.swi_slots.proofs.Policy.{arrived_forward}
use Rattle.swi_chip.specs.Bounded.{BoundsNothing, IsBounded, KeepsBound, fifo_few, has_most, is_refused, leading_into}

-- ---- where nothing is refused

no_and : (x y : Bool) → y ≡ false → (x && y) ≡ false
no_and true y e = e
no_and false y e = refl

not_below : (m n : ℕ) → n ≡ m → nat_lt m n ≡ false
not_below m n e = grind (arith, nat_tests)

-- no link is made
pub none_made : (most : ℕ) (by : Setting) (r : Record) (v : ImageData) (t : Transfer) → (fifo by r v t).counts.links ≡ r.counts.links → is_refused most by r v t ≡ false
unfolding is_refused
none_made most by r v t same = and_left _ _ (not_below _ _ same)

-- or the target's block has room for one
pub some_room : (most : ℕ) (by : Setting) (r : Record) (v : ImageData) (t : Transfer) → has_most most (fifo by r v (indirect (target_of t))) (place_of v (target_of t)) ≡ false → is_refused most by r v t ≡ false
unfolding is_refused
some_room most by r v t room = no_and _ _ room

pub few_fifo : (most : ℕ) (by : Setting) (r : Record) (v : ImageData) (t : Transfer) → is_refused most by r v t ≡ false → fifo_few most by r v t ≡ fifo by r v t
unfolding fifo_few
few_fifo most by r v t e = rw e refl

pub few_entry : (most : ℕ) (by : Setting) (r : Record) (v : ImageData) (t : Transfer) → is_refused most by r v t ≡ true → fifo_few most by r v t ≡ fifo by r v (indirect (target_of t))
unfolding fifo_few
few_entry most by r v t e = rw e refl

went_links : (by : Setting) (v : ImageData) (r : Record) (target : ℕ) (p : Option (ℕ × ℕ)) → (went arrived with_link by v r (indirect target) p).counts.links ≡ r.counts.links
unfolding went counted
went_links by v r target None = refl
went_links by v r target (Some p) = (arrived_forward by v (counted r) p.0).made

-- a jump over a register makes no link
pub entry_links : (by : Setting) (r : Record) (v : ImageData) (target : ℕ) → (fifo by r v (indirect target)).counts.links ≡ r.counts.links
unfolding served_by
entry_links by r v target = went_links by v r target (place_of v target)

pub entry_not : (most : ℕ) (by : Setting) (r : Record) (v : ImageData) (target : ℕ) → is_refused most by r v (indirect target) ≡ false
entry_not most by r v target = none_made most by r v (indirect target) (entry_links by r v target)

-- nor a transfer to no text word
pub outside_not : (most : ℕ) (by : Setting) (r : Record) (v : ImageData) (t : Transfer) → place_of v (target_of t) ≡ None → is_refused most by r v t ≡ false
outside_not most by r v t none = none_made most by r v t (ap (λ (q : Record). q.counts.links) (served_outside arrived with_link by r v t none))

pub few_outside : (most : ℕ) (by : Setting) (r : Record) (v : ImageData) (t : Transfer) → place_of v (target_of t) ≡ None → fifo_few most by r v t ≡ r
few_outside most by r v t none = few_fifo most by r v t (outside_not most by r v t none) ∙ served_outside arrived with_link by r v t none

-- nor one over a link
pub few_over_link : (most : ℕ) (by : Setting) (r : Record) (v : ImageData) (b o t : ℕ) → is_linked r b o ≡ true → fifo_few most by r v (direct b o t) ≡ r
few_over_link most by r v b o t over =
    let same = served_over_link arrived with_link by r v b o t over in
    few_fifo most by r v (direct b o t) (none_made most by r v (direct b o t) (ap (λ (q : Record). q.counts.links) same)) ∙ same

-- ---- where it is

pub refused_when : (most : ℕ) (by : Setting) (r : Record) (v : ImageData) (t : Transfer) → (fifo by r v t).counts.links ≡ r.counts.links + 1 →
    has_most most (fifo by r v (indirect (target_of t))) (place_of v (target_of t)) ≡ true → is_refused most by r v t ≡ true
unfolding is_refused
refused_when most by r v t more full = both _ _ (below _ _ more) full
  where
    below : (m n : ℕ) → n ≡ m + 1 → nat_lt m n ≡ true
    below m n e = grind (arith, nat_tests)

    both : (x y : Bool) → x ≡ true → y ≡ true → (x && y) ≡ true
    both true y e f = f
    both false y e f = e

-- ---- no more links lead into a block

fewer_kept : (p q : Link → Bool) (ls : List Link) → length (filter p (filter q ls)) ≤ length (filter p ls)
fewer_kept p q [] = omega arith
fewer_kept p q (l ∷ ls) = step (q l) (fewer_kept p q ls)
  where
    heads : (x : Bool) (ps ms : List Link) → length ps ≤ length ms → length (cond x (l ∷ ps) ps) ≤ length (cond x (l ∷ ms) ms)
    heads true ps ms le = omega (arith, le)
    heads false ps ms le = le

    tails : (x : Bool) (ps ms : List Link) → length ps ≤ length ms → length ps ≤ length (cond x (l ∷ ms) ms)
    tails true ps ms le = omega (arith, le)
    tails false ps ms le = le

    step : (x : Bool) → length (filter p (filter q ls)) ≤ length (filter p ls) → length (filter p (cond x (l ∷ filter q ls) (filter q ls))) ≤ length (filter p (l ∷ ls))
    step true le = heads (p l) (filter p (filter q ls)) (filter p ls) le
    step false le = tails (p l) (filter p (filter q ls)) (filter p ls) le

evicted_fewer : (r : Record) (es : List Placement) (d : ℕ) → leading_into (evicted r es) d ≤ leading_into r d
unfolding evicted
evicted_fewer r [] d = omega arith
evicted_fewer r (e ∷ es) d = fewer_kept (λ (l : Link). l.program == r.turn && l.into == d) (is_kept e) r.links

room_fewer : (t : Bool) (r : Record) (d : ℕ) → leading_into (if t then r else evicted r r.placed) d ≤ leading_into r d
room_fewer true r d = omega arith
room_fewer false r d = evicted_fewer r r.placed d

arrived_fewer : (by : Setting) (v : ImageData) (r : Record) (c d : ℕ) → leading_into (arrived by v r c) d ≤ leading_into r d
unfolding arrived appended
arrived_fewer by v r c d = ways (is_placed r c)
  where
    ways : (t : Bool) → leading_into (if t then r else appended by v (if nat_lt (length r.placed) by.slots then r else evicted r r.placed) c) d ≤ leading_into r d
    ways true = omega arith
    ways false = room_fewer (nat_lt (length r.placed) by.slots) r d

counted_fewer : (by : Setting) (v : ImageData) (r : Record) (c d : ℕ) → leading_into (arrived by v (counted r) c) d ≤ leading_into r d
unfolding counted
counted_fewer by v r c d = arrived_fewer by v (counted r) c d

went_fewer : (by : Setting) (v : ImageData) (r : Record) (target : ℕ) (p : Option (ℕ × ℕ)) (d : ℕ) → leading_into (went arrived with_link by v r (indirect target) p) d ≤ leading_into r d
unfolding went
went_fewer by v r target None d = omega arith
went_fewer by v r target (Some p) d = counted_fewer by v r p.0 d

-- an entry brings none
entry_fewer : (by : Setting) (r : Record) (v : ImageData) (target d : ℕ) → leading_into (fifo by r v (indirect target)) d ≤ leading_into r d
unfolding served_by
entry_fewer by r v target d = went_fewer by v r target (place_of v target) d

entry_bounded : (most : ℕ) (by : Setting) (r : Record) (v : ImageData) (target : ℕ) → IsBounded most r → IsBounded most (fifo by r v (indirect target))
entry_bounded most by r v target bound d = (let a = entry_fewer by r v target d in let b = bound d in omega (arith, a, b))

-- a link is one more into its target's block
abbrev made : Record → ℕ → ℕ → ℕ → Link
made m b o c = record { program = m.turn; block = b; offset = o; into = c }

abbrev with_made : Record → Link → Record
with_made m k = record m { links = with_link k m.links; counts = record m.counts { links = m.counts.links + 1 } }

linked_bounded : (most : ℕ) (m : Record) (b o : ℕ) (p : ℕ × ℕ) → IsBounded most m → ((linked with_link m b o p).counts.links ≡ m.counts.links + 1 → leading_into m p.0 < most) → IsBounded most (linked with_link m b o p)
unfolding linked
linked_bounded most m b o p bound room d = ways (is_placed m b && reaches (first_of m b + o) (first_of m p.0 + p.1)) room
  where
    below : (q : Bool) (n k : ℕ) → k ≡ (if q then n + 1 else n) → k ≤ n + 1
    below true n k e = omega (arith, e)
    below false n k e = omega (arith, e)

    none : (q : Bool) (n k : ℕ) → q ≡ false → k ≡ (if q then n + 1 else n) → k ≡ n
    none true n k f e = absurd (both_ways true f refl)
    none false n k f e = e

    other : (x y z : ℕ) → (y ≡ z → ⊥) → (x == x && y == z) ≡ false
    other x y z ne = grind (arith, nat_tests)

    ways : (t : Bool) → ((if t then with_made m (made m b o p.0) else m).counts.links ≡ m.counts.links + 1 → leading_into m p.0 < most) → leading_into (if t then with_made m (made m b o p.0) else m) d ≤ most
    ways false some = bound d
    ways true some = elim (cases_eq p.0 d) [
      | inl e ↦ subst (λ (c : ℕ). leading_into (with_made m (made m b o p.0)) c ≤ most) e
          (let a : leading_into (with_made m (made m b o p.0)) p.0 ≤ leading_into m p.0 + 1 =
          below (m.turn == m.turn && p.0 == p.0) (leading_into m p.0) (leading_into (with_made m (made m b o p.0)) p.0) (length_with (λ (l : Link). l.program == m.turn && l.into == p.0) (made m b o p.0) m.links) in
          let less = some refl in
          omega (arith, a, less))
      | inr ne ↦
          let a : leading_into (with_made m (made m b o p.0)) d ≡ leading_into m d =
          none (m.turn == m.turn && p.0 == d) (leading_into m d) (leading_into (with_made m (made m b o p.0)) d) (other m.turn p.0 d ne) (length_with (λ (l : Link). l.program == m.turn && l.into == d) (made m b o p.0) m.links) in
          let le = bound d in
          omega (arith, a, le)
    ]

-- an entry, and a direct transfer to a text word
pub entry_is : (by : Setting) (r : Record) (v : ImageData) (target : ℕ) (p : ℕ × ℕ) → place_of v target ≡ Some p → fifo by r v (indirect target) ≡ arrived by v (counted r) p.0
unfolding served_by went
entry_is by r v target p is = rw is refl

pub direct_is : (by : Setting) (r : Record) (v : ImageData) (b o target : ℕ) (p : ℕ × ℕ) → is_linked r b o ≡ false → place_of v target ≡ Some p →
    fifo by r v (direct b o target) ≡ linked with_link (fifo by r v (indirect target)) b o p
unfolding served_by went
direct_is by r v b o target p free is = rw (free, is) refl

-- one more link is made where the exit's block stands there and a JAL reaches
pub linked_counts : (r : Record) (b o : ℕ) (p : ℕ × ℕ) → (is_placed r b && reaches (first_of r b + o) (first_of r p.0 + p.1)) ≡ true → (linked with_link r b o p).counts.links ≡ r.counts.links + 1
unfolding linked
linked_counts r b o p can = rw can refl

not_refused : (most : ℕ) (by : Setting) (r : Record) (v : ImageData) (b o target : ℕ) (p : ℕ × ℕ) → place_of v target ≡ Some p → is_refused most by r v (direct b o target) ≡ false →
    (fifo by r v (direct b o target)).counts.links ≡ r.counts.links + 1 → leading_into (fifo by r v (indirect target)) p.0 < most
not_refused most by r v b o target p is free more = elim (cases_lt (leading_into (fifo by r v (indirect target)) p.0) most) [
  | inl lt ↦ lt
  | inr le ↦ absurd (both_ways (is_refused most by r v (direct b o target)) free (refused_when most by r v (direct b o target) more (ap (has_most most (fifo by r v (indirect target))) is ∙ at_least _ _ le)))
]
  where
    at_least : (m n : ℕ) → m ≤ n → nat_le m n ≡ true
    at_least m n le = grind (arith, nat_tests)

direct_bounded : (most : ℕ) (by : Setting) (r : Record) (v : ImageData) (b o target : ℕ) → IsBounded most r → is_refused most by r v (direct b o target) ≡ false → IsBounded most (fifo by r v (direct b o target))
direct_bounded most by r v b o target bound free = elim (cases_Bool (is_linked r b o)) [
  | inl over ↦ subst (λ (q : Record). IsBounded most q) (sym (served_over_link arrived with_link by r v b o target over)) bound
  | inr plain ↦ at (place_of v target) refl plain
]
  where
    at : (q : Option (ℕ × ℕ)) → place_of v target ≡ q → is_linked r b o ≡ false → IsBounded most (fifo by r v (direct b o target))
    at None is plain = subst (λ (q : Record). IsBounded most q) (sym (served_outside arrived with_link by r v (direct b o target) is)) bound
    at (Some p) is plain =
        let e = direct_is by r v b o target p plain is in
        subst (λ (q : Record). IsBounded most q) (sym e)
        (linked_bounded most (fifo by r v (indirect target)) b o p (entry_bounded most by r v target bound)
        (λ more. not_refused most by r v b o target p is free (ap (λ (q : Record). q.counts.links) e ∙ more ∙ ap (λ (n : ℕ). n + 1) (entry_links by r v target))))

bounded_by : (most : ℕ) (by : Setting) (r : Record) (v : ImageData) (t : Transfer) → IsBounded most r → is_refused most by r v t ≡ false → IsBounded most (fifo by r v t)
bounded_by most by r v (direct b o target) bound free = direct_bounded most by r v b o target bound free
bounded_by most by r v (indirect target) bound free = entry_bounded most by r v target bound

pub keeps_bound : KeepsBound
keeps_bound most by r v t bound = elim (cases_Bool (is_refused most by r v t)) [
  | inl full ↦ subst (λ (q : Record). IsBounded most q) (sym (few_entry most by r v t full)) (entry_bounded most by r v (target_of t) bound)
  | inr none ↦ subst (λ (q : Record). IsBounded most q) (sym (few_fifo most by r v t none)) (bounded_by most by r v t bound none)
]

-- ---- a bound that is never met

filter_most : (p : Link → Bool) (f : ℕ → Option Link) (n : ℕ) → passing p f n ≤ n
filter_most p f zero = omega arith
filter_most p f (suc n) = step (passes p (f n)) (filter_most p f n)
  where
    step : (q : Bool) → passing p f n ≤ n → (if q then passing p f n + 1 else passing p f n) ≤ suc n
    step true le = omega (arith, le)
    step false le = omega (arith, le)

module _ {s : Slots} {vs : Images} {ram : List ℕ} (serves : SlotsServe s vs ram) where
  abbrev N : ℕ
  N = s.slots * s.size

  some_words : 0 < N
  some_words =
      let a = serves.shape.size_least in let b = serves.shape.some_slot in
      let r = row_fits 0 s.size s.slots s.size (omega (arith, b)) (omega arith) in
      omega (arith, a, r)

  -- behind each link stands its descriptor, so the last word is none
  no_last : (i : ℕ) → i + 1 ≡ N → slice_index s.targets i < s.slots → ⊥
  no_last i last small =
      let p = word_is s i serves.shape in
      let row : i / s.size < s.filled = serves.stands i (omega (arith, last)) small in
      let link : LinkStands s vs ram (i / s.size) (i % s.size) = serves.linked (i / s.size) (i % s.size) row p.1 (subst (λ (j : ℕ). slice_index s.targets j < s.slots) (sym p.0) small) in
      let exit : IsExit (vs (owner_of (slice_index s.blocks (i / s.size)))) (number_of (slice_index s.blocks (i / s.size))) (i % s.size) = link.is_exit in
      let short : words_in vs (slice_index s.blocks (i / s.size)) ≤ s.size = length_most s vs ram (i / s.size) serves row in
      let fits = slot_within s (i / s.size) serves.shape row in
      let inside = exit.inside in
      let whole = p.0 in
      omega (arith, last, short, fits, inside, whole)

  last_none : (i : ℕ) → i + 1 ≡ N → link_at s i ≡ None
  unfolding link_at
  last_none i last = ways (nat_lt (slice_index s.targets i) s.slots) refl
    where
      ways : (t : Bool) → nat_lt (slice_index s.targets i) s.slots ≡ t → (if t then Some (link_here s i) else None) ≡ None
      ways true t = absurd (no_last i last (ltb-true _ _ t))
      ways false t = refl

  few_links : (p : Link → Bool) → length (filter p (links_of s)) < N
  unfolding links_of
  few_links p = at N (length_collected p (link_at s) N) refl some_words
    where
      at : (n : ℕ) → length (filter p (collected (link_at s) N)) ≡ passing p (link_at s) n → n ≡ N → 0 < n → length (filter p (collected (link_at s) N)) < n
      at zero e is some = absurd (omega (arith, some))
      at (suc n) e is some =
          let none : link_at s n ≡ None = last_none n (omega (arith, is)) in
          let less = filter_most p (link_at s) n in
          let drop : passing p (link_at s) (suc n) ≡ passing p (link_at s) n = ap (λ (o : Option Link). if passes p o then passing p (link_at s) n + 1 else passing p (link_at s) n) none in
          omega (arith, e, drop, less)

pub bounds_nothing : BoundsNothing
bounds_nothing most s vs ram t serves le =
    few_fifo most (setting_of s) (kept_by s) (vs s.turn) t (some_room most (setting_of s) (kept_by s) (vs s.turn) t (at (place_of (vs s.turn) (target_of t))))
  where
    below : (m n : ℕ) → n < m → nat_le m n ≡ false
    below m n lt = grind (arith, nat_tests)

    at : (q : Option (ℕ × ℕ)) → has_most most (fifo (setting_of s) (kept_by s) (vs s.turn) (indirect (target_of t))) q ≡ false
    at None = refl
    at (Some p) =
        below most _
        (let a = entry_fewer (setting_of s) (kept_by s) (vs s.turn) (target_of t) p.0 in
        let b = few_links serves (λ (l : Link). l.program == s.turn && l.into == p.0) in
        omega (arith, a, b, le))
