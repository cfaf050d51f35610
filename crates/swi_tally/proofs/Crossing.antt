-- A direct exit is served, and a jump to an address in a block.
use Rattle.std.proofs.Common.{◌≡◌, ℕ, ◌+◌, ◌^◌, ◌<◌, ◌≤◌, ◌==◌, ◌&&◌, ◌||◌, Bool, true, false, List, [], ◌∷◌, length, filter, slice_index, slice_index_or, slice_set, nat_lt, IsTrue, ◌↔◌, Some, if◌then◌else◌, arith, refl, sym, ◌∙◌, ap, subst, inl, inr}
use Rattle.std.proofs.lemmas.Bool.{cases_eq, and_parts, eq-eqb, eqb-true, or_cases, ne_eqb, or_right, both_ways, false_from_ne_true}
use Rattle.std.proofs.lemmas.List.{length-set, get_or-set_same, get_or-set_other, get_or_read}
use Rattle.swi_image.specs.Format.{ImageData}
use Rattle.swi_image.specs.Place.{place_of, length_at}
use Rattle.swi_rom.specs.Record.{Link, Placement, Record, Transfer, direct, indirect, target_of, exit_among, reaches}
use Rattle.swi_rom.specs.Service.{Setting}
use Rattle.swi_rom.specs.Policy.{Arrival, counted, evicted, first_in, first_of, is_kept, is_over_link, is_placed, linked, linked_over, more_service, served_by, went, with_link}
use Rattle.swi_rom.specs.Links.{among_has, has_among}
use Rattle.swi_rom.specs.Collected.{has_filter, length_with_all}
use Rattle.swi_slots.specs.Fifo as slots
use Rattle.swi_ring.specs.Fifo as ring
use Rattle.swi_ring.specs.Fifo.{cleared, first_for, is_free}
use Rattle.swi_tally.specs.declared.tally.Placing.{Placing}
use Rattle.swi_tally.specs.declared.tally.Placing.TheVariants.{Slots, Ring}
use Rattle.swi_tally.specs.Masks.{has, has_at}
use Rattle.swi_tally.specs.Exits.{ExitsData, AreExits, link_of, links_of}
use Rattle.swi_links.specs.Chains.{Has}
use Rattle.swi_tally.specs.Tally.{TallyData, InShape, Moved, Stands, Serves, Links, Arrives, AreLeading, Leads, arrival_of, counted_tally, kept_by, policy_of, setting_of}
use Rattle.swi_ring.specs.Ring.{queue_of}
use Rattle.swi_tally.proofs.Sets.{or_none}
use Rattle.swi_tally.proofs.Linking.{links_with, linked_is}
use Rattle.swi_tally.proofs.Queueing.{queue_long}
use Rattle.swi_tally.proofs.Leading.{leads_led, led_tally}
use Rattle.swi_tally.proofs.Arriving.{arrives_there, is_absent, is_there, moved_none, moved_both, stands_on}

-- a service is counted
pub counted_kept : (e : ExitsData) (ls : ℕ → Bool) (s : TallyData) → kept_by e ls (counted_tally s) ≡ counted (kept_by e ls s)
unfolding counted
counted_kept e ls s = rw (queue_long s.homes s.queue) refl

within_services : (xs : List ℕ) (n k : ℕ) → (xs ≡ [] → n ≡ 0) → n ≤ k + 1 → n ≤ k + more_service (length xs)
within_services [] n k none le = omega (arith, none refl)
within_services (x ∷ xs) n k none le = le

pub counted_shape : (s : TallyData) → InShape s → InShape (counted_tally s)
counted_shape s shape = record {
  some_slot = shape.some_slot;
  words_few = shape.words_few;
  words_most = shape.words_most;
  next_most = shape.next_most;
  few = shape.few;
  led_long = shape.led_long;
  room_is = shape.room_is;
  distinct = shape.distinct;
  known = shape.known;
  placed = shape.placed;
  absent = shape.absent;
}

-- what stands once a service is counted
pub record Counted (v : ImageData) (e : ExitsData) (cache : ℕ) (masks : List ℕ) (s : TallyData) : Type 0 where
  pub stands : Stands v e cache masks (counted_tally s)
  pub moved : Moved e cache s (counted_tally s) masks masks
  pub missed : s.counts.misses ≤ s.counts.services + more_service (length s.queue)
  pub links : s.counts.links ≤ s.counts.services + more_service (length s.queue)
  pub services : s.counts.services + more_service (length s.queue) ≤ s.counts.services + 1

one_service : (xs : List ℕ) (k : ℕ) → k + more_service (length xs) ≤ k + 1
one_service [] k = omega arith
one_service (x ∷ xs) k = omega arith

counted_moved : (v : ImageData) (e : ExitsData) (cache : ℕ) (masks : List ℕ) (s : TallyData) → Stands v e cache masks s → Moved e cache s (counted_tally s) masks masks
counted_moved v e cache masks s stands = record {
  placing = refl;
  slots = refl;
  slot_words = refl;
  homes = refl;
  masks = refl;
  others = λ d x small ne lt. refl;
  shape = counted_shape s stands.shape;
  bounded = record {
    misses = omega (arith, stands.bounded.misses);
    links = omega (arith, stands.bounded.links);
    evictions = stands.bounded.evictions;
    copied = stands.bounded.copied;
    undone = stands.bounded.undone;
    led = stands.bounded.led;
  };
}

pub counted_serves : (v : ImageData) (e : ExitsData) (cache : ℕ) (masks : List ℕ) (s : TallyData) → Serves v e cache masks s → Counted v e cache masks s
counted_serves v e cache masks s serves = record {
  stands = stands_on v e cache s (counted_tally s) masks masks serves.stands (counted_moved v e cache masks s serves.stands);
  moved = counted_moved v e cache masks s serves.stands;
  missed = within_services s.queue s.counts.misses s.counts.services serves.unmissed serves.stands.bounded.misses;
  links = within_services s.queue s.counts.links s.counts.services serves.unlinked serves.stands.bounded.links;
  services = one_service s.queue s.counts.services;
}

-- where the block that comes to stand stands already, there is no more to do: that is no boot
abbrev pub served_tally : TallyData → TallyData
served_tally s = record s { counts = record s.counts { services = s.counts.services + 1 } }

more_there : (xs : List ℕ) (b : ℕ) → Has xs b → more_service (length xs) ≡ 1
more_there [] b h = absurd h
more_there (x ∷ xs) b h = refl

pub served_there : (v : ImageData) (e : ExitsData) (cache b : ℕ) (s : TallyData) (masks : List ℕ) → Serves v e cache masks s → Has s.queue b → Arrives v e cache b (counted_tally s) (served_tally s) masks masks
served_there v e cache b s masks serves h =
    subst (λ (u : TallyData). Arrives v e cache b (counted_tally s) u masks masks)
    (ap (λ (n : ℕ). let u : TallyData = record s { counts = record s.counts { services = s.counts.services + n } } in u) (more_there s.queue b h))
    (arrives_there v e cache b (counted_tally s) masks (counted_serves v e cache masks s serves).stands h)

-- and it is kept that a later block may have a link into it
pub led_arrives : (v : ImageData) (e : ExitsData) (cache b : ℕ) (s t : TallyData) (old new : List ℕ) → Arrives v e cache b s t old new → Arrives v e cache b s (led_tally b t) old new
led_arrives v e cache b s t old new arrives = record {
  kept = arrives.kept;
  moved = moved_both e cache s t (led_tally b t) old new new arrives.moved last;
  stands = stands_on v e cache t (led_tally b t) new new arrives.stands last;
  here = arrives.here;
  services = arrives.services;
  links = arrives.links;
}
  where
    shape : InShape t
    shape = arrives.stands.shape

    last : Moved e cache t (led_tally b t) new new
    last = record {
      placing = refl;
      slots = refl;
      slot_words = refl;
      homes = refl;
      masks = refl;
      others = λ d x small ne lt. refl;
      shape = record {
        some_slot = shape.some_slot;
        words_few = shape.words_few;
        words_most = shape.words_most;
        next_most = shape.next_most;
        few = shape.few;
        led_long = length-set t.led b true ∙ shape.led_long;
        room_is = shape.room_is;
        distinct = shape.distinct;
        known = shape.known;
        placed = shape.placed;
        absent = shape.absent;
      };
      bounded = record {
        misses = arrives.stands.bounded.misses;
        links = arrives.stands.bounded.links;
        evictions = arrives.stands.bounded.evictions;
        copied = arrives.stands.bounded.copied;
        undone = arrives.stands.bounded.undone;
        led = λ x lt is ne. leads_led b t (slice_index e.from x) (slice_index e.into x) shape (arrives.stands.bounded.led x lt is ne);
      };
    }

-- where a block stands
first_here : (homes queue : List ℕ) (b : ℕ) → Has queue b → first_in (queue_of homes queue) 0 b ≡ slice_index homes b
unfolding queue_of
first_here homes [] b h = absurd h
first_here homes (x ∷ xs) b h = elim (cases_eq x b) [
  | inl same ↦ ap (λ (t : Bool). if t then slice_index homes x else first_in (queue_of homes xs) 0 b) (eq-eqb x b same) ∙ ap (λ (y : ℕ). slice_index homes y) same
  | inr ne ↦ ap (λ (t : Bool). if t then slice_index homes x else first_in (queue_of homes xs) 0 b) (ne_eqb x b ne) ∙ first_here homes xs b (later h ne)
]
  where
    later : Has (x ∷ xs) b → (x ≡ b → ⊥) → Has xs b
    later (inl same) ne = absurd (ne same)
    later (inr i) ne = i

pub first_is : (e : ExitsData) (ls : ℕ → Bool) (s : TallyData) (b : ℕ) → Has s.queue b → first_of (kept_by e ls s) b ≡ slice_index s.homes b
unfolding first_of
first_is e ls s b h = first_here s.homes s.queue b h

-- whether the policy links an exit, and what it makes of the record
abbrev can_link : Record → ℕ → ℕ → ℕ × ℕ → Bool
can_link r b o p = is_placed r b && reaches (first_of r b + o) (first_of r p.0 + p.1)

abbrev link_more : Record → ℕ → ℕ → ℕ × ℕ → Record
link_more r b o p = record r { links = with_link (record { program = r.turn; block = b; offset = o; into = p.0 }) r.links; counts = record r.counts { links = r.counts.links + 1 } }

linked_as : (t : Bool) (r : Record) (b o : ℕ) (p : ℕ × ℕ) → can_link r b o p ≡ t → linked with_link r b o p ≡ (if t then link_more r b o p else r)
unfolding linked
linked_as t r b o p is = ap (λ (u : Bool). if u then link_more r b o p else r) is

away : (e : ExitsData) (ls : ℕ → Bool) (s : TallyData) (b o : ℕ) (p : ℕ × ℕ) → (Has s.queue b → ⊥) → can_link (kept_by e ls s) b o p ≡ false
away e ls s b o p none = ap (λ (t : Bool). t && reaches (first_of (kept_by e ls s) b + o) (first_of (kept_by e ls s) p.0 + p.1)) (is_absent e ls s b none)

reached : (e : ExitsData) (ls : ℕ → Bool) (s : TallyData) (b o : ℕ) (p : ℕ × ℕ) → Has s.queue b → Has s.queue p.0 →
    can_link (kept_by e ls s) b o p ≡ reaches (slice_index s.homes b + o) (slice_index s.homes p.0 + p.1)
reached e ls s b o p from into =
    ap (λ (t : Bool). t && reaches (first_of (kept_by e ls s) b + o) (first_of (kept_by e ls s) p.0 + p.1)) (is_there e ls s b from)
    ∙ ap (λ (n : ℕ). reaches (n + o) (first_of (kept_by e ls s) p.0 + p.1)) (first_is e ls s b from)
    ∙ ap (λ (n : ℕ). reaches (slice_index s.homes b + o) (n + p.1)) (first_is e ls s p.0 into)

-- nothing changes
links_none : (v : ImageData) (e : ExitsData) (cache x : ℕ) (s : TallyData) (masks : List ℕ) → Stands v e cache masks s →
    can_link (kept_by e (has_at masks cache) s) (slice_index e.from x) (slice_index e.offsets x) (slice_index e.into x, slice_index e.ats x) ≡ false → Links e cache x s s masks masks
links_none v e cache x s masks stands no_link = record {
  kept = sym (linked_as false (kept_by e (has_at masks cache) s) (slice_index e.from x) (slice_index e.offsets x) (slice_index e.into x, slice_index e.ats x) no_link);
  moved = moved_none v e cache masks s stands;
  queue = refl;
  services = refl;
}

pub links_away : (v : ImageData) (e : ExitsData) (cache x : ℕ) (s : TallyData) (masks : List ℕ) → Stands v e cache masks s → (Has s.queue (slice_index e.from x) → ⊥) → Links e cache x s s masks masks
links_away v e cache x s masks stands none =
    links_none v e cache x s masks stands (away e (has_at masks cache) s (slice_index e.from x) (slice_index e.offsets x) (slice_index e.into x, slice_index e.ats x) none)

pub links_far : (v : ImageData) (e : ExitsData) (cache x : ℕ) (s : TallyData) (masks : List ℕ) → Stands v e cache masks s → Has s.queue (slice_index e.from x) → Has s.queue (slice_index e.into x) →
    reaches (slice_index s.homes (slice_index e.from x) + slice_index e.offsets x) (slice_index s.homes (slice_index e.into x) + slice_index e.ats x) ≡ false → Links e cache x s s masks masks
links_far v e cache x s masks stands from into far =
    links_none v e cache x s masks stands
    (reached e (has_at masks cache) s (slice_index e.from x) (slice_index e.offsets x) (slice_index e.into x, slice_index e.ats x) from into ∙ far)

-- the exit becomes a link of this cache
abbrev pub linked_tally : TallyData → TallyData
linked_tally s = record s { counts = record s.counts { links = s.counts.links + 1 } }

joins_here : (masks : List ℕ) (cache x m : ℕ) → cache < 64 → x < length masks → ((d : ℕ) → d < 64 → has m d ≡ (has_at masks d x || d == cache)) → (y : ℕ) →
    has_at (slice_set masks x m) cache y ≡ (has_at masks cache y || y == x)
joins_here masks cache x m small lt new y = elim (cases_eq y x) [
  | inl same ↦ rw same (
      ap (λ (n : ℕ). has n cache) (get_or-set_same masks x m 0 lt) ∙ new cache small
      ∙ or_right (has_at masks cache x) (cache == cache) (eq-eqb cache cache refl) ∙ sym (or_right (has_at masks cache x) (x == x) (eq-eqb x x refl)))
  | inr ne ↦
      ap (λ (n : ℕ). has n cache) (get_or-set_other masks x y m 0 ne)
      ∙ sym (ap (λ (t : Bool). has_at masks cache y || t) (ne_eqb y x ne) ∙ or_none (has_at masks cache y))
]

joins_other : (masks : List ℕ) (cache x m : ℕ) → x < length masks → ((d : ℕ) → d < 64 → has m d ≡ (has_at masks d x || d == cache)) → (d y : ℕ) → d < 64 → (d ≡ cache → ⊥) →
    has_at (slice_set masks x m) d y ≡ has_at masks d y
joins_other masks cache x m lt new d y small ne = elim (cases_eq y x) [
  | inl same ↦ rw same (
      ap (λ (n : ℕ). has n d) (get_or-set_same masks x m 0 lt) ∙ new d small
      ∙ ap (λ (t : Bool). has_at masks d x || t) (ne_eqb d cache ne) ∙ or_none (has_at masks d x))
  | inr other ↦ ap (λ (n : ℕ). has n d) (get_or-set_other masks x y m 0 other)
]

pub links_near : (v : ImageData) (e : ExitsData) (cache x m : ℕ) (s : TallyData) (masks : List ℕ) → Stands v e cache masks s → x < length e.from → has_at masks cache x ≡ false →
    ((d : ℕ) → d < 64 → has m d ≡ (has_at masks d x || d == cache)) → s.counts.links ≤ s.counts.services → Has s.queue (slice_index e.from x) → Has s.queue (slice_index e.into x) →
    reaches (slice_index s.homes (slice_index e.from x) + slice_index e.offsets x) (slice_index s.homes (slice_index e.into x) + slice_index e.ats x) ≡ true →
    AreLeading s (slice_index e.into x) → Links e cache x s (linked_tally s) masks (slice_set masks x m)
links_near v e cache x m s masks stands lt none new few from into near leading = record {
  kept = ap (λ (ls : List Link). record (kept_by e (has_at masks cache) s) { links = ls; counts = record s.counts { links = s.counts.links + 1 } }) list
      ∙ sym (linked_as true (kept_by e (has_at masks cache) s) (slice_index e.from x) (slice_index e.offsets x) (slice_index e.into x, slice_index e.ats x)
      (reached e (has_at masks cache) s (slice_index e.from x) (slice_index e.offsets x) (slice_index e.into x, slice_index e.ats x) from into ∙ near));
  moved = record {
    placing = refl;
    slots = refl;
    slot_words = refl;
    homes = refl;
    masks = length-set masks x m;
    others = λ d y small ne inside. joins_other masks cache x m within new d y small ne;
    shape = linked_shape stands.shape;
    bounded = record {
      misses = stands.bounded.misses;
      links = omega (arith, few);
      evictions = stands.bounded.evictions;
      copied = stands.bounded.copied;
      undone = omega (arith, stands.bounded.undone, ap (λ (ls : List Link). length ls) list, length_with_all (link_of e x) (links_of e (has_at masks cache)));
      led = λ y inside is ne. elim (or_cases (has_at masks cache y) (y == x) (sym (joins_here masks cache x m stands.cache_below within new y) ∙ is)) [
        | inl old ↦ stands.bounded.led y inside old ne
        | inr here ↦ leading_here y (eqb-true _ _ here) ne
      ];
    };
  };
  queue = refl;
  services = refl;
}
  where
    within : x < length masks
    within = omega (arith, lt, stands.masks_long)

    list : links_of e (has_at (slice_set masks x m) cache) ≡ with_link (link_of e x) (links_of e (has_at masks cache))
    list = links_with e x (has_at masks cache) (has_at (slice_set masks x m) cache) stands.are lt none (λ y inside. joins_here masks cache x m stands.cache_below within new y)

    leading_here : (y : ℕ) → y ≡ x → (slice_index e.from y ≡ slice_index e.into y → ⊥) → Leads s (slice_index e.from y) (slice_index e.into y)
    leading_here y same ne =
        subst (λ (z : ℕ). Leads s (slice_index e.from z) (slice_index e.into z)) (sym same)
        (leading (slice_index e.from x) from (subst (λ (z : ℕ). slice_index e.from z ≡ slice_index e.into z → ⊥) same ne))

    linked_shape : InShape s → InShape (linked_tally s)
    linked_shape shape = record {
      some_slot = shape.some_slot;
      words_few = shape.words_few;
      words_most = shape.words_most;
      next_most = shape.next_most;
      few = shape.few;
      led_long = shape.led_long;
      room_is = shape.room_is;
      distinct = shape.distinct;
      known = shape.known;
      placed = shape.placed;
      absent = shape.absent;
    }

-- no exit becomes a link as a block arrives
abbrev NoMoreLinks : Record → Record → Type 0
NoMoreLinks r t = (q b o : ℕ) → exit_among t.links q b o ≡ true → exit_among r.links q b o ≡ true

among_filter : (p : Link → Bool) (ls : List Link) (q b o : ℕ) → exit_among (filter p ls) q b o ≡ true → exit_among ls q b o ≡ true
among_filter p ls q b o h =
    let a = among_has (filter p ls) q b o h in
    let both = and_parts _ _ (sym (has_filter p ls a.link) ∙ a.has) in
    subst (λ (n : ℕ). exit_among ls n b o ≡ true) a.program
    (subst (λ (n : ℕ). exit_among ls a.link.program n o ≡ true) a.block
    (subst (λ (n : ℕ). exit_among ls a.link.program a.link.block n ≡ true) a.offset (has_among ls a.link both.0)))

evicted_fewer : (r : Record) (es : List Placement) → NoMoreLinks r (evicted r es)
unfolding evicted
evicted_fewer r [] q b o h = h
evicted_fewer r (p ∷ ps) q b o h = among_filter (is_kept p) r.links q b o h

either_fewer : (t : Bool) (r x y : Record) → NoMoreLinks r x → NoMoreLinks r y → NoMoreLinks r (if t then x else y)
either_fewer true r x y f g = f
either_fewer false r x y f g = g

cleared_fewer : (v : ImageData) (first n : ℕ) (es : List Placement) (r : Record) → NoMoreLinks r (cleared v first n es r)
unfolding cleared
cleared_fewer v first n [] r = λ q b o h. h
cleared_fewer v first n (p ∷ ps) r =
    either_fewer (is_free v first n (p ∷ ps)) r r (cleared v first n ps (evicted r (p ∷ ps))) (λ q b o h. h)
    (λ q b o h. evicted_fewer r (p ∷ ps) q b o (cleared_fewer v first n ps (evicted r (p ∷ ps)) q b o h))

slots_fewer : (by : Setting) (v : ImageData) (r : Record) (c : ℕ) → NoMoreLinks r (slots.arrived by v r c)
unfolding slots.arrived slots.appended
slots_fewer by v r c =
    either_fewer (is_placed r c) r r _ (λ q b o h. h) (λ q b o h. freed_fewer q b o h)
  where
    freed_fewer : NoMoreLinks r (if nat_lt (length r.placed) by.slots then r else evicted r r.placed)
    freed_fewer = either_fewer (nat_lt (length r.placed) by.slots) r r (evicted r r.placed) (λ q b o h. h) (evicted_fewer r r.placed)

ring_fewer : (by : Setting) (v : ImageData) (r : Record) (c : ℕ) → NoMoreLinks r (ring.arrived by v r c)
unfolding ring.arrived ring.appended
ring_fewer by v r c =
    either_fewer (is_placed r c) r r _ (λ q b o h. h)
    (λ q b o h. cleared_fewer v (first_for by.slot_words r (length_at v c)) (length_at v c) r.placed r q b o h)

arrival_fewer : (p : Placing) (by : Setting) (v : ImageData) (r : Record) (c : ℕ) → NoMoreLinks r (arrival_of p by v r c)
arrival_fewer Slots by v r c = slots_fewer by v r c
arrival_fewer Ring by v r c = ring_fewer by v r c

pub still_unlinked : (v : ImageData) (e : ExitsData) (cache b x : ℕ) (s t : TallyData) (old new : List ℕ) → AreExits e → x < length e.from → has_at old cache x ≡ false → Arrives v e cache b s t old new →
    has_at new cache x ≡ false
still_unlinked v e cache b x s t old new are lt none arrives = false_from_ne_true _ (λ (h : has_at new cache x ≡ true).
    let now : exit_among (links_of e (has_at new cache)) 0 (slice_index e.from x) (slice_index e.offsets x) ≡ true = linked_is e x (has_at new cache) are lt ∙ h in
    let by : exit_among (arrival_of s.placing (setting_of s) v (kept_by e (has_at old cache) s) b).links 0 (slice_index e.from x) (slice_index e.offsets x) ≡ true =
    subst (λ (r : Record). exit_among r.links 0 (slice_index e.from x) (slice_index e.offsets x) ≡ true) arrives.kept now in
    let before = arrival_fewer s.placing (setting_of s) v (kept_by e (has_at old cache) s) b 0 (slice_index e.from x) (slice_index e.offsets x) by in
    both_ways (has_at old cache x) none (sym (linked_is e x (has_at old cache) are lt) ∙ before))

-- the policy at a transfer that is over no link, to a place
pub policy_is : (p : Placing) (by : Setting) (r : Record) (v : ImageData) (t : Transfer) → policy_of p by r v t ≡ served_by (arrival_of p) with_link by r v t
policy_is Slots by r v t = refl
policy_is Ring by r v t = refl

served_to : (arrive : Arrival) (by : Setting) (r : Record) (v : ImageData) (t : Transfer) (p : ℕ × ℕ) → is_over_link r t ≡ false → place_of v (target_of t) ≡ Some p →
    served_by arrive with_link by r v t ≡ linked_over with_link (arrive by v (counted r) p.0) t p
unfolding served_by went
served_to arrive by r v t p off at = rw (off, at) refl

has_some : (xs : List ℕ) (b : ℕ) → Has xs b → xs ≡ [] → ⊥
has_some xs b h none = subst (λ (ys : List ℕ). Has ys b) none h

-- what a jump to an address in a block leaves
pub record Entered (v : ImageData) (e : ExitsData) (cache b : ℕ) (s u : TallyData) (old new : List ℕ) : Type 0 where
  pub kept : (a o : ℕ) → place_of v a ≡ Some (b, o) → kept_by e (has_at new cache) u ≡ policy_of s.placing (setting_of s) (kept_by e (has_at old cache) s) v (indirect a)
  pub serves : Serves v e cache new u
  pub moved : Moved e cache s u old new
  pub services : u.counts.services ≤ s.counts.services + 1

serves_on : (v : ImageData) (e : ExitsData) (cache b : ℕ) (s u : TallyData) (old new : List ℕ) → Serves v e cache old s → Moved e cache s u old new → Has u.queue b → Serves v e cache new u
serves_on v e cache b s u old new serves moved here = record {
  stands = stands_on v e cache s u old new serves.stands moved;
  one = λ is. moved.slots ∙ serves.one (sym moved.placing ∙ is);
  unmissed = λ none. absurd (has_some u.queue b here none);
  unlinked = λ none. absurd (has_some u.queue b here none);
}

arrived_kept : (v : ImageData) (e : ExitsData) (cache b : ℕ) (s u : TallyData) (old new : List ℕ) → Arrives v e cache b (counted_tally s) u old new →
    kept_by e (has_at new cache) u ≡ arrival_of s.placing (setting_of s) v (counted (kept_by e (has_at old cache) s)) b
arrived_kept v e cache b s u old new arrives = arrives.kept ∙ ap (λ (r : Record). arrival_of s.placing (setting_of s) v r b) (counted_kept e (has_at old cache) s)

pub entered : (v : ImageData) (e : ExitsData) (cache b : ℕ) (s u : TallyData) (old new : List ℕ) → Serves v e cache old s → Arrives v e cache b (counted_tally s) u old new → Entered v e cache b s u old new
entered v e cache b s u old new serves arrives =
    let count = counted_serves v e cache old s serves in
    let moved = moved_both e cache s (counted_tally s) u old old new count.moved arrives.moved in
    record {
      kept = λ a o at.
          arrived_kept v e cache b s u old new arrives
          ∙ sym (policy_is s.placing (setting_of s) (kept_by e (has_at old cache) s) v (indirect a)
          ∙ served_to (arrival_of s.placing) (setting_of s) (kept_by e (has_at old cache) s) v (indirect a) (b, o) refl at);
      serves = serves_on v e cache b s u old new serves moved arrives.here;
      moved = moved;
      services = omega (arith, arrives.services, count.services);
    }

-- and what a direct exit leaves that was no link
pub record Crossed (v : ImageData) (e : ExitsData) (cache x : ℕ) (s u : TallyData) (old new : List ℕ) : Type 0 where
  pub kept : (a : ℕ) → place_of v a ≡ Some (slice_index e.into x, slice_index e.ats x) →
      kept_by e (has_at new cache) u ≡ policy_of s.placing (setting_of s) (kept_by e (has_at old cache) s) v (direct (slice_index e.from x) (slice_index e.offsets x) a)
  pub serves : Serves v e cache new u
  pub moved : Moved e cache s u old new
  pub services : u.counts.services ≤ s.counts.services + 1

pub crossed : (v : ImageData) (e : ExitsData) (cache x : ℕ) (s t u : TallyData) (old between new : List ℕ) → Serves v e cache old s → x < length e.from → has_at old cache x ≡ false →
    Arrives v e cache (slice_index e.into x) (counted_tally s) t old between → Links e cache x t u between new → Crossed v e cache x s u old new
crossed v e cache x s t u old between new serves lt none arrives links =
    let count = counted_serves v e cache old s serves in
    let moved = moved_both e cache s t u old between new (moved_both e cache s (counted_tally s) t old old between count.moved arrives.moved) links.moved in
    let here : Has u.queue (slice_index e.into x) = subst (λ (xs : List ℕ). Has xs (slice_index e.into x)) (sym links.queue) arrives.here in
    record {
      kept = λ a at.
          links.kept
          ∙ ap (λ (r : Record). linked with_link r (slice_index e.from x) (slice_index e.offsets x) (slice_index e.into x, slice_index e.ats x)) (arrived_kept v e cache (slice_index e.into x) s t old between arrives)
          ∙ sym (policy_is s.placing (setting_of s) (kept_by e (has_at old cache) s) v (direct (slice_index e.from x) (slice_index e.offsets x) a)
          ∙ served_to (arrival_of s.placing) (setting_of s) (kept_by e (has_at old cache) s) v (direct (slice_index e.from x) (slice_index e.offsets x) a) (slice_index e.into x, slice_index e.ats x)
          (linked_is e x (has_at old cache) serves.stands.are lt ∙ none) at);
      serves = serves_on v e cache (slice_index e.into x) s u old new serves moved here;
      moved = moved;
      services = omega (arith, arrives.services, links.services, count.services);
    }

-- ---- the calls, as their code meets them

pub arrives_call : (v : ImageData) (e : ExitsData) (cache b b' : ℕ) (s s' t : TallyData) (old new : List ℕ) → b ≡ b' → s' ≡ counted_tally s → Arrives v e cache b s' t old new → Arrives v e cache b' (counted_tally s) t old new
arrives_call v e cache b b' s s' t old new same is arrives =
    subst (λ (q : TallyData). Arrives v e cache b' q t old new) is (subst (λ (n : ℕ). Arrives v e cache n s' t old new) same arrives)

pub absent_call : (t : Bool) (queue : List ℕ) (b b' : ℕ) → b ≡ b' → t ≡ false → (IsTrue t ↔ Has queue b) → Has queue b' → ⊥
absent_call t queue b b' same no_block tells h = both_ways t no_block (tells.1 (subst (λ (n : ℕ). Has queue n) (sym same) h))

pub there_call : (t : Bool) (queue : List ℕ) (b b' : ℕ) → b ≡ b' → t ≡ true → (IsTrue t ↔ Has queue b) → Has queue b'
there_call t queue b b' same holds tells = subst (λ (n : ℕ). Has queue n) same (tells.0 holds)

-- the first word of a block, as it is read
pub home_call : (s : TallyData) (homes : List ℕ) (b b' h : ℕ) → InShape s → Has s.queue b' → b ≡ b' → homes ≡ s.homes → h ≡ slice_index_or homes b h → h ≡ slice_index s.homes b'
home_call s homes b b' h shape has same is read =
    get_or_read homes b h (omega (arith, shape.known b' has, same, ap (λ (xs : List ℕ). length xs) is)) read 0
    ∙ ap (λ (xs : List ℕ). slice_index xs b) is ∙ ap (λ (n : ℕ). slice_index s.homes n) same

pub home_below : (s : TallyData) (b h : ℕ) → InShape s → Has s.queue b → h ≡ slice_index s.homes b → h < 2 ^ 21
home_below s b h shape has is = omega (arith, is, shape.placed b has, shape.words_few)

pub reach_call : (f f' t t' : ℕ) (r w : Bool) → f ≡ f' → t ≡ t' → r ≡ reaches f t → r ≡ w → reaches f' t' ≡ w
reach_call f f' t t' r w same same' is value = sym (ap (λ (n : ℕ). reaches n t) same ∙ ap (λ (n : ℕ). reaches f' n) same') ∙ sym is ∙ value

pub both_are : {a b m n : ℕ} → a ≡ b → m ≡ n → a + m ≡ b + n
both_are e f = rw (e, f) refl
