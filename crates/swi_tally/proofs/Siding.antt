-- Many caches side by side: some serve, and the others stay as they are.
use Rattle.std.proofs.Common.{◌≡◌, ℕ, zero, suc, ◌+◌, ◌-◌, ◌^◌, ◌<◌, ◌≤◌, Bool, true, nat_lt, List, [], ◌∷◌, length, slice_index, slice_index_or, slice_get, slice_set, replicate, map, Option, Some, None, IfSome, option_map, arith, refl, sym, ◌∙◌, ap, subst, inl, inr}
use Rattle.std.proofs.lemmas.Bool.{cases_eq, both_ways}
use Rattle.std.proofs.lemmas.List.{length-set, length-map, length-replicate, get_or-replicate}
use Rattle.std.proofs.lemmas.Option.{same_Some, slice_get-map, slice_get_within, slice_get_past, slice_get_read}
use Rattle.swi_image.specs.Format.{ImageData}
use Rattle.swi_image.specs.Place.{place_of}
use Rattle.swi_rom.specs.Record.{Link, Record, Transfer, direct, indirect}
use Rattle.swi_rom.specs.Policy.{served_over_link, with_link}
use Rattle.swi_rom.specs.declared.rom.Counts.{Counts}
use Rattle.swi_links.specs.Chains.{Has}
use Rattle.swi_tally.specs.declared.tally.Placing.{Placing}
use Rattle.swi_tally.specs.declared.tallies.Frame.{Frame}
use Rattle.swi_tally.specs.declared.tallies.Seat.{Seat}
use Rattle.swi_tally.specs.Masks.{has, has_at}
use Rattle.swi_tally.specs.Exits.{ExitsData, AreExits}
use Rattle.swi_tally.specs.Tally.{TallyData, AreMarked, Marks, Moved, Serves, arrival_of, kept_by, policy_of, setting_of}
use Rattle.swi_tally.specs.Tallies.{TalliesData, AreSeated, IsSeated, Row, AllServed, AreServing, OneMoved, OneServed, SeatServes, ServesAt, empty_of, row_at, row_if, row_of, served_if, told}
use Rattle.swi_tally.proofs.Linking.{links_same, linked_is}
use Rattle.swi_tally.proofs.Marking.{marks_other}
use Rattle.swi_tally.proofs.Crossing.{Crossed, Entered, entered, policy_is, served_tally, served_there}
use Rattle.swi_tally.proofs.Sets.{none_has}

-- lists in which one element was set
get_same : {A : Type 0} (xs : List A) (i : ℕ) (x y : A) → slice_get xs i ≡ Some x → slice_get (slice_set xs i y) i ≡ Some y
get_same [] i x y at = absurd cc
get_same (z ∷ zs) zero x y at = refl
get_same (z ∷ zs) (suc i) x y at = get_same zs i x y at

get_other : {A : Type 0} (xs : List A) (i j : ℕ) (y : A) → (j ≡ i → ⊥) → slice_get (slice_set xs i y) j ≡ slice_get xs j
get_other [] i j y ne = refl
get_other (z ∷ zs) zero zero y ne = absurd (ne refl)
get_other (z ∷ zs) zero (suc j) y ne = refl
get_other (z ∷ zs) (suc i) zero y ne = refl
get_other (z ∷ zs) (suc i) (suc j) y ne = get_other zs i j y (λ (same : j ≡ i). ne (ap suc same))

pub row_here : (t : TalliesData) (k : ℕ) (s : Seat) → slice_get t.caches k ≡ Some s → row_at t k ≡ Some (row_of t k s)
unfolding row_at
row_here t k s at = ap (row_if t k) at

row_absent : (t : TalliesData) (k : ℕ) → slice_get t.caches k ≡ None → row_at t k ≡ None
unfolding row_at
row_absent t k at = ap (row_if t k) at

pub row_none : (t : TalliesData) (k : ℕ) → length t.caches ≤ k → row_at t k ≡ None
row_none t k past = row_absent t k (slice_get_past t.caches k past)

-- what is known of a cache that is there
serves_here : (v : ImageData) (n : ℕ) (t : TalliesData) (k : ℕ) (s : Seat) → slice_get t.caches k ≡ Some s → ServesAt v n t k → SeatServes v n t k s
serves_here v n t k s at h = subst (λ (o : Option Seat). IfSome o (SeatServes v n t k)) at h

here_serves : (v : ImageData) (n : ℕ) (t : TalliesData) (k : ℕ) (s : Seat) → slice_get t.caches k ≡ Some s → SeatServes v n t k s → ServesAt v n t k
here_serves v n t k s at h = subst (λ (o : Option Seat). IfSome o (SeatServes v n t k)) (sym at) h

nowhere_serves : (v : ImageData) (n : ℕ) (t : TalliesData) (k : ℕ) → slice_get t.caches k ≡ None → ServesAt v n t k
nowhere_serves v n t k at = subst (λ (o : Option Seat). IfSome o (SeatServes v n t k)) (sym at) tt

-- where nothing changes, one service more is no harm
pub more_serves : (v : ImageData) (n : ℕ) (t : TalliesData) (k : ℕ) → ServesAt v n t k → ServesAt v (suc n) t k
more_serves v n t k h = by (slice_get t.caches k) refl
  where
    by : (o : Option Seat) → slice_get t.caches k ≡ o → ServesAt v (suc n) t k
    by None at = nowhere_serves v (suc n) t k at
    by (Some s) at = (let was = serves_here v n t k s at h in here_serves v (suc n) t k s at (was.0, omega (arith, was.1)))

pub all_serving : (v : ImageData) (t : TalliesData) (n : ℕ) → AreServing v n t → AreServing v (suc n) t
all_serving v t n serving = record { each = λ k. more_serves v n t k (serving.each k); few = omega (arith, serving.few) }

-- ---- states that agree in one cache

-- so many jumps have come
abbrev pub at_jumps : ℕ → TalliesData → TalliesData
at_jumps n t = record t { jumps = n }

pub record AgreeAt (k : ℕ) (t u : TalliesData) : Type 0 where
  pub exits : u.exits ≡ t.exits
  pub masks : length u.masks ≡ length t.masks
  pub jumps : u.jumps ≡ t.jumps
  pub cache : slice_get u.caches k ≡ slice_get t.caches k
  pub links : (x : ℕ) → x < length t.exits.from → has_at u.masks k x ≡ has_at t.masks k x

agree_row_of : (k : ℕ) (t u : TalliesData) (s : Seat) → AgreeAt k t u → row_of u k s ≡ row_of t k s
agree_row_of k t u s a =
    ap (λ (n : ℕ). let r : Row = record (row_of u k s) { kept = kept_by u.exits (has_at u.masks k) (told n s) } in r) a.jumps
    ∙ ap (λ (e : ExitsData). let r : Row = record (row_of u k s) { kept = kept_by e (has_at u.masks k) (told t.jumps s) } in r) a.exits
    ∙ ap (λ (ls : List Link). let r : Row = record (row_of t k s) { kept = record (kept_by t.exits (has_at t.masks k) (told t.jumps s)) { links = ls } } in r)
    (links_same t.exits (has_at u.masks k) (has_at t.masks k) a.links)

pub agree_row : (k : ℕ) (t u : TalliesData) → AgreeAt k t u → row_at u k ≡ row_at t k
agree_row k t u a = by (slice_get t.caches k) refl
  where
    by : (o : Option Seat) → slice_get t.caches k ≡ o → row_at u k ≡ row_at t k
    by None at = row_absent u k (a.cache ∙ at) ∙ sym (row_absent t k at)
    by (Some s) at = row_here u k s (a.cache ∙ at) ∙ ap (λ (r : Row). Some r) (agree_row_of k t u s a) ∙ sym (row_here t k s at)

-- a cache serves by other sets in which it has the same exits
masks_serve : (v : ImageData) (e : ExitsData) (k : ℕ) (s : TallyData) (old new : List ℕ) → length new ≡ length old → ((x : ℕ) → x < length e.from → has_at new k x ≡ has_at old k x) → Serves v e k old s → Serves v e k new s
masks_serve v e k s old new long links serves = record {
  stands = record {
    image = serves.stands.image;
    are = serves.stands.are;
    blocks = serves.stands.blocks;
    homes = serves.stands.homes;
    masks_long = long ∙ serves.stands.masks_long;
    cache_below = serves.stands.cache_below;
    words = serves.stands.words;
    shape = serves.stands.shape;
    bounded = record {
      misses = serves.stands.bounded.misses;
      links = serves.stands.bounded.links;
      evictions = serves.stands.bounded.evictions;
      copied = serves.stands.bounded.copied;
      undone = omega (arith, serves.stands.bounded.undone, ap (λ (ls : List Link). length ls) (links_same e (has_at new k) (has_at old k) links));
      led = λ x lt is ne. serves.stands.bounded.led x lt (sym (links x lt) ∙ is) ne;
    };
  };
  one = serves.one;
  unmissed = serves.unmissed;
  unlinked = serves.unlinked;
}

agree_seat : (v : ImageData) (n k : ℕ) (t u : TalliesData) (s : Seat) → AgreeAt k t u → SeatServes v n t k s → SeatServes v n u k s
agree_seat v n k t u s a h =
    subst (λ (j : ℕ). Serves v u.exits k u.masks (told j s) × ((told j s).counts.services ≤ n)) (sym a.jumps)
    (subst (λ (e : ExitsData). Serves v e k u.masks (told t.jumps s) × ((told t.jumps s).counts.services ≤ n)) (sym a.exits)
    (masks_serve v t.exits k (told t.jumps s) t.masks u.masks a.masks a.links h.0, h.1))

pub agree_serves : (v : ImageData) (n k : ℕ) (t u : TalliesData) → AgreeAt k t u → ServesAt v n t k → ServesAt v n u k
agree_serves v n k t u a h = by (slice_get t.caches k) refl
  where
    by : (o : Option Seat) → slice_get t.caches k ≡ o → ServesAt v n u k
    by None at = nowhere_serves v n u k (a.cache ∙ at)
    by (Some s) at = here_serves v n u k s (a.cache ∙ at) (agree_seat v n k t u s a (serves_here v n t k s at h))

pub moved_agree : (k j : ℕ) (t u : TalliesData) → OneMoved k t u → j < 64 → (j ≡ k → ⊥) → AgreeAt j t u
moved_agree k j t u m small ne = record { exits = m.exits; masks = m.masks; jumps = m.jumps; cache = m.others j ne; links = λ x lt. m.links j x small ne lt }

-- ---- one cache has served

-- the caches with one of them, and the sets, changed
abbrev pub with_cache : TalliesData → ℕ → Seat → List ℕ → TalliesData
with_cache t k s masks = record t { masks = masks; caches = slice_set t.caches k s }

pub one_moved : (t : TalliesData) (k : ℕ) (s u : TallyData) (seat : Seat) (masks : List ℕ) → Moved t.exits k s u t.masks masks → OneMoved k t (with_cache t k seat masks)
one_moved t k s u seat masks moved = record {
  exits = refl;
  masks = moved.masks;
  caches = length-set t.caches k seat;
  jumps = refl;
  others = λ j ne. get_other t.caches k j seat ne;
  links = λ j x small ne lt. moved.others j x small ne lt;
}

-- one that has counted on its own at all jumps
abbrev pub seat_at : ℕ → TallyData → Seat
seat_at jumps u = record { tally = u; jumps = jumps }

pub told_none : (jumps : ℕ) (u : TallyData) → told jumps (seat_at jumps u) ≡ u
told_none jumps u = ap (λ (n : ℕ). let q : TallyData = record u { counts = record u.counts { services = n } } in q) (let none : u.counts.services + (jumps - jumps) ≡ u.counts.services = omega arith in none)

-- by its policy, from where it was when n jumps had come
pub one_served : (v : ImageData) (tr : Transfer) (t : TalliesData) (k n : ℕ) (s : Seat) (u : TallyData) (masks : List ℕ) → slice_get t.caches k ≡ Some s → Moved t.exits k (told n s) u t.masks masks →
    kept_by t.exits (has_at masks k) u ≡ policy_of s.tally.placing (setting_of s.tally) (kept_by t.exits (has_at t.masks k) (told n s)) v tr →
    row_at (with_cache t k (seat_at t.jumps u) masks) k ≡ served_if v tr (row_at (at_jumps n t) k)
one_served v tr t k n s u masks at moved kept =
    row_here (with_cache t k (seat_at t.jumps u) masks) k (seat_at t.jumps u) (get_same t.caches k s (seat_at t.jumps u) at)
    ∙ ap (λ (w : TallyData). let r : Row = record { placing = u.placing; setting = setting_of u; kept = kept_by t.exits (has_at masks k) w } in Some r) (told_none t.jumps u)
    ∙ ap (λ (p : Placing). let r : Row = record { placing = p; setting = setting_of u; kept = kept_by t.exits (has_at masks k) u } in Some r) moved.placing
    ∙ ap (λ (m : ℕ). let r : Row = record { placing = s.tally.placing; setting = record { slots = m; slot_words = u.slot_words; programs = 1 }; kept = kept_by t.exits (has_at masks k) u } in Some r) moved.slots
    ∙ ap (λ (m : ℕ). let r : Row = record { placing = s.tally.placing; setting = record { slots = s.tally.slots; slot_words = m; programs = 1 }; kept = kept_by t.exits (has_at masks k) u } in Some r) moved.slot_words
    ∙ ap (λ (q : Record). let r : Row = record { placing = s.tally.placing; setting = setting_of s.tally; kept = q } in Some r) kept
    ∙ sym (ap (served_if v tr) (row_here (at_jumps n t) k s at))

pub one_serves : (v : ImageData) (t : TalliesData) (k n m : ℕ) (s : Seat) (u : TallyData) (masks : List ℕ) → slice_get t.caches k ≡ Some s → Serves v t.exits k masks u → u.counts.services ≤ (told n s).counts.services + 1 →
    ServesAt v m (at_jumps n t) k → ServesAt v (suc m) (with_cache t k (seat_at t.jumps u) masks) k
one_serves v t k n m s u masks at serves count h =
    here_serves v (suc m) (with_cache t k (seat_at t.jumps u) masks) k (seat_at t.jumps u) (get_same t.caches k s (seat_at t.jumps u) at)
    (subst (λ (w : TallyData). Serves v t.exits k masks w × (w.counts.services ≤ suc m)) (sym (told_none t.jumps u))
    (serves, omega (arith, count, (serves_here v m (at_jumps n t) k s at h).1)))

-- what is known of the caches, once one has served
pub seated_one : (e : ExitsData) (masks masks' placed placed' : List ℕ) (all k : ℕ) (caches : List Seat) (jumps : ℕ) (s : Seat) (u : TallyData) → AreSeated e masks placed all caches jumps → slice_get caches k ≡ Some s →
    length masks' ≡ length masks → Marks e.blocks k u.queue placed placed' → u.counts.services ≤ 2 ^ 50 → AreSeated e masks' placed' all (slice_set caches k (seat_at jumps u)) jumps
seated_one e masks masks' placed placed' all k caches jumps s u are there long marks few = record {
  most = omega (arith, are.most, length-set caches k (seat_at jumps u));
  masks_long = long ∙ are.masks_long;
  placed_long = marks.are.long;
  all_is = λ j small. are.all_is j small ∙ ap (λ (n : ℕ). nat_lt j n) (sym (length-set caches k (seat_at jumps u)));
  each = λ j w at. elim (cases_eq j k) [
    | inl same ↦ here j w same at
    | inr ne ↦ (
        let before = are.each j w (sym (get_other caches k j (seat_at jumps u) ne) ∙ at) in
        let within = slice_get_within (slice_set caches k (seat_at jumps u)) j w at in
        record {
          marked = marks_other e.blocks k j u.queue w.tally.queue placed placed' marks (omega (arith, within, are.most, length-set caches k (seat_at jumps u))) ne before.marked;
          since = before.since;
          few = before.few;
        })
  ];
  few = are.few;
}
  where
    is_new : (j : ℕ) (w : Seat) → j ≡ k → slice_get (slice_set caches k (seat_at jumps u)) j ≡ Some w → seat_at jumps u ≡ w
    is_new j w same at = same_Some (seat_at jumps u) w (sym (get_same caches k s (seat_at jumps u) there) ∙ ap (λ (i : ℕ). slice_get (slice_set caches k (seat_at jumps u)) i) (sym same) ∙ at)

    here : (j : ℕ) (w : Seat) → j ≡ k → slice_get (slice_set caches k (seat_at jumps u)) j ≡ Some w → IsSeated e.blocks j placed' jumps w
    here j w same at =
        subst (λ (q : Seat). IsSeated e.blocks j placed' jumps q) (is_new j w same at)
        (subst (λ (i : ℕ). IsSeated e.blocks i placed' jumps (seat_at jumps u)) (sym same) (record { marked = marks.are; since = omega arith; few = few }))

-- over a link nothing changes
linked_policy : (v : ImageData) (e : ExitsData) (linked : ℕ → Bool) (s : TallyData) (x a : ℕ) → AreExits e → x < length e.from → linked x ≡ true →
    policy_of s.placing (setting_of s) (kept_by e linked s) v (direct (slice_index e.from x) (slice_index e.offsets x) a) ≡ kept_by e linked s
linked_policy v e linked s x a are lt is =
    policy_is s.placing (setting_of s) (kept_by e linked s) v (direct (slice_index e.from x) (slice_index e.offsets x) a)
    ∙ served_over_link (arrival_of s.placing) with_link (setting_of s) (kept_by e linked s) v (slice_index e.from x) (slice_index e.offsets x) a (linked_is e x linked are lt ∙ is)

-- a cache in which the exit is a link, and where there is none
pub one_linked : (v : ImageData) (t : TalliesData) (k x n : ℕ) → ServesAt v n t k → x < length t.exits.from → (k < length t.caches → has_at t.masks k x ≡ true) → (a : ℕ) →
    OneServed v (direct (slice_index t.exits.from x) (slice_index t.exits.offsets x) a) k t t
one_linked v t k x n h lt is a = by (slice_get t.caches k) refl
  where
    by : (o : Option Seat) → slice_get t.caches k ≡ o → OneServed v (direct (slice_index t.exits.from x) (slice_index t.exits.offsets x) a) k t t
    by None at = (let none : row_at t k ≡ None = row_absent t k at in none ∙ sym (ap (served_if v (direct (slice_index t.exits.from x) (slice_index t.exits.offsets x) a)) none))
    by (Some s) at = (
        let was = serves_here v n t k s at h in
        row_here t k s at
        ∙ ap (λ (q : Record). let r : Row = record (row_of t k s) { kept = q } in Some r) (sym (linked_policy v t.exits (has_at t.masks k) (told t.jumps s) x a was.0.stands.are lt (is (slice_get_within t.caches k s at))))
        ∙ sym (ap (served_if v (direct (slice_index t.exits.from x) (slice_index t.exits.offsets x) a)) (row_here t k s at)))

-- an exit that is a link of all
pub all_linked : (v : ImageData) (t : TalliesData) (x n : ℕ) → AreServing v n t → x < length t.exits.from → ((k : ℕ) → k < length t.caches → has_at t.masks k x ≡ true) → (a : ℕ) →
    AllServed v (direct (slice_index t.exits.from x) (slice_index t.exits.offsets x) a) t t
all_linked v t x n serving lt is a k = one_linked v t k x n (serving.each k) lt (is k) a

-- a cache in which the block of a jump stands: it is served as the jump comes
told_more : (jumps : ℕ) (s : Seat) → s.jumps ≤ jumps → told (jumps + 1) s ≡ served_tally (told jumps s)
told_more jumps s le =
    ap (λ (n : ℕ). let q : TallyData = record s.tally { counts = record s.tally.counts { services = n } } in q)
    (let more : s.tally.counts.services + (jumps + 1 - s.jumps) ≡ s.tally.counts.services + (jumps - s.jumps) + 1 = omega (arith, le) in more)

came : (v : ImageData) (t : TalliesData) (k b n : ℕ) (s : Seat) → SeatServes v n t k s → s.jumps ≤ t.jumps → Has s.tally.queue b → Entered v t.exits k b (told t.jumps s) (told (t.jumps + 1) s) t.masks t.masks
came v t k b n s h le there =
    subst (λ (w : TallyData). Entered v t.exits k b (told t.jumps s) w t.masks t.masks) (sym (told_more t.jumps s le))
    (entered v t.exits k b (told t.jumps s) (served_tally (told t.jumps s)) t.masks t.masks h.0 (served_there v t.exits k b (told t.jumps s) t.masks h.0 there))

pub one_came : (v : ImageData) (t : TalliesData) (k b n : ℕ) → ServesAt v n t k → ((s : Seat) → slice_get t.caches k ≡ Some s → (s.jumps ≤ t.jumps) × Has s.tally.queue b) → (a o : ℕ) → place_of v a ≡ Some (b, o) →
    OneServed v (indirect a) k t (at_jumps (t.jumps + 1) t)
one_came v t k b n h stands a o there = by (slice_get t.caches k) refl
  where
    by : (q : Option Seat) → slice_get t.caches k ≡ q → OneServed v (indirect a) k t (at_jumps (t.jumps + 1) t)
    by None at = row_absent (at_jumps (t.jumps + 1) t) k at ∙ sym (ap (served_if v (indirect a)) (row_absent t k at))
    by (Some s) at = (
        let is = stands s at in
        row_here (at_jumps (t.jumps + 1) t) k s at
        ∙ ap (λ (q : Record). let r : Row = record (row_of t k s) { kept = q } in Some r) ((came v t k b n s (serves_here v n t k s at h) is.0 is.1).kept a o there)
        ∙ sym (ap (served_if v (indirect a)) (row_here t k s at)))

pub one_comes : (v : ImageData) (t : TalliesData) (k b n : ℕ) → ServesAt v n t k → ((s : Seat) → slice_get t.caches k ≡ Some s → (s.jumps ≤ t.jumps) × Has s.tally.queue b) → ServesAt v (suc n) (at_jumps (t.jumps + 1) t) k
one_comes v t k b n h stands = by (slice_get t.caches k) refl
  where
    by : (q : Option Seat) → slice_get t.caches k ≡ q → ServesAt v (suc n) (at_jumps (t.jumps + 1) t) k
    by None at = nowhere_serves v (suc n) (at_jumps (t.jumps + 1) t) k at
    by (Some s) at = (
        let is = stands s at in
        let was = serves_here v n t k s at h in
        let now = came v t k b n s was is.0 is.1 in
        here_serves v (suc n) (at_jumps (t.jumps + 1) t) k s at (now.serves, omega (arith, now.services, was.1)))

-- ---- before anything has come

none_marked : (n k : ℕ) → AreMarked n k [] (replicate n 0)
none_marked n k = record {
  long = length-replicate {A = ℕ} n 0;
  stand = λ b lt h. absurd (both_ways (has_at (replicate n 0) k b) (ap (λ (m : ℕ). has m k) (get_or-replicate n b 0 0 lt) ∙ none_has 0 k (omega arith)) h);
  marked = λ b lt h. absurd h;
}

pub seated_new : (e : ExitsData) (frames : List Frame) (masks placed : List ℕ) (all : ℕ) (caches : List Seat) → masks ≡ replicate (length e.from) 0 → placed ≡ replicate e.blocks 0 → caches ≡ map (empty_of e.blocks) frames →
    length frames ≤ 64 → ((k : ℕ) → k < 64 → has all k ≡ nat_lt k (length frames)) → AreSeated e masks placed all caches 0
seated_new e frames masks placed all caches masks_are placed_are are few all_is = record {
  most = omega (arith, few, ap (λ (xs : List Seat). length xs) are, length-map frames (empty_of e.blocks));
  masks_long = ap (λ (xs : List ℕ). length xs) masks_are ∙ length-replicate {A = ℕ} (length e.from) 0;
  placed_long = ap (λ (xs : List ℕ). length xs) placed_are ∙ length-replicate {A = ℕ} e.blocks 0;
  all_is = λ k small. all_is k small ∙ ap (λ (n : ℕ). nat_lt k n) (sym (ap (λ (xs : List Seat). length xs) are ∙ length-map frames (empty_of e.blocks)));
  each = λ k s at. by k s (slice_get frames k) (sym (ap (λ (xs : List Seat). slice_get xs k) are ∙ slice_get-map (empty_of e.blocks) frames k) ∙ at);
  few = omega arith;
}
  where
    by : (k : ℕ) (s : Seat) (o : Option Frame) → option_map (empty_of e.blocks) o ≡ Some s → IsSeated e.blocks k placed 0 s
    by k s None at = absurd cc
    by k s (Some f) at =
        subst (λ (q : Seat). IsSeated e.blocks k placed 0 q) (same_Some (empty_of e.blocks f) s at)
        (record { marked = subst (λ (xs : List ℕ). AreMarked e.blocks k [] xs) (sym placed_are) (none_marked e.blocks k); since = omega arith; few = omega arith })

-- ---- the calls, as their code meets them

pub cache_call : (t : TalliesData) (caches : List Seat) (k : ℕ) (s : Seat) → caches ≡ t.caches → k < length t.caches → s ≡ slice_index_or caches k s → slice_get t.caches k ≡ Some s
cache_call t caches k s same lt read = slice_get_read t.caches (length t.caches) k s refl lt (read ∙ ap (λ (xs : List Seat). slice_index_or xs k s) same)

pub counts_call : (t : TalliesData) (k : ℕ) (s : Seat) (counts : Counts) → slice_get t.caches k ≡ Some s → counts ≡ (told t.jumps s).counts → (r : Row) → row_at t k ≡ Some r → counts ≡ r.kept.counts
counts_call t k s counts at is r row = is ∙ ap (λ (q : Row). q.kept.counts) (same_Some (row_of t k s) r (sym (row_here t k s at) ∙ row))

pub serves_call : (v : ImageData) (e e' : ExitsData) (k : ℕ) (s s' : TallyData) (old old' : List ℕ) → e' ≡ e → s' ≡ s → old' ≡ old → Serves v e k old s → Serves v e' k old' s'
serves_call v e e' k s s' old old' same is sets h =
    subst (λ (q : ExitsData). Serves v q k old' s') (sym same) (subst (λ (q : TallyData). Serves v e k old' q) (sym is) (subst (λ (q : List ℕ). Serves v e k q s) (sym sets) h))

pub crossed_call : (v : ImageData) (e e' : ExitsData) (k x : ℕ) (s s' u : TallyData) (old old' new : List ℕ) → e ≡ e' → s ≡ s' → old ≡ old' → Crossed v e k x s u old new → Crossed v e' k x s' u old' new
crossed_call v e e' k x s s' u old old' new same is sets c =
    subst (λ (q : ExitsData). Crossed v q k x s' u old' new) same (subst (λ (q : TallyData). Crossed v e k x q u old' new) is (subst (λ (q : List ℕ). Crossed v e k x s u q new) sets c))

pub entered_call : (v : ImageData) (e e' : ExitsData) (k b : ℕ) (s s' u : TallyData) (old old' new : List ℕ) → e ≡ e' → s ≡ s' → old ≡ old' → Entered v e k b s u old new → Entered v e' k b s' u old' new
entered_call v e e' k b s s' u old old' new same is sets c =
    subst (λ (q : ExitsData). Entered v q k b s' u old' new) same (subst (λ (q : TallyData). Entered v e k b q u old' new) is (subst (λ (q : List ℕ). Entered v e k b s u q new) sets c))

-- the caches as the code leaves them
pub back_call : (t : TalliesData) (e : ExitsData) (masks : List ℕ) (caches : List Seat) (jumps k : ℕ) (seat seat' : Seat) (written new : List ℕ) →
    (let q : TalliesData = record { exits = e; masks = masks; caches = caches; jumps = jumps } in q ≡ t) → seat ≡ seat' → written ≡ new →
    (let q : TalliesData = record { exits = e; masks = written; caches = slice_set caches k seat; jumps = jumps } in q ≡ with_cache t k seat' new)
back_call t e masks caches jumps k seat seat' written new is same sets =
    let front = ap (λ (ms : List ℕ). let q : TalliesData = record { exits = e; masks = ms; caches = slice_set caches k seat; jumps = jumps } in q) sets in
    let middle = ap (λ (s : Seat). let q : TalliesData = record { exits = e; masks = new; caches = slice_set caches k s; jumps = jumps } in q) same in
    front ∙ middle ∙ ap (λ (q : TalliesData). with_cache q k seat' new) is

pub inside_call : (e : ExitsData) (masks masks' written placed placed' written' : List ℕ) (all k : ℕ) (caches : List Seat) (jumps j : ℕ) (s : Seat) (u : TallyData) → AreSeated e masks placed all caches jumps → slice_get caches k ≡ Some s →
    length masks' ≡ length masks → Marks e.blocks k u.queue placed placed' → u.counts.services ≤ 2 ^ 50 → written ≡ masks' → written' ≡ placed' → j ≡ jumps → AreSeated e written written' all (slice_set caches k (seat_at j u)) jumps
inside_call e masks masks' written placed placed' written' all k caches jumps j s u are at long marks few sets sets' same =
    subst (λ (n : ℕ). AreSeated e written written' all (slice_set caches k (seat_at n u)) jumps) (sym same)
    (subst (λ (xs : List ℕ). AreSeated e xs written' all (slice_set caches k (seat_at jumps u)) jumps) (sym sets)
    (subst (λ (xs : List ℕ). AreSeated e masks' xs all (slice_set caches k (seat_at jumps u)) jumps) (sym sets') (seated_one e masks masks' placed placed' all k caches jumps s u are at long marks few)))

pub marks_call : (n k : ℕ) (queue placed placed' new : List ℕ) → placed ≡ placed' → Marks n k queue placed new → Marks n k queue placed' new
marks_call n k queue placed placed' new same = subst (λ (xs : List ℕ). Marks n k queue xs new) same

pub few_call : (v : ImageData) (t : TalliesData) (k n : ℕ) (s : Seat) (w u : TallyData) → slice_get t.caches k ≡ Some s → ServesAt v n t k → w ≡ told t.jumps s → u.counts.services ≤ w.counts.services + 1 → u.counts.services ≤ n + 1
few_call v t k n s w u at h is one = omega (arith, (serves_here v n t k s at h).1, ap (λ (q : TallyData). q.counts.services) is, one)
