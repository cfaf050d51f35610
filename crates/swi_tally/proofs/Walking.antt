-- The caches of a set serve, one behind the other.
use Rattle.std.proofs.Common.{◌≡◌, ℕ, suc, ◌+◌, ◌-◌, ◌<◌, ◌≤◌, ◌==◌, ◌&&◌, Bool, true, false, not, nat_lt, List, length, slice_index, slice_index_or, slice_get, Option, Some, None, IfSome, arith, refl, sym, ◌∙◌, ap, subst, inl, inr}
use Rattle.std.proofs.lemmas.Bool.{cases_eq, cases_lt, both_ways, and_parts, eq-eqb, ne_eqb, lt-ltb, ltb-true}
use Rattle.std.proofs.lemmas.List.{get_or_read}
use Rattle.std.proofs.lemmas.Option.{slice_get_within, slice_get_past}
use Rattle.swi_image.specs.Format.{ImageData}
use Rattle.swi_image.specs.Place.{place_of}
use Rattle.swi_rom.specs.Record.{Transfer, direct, indirect}
use Rattle.swi_links.specs.Chains.{Has}
use Rattle.swi_tally.specs.declared.tallies.Seat.{Seat}
use Rattle.swi_tally.specs.Masks.{has, has_at}
use Rattle.swi_tally.specs.Exits.{ExitsData}
use Rattle.swi_tally.specs.Tallies.{TalliesData, AreSeated, AllServed, AreServing, OneMoved, OneServed, SeatServes, ServesAt, before, row_at, served_if}
use Rattle.swi_tally.proofs.Sets.{and_all, none_has, not_on}
use Rattle.swi_tally.proofs.Siding.{AgreeAt, agree_row, agree_serves, at_jumps, moved_agree, more_serves, one_came, one_comes, one_linked, row_none}

-- The caches outside the set have served each transfer that is meant. Those in it are as they were, but that so many jumps have come, and
-- of each of them holds what held at first.
pub record Passing (P : Transfer → Type 0) (Q : ℕ → Type 0) (v : ImageData) (rest jumps : ℕ) (old now : TalliesData) : Type 0 where
  pub exits : now.exits ≡ old.exits
  pub masks : length now.masks ≡ length old.masks
  pub caches : length now.caches ≡ length old.caches
  pub jumps_are : now.jumps ≡ jumps
  pub served : (tr : Transfer) → P tr → (j : ℕ) → j < 64 → has rest j ≡ false → OneServed v tr j old now
  pub serve : (n j : ℕ) → j < 64 → has rest j ≡ false → ServesAt v n old j → ServesAt v (suc n) now j
  pub ahead : (j : ℕ) → j < 64 → has rest j ≡ true → slice_get now.caches j ≡ slice_get old.caches j
  pub links : (j x : ℕ) → j < 64 → has rest j ≡ true → x < length old.exits.from → has_at now.masks j x ≡ has_at old.masks j x
  pub hold : (j : ℕ) → j < 64 → has rest j ≡ true → Q j

-- one in the set, before those jumps
pub ahead_agrees : {P : Transfer → Type 0} {Q : ℕ → Type 0} (v : ImageData) (rest jumps : ℕ) (old now : TalliesData) → Passing P Q v rest jumps old now → (j : ℕ) → j < 64 → has rest j ≡ true → AgreeAt j old (at_jumps old.jumps now)
ahead_agrees v rest jumps old now p j small in_set = record { exits = p.exits; masks = p.masks; jumps = refl; cache = p.ahead j small in_set; links = λ x lt. p.links j x small in_set lt }

pub passing_next : (P : Transfer → Type 0) (Q : ℕ → Type 0) (v : ImageData) (rest rest' jumps k : ℕ) (old now next : TalliesData) → Passing P Q v rest jumps old now → k < 64 → has rest k ≡ true →
    ((d : ℕ) → d < 64 → has rest' d ≡ (has rest d && not (d == k))) → OneMoved k now next → ((tr : Transfer) → P tr → row_at next k ≡ served_if v tr (row_at (at_jumps old.jumps now) k)) →
    ((n : ℕ) → ServesAt v n (at_jumps old.jumps now) k → ServesAt v (suc n) next k) → Passing P Q v rest' jumps old next
passing_next P Q v rest rest' jumps k old now next so_far small in_set less moved step on = record {
  exits = moved.exits ∙ so_far.exits;
  masks = moved.masks ∙ so_far.masks;
  caches = moved.caches ∙ so_far.caches;
  jumps_are = moved.jumps ∙ so_far.jumps_are;
  served = λ tr p j within out. elim (cases_eq j k) [
    | inl same ↦ rw same (step tr p ∙ ap (served_if v tr) (agree_row k old (at_jumps old.jumps now) (ahead_agrees v rest jumps old now so_far k small in_set)))
    | inr ne ↦ agree_row j now next (moved_agree k j now next moved within ne) ∙ so_far.served tr p j within (outside j within ne out)
  ];
  serve = λ n j within out h. elim (cases_eq j k) [
    | inl same ↦ subst (λ (i : ℕ). ServesAt v (suc n) next i) (sym same) (on n (agree_serves v n k old (at_jumps old.jumps now) (ahead_agrees v rest jumps old now so_far k small in_set) (subst (λ (i : ℕ). ServesAt v n old i) same h)))
    | inr ne ↦ agree_serves v (suc n) j now next (moved_agree k j now next moved within ne) (so_far.serve n j within (outside j within ne out) h)
  ];
  ahead = λ j within is. (let inside = still j within is in moved.others j inside.1 ∙ so_far.ahead j within inside.0);
  links = λ j x within is lt. (
      let inside = still j within is in
      moved.links j x within inside.1 (omega (arith, lt, ap (λ (e : ExitsData). length e.from) so_far.exits)) ∙ so_far.links j x within inside.0 lt);
  hold = λ j within is. so_far.hold j within (still j within is).0;
}
  where
    outside : (j : ℕ) → j < 64 → (j ≡ k → ⊥) → has rest' j ≡ false → has rest j ≡ false
    outside j within ne out = sym (less j within ∙ ap (λ (t : Bool). has rest j && not t) (ne_eqb j k ne) ∙ and_all (has rest j)) ∙ out

    apart : (j : ℕ) → not (j == k) ≡ true → j ≡ k → ⊥
    apart j is same = both_ways (j == k) (not_on (j == k) is) (eq-eqb j k same)

    still : (j : ℕ) → j < 64 → has rest' j ≡ true → (has rest j ≡ true) × (j ≡ k → ⊥)
    still j within is = (let parts = and_parts (has rest j) (not (j == k)) (sym (less j within) ∙ is) in (parts.0, apart j parts.1))

-- all have
pub passed_served : (P : Transfer → Type 0) (Q : ℕ → Type 0) (v : ImageData) (rest jumps : ℕ) (old now : TalliesData) → Passing P Q v rest jumps old now → rest ≤ 0 → length old.caches ≤ 64 → (tr : Transfer) → P tr → AllServed v tr old now
passed_served P Q v rest jumps old now whole over few tr p k = elim (cases_lt k 64) [
  | inl small ↦ whole.served tr p k small (none_has rest k over)
  | inr past ↦ row_none now k (omega (arith, few, whole.caches, past)) ∙ sym (ap (served_if v tr) (row_none old k (omega (arith, few, past))))
]

pub passed_serving : (P : Transfer → Type 0) (Q : ℕ → Type 0) (v : ImageData) (rest jumps : ℕ) (old now : TalliesData) → Passing P Q v rest jumps old now → rest ≤ 0 → length old.caches ≤ 64 → jumps ≤ old.jumps + 1 → (n : ℕ) →
    AreServing v n old → AreServing v (suc n) now
passed_serving P Q v rest jumps old now whole over few more n serving = record {
  each = λ k. elim (cases_lt k 64) [
    | inl small ↦ whole.serve n k small (none_has rest k over) (serving.each k)
    | inr past ↦ subst (λ (o : Option Seat). IfSome o (SeatServes v (suc n) now k)) (sym (slice_get_past now.caches k (omega (arith, few, whole.caches, past)))) tt
  ];
  few = omega (arith, whole.jumps_are, more, serving.few);
}

-- the transfers over an exit, and those by a jump into a block
abbrev pub Over : ImageData → ExitsData → ℕ → Transfer → Type 0
Over v e x tr = (a : ℕ) × (place_of v a ≡ Some (slice_index e.into x, slice_index e.ats x)) × (tr ≡ direct (slice_index e.from x) (slice_index e.offsets x) a)

abbrev pub Into : ImageData → ℕ → Transfer → Type 0
Into v b tr = (a : ℕ) × (o : ℕ) × (place_of v a ≡ Some (b, o)) × (tr ≡ indirect a)

-- ---- sets of caches that lack something

-- a cache that is there, outside the set
has_it : (all mask rest k n : ℕ) → ((d : ℕ) → d < 64 → has rest d ≡ (has all d && not (has mask d))) → has all k ≡ nat_lt k n → k < 64 → k < n → has rest k ≡ false → has mask k ≡ true
has_it all mask rest k n lacks all_is small lt out = by (has mask k) refl
  where
    by : (t : Bool) → has mask k ≡ t → has mask k ≡ true
    by true is = is
    by false is = absurd (both_ways (has rest k) out (lacks k small ∙ ap (λ (t : Bool). t && not (has mask k)) (all_is ∙ lt-ltb k n lt) ∙ ap not is))

-- and one in it
lacks_it : (all mask rest k n : ℕ) → ((d : ℕ) → d < 64 → has rest d ≡ (has all d && not (has mask d))) → has all k ≡ nat_lt k n → k < 64 → has rest k ≡ true → (k < n) × (has mask k ≡ false)
lacks_it all mask rest k n lacks all_is small is =
    let parts = and_parts (has all k) (not (has mask k)) (sym (lacks k small) ∙ is) in
    (ltb-true k n (sym all_is ∙ parts.0), not_on (has mask k) parts.1)

-- the set of an exit or block, as it is read
read_call : (list masks : List ℕ) (x m : ℕ) → list ≡ masks → x < length masks → m ≡ slice_index_or list x m → m ≡ slice_index masks x
read_call list masks x m same lt read = get_or_read list x m (omega (arith, lt, ap (λ (xs : List ℕ). length xs) same)) read 0 ∙ ap (λ (xs : List ℕ). slice_index xs x) same

-- ---- over an exit

-- a cache in which it isn't a link
abbrev pub Unlinked : TalliesData → ℕ → ℕ → Type 0
Unlinked t x k = (k < length t.caches) × (has_at t.masks k x ≡ false)

pub crossing_first : (v : ImageData) (t : TalliesData) (masks placed : List ℕ) (caches : List Seat) (jumps x all mask rest n : ℕ) → ((d : ℕ) → d < 64 → has rest d ≡ (has all d && not (has mask d))) →
    AreSeated t.exits masks placed all caches jumps → caches ≡ t.caches → masks ≡ t.masks → mask ≡ slice_index_or masks x mask → x < length t.exits.from → AreServing v n t →
    Passing (Over v t.exits x) (Unlinked t x) v rest t.jumps t t
crossing_first v t masks placed caches jumps x all mask rest n lacks are same sets read lt serving = record {
  exits = refl;
  masks = refl;
  caches = refl;
  jumps_are = refl;
  served = λ tr p j small out. subst (λ (q : Transfer). OneServed v q j t t) (sym p.2)
      (one_linked v t j x n (serving.each j) lt (λ inside. ap (λ (m : ℕ). has m j) (sym at) ∙ has_it all mask rest j (length t.caches) lacks (all_is j small) small inside out) p.0);
  serve = λ m j small out h. more_serves v m t j h;
  ahead = λ j small is. refl;
  links = λ j y small is inside. refl;
  hold = λ j small is. (let it = lacks_it all mask rest j (length t.caches) lacks (all_is j small) small is in (it.0, ap (λ (m : ℕ). has m j) (sym at) ∙ it.1));
}
  where
    at : mask ≡ slice_index t.masks x
    at = read_call masks t.masks x mask sets (omega (arith, lt, are.masks_long, ap (λ (xs : List ℕ). length xs) sets)) read

    all_is : (k : ℕ) → k < 64 → has all k ≡ nat_lt k (length t.caches)
    all_is k small = are.all_is k small ∙ ap (λ (cs : List Seat). nat_lt k (length cs)) same

same_jumps : (n : ℕ) (t : TalliesData) → t.jumps ≡ n → at_jumps n t ≡ t
same_jumps n t is = ap (λ (m : ℕ). at_jumps m t) (sym is)

pub crossing_serves : {P : Transfer → Type 0} {Q : ℕ → Type 0} (v : ImageData) (rest k n : ℕ) (old now : TalliesData) → Passing P Q v rest old.jumps old now → k < 64 → has rest k ≡ true → AreServing v n old → ServesAt v n now k
crossing_serves v rest k n old now p small is serving =
    subst (λ (t : TalliesData). ServesAt v n t k) (same_jumps old.jumps now p.jumps_are) (agree_serves v n k old (at_jumps old.jumps now) (ahead_agrees v rest old.jumps old now p k small is) (serving.each k))

pub crossing_unlinked : {P : Transfer → Type 0} (v : ImageData) (rest k x : ℕ) (old now : TalliesData) → Passing P (Unlinked old x) v rest old.jumps old now → k < 64 → has rest k ≡ true → x < length old.exits.from → has_at now.masks k x ≡ false
crossing_unlinked v rest k x old now p small is lt = p.links k x small is lt ∙ (p.hold k small is).1

pub crossing_next : (v : ImageData) (rest rest' k x : ℕ) (old now next : TalliesData) → Passing (Over v old.exits x) (Unlinked old x) v rest old.jumps old now → k < 64 → has rest k ≡ true →
    ((d : ℕ) → d < 64 → has rest' d ≡ (has rest d && not (d == k))) → OneMoved k now next →
    ((a : ℕ) → place_of v a ≡ Some (slice_index now.exits.into x, slice_index now.exits.ats x) → OneServed v (direct (slice_index now.exits.from x) (slice_index now.exits.offsets x) a) k now next) →
    ((n : ℕ) → ServesAt v n now k → ServesAt v (suc n) next k) → Passing (Over v old.exits x) (Unlinked old x) v rest' old.jumps old next
crossing_next v rest rest' k x old now next p small is less moved step on =
    passing_next (Over v old.exits x) (Unlinked old x) v rest rest' old.jumps k old now next p small is less moved
    (λ tr over. subst (λ (q : Transfer). row_at next k ≡ served_if v q (row_at (at_jumps old.jumps now) k)) (sym over.2)
    (steps over.0 over.1 ∙ ap (λ (t : TalliesData). served_if v (direct (slice_index old.exits.from x) (slice_index old.exits.offsets x) over.0) (row_at t k)) (sym same)))
    (λ n h. on n (subst (λ (t : TalliesData). ServesAt v n t k) same h))
  where
    same : at_jumps old.jumps now ≡ now
    same = same_jumps old.jumps now p.jumps_are

    steps : (a : ℕ) → place_of v a ≡ Some (slice_index old.exits.into x, slice_index old.exits.ats x) → OneServed v (direct (slice_index old.exits.from x) (slice_index old.exits.offsets x) a) k now next
    steps = subst (λ (e : ExitsData). (a : ℕ) → place_of v a ≡ Some (slice_index e.into x, slice_index e.ats x) → OneServed v (direct (slice_index e.from x) (slice_index e.offsets x) a) k now next) p.exits step

-- ---- by a jump

abbrev pub state_of : ExitsData → List ℕ → List Seat → ℕ → TalliesData
state_of e masks caches jumps = record { exits = e; masks = masks; caches = caches; jumps = jumps }

-- a cache that is there, and counts on its own at no later jump
abbrev pub Earlier : TalliesData → ℕ → Type 0
Earlier t k = (k < length t.caches) × ((s : Seat) → slice_get t.caches k ≡ Some s → s.jumps ≤ t.jumps)

before_come : (e : ExitsData) (masks : List ℕ) (caches : List Seat) (jumps : ℕ) → before (state_of e masks caches (jumps + 1)) ≡ state_of e masks caches jumps
before_come e masks caches jumps = ap (λ (n : ℕ). state_of e masks caches n) (let one : jumps + 1 - 1 ≡ jumps = omega arith in one)

pub before_is : (e : ExitsData) (masks : List ℕ) (caches : List Seat) (jumps : ℕ) (t : TalliesData) → state_of e masks caches jumps ≡ t → before (state_of e masks caches (jumps + 1)) ≡ t
before_is e masks caches jumps t is = before_come e masks caches jumps ∙ is

entering_by : (v : ImageData) (t : TalliesData) (placed : List ℕ) (b all mask rest n : ℕ) → ((d : ℕ) → d < 64 → has rest d ≡ (has all d && not (has mask d))) → AreSeated t.exits t.masks placed all t.caches t.jumps →
    mask ≡ slice_index placed b → b < t.exits.blocks → AreServing v n t → Passing (Into v b) (Earlier t) v rest (t.jumps + 1) t (at_jumps (t.jumps + 1) t)
entering_by v t placed b all mask rest n lacks are read lt serving = record {
  exits = refl;
  masks = refl;
  caches = refl;
  jumps_are = refl;
  served = λ tr p j small out. subst (λ (q : Transfer). OneServed v q j t (at_jumps (t.jumps + 1) t)) (sym p.3) (one_came v t j b n (serving.each j) (stands j small out) p.0 p.1 p.2);
  serve = λ m j small out h. one_comes v t j b m h (stands j small out);
  ahead = λ j small is. refl;
  links = λ j y small is inside. refl;
  hold = λ j small is. ((lacks_it all mask rest j (length t.caches) lacks (are.all_is j small) small is).0, λ s at. (are.each j s at).since);
}
  where
    stands : (j : ℕ) → j < 64 → has rest j ≡ false → (s : Seat) → slice_get t.caches j ≡ Some s → (s.jumps ≤ t.jumps) × Has s.tally.queue b
    stands j small out s at =
        let is = are.each j s at in
        (is.since, is.marked.stand b lt (ap (λ (m : ℕ). has m j) (sym read) ∙ has_it all mask rest j (length t.caches) lacks (are.all_is j small) small (slice_get_within t.caches j s at) out))

pub entering_first : (v : ImageData) (e : ExitsData) (masks placed : List ℕ) (caches : List Seat) (jumps b all mask rest n : ℕ) (t : TalliesData) → ((d : ℕ) → d < 64 → has rest d ≡ (has all d && not (has mask d))) →
    AreSeated e masks placed all caches jumps → mask ≡ slice_index_or placed b mask → state_of e masks caches jumps ≡ t → b < t.exits.blocks → AreServing v n t →
    Passing (Into v b) (Earlier (before (state_of e masks caches (jumps + 1)))) v rest (jumps + 1) (before (state_of e masks caches (jumps + 1))) (state_of e masks caches (jumps + 1))
entering_first v e masks placed caches jumps b all mask rest n t lacks are read is lt serving =
    subst (λ (q : TalliesData). Passing (Into v b) (Earlier q) v rest (jumps + 1) q (state_of e masks caches (jumps + 1))) (sym (before_come e masks caches jumps))
    (entering_by v (state_of e masks caches jumps) placed b all mask rest n lacks are (read_call placed placed b mask refl (omega (arith, below, are.placed_long)) read) below
    (subst (λ (q : TalliesData). AreServing v n q) (sym is) serving))
  where
    below : b < e.blocks
    below = omega (arith, lt, ap (λ (q : TalliesData). q.exits.blocks) is)

-- the loop's state is one jump ahead of where it began
before_now : (m : ℕ) (old now : TalliesData) → now.jumps ≡ m → old.jumps ≡ m - 1 → at_jumps old.jumps now ≡ before now
before_now m old now is at = ap (λ (n : ℕ). at_jumps n now) (at ∙ ap (λ (n : ℕ). n - 1) (sym is))

pub entering_serves : {P : Transfer → Type 0} {Q : ℕ → Type 0} (v : ImageData) (rest k n : ℕ) (first now : TalliesData) → Passing P Q v rest first.jumps (before first) now → k < 64 → has rest k ≡ true → AreServing v n (before first) → ServesAt v n (before now) k
entering_serves v rest k n first now p small is serving =
    subst (λ (t : TalliesData). ServesAt v n t k) (before_now first.jumps (before first) now p.jumps_are refl)
    (agree_serves v n k (before first) (at_jumps (before first).jumps now) (ahead_agrees v rest first.jumps (before first) now p k small is) (serving.each k))

pub entering_since : {P : Transfer → Type 0} (v : ImageData) (rest k : ℕ) (first now : TalliesData) → Passing P (Earlier (before first)) v rest first.jumps (before first) now → k < 64 → has rest k ≡ true → 0 < first.jumps →
    IfSome (slice_get now.caches k) (λ s. s.jumps < now.jumps)
entering_since v rest k first now p small is some = by (slice_get first.caches k) refl
  where
    by : (o : Option Seat) → slice_get first.caches k ≡ o → IfSome (slice_get now.caches k) (λ s. s.jumps < now.jumps)
    by None at = subst (λ (o : Option Seat). IfSome o (λ s. s.jumps < now.jumps)) (sym (p.ahead k small is ∙ at)) tt
    by (Some s) at = subst (λ (o : Option Seat). IfSome o (λ s. s.jumps < now.jumps)) (sym (p.ahead k small is ∙ at)) (omega (arith, (p.hold k small is).1 s at, p.jumps_are, some))

pub entering_next : (v : ImageData) (rest rest' k b : ℕ) (first now next : TalliesData) → Passing (Into v b) (Earlier (before first)) v rest first.jumps (before first) now → k < 64 → has rest k ≡ true →
    ((d : ℕ) → d < 64 → has rest' d ≡ (has rest d && not (d == k))) → OneMoved k now next →
    ((a o : ℕ) → place_of v a ≡ Some (b, o) → row_at next k ≡ served_if v (indirect a) (row_at (before now) k)) → ((n : ℕ) → ServesAt v n (before now) k → ServesAt v (suc n) next k) →
    Passing (Into v b) (Earlier (before first)) v rest' first.jumps (before first) next
entering_next v rest rest' k b first now next p small is less moved step on =
    passing_next (Into v b) (Earlier (before first)) v rest rest' first.jumps k (before first) now next p small is less moved
    (λ tr into. subst (λ (q : Transfer). row_at next k ≡ served_if v q (row_at (at_jumps (before first).jumps now) k)) (sym into.3)
    (step into.0 into.1 into.2 ∙ ap (λ (t : TalliesData). served_if v (indirect into.0) (row_at t k)) (sym same)))
    (λ n h. on n (subst (λ (t : TalliesData). ServesAt v n t k) same h))
  where
    same : at_jumps (before first).jumps now ≡ before now
    same = before_now first.jumps (before first) now p.jumps_are refl
