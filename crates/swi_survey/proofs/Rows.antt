-- Caches that have served transfers, one behind the other, and transfers of which nothing is kept.
use Rattle.std.proofs.Common.{◌≡◌, ℕ, ◌<◌, ◌≤◌, List, [], ◌∷◌, ◌++◌, length, slice_get, slice_index, Option, Some, None, IfSome, arith, refl, sym, ◌∙◌, ap, subst}
use Rattle.swi_image.specs.Format.{ImageData}
use Rattle.swi_image.specs.Place.{place_of}
use Rattle.swi_rom.specs.Record.{Record, Transfer, direct, target_of}
use Rattle.swi_rom.specs.Service.{Setting}
use Rattle.swi_rom.specs.Policy.{served_outside, with_link}
use Rattle.swi_board.proofs.Counting.{after_append}
use Rattle.swi_tally.specs.declared.tally.Placing.{Placing}
use Rattle.swi_tally.specs.declared.exits.Exit.{Exit}
use Rattle.swi_tally.specs.declared.tallies.Seat.{Seat}
use Rattle.swi_tally.specs.Exits.{ExitsData}
use Rattle.swi_tally.specs.Tally.{arrival_of, policy_of}
use Rattle.swi_tally.specs.Tallies.{TalliesData, Row, AllServed, AreServing, SeatServes, row_at, served_if}
use Rattle.swi_tally.proofs.Crossing.{policy_is}
use Rattle.swi_survey.specs.Ways.{HasNumber, exit_if, exit_to}
use Rattle.swi_survey.specs.Track.{AllAfter, after_row}

pub after_none : (v : ImageData) (o : Option Row) → after_row v [] o ≡ o
after_none v None = refl
after_none v (Some r) = refl

pub after_one : (v : ImageData) (t : Transfer) (o : Option Row) → after_row v (t ∷ []) o ≡ served_if v t o
after_one v t None = refl
after_one v t (Some r) = refl

pub after_more : (v : ImageData) (xs ys : List Transfer) (o : Option Row) → after_row v (xs ++ ys) o ≡ after_row v ys (after_row v xs o)
after_more v xs ys None = refl
after_more v xs ys (Some r) = ap (λ (q : Record). let w : Row = record r { kept = q } in Some w) (after_append (policy_of r.placing r.setting) v r.kept xs ys)

-- all served none, or one
pub all_none : (v : ImageData) (c : TalliesData) → AllAfter v [] c c
all_none v c k = sym (after_none v (row_at c k))

pub all_one : (v : ImageData) (t : Transfer) (old new : TalliesData) → AllServed v t old new → AllAfter v (t ∷ []) old new
all_one v t old new served k = served k ∙ sym (after_one v t (row_at old k))

pub as_list : (v : ImageData) (xs ys : List Transfer) (old new : TalliesData) → xs ≡ ys → AllAfter v xs old new → AllAfter v ys old new
as_list v xs ys old new same served = subst (λ (l : List Transfer). AllAfter v l old new) same served

-- of a transfer to an address where no text word stands nothing is kept
policy_outside : (p : Placing) (s : Setting) (r : Record) (v : ImageData) (t : Transfer) → place_of v (target_of t) ≡ None → policy_of p s r v t ≡ r
policy_outside p s r v t nowhere = policy_is p s r v t ∙ served_outside (arrival_of p) with_link s r v t nowhere

row_outside : (v : ImageData) (t : Transfer) → place_of v (target_of t) ≡ None → (o : Option Row) → o ≡ served_if v t o
row_outside v t nowhere None = refl
row_outside v t nowhere (Some r) = ap (λ (q : Record). let w : Row = record r { kept = q } in Some w) (sym (policy_outside r.placing r.setting r.kept v t nowhere))

pub none_served : (v : ImageData) (t : Transfer) (c : TalliesData) → place_of v (target_of t) ≡ None → AllServed v t c c
none_served v t c nowhere k = row_outside v t nowhere (row_at c k)

-- what serves with so many services serves with more
some_more : (v : ImageData) (c : TalliesData) (k n m : ℕ) → n ≤ m → (o : Option Seat) → IfSome o (SeatServes v n c k) → IfSome o (SeatServes v m c k)
some_more v c k n m le None h = tt
some_more v c k n m le (Some s) h = (h.0, omega (arith, h.1, le))

pub serving_more : (v : ImageData) (n m : ℕ) (c : TalliesData) → n ≤ m → AreServing v n c → AreServing v m c
serving_more v n m c le h = record { each = λ k. some_more v c k n m le (slice_get c.caches k) (h.each k); few = omega (arith, h.few, le) }

-- ---- the exit with a number, if there is one

pub cross_one : (v : ImageData) (old new : TalliesData) (x : ℕ) (p : ℕ × ℕ) (a : ℕ) →
    ((b : ℕ) → place_of v b ≡ Some (slice_index old.exits.into x, slice_index old.exits.ats x) → AllServed v (direct (slice_index old.exits.from x) (slice_index old.exits.offsets x) b) old new) →
    HasNumber old.exits (exit_to v p a) (Some x) → AllServed v (direct p.0 p.1 a) old new
cross_one v old new x p a served has = by (place_of v a) refl has
  where
    by : (q : Option (ℕ × ℕ)) → place_of v a ≡ q → HasNumber old.exits (exit_if p q) (Some x) → AllServed v (direct p.0 p.1 a) old new
    by None at h = absurd cc
    by (Some q) at h = (
        let there : place_of v a ≡ Some (slice_index old.exits.into x, slice_index old.exits.ats x) =
        at ∙ sym (ap (λ (m : ℕ). Some (m, slice_index old.exits.ats x)) h.3 ∙ ap (λ (m : ℕ). Some (q.0, m)) h.4) in
        subst (λ (m : ℕ). AllServed v (direct m p.1 a) old new) h.1 (subst (λ (m : ℕ). AllServed v (direct (slice_index old.exits.from x) m a) old new) h.2 (served a there)))

-- a number is that of an exit
pub number_known : (e : ExitsData) (x : Option Exit) (n : Option ℕ) → HasNumber e x n → IfSome n (λ m. m < length e.from)
number_known e None n has = subst (λ (o : Option ℕ). IfSome o (λ m. m < length e.from)) (sym has) tt
number_known e (Some x) None has = tt
number_known e (Some x) (Some n) has = has.0

pub cross_none : (v : ImageData) (c : TalliesData) (p : ℕ × ℕ) (a : ℕ) → HasNumber c.exits (exit_to v p a) None → AllServed v (direct p.0 p.1 a) c c
cross_none v c p a has = by (place_of v a) refl has
  where
    by : (q : Option (ℕ × ℕ)) → place_of v a ≡ q → HasNumber c.exits (exit_if p q) None → AllServed v (direct p.0 p.1 a) c c
    by None at h = none_served v (direct p.0 p.1 a) c at
    by (Some q) at h = absurd h
