-- A call that is to be made again, and one that isn't.
use Rattle.std.proofs.Common.{◌≡◌, ◌&&◌, ◌+◌, ◌<◌, ℕ, Bool, true, false, List, slice_index, Option, Some, None, refl, sym, subst}
use Rattle.std.proofs.lemmas.Bool.{and_from, both_ways, eq-eqb, false_from_ne_true, ne_eqb}
use Rattle.swi_image.specs.Place.{length_at, place_of}
use Rattle.swi_rom.specs.Coherent.{ExitAt}
use Rattle.swi_rom.specs.Policy.{is_over_link}
use Rattle.swi_rom.specs.Record.{Placed, Transfer, direct, exit_among, indirect, is_linked, target_of}
use Rattle.swi_slots.specs.Keys.{Images}
use Rattle.swi_slots.specs.Slots.{Slots, kept_by, links_of, setting_of}
use Rattle.swi_slots.proofs.Crossing.{ExitIn, exit_in, exit_same}
use Rattle.swi_chip.specs.declared.chip.Chip.{Chip}
use Rattle.swi_chip.specs.Service.{Called, ChipServed, ChipWaits, CountsRefused, HasFewer, StandsFor, again, is_crowded, must_wait, portion, with_links}
use Rattle.swi_chip.proofs.Entering.{no_slot, place_known}
use Rattle.swi_chip.proofs.Fewer.{few_alike, moves_alike, refused_alike}

-- over an exit that isn't linked goes no transfer over a link
pub over_none : {s : Slots} {vs : Images} {ram : List ℕ} {lists : List (List ℕ)} {c : Chip} → StandsFor s vs ram lists c → (at target b o f : ℕ) → ExitAt (vs s.turn) (kept_by s) at target → Placed (kept_by s) b f → o < length_at (vs s.turn) b → at ≡ f + o →
    is_over_link (kept_by s) (direct b o target) ≡ false
over_none {s} {vs} {ram} k at target b o f x placed inside is =
    let e : ExitIn vs s at target = exit_in vs s ram at target k.serves x in
    let same = exit_same vs s ram at target b o f k.serves e placed inside is in
    subst (λ (n : ℕ). is_linked (kept_by s) b n ≡ false) same.1 (subst (λ (n : ℕ). is_linked (kept_by s) n e.offset ≡ false) same.0 e.unlinked)

module _ {s : Slots} {vs : Images} {ram : List ℕ} {lists : List (List ℕ)} {old new : Chip} (k : StandsFor s vs ram lists old) (block offset : ℕ) where
  -- and over none of fewer links
  over_fewer : (t : Transfer) (h : HasFewer portion s vs old new) → is_over_link (kept_by s) t ≡ false → is_over_link (kept_by (with_links s h.targets h.unlinks)) t ≡ false
  over_fewer (direct b o target) h none =
      false_from_ne_true (exit_among (links_of (with_links s h.targets h.unlinks)) s.turn b o) (λ is. both_ways (exit_among (links_of s) s.turn b o) none (h.among s.turn b o is))
  over_fewer (indirect target) h none = refl

  module _ (t : Transfer) (is : place_of (vs s.turn) (target_of t) ≡ Some (block, offset)) (absent : slice_index old.marks.now block ≡ 0) where
    waits_by : is_over_link (kept_by s) t ≡ false → HasFewer portion s vs old new → CountsRefused false old new → new.cache_at ≡ old.cache_at → ChipWaits s vs t old new
    waits_by none h bound put =
        let p = place_known (vs s.turn) (target_of t) block offset (k.serves.images s.turn) is in
        let q : Slots = with_links s h.targets h.unlinks in
        let same = h.arrives (vs s.turn) block (no_slot k block p.0 absent) in
        let a = moves_alike (setting_of s) (vs s.turn) (kept_by q) (kept_by s) t (block, offset) is (over_fewer t h none) none same in
        let b = moves_alike (setting_of s) (vs s.turn) (kept_by q) (kept_by s) (indirect (target_of t)) (block, offset) is refl refl same in
        record {
          targets = h.targets;
          unlinks = h.unlinks;
          words = h.words;
          lists = h.lists;
          stands = h.stands;
          moves = few_alike old.most (setting_of s) (vs s.turn) (kept_by q) (kept_by s) t refl a b;
          refuses = refused_alike old.most (setting_of s) (vs s.turn) (kept_by q) (kept_by s) t refl a b;
          among = h.among;
          fewer = h.fewer;
          bound = bound;
          cache_at = put;
        }

    -- the call is to be made again
    pub called_again : is_over_link (kept_by s) t ≡ false → is_crowded old ≡ true → HasFewer portion s vs old new → CountsRefused false old new → new.cache_at ≡ old.cache_at → Called s vs t old new again
    called_again none crowded h bound put =
        let must : must_wait old (place_of (vs s.turn) (target_of t)) ≡ true = subst (λ (p : Option (ℕ × ℕ)). must_wait old p ≡ true) (sym is) (and_from _ _ (eq-eqb _ _ absent) crowded) in
        record { waits = λ _. (refl, waits_by none h bound put); serves = λ never. absurd (both_ways _ never must) }

    -- the next slot isn't crowded
    pub called_free : {answer : ℕ} → is_crowded old ≡ false → ChipServed s vs t answer old new → Called s vs t old new answer
    called_free free q =
        let never : must_wait old (place_of (vs s.turn) (target_of t)) ≡ false = subst (λ (p : Option (ℕ × ℕ)). must_wait old p ≡ false) (sym is) (and_no _ _ free) in
        record { waits = λ must. absurd (both_ways _ never must); serves = λ _. q }
      where
        and_no : (x y : Bool) → y ≡ false → (x && y) ≡ false
        and_no true y e = e
        and_no false y e = refl

  -- the block stands in a slot
  pub called_hit : {t : Transfer} {answer : ℕ} → place_of (vs s.turn) (target_of t) ≡ Some (block, offset) → (slice_index old.marks.now block ≡ 0 → ⊥) → ChipServed s vs t answer old new → Called s vs t old new answer
  called_hit {t} is some q =
      let never : must_wait old (place_of (vs s.turn) (target_of t)) ≡ false = subst (λ (p : Option (ℕ × ℕ)). must_wait old p ≡ false) (sym is) (no_and _ _ (ne_eqb _ _ some)) in
      record { waits = λ must. absurd (both_ways _ never must); serves = λ _. q }
    where
      no_and : (x y : Bool) → x ≡ false → (x && y) ≡ false
      no_and true y e = absurd (both_ways true e refl)
      no_and false y e = refl

-- there is no place
pub called_none : {s : Slots} {vs : Images} {old new : Chip} {t : Transfer} {answer : ℕ} → place_of (vs s.turn) (target_of t) ≡ None → ChipServed s vs t answer old new → Called s vs t old new answer
called_none {s} {vs} {old} {new} {t} is q =
    let never : must_wait old (place_of (vs s.turn) (target_of t)) ≡ false = subst (λ (p : Option (ℕ × ℕ)). must_wait old p ≡ false) (sym is) refl in
    record { waits = λ must. absurd (both_ways _ never must); serves = λ _. q }
