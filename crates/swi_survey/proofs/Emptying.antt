-- Caches in which nothing stands serve an image.
use Rattle.std.proofs.Common.{◌≡◌, ℕ, zero, suc, ◌^◌, ◌<◌, ◌≤◌, ◌==◌, Bool, false, List, [], length, replicate, slice_get, slice_index, All, Option, Some, None, IfSome, option_map, ◌/◌, ◌%◌, arith, refl, sym, ◌∙◌, ap, subst, inl, inr}
use Rattle.std.proofs.lemmas.Bool.{both_ways, cases_lt}
use Rattle.std.proofs.lemmas.List.{length-replicate, get_or-replicate, get_or_past}
use Rattle.std.proofs.lemmas.Option.{get_or_from_slice_get, slice_get-map, slice_get_within}
use Rattle.std.proofs.lemmas.Nat.Bits.{bit_at-zero}
use Rattle.swi_image.specs.Format.{ImageData}
use Rattle.swi_image.specs.Sound.{IsImage}
use Rattle.swi_rom.specs.Record.{Link, Record, empty_record}
use Rattle.swi_rom.specs.Collected.{collected}
use Rattle.swi_tally.specs.declared.tally.Placing.{Placing}
use Rattle.swi_tally.specs.declared.tally.Placing.TheVariants.{Slots, Ring}
use Rattle.swi_tally.specs.declared.tallies.Frame.{Frame}
use Rattle.swi_tally.specs.declared.tallies.Seat.{Seat}
use Rattle.swi_tally.specs.Masks.{has, has_at}
use Rattle.swi_tally.specs.Exits.{ExitsData, AreExits, link_at, links_of}
use Rattle.swi_tally.specs.Tally.{TallyData, InShape, Serves, kept_by, more_of}
use Rattle.swi_slots.specs.Homes.{nowhere}
use Rattle.swi_ring.specs.Ring.{queue_of}
use Rattle.swi_tally.specs.Tallies.{Row, AreServing, IsFrame, SeatServes, empty_of, empty_tallies, first_row, row_at, row_if}

-- no exit is a link
none_has : (n d x : ℕ) → has_at (replicate n 0) d x ≡ false
unfolding has
none_has n d x = ap (λ (m : ℕ). m / 2 ^ d % 2 == 1) (zero_at n x) ∙ ap (λ (m : ℕ). m == 1) (bit_at-zero d)
  where
    zero_at : (n x : ℕ) → slice_index (replicate n 0) x ≡ 0
    zero_at n x = elim (cases_lt x n) [
      | inl below ↦ get_or-replicate n x 0 0 below
      | inr past ↦ get_or_past (replicate n 0) x 0 (omega (arith, past, length-replicate {A = ℕ} n 0))
    ]

none_collected : (e : ExitsData) (linked : ℕ → Bool) (n : ℕ) → ((x : ℕ) → linked x ≡ false) → collected (link_at e linked) n ≡ []
unfolding collected
none_collected e linked zero none = refl
none_collected e linked (suc n) none = rw (none n) (none_collected e linked n none)

none_linked : (e : ExitsData) (n d : ℕ) → links_of e (has_at (replicate n 0) d) ≡ []
unfolding links_of
none_linked e n d = none_collected e (has_at (replicate n 0) d) (length e.from) (none_has n d)

module _ (v : ImageData) (e : ExitsData) (f : Frame) (image : IsImage v) (are : AreExits e) (blocks : length v.starts ≡ e.blocks) (frame : IsFrame v.block_words f) where
  abbrev empty : TallyData
  empty = (empty_of e.blocks f).tally

  empty_shape : InShape empty
  empty_shape = record {
    some_slot = frame.some;
    words_few = frame.words;
    words_most = frame.most;
    next_most = omega arith;
    few = omega (arith, length-replicate e.blocks nowhere, blocks, image.fewer, image.few);
    led_long = length-replicate e.blocks false ∙ sym (length-replicate e.blocks nowhere);
    room_is = sym (length-replicate e.blocks nowhere);
    distinct = tt;
    known = λ b h. absurd h;
    placed = λ b h. absurd h;
    absent = λ b lt none. get_or-replicate e.blocks b nowhere 0 (omega (arith, lt, length-replicate e.blocks nowhere));
  }

  empty_serves : (d : ℕ) → d < 64 → Serves v e d (replicate (length e.from) 0) empty
  empty_serves d lt = record {
    stands = record {
      image = image;
      are = are;
      blocks = blocks;
      homes = sym (length-replicate e.blocks nowhere);
      masks_long = length-replicate {A = ℕ} (length e.from) 0;
      cache_below = lt;
      words = frame.holds;
      shape = empty_shape;
      bounded = record {
        misses = omega arith;
        links = omega arith;
        evictions = refl;
        copied = omega arith;
        undone = omega (arith, ap (λ (ls : List Link). length ls) (none_linked e (length e.from) d));
        led = λ x inside is ne. absurd (both_ways (has_at (replicate (length e.from) 0) d x) (none_has (length e.from) d x) is);
      };
    };
    one = frame.one;
    unmissed = λ none. refl;
    unlinked = λ none. refl;
  }

at_index : (frames : List Frame) (words k : ℕ) (f : Frame) → All (IsFrame words) frames → slice_get frames k ≡ Some f → IsFrame words f
at_index frames words k f all at = subst (IsFrame words) (get_or_from_slice_get frames k f f at) (all k f (slice_get_within frames k f at))

pub empty_serving : (v : ImageData) (e : ExitsData) (frames : List Frame) (n : ℕ) → IsImage v → AreExits e → length v.starts ≡ e.blocks → length frames ≤ 64 → All (IsFrame v.block_words) frames → AreServing v n (empty_tallies e frames)
empty_serving v e frames n image are blocks few all = record { each = λ k. by k (slice_get frames k) refl; few = omega arith }
  where
    by : (k : ℕ) (o : Option Frame) → slice_get frames k ≡ o → IfSome (slice_get (empty_tallies e frames).caches k) (SeatServes v n (empty_tallies e frames) k)
    by k None at = subst (λ (o : Option Seat). IfSome o (SeatServes v n (empty_tallies e frames) k)) (sym (slice_get-map (empty_of e.blocks) frames k ∙ ap (option_map (empty_of e.blocks)) at)) tt
    by k (Some f) at = subst (λ (o : Option Seat). IfSome o (SeatServes v n (empty_tallies e frames) k)) (sym (slice_get-map (empty_of e.blocks) frames k ∙ ap (option_map (empty_of e.blocks)) at))
        (empty_serves v e f image are blocks (at_index frames v.block_words k f all at) k (omega (arith, few, slice_get_within frames k f at)), omega arith)

-- each keeps nothing
more_none : (p : Placing) → more_of p 0 ≡ []
more_none Slots = refl
more_none Ring = refl

none_kept : (e : ExitsData) (f : Frame) (n d : ℕ) → kept_by e (has_at (replicate n 0) d) (empty_of e.blocks f).tally ≡ empty_record
unfolding queue_of
none_kept e f n d =
    ap (λ (ls : List Link). let r : Record = record (kept_by e (has_at (replicate n 0) d) (empty_of e.blocks f).tally) { links = ls } in r) (none_linked e n d)
    ∙ ap (λ (l : List ℕ). let r : Record = record empty_record { more = l } in r) (more_none f.placing)

abbrev pub first_if : Option Frame → Option Row
first_if None = None
first_if (Some f) = Some (first_row f)

pub empty_rows : (e : ExitsData) (frames : List Frame) (k : ℕ) → row_at (empty_tallies e frames) k ≡ first_if (slice_get frames k)
unfolding row_at
empty_rows e frames k = ap (row_if (empty_tallies e frames) k) (slice_get-map (empty_of e.blocks) frames k) ∙ by (slice_get frames k)
  where
    by : (o : Option Frame) → row_if (empty_tallies e frames) k (option_map (empty_of e.blocks) o) ≡ first_if o
    by None = refl
    by (Some f) = ap (λ (q : Record). let r : Row = record (first_row f) { kept = q } in Some r) (none_kept e f (length e.from) k)
