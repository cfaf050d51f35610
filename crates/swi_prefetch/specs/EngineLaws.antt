-- The engine of the service with slots, and its laws.
use Rattle.std.proofs.Common.{◌≡◌, ℕ, ◌-◌, ◌*◌, ◌==◌, Bool, true, false, List, Option, Some, None, if◌then◌else◌, slice_index, refl, ◌∙◌, ap}
use Rattle.swi_image.specs.Format.{ImageData}
use Rattle.swi_image.specs.Place.{length_at, place_of}
use Rattle.swi_rom.specs.Record.{Record, Transfer, target_of}
use Rattle.swi_rom.specs.Service.{Setting}
use Rattle.swi_rom.specs.Policy.{counted, is_over_link, is_placed, served_by, went}
use Rattle.swi_engine.specs.declared.copying.Copying.{Copying}
use Rattle.swi_engine.specs.Engine.{event, engine_words, copy_of, free_slot, into, brought, dropped, missed, arrived, newest_first, beside}
use Rattle.swi_engine.specs.Events.{event_uncounted}
use Rattle.swi_engine.specs.Service.{engine_service}
use Rattle.swi_engine.specs.Taken.{event_extent, evicted_more, linked_more}
use Rattle.swi_prefetch.specs.Engines.{EngineOf, IsEngine}

abbrev pub engine_of : EngineOf
engine_of = record { event = event; written = engine_words }

-- ---- no transfer counts a word of the engine

into_words : (size : ℕ) (v : ImageData) (r : Record) (c : ℕ) (o : Option ℕ) → engine_words (into size v r c o) ≡ engine_words r
into_words size v r c None = ap (λ (xs : List ℕ). slice_index xs 0) (evicted_more r r.placed)
into_words size v r c (Some n) = refl

missed_words : (by : Setting) (v : ImageData) (r : Record) (c : ℕ) (k : Option Copying) → engine_words (missed by v r c k) ≡ engine_words r
missed_words by v r c None = into_words by.slot_words v r c (free_slot by r)
missed_words by v r c (Some k) = at (k.block == c)
  where
    at : (same : Bool) → engine_words (if same then brought (dropped r) c (k.slot * by.slot_words) (length_at v c - k.done) else into by.slot_words v (dropped r) c (free_slot by r)) ≡ engine_words r
    at true = refl
    at false = into_words by.slot_words v (dropped r) c (free_slot by r)

arrived_words : (by : Setting) (v : ImageData) (r : Record) (c : ℕ) → engine_words (arrived by v r c) ≡ engine_words r
unfolding arrived
arrived_words by v r c = at (is_placed r c)
  where
    at : (placed : Bool) → engine_words (if placed then r else missed by v r c (copy_of r)) ≡ engine_words r
    at true = refl
    at false = missed_words by v r c (copy_of r)

went_words : (by : Setting) (v : ImageData) (r : Record) (t : Transfer) (p : Option (ℕ × ℕ)) → engine_words (went arrived newest_first by v r t p) ≡ engine_words r
unfolding went counted
went_words by v r t None = refl
went_words by v r t (Some p) =
    ap (λ (xs : List ℕ). slice_index xs 0) (linked_more newest_first (arrived by v (counted r) p.0) t p) ∙ arrived_words by v (counted r) p.0

beside_words : (by : Setting) (r : Record) (v : ImageData) (t : Transfer) → engine_words (beside by r v t) ≡ engine_words r
unfolding served_by
beside_words by r v t = at (is_over_link r t)
  where
    at : (over : Bool) → engine_words (if over then r else went arrived newest_first by v r t (place_of v (target_of t))) ≡ engine_words r
    at true = refl
    at false = went_words by v r t (place_of v (target_of t))

pub engine_laws : IsEngine engine_service engine_of
engine_laws = record { uncounted = event_uncounted; unwritten = beside_words; extent_rises = event_extent }
