-- No event of the engine counts a service.
use Rattle.std.proofs.Common.{◌≡◌, ℕ, ◌+◌, ◌/◌, ◌∷◌, Option, Some, None, Bool, true, false, not, ◌&&◌, nat_lt, length, if◌then◌else◌, arith, refl, sym, ◌∙◌, ap}
use Rattle.swi_image.specs.Format.{ImageData}
use Rattle.swi_rom.specs.Record.{Record, Placement, Link}
use Rattle.swi_rom.specs.Policy.{evicted, evicted_services, is_placed}
use Rattle.swi_engine.specs.declared.copying.Copying.{Copying}
use Rattle.swi_rom.specs.Service.{Setting}
use Rattle.swi_engine.specs.Engine.{Event, event, event_by, copy_of, ahead, into_free, into_oldest, made_way, wrote_next, free_slot, oldest_but, newest_into, others}

-- what holds of the next record, if there is one
abbrev Counts : Record → Option Event → Type 0
Counts r None = Unit {0}
Counts r (Some e) = e.next.counts.services ≡ r.counts.services

wrote_services : (size : ℕ) (v : ImageData) (r : Record) (c : Copying) → (wrote_next size v r c).counts.services ≡ r.counts.services
wrote_services size v r c = grind arith

way_services : (size : ℕ) (v : ImageData) (r : Record) (c : ℕ) (e : Placement) (l : Option Link) → (made_way size v r c e l).next.counts.services ≡ r.counts.services
way_services size v r c e (Some l) = refl
way_services size v r c e None = wrote_services size v (evicted r (e ∷ others e r.placed)) (record { block = c; slot = e.first / size; done = 0 }) ∙ evicted_services r (e ∷ others e r.placed)

oldest_services : (size : ℕ) (v : ImageData) (r : Record) (c : ℕ) (e : Option Placement) → Counts r (into_oldest size v r c e)
oldest_services size v r c None = tt
oldest_services size v r c (Some e) = way_services size v r c e (newest_into e r.links)

free_services : (size : ℕ) (v : ImageData) (r : Record) (h c : ℕ) (n : Option ℕ) → Counts r (into_free size v r h c n)
free_services size v r h c (Some n) = wrote_services size v r (record { block = c; slot = n; done = 0 })
free_services size v r h c None = oldest_services size v r c (oldest_but h r.placed)

ahead_services : (by : Setting) (v : ImageData) (r : Record) (h c : ℕ) → Counts r (ahead by v r h c)
ahead_services by v r h c = by_test (nat_lt c (length v.starts) && not (is_placed r c)) (free_services by.slot_words v r h c (free_slot by r))
  where
    by_test : (t : Bool) → Counts r (into_free by.slot_words v r h c (free_slot by r)) → Counts r (if t then into_free by.slot_words v r h c (free_slot by r) else None)
    by_test true w = w
    by_test false w = tt

event_counts : (by : Setting) (v : ImageData) (r : Record) (h : ℕ) (c : Option Copying) → Counts r (event_by by v r h c)
event_counts by v r h None = ahead_services by v r h (h + 1)
event_counts by v r h (Some c) = wrote_services by.slot_words v r c

some_counts : (r : Record) (e : Event) (o : Option Event) → Counts r o → o ≡ Some e → e.next.counts.services ≡ r.counts.services
some_counts r e None w is = absurd cc
some_counts r e (Some m) w is = let same : m ≡ e = cc in ap (λ (x : Event). x.next.counts.services) (sym same) ∙ w

pub event_uncounted : (by : Setting) (r : Record) (v : ImageData) (h : ℕ) (e : Event) → event by r v h ≡ Some e → e.next.counts.services ≡ r.counts.services
unfolding event
event_uncounted by r v h e is = some_counts r e _ (event_counts by v r h (copy_of r)) is
