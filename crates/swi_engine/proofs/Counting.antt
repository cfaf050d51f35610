-- A service is counted.
use Rattle.std.proofs.Common.{◌≡◌, ℕ, ◌+◌, ◌*◌, ◌<◌, ◌≤◌, ◌^◌, List, [], ◌∷◌, map, true, false, Some, None, Option, slice_index, arith, refl, sym, ◌∙◌, ap, subst}
use Rattle.std.proofs.lemmas.Bool.{eq-eqb, ne_eqb}
use Rattle.std.proofs.lemmas.Nat.{row_fits}
use Rattle.swi_image.specs.Format.{ImageData}
use Rattle.swi_image.specs.Place.{place_of}
use Rattle.swi_image.specs.Laws.{place_inside}
use Rattle.swi_rom.specs.Record.{Placed, Has}
use Rattle.swi_rom.specs.Coherent.{TargetAt}
use Rattle.swi_rom.specs.Policy.{counted, is_placed, more_services}
use Rattle.swi_rom.specs.Blocks.{block_short}
use Rattle.swi_engine.specs.State.{EngineData, kept_by, spot}
use Rattle.swi_engine.specs.Sound.{EngineSound}
use Rattle.swi_engine.specs.Seats.{slot_placed, placed_slot}
use Rattle.swi_engine.specs.Moves.{counted_data, more_service, is_block_in, IsAbsent}
use Rattle.swi_engine.proofs.Standing.{recounted}
use Rattle.swi_engine.proofs.Eventing.{placed_is, any_true, any_false}

pub counted_kept : (e : EngineData) → kept_by (counted_data e) ≡ counted (kept_by e)
unfolding counted
counted_kept e = by_queue e.queue
  where
    by_queue : (ns : List ℕ) → kept_by (record e { queue = ns; counts = record e.counts { services = e.counts.services + more_service ns } }) ≡ record (kept_by (record e { queue = ns })) { counts = record e.counts { services = e.counts.services + more_services (map (λ n. spot e.size e.blocks n) ns) } }
    by_queue [] = refl
    by_queue (n ∷ ns) = refl

-- and nothing but the counts has changed then
pub counted_alone : (e t : EngineData) → t ≡ counted_data e → kept_by t ≡ record (kept_by e) { counts = (kept_by t).counts }
counted_alone e t is = subst (λ (x : EngineData). kept_by x ≡ record (kept_by e) { counts = (kept_by x).counts }) (sym is) refl

pub counted_sound : (e : EngineData) (v : ImageData) (words : List ℕ) → EngineSound e v words → e.counts.services < 2 ^ 50 → EngineSound (counted_data e) v words
counted_sound e v words sound lt = record {
  stands = recounted e v words _ e.words e.copies sound.stands;
  few = record {
    misses_few = omega (arith, sound.few.misses_few);
    unbooted = sound.few.unbooted;
    copied_few = sound.few.copied_few;
    evictions_few = sound.few.evictions_few;
    links_few = omega (arith, sound.few.links_few);
    unlinks_few = sound.few.unlinks_few;
    copies_few = sound.few.copies_few;
    queue_few = sound.few.queue_few;
    words_few = sound.few.words_few;
    services_few = omega (arith, lt, most e.queue);
  };
}
  where
    most : (ns : List ℕ) → more_service ns ≤ 1
    most [] = omega arith
    most (n ∷ ns) = omega arith

-- a block that stands is placed
pub stands_placed : (e : EngineData) (b n : ℕ) → Has e.queue n → slice_index e.blocks n ≡ b → is_placed (kept_by e) b ≡ true
unfolding is_placed
stands_placed e b n h is = placed_is e.size e.blocks b e.queue ∙ any_true (λ m. is_block_in e.blocks b m) e.queue n h (eq-eqb _ _ is)

-- and one that stands nowhere isn't
pub absent_unplaced : (e : EngineData) (b : ℕ) → IsAbsent e b → is_placed (kept_by e) b ≡ false
unfolding is_placed
absent_unplaced e b absent = placed_is e.size e.blocks b e.queue ∙ any_false (λ m. is_block_in e.blocks b m) e.queue (λ m h. ne_eqb _ _ (absent m h))

-- a block that stands nowhere has no place
pub absent_target : (e : EngineData) (v : ImageData) (target b o i : ℕ) → place_of v target ≡ Some (b, o) → IsAbsent e b → TargetAt v (kept_by e) target i → ⊥
absent_target e v target b o i place absent at =
    let w = placed_slot e at.block at.first at.is_placed in
    let same : Some (at.block, at.offset) ≡ Some (b, o) = sym at.place_is ∙ place in
    absent w.0 w.1 (w.2 ∙ ap (λ (p : Option (ℕ × ℕ)). block_in p) same)
  where
    block_in : Option (ℕ × ℕ) → ℕ
    block_in None = 0
    block_in (Some p) = p.0

pub found_target : (e : EngineData) (v : ImageData) (target b o n : ℕ) → place_of v target ≡ Some (b, o) → Has e.queue n → slice_index e.blocks n ≡ b → TargetAt v (kept_by e) target (n * e.size + o)
found_target e v target b o n place h is = record {
  block = b;
  offset = o;
  first = n * e.size;
  place_is = place;
  is_placed = subst (λ (x : ℕ). Placed (kept_by e) x (n * e.size)) is (slot_placed e n h);
  index = refl;
}

-- a word of a slot lies in the ram
pub row_within : (e now : EngineData) (v : ImageData) (words : List ℕ) (target b o n : ℕ) → e ≡ now → EngineSound now v words → Some (b, o) ≡ place_of v target → Has now.queue n → (n * e.size + o < 2 ^ 22) × (n * e.size < 2 ^ 22) × (n * e.size + o < now.slots * now.size)
row_within e now v words target b o n same sound place h =
    let slot : n < now.slots = sound.stands.shape.below n h in
    let w = place_inside v sound.stands.image target b o (sym place) in
    let size : e.size ≡ now.size = ap (λ (t : EngineData). t.size) same in
    let inside : o < now.size = omega (arith, w.1, block_short v b sound.stands.image w.0, sound.stands.holds_block) in
    let row : n * now.size + now.size ≤ now.slots * now.size = row_fits n now.size now.slots now.size slot (omega arith) in
    subst (λ (x : ℕ). (n * x + o < 2 ^ 22) × (n * x < 2 ^ 22) × (n * x + o < now.slots * now.size)) (sym size)
    (omega (arith, row, sound.stands.shape.words_few, inside), omega (arith, row, sound.stands.shape.words_few), omega (arith, row, inside))

-- as the code meets it, once the service is counted
pub found_at : (e t r : EngineData) (v : ImageData) (target b o n : ℕ) → t ≡ counted_data e → r ≡ t → Some (b, o) ≡ place_of v target → Has e.queue n × (slice_index e.blocks n ≡ b) → TargetAt v (kept_by e) target (n * r.size + o)
found_at e t r v target b o n is same place found =
    let size : r.size ≡ e.size = ap (λ (x : EngineData). x.size) (same ∙ is) in
    subst (λ (s : ℕ). TargetAt v (kept_by e) target (n * s + o)) (sym size) (found_target e v target b o n (sym place) found.0 found.1)
