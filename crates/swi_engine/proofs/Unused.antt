-- The words of slots that were never taken stay.
use Rattle.std.proofs.Common.{◌≡◌, ◌⊎◌, ℕ, ◌+◌, ◌*◌, ◌<◌, ◌≤◌, min, true, false, Bool, List, length, slice_index, arith, refl, sym, ◌∙◌, ap, subst, inl, inr}
use Rattle.std.proofs.lemmas.List.{get_or-set_other}
use Rattle.std.proofs.lemmas.Nat.{row_fits}
use Rattle.swi_image.specs.Format.{ImageData}
use Rattle.swi_image.specs.Place.{length_at}
use Rattle.swi_outside.specs.CacheRam.{RamState}
use Rattle.swi_rom.specs.Record.{Record, Link, Has, Placed, Placement, Transfer, has_link}
use Rattle.swi_rom.specs.Served.{SameFrom, WordsMove}
use Rattle.swi_rom.specs.Service.{Setting}
use Rattle.swi_engine.specs.declared.copying.Copying.{Copying}
use Rattle.swi_engine.specs.Engine.{beside, copies_begun, extent_of, taken, wrote_next}
use Rattle.swi_engine.specs.State.{EngineData, kept_by, setting_of, spot, used}
use Rattle.swi_engine.specs.Sound.{EngineSound}
use Rattle.swi_engine.specs.Seats.{in_joints, joint_inside, length_most, map_has, placed_slot}
use Rattle.swi_engine.specs.Moves.{OneSet}
use Rattle.swi_engine.specs.Taken.{beside_extent, wrote_taken}
use Rattle.swi_engine.proofs.Eventing.{copies_kept, copy_kept}

-- the words of a slot that was taken
row_below : (e : EngineData) (r : Record) (n o : ℕ) → n < taken r → n < e.slots → o < e.size → n * e.size + o < extent_of (setting_of e) r
row_below e r n o lt slot inside =
    let fits = row_fits n e.size (min (taken r) e.slots) e.size (omega (arith, lt, slot)) (omega arith) in omega (arith, fits, inside)

taken_is : (e : EngineData) → taken (kept_by e) ≡ e.counts.misses + e.copies + copies_begun e.copy
taken_is e = omega (arith, copies_kept e, ap copies_begun (copy_kept e))

-- of one that has a block or the copy
pub taken_row : (e : EngineData) (v : ImageData) (words : List ℕ) (n o : ℕ) → EngineSound e v words → n < used e → o < e.size → n * e.size + o < extent_of (setting_of e) (kept_by e)
taken_row e v words n o sound lt inside =
    row_below e (kept_by e) n o (omega (arith, lt, sound.few.queue_few, taken_is e)) (omega (arith, lt, sound.stands.shape.used_most)) inside

-- and of the one that a copy takes
pub new_row : (e : EngineData) (v : ImageData) (words : List ℕ) (c : Copying) (n o : ℕ) → EngineSound e v words → n < e.slots → n ≤ length e.queue → o < e.size →
    n * e.size + o < extent_of (setting_of e) (wrote_next e.size v (kept_by e) c)
new_row e v words c n o sound slot le inside =
    row_below e (wrote_next e.size v (kept_by e) c) n o (omega (arith, le, sound.few.queue_few, copies_kept e, wrote_taken e.size v (kept_by e) c)) slot inside

-- one word is set below
pub one_unused : (i w k : ℕ) (a b : RamState) → i < k → OneSet i w a b → SameFrom k a.words b.words
one_unused i w k a b lt set = λ j le.
    ap (λ (r : RamState). slice_index r.words j) set ∙ get_or-set_other a.words i j w 0 (λ (same : j ≡ i). omega (arith, same, lt, le))

placed_within : (e : EngineData) (v : ImageData) (words : List ℕ) (b f o : ℕ) → EngineSound e v words → Placed (kept_by e) b f → o < length_at v b → f + o < extent_of (setting_of e) (kept_by e)
placed_within e v words b f o sound h lt =
    let p = placed_slot e b f h in
    let most : length_at v b ≤ e.size = subst (λ (c : ℕ). length_at v c ≤ e.size) p.2 (length_most e v words p.0 sound.stands p.1) in
    subst (λ (g : ℕ). g + o < extent_of (setting_of e) (kept_by e)) p.3 (taken_row e v words p.0 o sound (sound.stands.low p.0 p.1) (omega (arith, lt, most)))

-- a link's offset is one of a slot's words
link_small : (e : EngineData) (v : ImageData) (words : List ℕ) (l : Link) → EngineSound e v words → has_link (kept_by e).links l ≡ true → l.offset < e.size
link_small e v words l sound is =
    let w = in_joints e.joints l is in
    let here : w.0.offset ≡ l.offset = ap (λ (k : Link). k.offset) w.2 in
    let inside = joint_inside e v words w.0 sound.stands (sound.stands.linked w.0 w.1) in
    omega (arith, here, inside)

stood_within : (e : EngineData) (v : ImageData) (words : List ℕ) (l : Link) (f : ℕ) → EngineSound e v words → l.offset < e.size → Has (kept_by e).placed (record { program = l.program; block = l.block; first = f }) →
    f + l.offset < extent_of (setting_of e) (kept_by e)
stood_within e v words l f sound lt h =
    let w = map_has (λ (n : ℕ). spot e.size e.blocks n) e.queue (record { program = l.program; block = l.block; first = f }) h in
    let first : w.0 * e.size ≡ f = ap (λ (p : Placement). p.first) w.2 in
    subst (λ (g : ℕ). g + l.offset < extent_of (setting_of e) (kept_by e)) first (taken_row e v words w.0 l.offset sound (sound.stands.low w.0 w.1) lt)

same_from_link : (x y : Bool) → (x ≡ y → ⊥) → (x ≡ true) ⊎ (y ≡ true)
same_from_link true y ne = inl refl
same_from_link false true ne = inr refl
same_from_link false false ne = absurd (ne refl)

-- a served transfer leaves them
pub unused_stays : (e u : EngineData) (v : ImageData) (t : Transfer) (a d : RamState) → EngineSound e v a.words → EngineSound u v d.words → setting_of u ≡ setting_of e → kept_by u ≡ beside (setting_of e) (kept_by e) v t →
    WordsMove v (kept_by e) (kept_by u) a d → SameFrom (extent_of (setting_of e) (kept_by u)) a.words d.words
unused_stays e u v t a d sound sound' same moves words = λ i le. elim (words.changes i) [
  | inl stays ↦ stays
  | inr (inl new) ↦ (let inside = in_new new.block new.first new.offset new.stands new.inside in absurd (omega (arith, inside, new.index, le)))
  | inr (inr link) ↦ (let inside = in_either link.link link.first (small link.link (same_from_link _ _ link.changed)) link.stood in absurd (omega (arith, inside, link.index, le)))
]
  where
    in_new : (b f o : ℕ) → Placed (kept_by u) b f → o < length_at v b → f + o < extent_of (setting_of e) (kept_by u)
    in_new b f o h lt = subst (λ (k : Setting). f + o < extent_of k (kept_by u)) same (placed_within u v d.words b f o sound' h lt)

    size_same : u.size ≡ e.size
    size_same = ap (λ (k : Setting). k.slot_words) same

    small : (l : Link) → (has_link (kept_by e).links l ≡ true) ⊎ (has_link (kept_by u).links l ≡ true) → l.offset < e.size
    small l (inl is) = link_small e v a.words l sound is
    small l (inr is) = let w = link_small u v d.words l sound' is in omega (arith, w, size_same)

    grew : extent_of (setting_of e) (kept_by e) ≤ extent_of (setting_of e) (kept_by u)
    grew = subst (λ (r : Record). extent_of (setting_of e) (kept_by e) ≤ extent_of (setting_of e) r) (sym moves) (beside_extent (setting_of e) (kept_by e) v t)

    in_either : (l : Link) (f : ℕ) → l.offset < e.size →
        Has (kept_by e).placed (record { program = l.program; block = l.block; first = f }) ⊎ Has (kept_by u).placed (record { program = l.program; block = l.block; first = f }) → f + l.offset < extent_of (setting_of e) (kept_by u)
    in_either l f own (inl h) = let old = stood_within e v a.words l f sound own h in omega (arith, old, grew)
    in_either l f own (inr h) =
        subst (λ (k : Setting). f + l.offset < extent_of k (kept_by u)) same (stood_within u v d.words l f sound' (omega (arith, own, size_same)) h)
