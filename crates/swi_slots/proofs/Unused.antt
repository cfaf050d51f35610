-- A served transfer leaves the words of slots that were never filled.
use Rattle.std.proofs.Common.{◌≡◌, ◌⊎◌, ℕ, ◌+◌, ◌*◌, ◌<◌, ◌≤◌, min, true, false, Bool, List, arith, refl, sym, ap, subst, inl, inr}
use Rattle.std.proofs.lemmas.Nat.{row_fits}
use Rattle.swi_image.specs.Format.{ImageData}
use Rattle.swi_image.specs.Place.{length_at}
use Rattle.swi_outside.specs.CacheRam.{RamState}
use Rattle.swi_rom.specs.Service.{Setting}
use Rattle.swi_rom.specs.Record.{Record, Link, Has, Placed, Transfer, has_link}
use Rattle.swi_slots.specs.Fifo.{fifo, extent_of, fifo_extent}
use Rattle.swi_rom.specs.Served.{SameFrom, WordsMove}
use Rattle.swi_slots.specs.Slots.{Slots, InShape, kept_by, links_of, queue_of, setting_of}
use Rattle.swi_slots.specs.Sound.{SlotsSound}
use Rattle.swi_slots.specs.Queue.{has_slot, placed_slot}
use Rattle.swi_slots.specs.SlotLinks.{linked_word}
use Rattle.swi_slots.specs.Coheres.{tidy_of, placed_most}

-- the words of a filled slot
row_within : (s : Slots) (n o : ℕ) → InShape s → n < s.filled → o < s.size → n * s.size + o < extent_of (setting_of s) (kept_by s)
row_within s n o shape lt lt' =
    let fits = row_fits n s.size (min s.counts.misses s.slots) s.size (omega (arith, lt, shape.filled_is)) (omega arith) in
    omega (arith, fits, lt')

placed_within : (s : Slots) (v : ImageData) (words : List ℕ) (b f o : ℕ) → SlotsSound s v words → Placed (kept_by s) b f → o < length_at v b → f + o < extent_of (setting_of s) (kept_by s)
placed_within s v words b f o sound h lt =
    let serve = sound.1.1 in
    let p = placed_slot s b f serve.shape h in
    let le : length_at v b ≤ s.size = subst (λ (w : ImageData). length_at w b ≤ s.size) sound.1.0 (placed_most s sound.0 words p.0 b serve p.1 p.2 p.4) in
    subst (λ (g : ℕ). g + o < extent_of (setting_of s) (kept_by s)) p.3 (row_within s p.0 o serve.shape p.1 (omega (arith, lt, le)))

-- a link's offset is one of a slot's words
link_small : (s : Slots) (v : ImageData) (words : List ℕ) (l : Link) → SlotsSound s v words → has_link (links_of s) l ≡ true → l.offset < s.size
link_small s v words l sound is =
    let w = linked_word s l (tidy_of s sound.0 words sound.1.1) is in
    let here : w.1 ≡ l.offset = ap (λ (k : Link). k.offset) w.4 in
    omega (arith, here, w.3)

stood_within : (s : Slots) (l : Link) (f : ℕ) → InShape s → l.offset < s.size → Has (queue_of s) (record { program = l.program; block = l.block; first = f }) → f + l.offset < extent_of (setting_of s) (kept_by s)
stood_within s l f shape lt h =
    let p = has_slot s l.program l.block f shape h in
    subst (λ (g : ℕ). g + l.offset < extent_of (setting_of s) (kept_by s)) p.3 (row_within s p.0 l.offset shape p.1 lt)

same_from_link : (x y : Bool) → (x ≡ y → ⊥) → (x ≡ true) ⊎ (y ≡ true)
same_from_link true y ne = inl refl
same_from_link false true ne = inr refl
same_from_link false false ne = absurd (ne refl)

pub setting_same : (s u : Slots) → u.slots ≡ s.slots → u.size ≡ s.size → u.programs ≡ s.programs → setting_of u ≡ setting_of s
setting_same s u slots size programs = rw (slots, size, programs) refl

pub unused_stays : (s u : Slots) (v : ImageData) (t : Transfer) (a d : RamState) → SlotsSound s v a.words → SlotsSound u v d.words → setting_of u ≡ setting_of s → kept_by u ≡ fifo (setting_of s) (kept_by s) v t →
    WordsMove v (kept_by s) (kept_by u) a d → SameFrom (extent_of (setting_of s) (kept_by u)) a.words d.words
unused_stays s u v t a d sound sound' same moves words = λ i le. elim (words.changes i) [
  | inl e ↦ e
  | inr (inl new) ↦ (let inside = in_new new.block new.first new.offset new.stands new.inside in absurd (omega (arith, inside, new.index, le)))
  | inr (inr link) ↦ (let inside = in_either link.link link.first (small link.link (same_from_link _ _ link.changed)) link.stood in absurd (omega (arith, inside, link.index, le)))
]
  where
    in_new : (b f o : ℕ) → Placed (kept_by u) b f → o < length_at v b → f + o < extent_of (setting_of s) (kept_by u)
    in_new b f o h lt = subst (λ (k : Setting). f + o < extent_of k (kept_by u)) same (placed_within u v d.words b f o sound' h lt)

    size_same : u.size ≡ s.size
    size_same = ap (λ (k : Setting). k.slot_words) same

    small : (l : Link) → (has_link (links_of s) l ≡ true) ⊎ (has_link (links_of u) l ≡ true) → l.offset < s.size
    small l (inl is) = link_small s v a.words l sound is
    small l (inr is) = let w = link_small u v d.words l sound' is in omega (arith, w, size_same)

    grew : extent_of (setting_of s) (kept_by s) ≤ extent_of (setting_of s) (kept_by u)
    grew = subst (λ (r : Record). extent_of (setting_of s) (kept_by s) ≤ extent_of (setting_of s) r) (sym moves) (fifo_extent (setting_of s) (kept_by s) v t)

    in_either : (l : Link) (f : ℕ) → l.offset < s.size → Has (queue_of s) (record { program = l.program; block = l.block; first = f }) ⊎ Has (queue_of u) (record { program = l.program; block = l.block; first = f }) →
        f + l.offset < extent_of (setting_of s) (kept_by u)
    in_either l f own (inl h) = let old = stood_within s l f sound.1.1.shape own h in omega (arith, old, grew)
    in_either l f own (inr h) =
        subst (λ (k : Setting). f + l.offset < extent_of k (kept_by u)) same (stood_within u l f sound'.1.1.shape (omega (arith, own, size_same)) h)
