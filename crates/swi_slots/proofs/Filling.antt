-- A ram that fails while a block is copied.
use Rattle.std.proofs.Common.{◌≡◌, ℕ, ◌+◌, ◌*◌, ◌<◌, ◌≤◌, ◌^◌, List, length, slice_index, slice_index_or, arith, subst, sym, ap, inl, inr}
use Rattle.std.proofs.lemmas.Nat.{row_fits}
use Rattle.std.proofs.lemmas.Bool.{cases_lt}
use Rattle.std.proofs.lemmas.List.{get_or_read}
use Rattle.swi_image.specs.Format.{ImageData}
use Rattle.swi_image.specs.Place.{length_at}
use Rattle.swi_image.specs.Sound.{IsImage}
use Rattle.swi_slots.specs.Keys.{Images}
use Rattle.swi_rom.specs.Blocks.{block_short, block_known, block_few}
use Rattle.swi_outside.specs.CacheRam.{RamState}
use Rattle.swi_slots.specs.Slots.{Slots, InShape}
use Rattle.swi_rom.specs.Writing.{FailedBelow, Wrote}
use Rattle.swi_slots.specs.Steps.{MadeRoom, LinksInside, leading_in}
use Rattle.swi_slots.specs.Sound.{SlotsSound, Serves}
use Rattle.swi_slots.specs.SlotLinks.{word_below, word_slot}
use Rattle.swi_rom.specs.Rams.{failed_more, failed_wider, wrote_none}

-- the slot that is filled ends within the slots
pub slot_fits : (s : Slots) (n : ℕ) → InShape s → n ≤ s.size → s.next * s.size + n ≤ s.slots * s.size
slot_fits s n shape le = omega (arith, row_fits s.next s.size s.slots s.size shape.next_below (omega arith))

-- what was written to make room
pub room_wrote : (s t : Slots) (a b : RamState) → MadeRoom s t a b → (n : ℕ) × Wrote (s.slots * s.size) n a b
room_wrote s t a b room = elim (cases_lt s.filled s.slots) [
  | inl lt ↦ (0, subst (λ (x : RamState). Wrote (s.slots * s.size) 0 a x) (sym (room.free lt).1) (wrote_none (s.slots * s.size) a))
  | inr le ↦ (leading_in s.size s.next s.targets (s.slots * s.size), (room.full le).0.wrote)
]

pub room_keeps : (s t : Slots) (a b : RamState) → MadeRoom s t a b → (t.next ≡ s.next) × (t.size ≡ s.size) × (t.slots ≡ s.slots)
room_keeps s t a b room = elim (cases_lt s.filled s.slots) [
  | inl lt ↦ (ap (λ (x : Slots). x.next) (room.free lt).0, ap (λ (x : Slots). x.size) (room.free lt).0, ap (λ (x : Slots). x.slots) (room.free lt).0)
  | inr le ↦ (ap (λ (x : Slots). x.next) (room.full le).1, ap (λ (x : Slots). x.size) (room.full le).1, ap (λ (x : Slots). x.slots) (room.full le).1)
]

pub fill_failed : (s t : Slots) (first n : ℕ) (a b c : RamState) → InShape s → n ≤ s.size → first ≡ t.next * t.size → MadeRoom s t a b → FailedBelow (first + n) b c → FailedBelow (s.slots * s.size) a c
fill_failed s t first n a b c shape le at room failed =
    let w = room_wrote s t a b room in
    let k = room_keeps s t a b room in
    failed_more (s.slots * s.size) (s.slots * s.size) w.0 a b c w.1
    (failed_wider (first + n) (s.slots * s.size) b c failed (rw (at, k.0, k.1) (slot_fits s n shape le))) (omega arith)

-- a block of the program in turn fits a slot
pub sound_short : (s : Slots) (v : ImageData) (b : ℕ) (words : List ℕ) → SlotsSound s v words → b < length v.starts → length_at v b ≤ s.size
sound_short s v b words sound lt =
    let image : IsImage v = subst (λ (w : ImageData). IsImage w) sound.1.0 (sound.1.1.images s.turn) in
    omega (arith, block_short v b image (block_known v b image lt), subst (λ (w : ImageData). w.block_words ≤ s.size) sound.1.0 (sound.1.1.size_most s.turn))

-- and its number is small
pub sound_few : (s : Slots) (v : ImageData) (b : ℕ) (words : List ℕ) → SlotsSound s v words → b < length v.starts → b < 2 ^ 19
sound_few s v b words sound lt = block_few v b (subst (λ (w : ImageData). IsImage w) sound.1.0 (sound.1.1.images s.turn)) lt

pub sound_known : (vs : Images) (s : Slots) (v : ImageData) (b : ℕ) (words : List ℕ) → Serves s v vs words → b < length v.starts → b < length (vs s.turn).blocks
sound_known vs s v b words serves lt =
    subst (λ (w : ImageData). b < length w.blocks) (sym serves.0) (block_known v b (subst (λ (w : ImageData). IsImage w) serves.0 (serves.1.images s.turn)) lt)

-- the links of the slot that is filled next stand within its block
pub links_inside : (s : Slots) (v : ImageData) (words : List ℕ) → SlotsSound s v words → LinksInside s s.next
links_inside s v words known o le lt = elim (cases_lt (slice_index s.targets (s.next * s.size + o)) s.slots) [
  | inl t ↦ absurd (
      let sound = known.1.1 in
      let stands = sound.stands (s.next * s.size + o) (word_below s s.next o sound.shape sound.shape.next_below lt) t in
      let filled : s.next < s.filled = omega (arith, stands, (word_slot s s.next o lt).0) in
      let link = sound.linked s.next o filled lt t in
      omega (arith, link.is_exit.inside, sound.lengths_are s.next filled))
  | inr ge ↦ ge
]

-- as the code meets them, before the table is told
pub room_inside : (s t : Slots) (slots size n : ℕ) → s ≡ t → InShape s → slots ≡ s.slots → size ≡ s.size → n ≡ slice_index_or s.lengths s.next n → LinksInside t t.next →
    (o : ℕ) → n ≤ o → o < size → slots ≤ slice_index s.targets (s.next * size + o)
room_inside s t slots size n e shape slots_is size_is is inside o le lt =
    let here : n ≡ slice_index s.lengths s.next = get_or_read s.lengths s.next n (omega (arith, shape.next_below, shape.lengths_long)) is 0 in
    let known : LinksInside s s.next = subst (λ (x : Slots). LinksInside x x.next) (sym e) inside in
    let free : s.slots ≤ slice_index s.targets (s.next * s.size + o) = known o (omega arith) (omega arith) in
    subst (λ (x : ℕ). slots ≤ slice_index s.targets (s.next * x + o)) (sym size_is) (omega (arith, slots_is))
