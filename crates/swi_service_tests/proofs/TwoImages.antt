-- What the tests of several programs need: two images, of which program 1 has the second, and the others the first.
use Rattle.std.proofs.Common.{◌≡◌, ◌==◌, ◌≤◌, ℕ, List, Bool, true, false, length, replicate, if◌then◌else◌, sym, ◌∙◌, ap}
use Rattle.std.proofs.lemmas.List.{length-replicate}
use Rattle.swi_outside.specs.CacheRam.{RamState}
use Rattle.swi_devices.specs.Stored.{new_ram}
use Rattle.swi_image.specs.Format.{ImageData}
use Rattle.swi_image.specs.Sound.{IsImage}
use Rattle.swi_slots.specs.Keys.{Images}
use Rattle.swi_slots.specs.Slots.{Slots}
use Rattle.swi_slots.specs.Sound.{Serves}

pub both_sound : (v w : ImageData) → IsImage v → IsImage w → (p : ℕ) → IsImage (if p == 1 then w else v)
both_sound v w first second p = elim (p == 1) as (λ (b : Bool). IsImage (if b then w else v)) [ true ↦ second | false ↦ first ]

pub both_most : (v w : ImageData) (n : ℕ) → v.block_words ≤ n → w.block_words ≤ n → (p : ℕ) → (if p == 1 then w else v).block_words ≤ n
both_most v w n first second p = elim (p == 1) as (λ (b : Bool). (if b then w else v).block_words ≤ n) [ true ↦ second | false ↦ first ]

-- the image of the program in turn by another name
pub in_turn : {w : ImageData} (s : Slots) (images : Images) (v : ImageData) (words : List ℕ) → v ≡ w → Serves s w images words → Serves s v images words
in_turn s images v words is serves = (serves.0 ∙ sym is, serves.1)

pub new_long : (r : RamState) (n : ℕ) → r ≡ new_ram (replicate n 0) → length r.words ≡ n
new_long r n is = ap (λ (x : RamState). length x.words) is ∙ length-replicate n 0
