-- The table of places: of each text word its block and its offset there, in one number. Own format.
use Rattle.std.specs.Prelude.{◌≡◌, ℕ, ◌+◌, ◌*◌, ◌^◌, ◌<◌, List, length, slice_index}
use Rattle.swi_image.specs.Checks.{block_of}
use Rattle.swi_image.specs.Format.{ImageData}
use Rattle.swi_image.specs.Sound.{IsImage}

-- starts and offsets are those of an image
pub record AreOfImage (starts offsets : List ℕ) : Type 0 where
  pub v : ImageData
  pub image : IsImage v
  pub starts_are : starts ≡ v.starts
  pub offsets_are : offsets ≡ v.offsets

-- for each text word there is one: its block times 2^13, plus its offset
pub record ArePlaces (starts offsets places : List ℕ) : Type 0 where
  pub long : length places ≡ length offsets
  pub each : (k : ℕ) → k < length places → slice_index places k ≡ block_of starts k * 2 ^ 13 + slice_index offsets k
