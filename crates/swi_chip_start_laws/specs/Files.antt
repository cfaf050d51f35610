-- From which file a service on a chip can start.
use Rattle.std.specs.Prelude.{◌≡◌, ℕ, ◌*◌, ◌%◌, ◌^◌, ◌<◌, ◌≤◌, List, length, None}
use Rattle.swi_program.specs.Text.{TextData}
use Rattle.swi_image.specs.Checks.{first_refusal}
use Rattle.swi_image.specs.Format.{ImageData, base_of, body_of, ends_of, image_of, offsets_of, starts_of}
use Rattle.swi_image.specs.Words.{words_of}
use Rattle.swi_render.specs.ImageOf.{IsImageOf}
use Rattle.swi_chip.specs.declared.chip.Chip.{Chip}
use Rattle.swi_chip.specs.Service.{HasNumbers}
use Rattle.swi_chip.specs.Starting.{CanStart}
use Rattle.swi_chip_places.specs.Places.{ArePlaces}

-- the bytes pass the checks of an image, which is one of this text: what `swic check` tells of a file
pub record IsChecked (t : TextData) (bytes : List ℕ) : Type 0 where
  pub aligned : t.base % 4 ≡ 0
  pub accepted : first_refusal bytes ≡ None
  pub image : IsImageOf t (image_of bytes)

-- the chip's tables are those of a file with these words, and the table of places is made of them
pub record HasFile (words : List ℕ) (c : Chip) : Type 0 where
  pub base_is : c.base ≡ base_of words
  pub starts_are : c.starts.now ≡ starts_of words
  pub ends_are : c.ends.now ≡ ends_of words
  pub words_are : c.words.now ≡ body_of words
  pub places_are : ArePlaces (starts_of words) (offsets_of words) c.places.now

-- there is memory for a slot at least, each of which takes a block of the image, and the numbers are set
pub record HasRoom (v : ImageData) (c : Chip) : Type 0 where
  pub some_slot : 1 ≤ c.slots
  pub fits : v.block_words ≤ c.size.words
  pub cache_long : length c.cache.now ≡ c.slots * c.size.words
  pub few : length c.cache.now < 2 ^ 16
  pub heads_long : length c.heads.now ≡ c.slots
  pub links_long : length c.links.now ≡ c.slots
  pub blocks_long : length c.blocks.now ≡ c.slots
  pub marks_long : length c.marks.now ≡ length v.blocks
  pub numbers : HasNumbers (c.slots * c.size.words) c.size.words (length c.places.now) c.size.inverse c.text_bytes c.cache_at c.cache_bytes (length c.memo.now)

-- a service with these tables and so much memory can start
abbrev pub StartsFromFile : Type 0
StartsFromFile = (t : TextData) (bytes : List ℕ) (c : Chip) → IsChecked t bytes → HasFile (words_of bytes) c → HasRoom (image_of bytes) c → CanStart c (image_of bytes)
