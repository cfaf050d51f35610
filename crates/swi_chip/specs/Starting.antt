-- The start of a service on a chip: what its caller has set, and that it stands for an empty service then.
use Rattle.std.specs.Prelude.{◌≡◌, ◌*◌, ◌^◌, ◌<◌, ◌≤◌, [], length, replicate}
use Rattle.swi_image.specs.Format.{ImageData}
use Rattle.swi_image.specs.Sound.{IsImage}
use Rattle.swi_slots.specs.Slots.{empty_slots}
use Rattle.swi_chip.specs.declared.chip.Chip.{Chip}
use Rattle.swi_chip.specs.Held.{RowsHold}
use Rattle.swi_chip.specs.Service.{HasNumbers, HasTables, StandsFor}

-- tables of one image, and memory for so many slots
pub record CanStart (c : Chip) (v : ImageData) : Type 0 where
  pub image : IsImage v
  pub rows : RowsHold (λ p. v) c.ends.now c.words.now
  pub tables : HasTables v c.base c.places.now c.ends.now
  pub starts_are : c.starts.now ≡ v.starts
  pub some_slot : 1 ≤ c.slots
  pub fits : v.block_words ≤ c.size.words
  pub cache_long : length c.cache.now ≡ c.slots * c.size.words
  pub few : length c.cache.now < 2 ^ 16
  pub heads_long : length c.heads.now ≡ c.slots
  pub links_long : length c.links.now ≡ c.slots
  pub blocks_long : length c.blocks.now ≡ c.slots
  pub marks_long : length c.marks.now ≡ length v.blocks
  pub numbers : HasNumbers (c.slots * c.size.words) c.size.words (length c.places.now) c.size.inverse c.text_bytes c.cache_at c.cache_bytes (length c.memo.now)

-- the chip stands for slots without a block, over whatever words the cache has
abbrev pub Starts : Chip → ImageData → Chip → Type 0
Starts old v new = StandsFor (empty_slots old.slots old.size.words 1) (λ p. v) old.cache.now (replicate old.slots []) new
