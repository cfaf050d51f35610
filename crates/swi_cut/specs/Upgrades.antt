-- The version 2 image with the blocks of another image.
use Rattle.std.specs.Prelude.{◌≡◌, ℕ, List}
use Rattle.swi_program.specs.Text.{TextData}
use Rattle.swi_image.specs.Format.{ImageData}
use Rattle.swi_render.specs.ImageOf.{IsImageOf}

-- the version 2 image of a text with blocks of so many words at most, which begin at these text words
pub record IsMade (t : TextData) (most : ℕ) (starts : List ℕ) (v : ImageData) : Type 0 where
  pub image : IsImageOf t v
  pub version : v.version ≡ 2
  pub most_words : v.block_words ≡ most
  pub same_starts : v.starts ≡ starts

-- of the same text, most words and starts as v, and version 2
abbrev pub IsUpgrade : TextData → ImageData → ImageData → Type 0
IsUpgrade t v new = IsMade t v.block_words v.starts new
