-- What fits into blocks, and how a text is cut into them.
use Rattle.std.specs.Prelude.{◌≡◌, ℕ, ◌+◌, ◌<◌, ◌≤◌, length, slice_index}
use Rattle.swi_program.specs.Text.{TextData}
use Rattle.swi_image.specs.Format.{ImageData}
use Rattle.swi_image.specs.Place.{next_start}
use Rattle.swi_render.specs.Rendering.{needs}
use Rattle.swi_render.specs.ImageOf.{address_of, IsImageOf, block_between, start_of}

-- how many words text word k needs as the last of its block
abbrev pub needs_of : TextData → ℕ → ℕ
needs_of t k = needs (slice_index t.words k) (address_of t k)

-- each text word fits into a block of so many words
abbrev pub Fits : TextData → ℕ → Type 0
Fits t most = (k : ℕ) → k < length t.words → needs_of t k ≤ most

-- text word k is the first that does not
pub record IsFirstLong (t : TextData) (most k : ℕ) : Type 0 where
  pub within : k < length t.words
  pub before : (j : ℕ) → j < k → needs_of t j ≤ most
  pub long : most < needs_of t k

-- the version 2 image in whose blocks, but for the last, no more text words fit
pub record IsCut (t : TextData) (most : ℕ) (v : ImageData) : Type 0 where
  pub image : IsImageOf t v
  pub version : v.version ≡ 2
  pub most_words : v.block_words ≡ most
  pub full : (b : ℕ) → b + 1 < length v.starts →
      most < length (block_between t (start_of v b) (next_start v b + 1))
