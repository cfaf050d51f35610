-- The words of an image, and the word of a link.
use Rattle.std.specs.Prelude.{◌≡◌, ℕ, ◌%◌, ◌<◌, true}
use Rattle.swi_program.specs.Text.{TextData}
use Rattle.swi_image.specs.Format.{ImageData}
use Rattle.swi_image.specs.Place.{length_at, word_at}
use Rattle.swi_image.specs.Sound.{IsImage}
use Rattle.swi_render.specs.ImageOf.{IsImageOf}
use Rattle.swi_chip.specs.Owned.{is_jump}

-- no word of a sound image of a program's text is a JAL x0, as a service writes it for a link
abbrev pub HasNoJump : Type 0
HasNoJump = (t : TextData) (v : ImageData) → t.base % 4 ≡ 0 → IsImage v → IsImageOf t v → (b o : ℕ) → o < length_at v b → is_jump (word_at v b o) ≡ true → ⊥
