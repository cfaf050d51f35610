-- An image of version 2 has one sequence of bytes.
use Rattle.std.specs.Prelude.{◌≡◌, ℕ, ◌<◌, List, None, slice_index}
use Rattle.swi_program.specs.Text.{TextData}
use Rattle.swi_image.specs.Checks.{first_refusal}
use Rattle.swi_image.specs.Format.{ImageData, image_of}
use Rattle.swi_cut.specs.Cuts.{IsCutBy}
use Rattle.swi_cut.specs.declared.cutting.Cutting.{Cutting}
use Rattle.swi_cut.specs.Upgrades.{IsUpgrade}

-- bytes that pass the checks of an image
pub record AreImageBytes (bytes : List ℕ) : Type 0 where
  pub small : (i : ℕ) → slice_index bytes i < 256
  pub accepted : first_refusal bytes ≡ None

-- such bytes of version 2 that say the same image are the same
abbrev pub ImageBytesAreOne : Type 0
ImageBytesAreOne = (xs ys : List ℕ) → AreImageBytes xs → AreImageBytes ys → (image_of xs).version ≡ 2 → image_of xs ≡ image_of ys → xs ≡ ys

-- so are those of a text's cut
abbrev pub CutBytesAreOne : Type 0
CutBytesAreOne = (by : Cutting) (t : TextData) (most : ℕ) (xs ys : List ℕ) → AreImageBytes xs → AreImageBytes ys →
    IsCutBy by t most (image_of xs) → IsCutBy by t most (image_of ys) → xs ≡ ys

-- and those of version 2 with the blocks of one image
abbrev pub UpgradeBytesAreOne : Type 0
UpgradeBytesAreOne = (t : TextData) (old : ImageData) (xs ys : List ℕ) → AreImageBytes xs → AreImageBytes ys →
    IsUpgrade t old (image_of xs) → IsUpgrade t old (image_of ys) → xs ≡ ys
