-- What the private functions of this crate tell each other.
use Rattle.std.specs.Prelude.{◌≡◌, ℕ, ◌≤◌, List, length, get_or}
use Rattle.swi_program.specs.Text.{TextData}
use Rattle.swi_image.specs.Format.{ImageData}
use Rattle.swi_image.specs.Place.{block_at}
use Rattle.swi_render.specs.Rendering.{Slot}
use Rattle.swi_render.specs.ImageOf.{OffsetsRight, AreWordsOf, block_between, pad}
use Rattle.swi_check.specs.declared.checker.Misplaced.{Misplaced}
use Rattle.swi_check.specs.declared.checker.Difference.{Difference}
use Rattle.swi_check.specs.Mismatches.{asked_between, IsWrongPlace, IsWrongWord}

abbrev pub IsMisplaced : TextData → List ℕ → ℕ → ℕ → Misplaced → Type 0
IsMisplaced t offsets first end m = IsWrongPlace t offsets first end m.address m.held m.required

abbrev pub IsDifference : List Slot → List ℕ → Difference → Type 0
IsDifference ss xs d = IsWrongWord ss xs d.offset d.held d.required

-- from a place on, zeros are asked for
abbrev pub IsPaddedFrom : List Slot → ℕ → Type 0
IsPaddedFrom ss from = (o : ℕ) → from ≤ o → get_or ss o pad ≡ pad

-- nothing is wrong in block b, whose text words are those from one up to another
pub record IsRightBetween (t : TextData) (v : ImageData) (b first end : ℕ) : Type 0 where
  pub offsets : OffsetsRight t v.offsets first end
  pub fits : length (block_between t first end) ≤ v.block_words
  pub words : AreWordsOf (asked_between t v first end) (block_at v b)
