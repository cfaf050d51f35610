-- The cut of a text that is asked for.
use Rattle.std.specs.Prelude.{ℕ, ◌^◌, ◌<◌}
use Rattle.swi_program.specs.Text.{TextData}
use Rattle.swi_image.specs.Format.{ImageData}
use Rattle.swi_image.specs.Place.{word_at}
use Rattle.swi_image.specs.Sound.{IsImage}
use Rattle.swi_render.specs.Cut.{IsCut}
use Rattle.swi_render.specs.Loops.{IsLoopCut}
use Rattle.swi_cut.specs.declared.cutting.Cutting.{Cutting}
use Rattle.swi_cut.specs.declared.cutting.Cutting.TheVariants.{Greedy, WholeLoops}

-- an image, in whose blocks stand words of 32 bits
pub record IsSound (v : ImageData) : Type 0 where
  pub valid : IsImage v
  pub words : (b o : ℕ) → word_at v b o < 2 ^ 32

-- the image is the cut of a text into blocks of so many words at most
abbrev pub IsCutBy : Cutting → TextData → ℕ → ImageData → Type 0
IsCutBy Greedy t most v = IsCut t most v
IsCutBy WholeLoops t most v = IsLoopCut t most v
