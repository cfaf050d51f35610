-- A text has one cut.
use Rattle.std.specs.Prelude.{◌≡◌, ℕ, ◌+◌, ◌^◌, ◌<◌, Some}
use Rattle.swi_isa.specs.declared.instr.Instr.{Instr}
use Rattle.swi_isa.specs.Decode.{decoded}
use Rattle.swi_encode.specs.Canonical.{canonical}
use Rattle.swi_program.specs.Text.{TextData}
use Rattle.swi_image.specs.Format.{ImageData}
use Rattle.swi_cut.specs.Cuts.{IsCutBy, IsSound}
use Rattle.swi_cut.specs.declared.cutting.Cutting.{Cutting}
use Rattle.swi_cut.specs.Upgrades.{IsUpgrade}

-- an image is a text's cut into blocks of so many words at most, and sound
pub record IsSoundCut (by : Cutting) (t : TextData) (most : ℕ) (v : ImageData) : Type 0 where
  pub sound : IsSound v
  pub cut : IsCutBy by t most v

-- two of them are the same image: of one version, base and most words, with the same starts, offsets and words in each block
abbrev pub CutIsOne : Type 0
CutIsOne = (by : Cutting) (t : TextData) (most : ℕ) (v w : ImageData) → IsSoundCut by t most v → IsSoundCut by t most w → v ≡ w

-- and so are two of version 2 with the blocks of one image
abbrev pub UpgradeIsOne : Type 0
UpgradeIsOne = (t : TextData) (old v w : ImageData) → IsSound v → IsSound w → IsUpgrade t old v → IsUpgrade t old w → v ≡ w

-- Two words of 32 bits that decode to one instruction are the same, but for what no field of it says: all of FENCE, and aq and rl of an
-- atomic instruction.
abbrev pub DecodesOnce : Type 0
DecodesOnce = (i : Instr) (x y : ℕ) → x < 2 ^ 32 → y < 2 ^ 32 → decoded x ≡ Some i → decoded y ≡ Some i → canonical i x ≡ canonical i y

-- of more bits they are not: LUI x0, 0 is decoded so with bit 32 too
abbrev pub DecodesBeyond : Type 0
DecodesBeyond = decoded 0x37 ≡ decoded (0x37 + 2 ^ 32)
