-- That an image carries a text: at the place of each text word stands its rendering, and behind it the run can go on.
-- Own rule.
use Rattle.std.specs.Prelude.{◌≡◌, ◌⊎◌, ℕ, ◌+◌, ◌%◌, ◌^◌, ◌<◌, ◌≤◌, true, List, [], ◌∷◌, length, Option, Some, None}
use Rattle.swi_image.specs.Format.{ImageData}
use Rattle.swi_image.specs.Place.{place_of, word_at, length_at}
use Rattle.swi_image.specs.Sound.{IsImage}
use Rattle.swi_render.specs.Rendering.{Slot, As, rendering, falls, ebreak, sum}

-- the words of a block from an offset on are as they are asked
abbrev pub StandAt : ImageData → ℕ → ℕ → List Slot → Type 0
StandAt v b o [] = o ≤ length_at v b
StandAt v b o (s ∷ ss) = As s.asked (word_at v b o) × StandAt v b (o + 1) ss

-- at the offset stands the exit behind the last text word of a block, which leads to the next address; no text word
-- stands there
pub record FallAt (v : ImageData) (next b o : ℕ) : Type 0 where
  pub leaves : word_at v b o ≡ ebreak
  pub leads : word_at v b (o + 1) ≡ next
  pub inside : o + 1 < length_at v b
  pub known : b < length v.blocks
  pub aligned : next % 4 ≡ 0
  pub no_place : (a : ℕ) → place_of v a ≡ Some (b, o) → ⊥

-- behind a text word that falls stands the next one, or an exit to it
abbrev pub GoesOn : ImageData → ℕ → ℕ → ℕ → Type 0
GoesOn v next b o = (place_of v next ≡ Some (b, o)) ⊎ FallAt v next b o

-- the rendering of the text word w at a stands at the offset of the block
pub record StandsFor (v : ImageData) (w a b o : ℕ) : Type 0 where
  pub words : StandAt v b o (rendering w a)
  pub known : b < length v.blocks
  pub behind : falls w ≡ true → GoesOn v (sum a 4) b (o + length (rendering w a))

-- the image carries the text, which has a word at some addresses
pub record Carries (text : ℕ → Option ℕ) (v : ImageData) : Type 0 where
  pub image : IsImage v
  pub aligned : (a b o : ℕ) → place_of v a ≡ Some (b, o) → a % 4 ≡ 0
  pub nowhere : (a : ℕ) → a < 2 ^ 32 → text a ≡ None → place_of v a ≡ None
  pub stands : (a w : ℕ) → text a ≡ Some w →
      (b : ℕ) × (o : ℕ) × (place_of v a ≡ Some (b, o)) × StandsFor v w a b o
