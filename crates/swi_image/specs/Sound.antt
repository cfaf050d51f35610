-- What holds of every image, and the tables of which one can be made.
use Rattle.std.specs.Prelude.{◌≡◌, ℕ, ◌+◌, ◌-◌, ◌^◌, ◌<◌, ◌≤◌, ◌⊎◌, List, [], ◌∷◌, ◌++◌, length, slice_index}
use Rattle.swi_image.specs.Format.{ImageData, pieces}
use Rattle.swi_image.specs.Checks.{begin_of, length_of, block_of}
use Rattle.swi_image.specs.Place.{block_at, next_of, next_start}

pub record IsImage (v : ImageData) : Type 0 where
  pub version : (v.version ≡ 1) ⊎ (v.version ≡ 2)
  pub least : 2 ≤ v.block_words
  pub most : v.block_words ≤ 1024
  -- there are blocks, a text word at least for each, and at most 2 ^ 19 text words
  pub some : 1 ≤ length v.starts
  pub blocks : length v.blocks ≡ length v.starts
  pub fewer : length v.starts ≤ length v.offsets
  pub few : length v.offsets ≤ 2 ^ 19
  -- the blocks share out the text words, in order
  pub first : slice_index v.starts 0 ≡ 0
  pub ascending : (b : ℕ) → b + 1 < length v.starts → slice_index v.starts b < slice_index v.starts (b + 1)
  pub inside : (b : ℕ) → b < length v.starts → slice_index v.starts b < length v.offsets
  -- the words of a block are 1 to the most, in version 1 always the most
  pub lengths : (b : ℕ) → b < length v.starts → (1 ≤ length (block_at v b)) × (length (block_at v b) ≤ v.block_words)
  pub whole : v.version ≡ 1 → (b : ℕ) → b < length v.starts → length (block_at v b) ≡ v.block_words
  -- a block's first text word stands at its front, each other behind the one before, and all inside their blocks
  pub begins : (b : ℕ) → b < length v.starts → slice_index v.offsets (slice_index v.starts b) ≡ 0
  pub ordered : (b k : ℕ) → b < length v.starts → slice_index v.starts b < k → k < next_start v b →
      slice_index v.offsets (k - 1) < slice_index v.offsets k
  pub within : (k : ℕ) → k < length v.offsets → slice_index v.offsets k < length (block_at v (block_of v.starts k))

-- tables of which a version 2 image can be made: of blocks of `most` words at most
pub record AreTables (most : ℕ) (starts ends offsets words : List ℕ) : Type 0 where
  pub least : 2 ≤ most
  pub highest : most ≤ 1024
  pub some : 1 ≤ length starts
  pub fewer : length starts ≤ length offsets
  pub few : length offsets ≤ 2 ^ 19
  pub ended : length ends ≡ length starts
  pub all : slice_index ends (length starts - 1) ≡ length words
  pub first : slice_index starts 0 ≡ 0
  pub ascending : (b : ℕ) → b + 1 < length starts → slice_index starts b < slice_index starts (b + 1)
  pub inside : (b : ℕ) → b < length starts → slice_index starts b < length offsets
  pub lengths : (b : ℕ) → b < length starts →
      (begin_of ends b < slice_index ends b) × (slice_index ends b ≤ begin_of ends b + most)
  pub begins : (b : ℕ) → b < length starts → slice_index offsets (slice_index starts b) ≡ 0
  pub ordered : (b k : ℕ) → b < length starts → slice_index starts b < k → k < next_of starts (length offsets) b →
      slice_index offsets (k - 1) < slice_index offsets k
  pub within : (b k : ℕ) → b < length starts → slice_index starts b ≤ k → k < next_of starts (length offsets) b →
      slice_index offsets k < length_of ends b

-- the version 2 image that they make
abbrev pub image_of_tables : ℕ → ℕ → List ℕ → List ℕ → List ℕ → List ℕ → ImageData
image_of_tables most base starts ends offsets words = record {
  version = 2;
  block_words = most;
  base = base;
  starts = starts;
  offsets = offsets;
  blocks = pieces 0 ends words;
}

-- the words of an image of version 2
abbrev pub header_words : ℕ → ℕ → ℕ → ℕ → List ℕ
header_words most blocks len base = 0x31434953 ∷ 2 ∷ most ∷ blocks ∷ len ∷ base ∷ []

abbrev pub image_words : ℕ → ℕ → List ℕ → List ℕ → List ℕ → List ℕ → List ℕ
image_words most base starts ends offsets words =
    (((header_words most (length starts) (length offsets) base ++ starts) ++ ends) ++ offsets) ++ words
