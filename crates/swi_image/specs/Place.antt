-- Where a text word stands in an image, and which text word a rendered word is of. Address sums are modulo 2^32.
use Rattle.std.specs.Prelude.{ℕ, ◌<◌, ◌≤◌, ◌+◌, ◌-◌, ◌*◌, ◌/◌, ◌%◌, ◌^◌, ◌==◌, ◌&&◌, nat_lt, List, [], length, get_or, slice_index, Option, Some, None, if◌then◌else◌}
use Rattle.swi_image.specs.Words.{part}
use Rattle.swi_image.specs.Format.{ImageData}
use Rattle.swi_image.specs.Checks.{block_of, at_most}

-- how far an address lies above the base
abbrev pub distance : ImageData → ℕ → ℕ
distance v a = (a + 2 ^ 32 - v.base) % 2 ^ 32

-- the block of text word k and its offset there
abbrev pub place_of_word : ImageData → ℕ → ℕ × ℕ
place_of_word v k = (block_of v.starts k, slice_index v.offsets k)

-- the place of the text word at an address; None where none stands there
unfoldable pub place_of : ImageData → ℕ → Option (ℕ × ℕ)
place_of v a =
    if distance v a % 4 == 0 && nat_lt (distance v a / 4) (length v.offsets)
    then Some (place_of_word v (distance v a / 4))
    else None

-- the words of a block, the word at an offset of it, and how many it has
unfoldable pub block_at : ImageData → ℕ → List ℕ
block_at v b = get_or v.blocks b []

abbrev pub word_at : ImageData → ℕ → ℕ → ℕ
word_at v b o = slice_index (block_at v b) o

abbrev pub length_at : ImageData → ℕ → ℕ
length_at v b = length (block_at v b)

-- the number of the first text word after a block, of n text words
abbrev pub next_of : List ℕ → ℕ → ℕ → ℕ
next_of starts n b = if nat_lt (b + 1) (length starts) then slice_index starts (b + 1) else n

abbrev pub next_start : ImageData → ℕ → ℕ
next_start v b = next_of v.starts (length v.offsets) b

-- the last text word of a block that begins at or before an offset
unfoldable pub word_before : ImageData → ℕ → ℕ → ℕ
word_before v b o =
    slice_index v.starts b
    + at_most o (part (slice_index v.starts b) (next_start v b - slice_index v.starts b) v.offsets)
    - 1

-- its address, and how far the offset lies behind its first rendered word
abbrev pub origin_of : ImageData → ℕ → ℕ → ℕ × ℕ
origin_of v b o = ((v.base + 4 * word_before v b o) % 2 ^ 32, o - slice_index v.offsets (word_before v b o))

-- text word k is one of a block, and its offset is below the block's length
pub record IsWordOf (v : ImageData) (b k : ℕ) : Type 0 where
  pub from : slice_index v.starts b ≤ k
  pub to : k < next_start v b
  pub inside : slice_index v.offsets k < length (block_at v b)
