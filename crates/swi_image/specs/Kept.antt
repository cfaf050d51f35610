-- What the checks of an image leave, check by check: what a view of accepted bytes keeps.
use Rattle.std.specs.Prelude.{◌≡◌, ℕ, ◌+◌, ◌*◌, ◌^◌, ◌<◌, ◌≤◌, ◌⊎◌, false, List, length, None}
use Rattle.swi_image.specs.declared.checks.Header.{Header}
use Rattle.swi_image.specs.Words.{words_of}
use Rattle.swi_image.specs.Format.{version_of, block_words_of, blocks_of, len_of, base_of, starts_of, ends_of, offsets_of, offsets_at}
use Rattle.swi_image.specs.Checks.{first_refusal, size_of, is_start_wrong, is_end_wrong, is_offset_wrong}

-- the numbers of a header, and the indexes that follow from them
pub record IsHeader (h : Header) (w : List ℕ) : Type 0 where
  pub version : h.version ≡ version_of w
  pub block_words : h.block_words ≡ block_words_of w
  pub blocks : h.blocks ≡ blocks_of w
  pub len : h.len ≡ len_of w
  pub base : h.base ≡ base_of w
  pub offsets : h.offsets ≡ offsets_at w
  pub body : h.body ≡ offsets_at w + len_of w
  pub few : h.offsets ≤ 6 + 2 * h.blocks

-- after the checks of the header
pub record HasSizes (w : List ℕ) : Type 0 where
  pub version : (version_of w ≡ 1) ⊎ (version_of w ≡ 2)
  pub least : 2 ≤ block_words_of w
  pub most : block_words_of w ≤ 1024
  pub some : 1 ≤ blocks_of w
  pub fewer : blocks_of w ≤ len_of w
  pub few : len_of w ≤ 2 ^ 19
  pub size : length w ≡ size_of w

-- after the check of the starts, of n text words
pub record StartsRight (n : ℕ) (starts : List ℕ) : Type 0 where
  pub right : (i : ℕ) → i < length starts → is_start_wrong n starts i ≡ false

-- after the check of the ends; the multiples of version 1 have it, too
pub record LengthsRight (most : ℕ) (ends : List ℕ) : Type 0 where
  pub right : (i : ℕ) → i < length ends → is_end_wrong most ends i ≡ false

-- after the check of the offsets
pub record OffsetsRight (w : List ℕ) : Type 0 where
  pub right : (k : ℕ) → k < len_of w → is_offset_wrong (starts_of w) (ends_of w) (offsets_of w) k ≡ false

-- the words of an image
pub record IsAccepted (w : List ℕ) : Type 0 where
  pub sizes : HasSizes w
  pub starts : StartsRight (len_of w) (starts_of w)
  pub lengths : LengthsRight (block_words_of w) (ends_of w)
  pub offsets : OffsetsRight w

-- a view of accepted bytes
pub record IsView (bytes : List ℕ) (h : Header) : Type 0 where
  pub accepted : first_refusal bytes ≡ None
  pub header : IsHeader h (words_of bytes)
  pub kept : IsAccepted (words_of bytes)
