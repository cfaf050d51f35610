-- A cache image: the blocks into which the text of a program is cut, in the form in which they run from the cache.
-- Own format, in 32-bit words whose lowest byte comes first. Of K blocks, T text words, at most B words to a block:
--
--   words     version 1                                   version 2
--   0         the magic 31434953 (the bytes `SIC1`)       the same
--   1         1                                           2
--   2         B                                           B
--   3         K                                           K
--   4         T                                           T
--   5         base: the address of the first text word    the same
--   next K    starts: of each block the number, from 0,   the same
--             of its first text word
--   next K    (none)                                      ends: the lengths of all blocks up to each,
--                                                         itself included, added up
--   next T    offsets: of each text word the offset of    the same
--             its first word in its block
--   rest      blocks: B words each                        blocks: as many words each as its length says
use Rattle.std.specs.Prelude.{ℕ, zero, suc, ◌+◌, ◌-◌, ◌*◌, ◌==◌, List, [], ◌∷◌, drop, slice_index, if◌then◌else◌}
use Rattle.swi_image.specs.Words.{words_of, part}

-- what an image says
pub record ImageData : Type 0 where
  pub version : ℕ
  pub block_words : ℕ
  pub base : ℕ
  pub starts : List ℕ
  pub offsets : List ℕ
  pub blocks : List (List ℕ)

abbrev pub magic_of : List ℕ → ℕ
magic_of w = slice_index w 0

abbrev pub version_of : List ℕ → ℕ
version_of w = slice_index w 1

abbrev pub block_words_of : List ℕ → ℕ
block_words_of w = slice_index w 2

abbrev pub blocks_of : List ℕ → ℕ
blocks_of w = slice_index w 3

abbrev pub len_of : List ℕ → ℕ
len_of w = slice_index w 4

abbrev pub base_of : List ℕ → ℕ
base_of w = slice_index w 5

unfoldable pub starts_of : List ℕ → List ℕ
starts_of w = part 6 (blocks_of w) w

-- the n multiples of b above a
unfoldable pub multiples : ℕ → ℕ → ℕ → List ℕ
multiples b a zero = []
multiples b a (suc n) = (a + b) ∷ multiples b (a + b) n

-- of each block the number of words of all blocks up to it, itself included: in version 1 the multiples of B
unfoldable pub ends_of : List ℕ → List ℕ
ends_of w =
    if version_of w == 2
    then part (6 + blocks_of w) (blocks_of w) w
    else multiples (block_words_of w) 0 (blocks_of w)

-- the index of the first offset
unfoldable pub offsets_at : List ℕ → ℕ
offsets_at w = if version_of w == 2 then 6 + 2 * blocks_of w else 6 + blocks_of w

unfoldable pub offsets_of : List ℕ → List ℕ
offsets_of w = part (offsets_at w) (len_of w) w

-- the words of all blocks
unfoldable pub body_of : List ℕ → List ℕ
body_of w = drop (offsets_at w + len_of w) w

-- the pieces of a list that end at these places, the first beginning at `from`
unfoldable pub pieces : ℕ → List ℕ → List ℕ → List (List ℕ)
pieces from [] ws = []
pieces from (e ∷ ends) ws = part from (e - from) ws ∷ pieces e ends ws

abbrev pub image_of_words : List ℕ → ImageData
image_of_words w = record {
  version = version_of w;
  block_words = block_words_of w;
  base = base_of w;
  starts = starts_of w;
  offsets = offsets_of w;
  blocks = pieces 0 (ends_of w) (body_of w);
}

-- what the bytes of an image say
unfoldable pub image_of : List ℕ → ImageData
image_of bytes = image_of_words (words_of bytes)
