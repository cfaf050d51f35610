-- Which bytes are an image: the checks in their order, and what a refusal carries. Own format.
use Rattle.std.specs.Prelude.{ℕ, zero, suc, ◌+◌, ◌-◌, ◌*◌, ◌/◌, ◌^◌, ◌==◌, Bool, not, ◌&&◌, ◌||◌, nat_lt, nat_le, List, [], ◌∷◌, length, filter, slice_index, Option, Some, None, option_map, if◌then◌else◌}
use Rattle.swi_image.specs.declared.refusal.ImageRefusal.{ImageRefusal}
use Rattle.swi_image.specs.declared.refusal.ImageRefusal.TheVariants.{Magic, Version, BlockSize, Length, Table, Lengths, Offsets}
use Rattle.swi_image.specs.Words.{words_of}
use Rattle.swi_image.specs.Format.{magic_of, version_of, block_words_of, blocks_of, len_of, starts_of, ends_of, offsets_of, offsets_at}

-- the first of the n numbers from i on that a test picks
unfoldable pub first_from : (ℕ → Bool) → ℕ → ℕ → Option ℕ
first_from test i zero = None
first_from test i (suc n) = if test i then Some i else first_from test (i + 1) n

-- the first number below n that a test picks
abbrev pub first_below : (ℕ → Bool) → ℕ → Option ℕ
first_below test n = first_from test 0 n

-- how many of the numbers are at most x
abbrev pub at_most : ℕ → List ℕ → ℕ
at_most x xs = length (filter (λ y. nat_le y x) xs)

-- the block of text word k: the last one that starts at or before it
abbrev pub block_of : List ℕ → ℕ → ℕ
block_of starts k = at_most k starts - 1

-- the first start is 0; each other is above the one before; all are below the number n of text words
unfoldable pub is_start_wrong : ℕ → List ℕ → ℕ → Bool
is_start_wrong n starts i =
    (if i == 0 then not (slice_index starts 0 == 0) else nat_le (slice_index starts i) (slice_index starts (i - 1)))
    || nat_le n (slice_index starts i)

-- where a block's words begin: at the end of the block before
abbrev pub begin_of : List ℕ → ℕ → ℕ
begin_of ends i = if i == 0 then 0 else slice_index ends (i - 1)

-- an end is above the one before (above 0, for the first), by b at most
unfoldable pub is_end_wrong : ℕ → List ℕ → ℕ → Bool
is_end_wrong b ends i =
    nat_le (slice_index ends i) (begin_of ends i)
    || nat_lt (begin_of ends i + b) (slice_index ends i)

abbrev pub length_of : List ℕ → ℕ → ℕ
length_of ends b = slice_index ends b - begin_of ends b

-- the offset of a block's first text word is 0; that of another is above the one before; all are below the length of
-- their block
unfoldable pub is_offset_wrong : List ℕ → List ℕ → List ℕ → ℕ → Bool
is_offset_wrong starts ends offsets k =
    (if slice_index starts (block_of starts k) == k
    then not (slice_index offsets k == 0)
    else nat_le (slice_index offsets k) (slice_index offsets (k - 1)))
    || nat_le (length_of ends (block_of starts k)) (slice_index offsets k)

-- how many words the whole image has
unfoldable pub size_of : List ℕ → ℕ
size_of w =
    if version_of w == 2
    then 6 + 2 * blocks_of w + len_of w + slice_index w (5 + 2 * blocks_of w)
    else 6 + blocks_of w + len_of w + blocks_of w * block_words_of w

-- 1 to 2^19 text words, a block at most for each, and just the bytes that these numbers ask for
abbrev pub has_length : List ℕ → List ℕ → Bool
has_length bytes w =
    nat_le 1 (len_of w)
    && (nat_le (len_of w) (2 ^ 19)
    && (nat_le 1 (blocks_of w)
    && (nat_le (blocks_of w) (len_of w)
    && length bytes == 4 * size_of w)))

-- a check: its refusal where it fails
abbrev pub refuse_if : Bool → ImageRefusal → Option ImageRefusal
refuse_if fails refusal = if fails then Some refusal else None

-- the first refusal of a list of checks
abbrev pub first_some : List (Option ImageRefusal) → Option ImageRefusal
first_some [] = None
first_some (Some refusal ∷ rest) = Some refusal
first_some (None ∷ rest) = first_some rest

-- the checks of the header; a word that isn't there reads as 0, which no check accepts
abbrev pub header_checks : List ℕ → List ℕ → List (Option ImageRefusal)
header_checks bytes w =
    refuse_if (not (magic_of w == 0x31434953)) (Magic 0)
    ∷ refuse_if (not (version_of w == 1 || version_of w == 2)) (Version 1)
    ∷ refuse_if (not (nat_le 2 (block_words_of w) && nat_le (block_words_of w) 1024)) (BlockSize 2)
    ∷ refuse_if (not (has_length bytes w)) (Length (length bytes / 4))
    ∷ []

abbrev pub first_wrong_start : List ℕ → Option ℕ
first_wrong_start w = first_below (is_start_wrong (len_of w) (starts_of w)) (blocks_of w)

abbrev pub first_wrong_end : List ℕ → Option ℕ
first_wrong_end w = first_below (is_end_wrong (block_words_of w) (ends_of w)) (blocks_of w)

abbrev pub first_wrong_offset : List ℕ → Option ℕ
first_wrong_offset w = first_below (is_offset_wrong (starts_of w) (ends_of w) (offsets_of w)) (len_of w)

-- the checks of the tables; the ends are words in version 2 alone
abbrev pub starts_refusal : List ℕ → Option ImageRefusal
starts_refusal w = option_map (λ i. Table (6 + i)) (first_wrong_start w)

abbrev pub ends_refusal : List ℕ → Option ImageRefusal
ends_refusal w =
    if version_of w == 2
    then option_map (λ i. Lengths (6 + blocks_of w + i)) (first_wrong_end w)
    else None

abbrev pub offsets_refusal : List ℕ → Option ImageRefusal
offsets_refusal w = option_map (λ k. Offsets (offsets_at w + k)) (first_wrong_offset w)

unfoldable pub header_refusal : List ℕ → Option ImageRefusal
header_refusal bytes = first_some (header_checks bytes (words_of bytes))

unfoldable pub tables_refusal : List ℕ → Option ImageRefusal
tables_refusal w = first_some (starts_refusal w ∷ ends_refusal w ∷ offsets_refusal w ∷ [])

-- the refusal of the first check that fails, in this order
unfoldable pub first_refusal : List ℕ → Option ImageRefusal
first_refusal bytes = first_some (header_refusal bytes ∷ tables_refusal (words_of bytes) ∷ [])
