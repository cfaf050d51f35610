-- The first difference between an image and what a text asks of it.
use Rattle.std.specs.Prelude.{◌≡◌, ◌≢◌, ℕ, ◌+◌, ◌*◌, ◌%◌, ◌^◌, ◌<◌, ◌≤◌, ◌⊎◌, min, List, length, get_or, slice_index}
use Rattle.swi_program.specs.Text.{TextData}
use Rattle.swi_image.specs.Format.{ImageData}
use Rattle.swi_image.specs.Place.{block_at, next_start}
use Rattle.swi_render.specs.Rendering.{Slot, As, IsThe}
use Rattle.swi_render.specs.ImageOf.{OffsetsRight, offset_in, address_of, block_between, pad, filled, start_of, IsBlockOf}
use Rattle.swi_check.specs.declared.mismatch.Mismatch.{Mismatch}
use Rattle.swi_check.specs.declared.mismatch.Mismatch.TheVariants.{Cover, Place, Long, Length, Word}

-- the image begins where the text does, and has as many text words
abbrev pub Covers : TextData → ImageData → Type 0
Covers t v = (v.base ≡ t.base) × (length v.offsets ≡ length t.words)

-- it does not, and this is the first address that shows it
abbrev pub IsUncovered : TextData → ImageData → ℕ → Type 0
IsUncovered t v address =
    ((v.base ≢ t.base) × (address ≡ t.base))
    ⊎ ((v.base ≡ t.base) × (length v.offsets ≢ length t.words)
    × (address ≡ (t.base + 4 * min (length v.offsets) (length t.words)) % 2 ^ 32))

-- of the text words from one up to another, the first whose offset is wrong
pub record IsWrongPlace (t : TextData) (offsets : List ℕ) (first end address held required : ℕ) : Type 0 where
  pub word : ℕ
  pub low : first ≤ word
  pub high : word < end
  pub before : OffsetsRight t offsets first word
  pub address_is : address ≡ address_of t word
  pub held_is : held ≡ slice_index offsets word
  pub required_is : required ≡ offset_in t first word
  pub wrong : held ≢ required

-- what is asked of all words of a block of the text words from one up to another
abbrev pub asked_between : TextData → ImageData → ℕ → ℕ → List Slot
asked_between t v first end = filled v (block_between t first end)

-- the first n words are as they are asked
abbrev pub WordsRight : List Slot → List ℕ → ℕ → Type 0
WordsRight ss xs n = (o : ℕ) → o < n → As (get_or ss o pad).asked (slice_index xs o)

-- the word at an offset is the first that is not; `required` is the only word that would be
pub record IsWrongWord (ss : List Slot) (xs : List ℕ) (offset held required : ℕ) : Type 0 where
  pub within : offset < length ss
  pub before : WordsRight ss xs offset
  pub held_is : held ≡ slice_index xs offset
  pub required_is : IsThe (get_or ss offset pad).asked required
  pub wrong : As (get_or ss offset pad).asked held → ⊥

-- what is wrong in block b, whose text words are those from one up to another: first an offset, then that it has too
-- many words, then in version 2 its length, then a word
abbrev pub IsWrongBetween : TextData → ImageData → ℕ → ℕ → ℕ → Mismatch → Type 0
IsWrongBetween t v b first end (Cover address) = ⊥
IsWrongBetween t v b first end (Place address held required) = IsWrongPlace t v.offsets first end address held required
IsWrongBetween t v b first end (Long block needs) =
    (block ≡ b) × OffsetsRight t v.offsets first end
    × (needs ≡ length (block_between t first end)) × (v.block_words < needs)
IsWrongBetween t v b first end (Length block held required) =
    (block ≡ b) × OffsetsRight t v.offsets first end
    × (required ≡ length (block_between t first end)) × (required ≤ v.block_words)
    × (v.version ≡ 2) × (held ≡ length (block_at v b)) × (held ≢ required)
IsWrongBetween t v b first end (Word block offset held required) =
    (block ≡ b) × OffsetsRight t v.offsets first end
    × (length (block_between t first end) ≤ v.block_words)
    × (length (block_at v b) ≡ length (asked_between t v first end))
    × IsWrongWord (asked_between t v first end) (block_at v b) offset held required

abbrev pub IsWrongIn : TextData → ImageData → ℕ → Mismatch → Type 0
IsWrongIn t v b m = IsWrongBetween t v b (start_of v b) (next_start v b) m

-- what is wrong in the first block that is
pub record IsFirstWrong (t : TextData) (v : ImageData) (m : Mismatch) : Type 0 where
  pub covers : Covers t v
  pub block : ℕ
  pub within : block < length v.starts
  pub before : (b : ℕ) → b < block → IsBlockOf t v b
  pub wrong : IsWrongIn t v block m

-- the first difference
abbrev pub IsMismatch : TextData → ImageData → Mismatch → Type 0
IsMismatch t v (Cover address) = IsUncovered t v address
IsMismatch t v (Place address held required) = IsFirstWrong t v (Place address held required)
IsMismatch t v (Long block needs) = IsFirstWrong t v (Long block needs)
IsMismatch t v (Length block held required) = IsFirstWrong t v (Length block held required)
IsMismatch t v (Word block offset held required) = IsFirstWrong t v (Word block offset held required)
