-- The text of a program: the instruction words of its executable segment.
-- Source: RISC-V unprivileged specification, section 1.5 "Base Instruction-Length Encoding" (32-bit instructions are
-- aligned on 4 bytes, and parcels are little-endian). That the words past the file's bytes are none.
use Rattle.std.specs.Prelude.{◌≡◌, ℕ, zero, suc, ◌+◌, ◌-◌, ◌*◌, ◌/◌, ◌%◌, ◌^◌, ◌≤◌, ◌<◌, ◌==◌, ◌&&◌, nat_le, if◌then◌else◌, slice_index, List, [], ◌∷◌, length, drop, find, Option, Some, None}
use Rattle.byteorder.specs.Endian.{little_number}
use Rattle.swi_elf_read.specs.ProgramHeaders.{round_up_4}
use Rattle.swi_program.specs.Program.{SegmentData, can_execute}

-- the address of the first word, and the words
pub record TextData : Type 0 where
  pub base : ℕ
  pub words : List ℕ

-- the n words that stand from a place on
unfoldable pub words_from : List ℕ → ℕ → ℕ → List ℕ
words_from bytes at zero = []
words_from bytes at (suc n) = little_number 4 (drop at bytes) ∷ words_from bytes (at + 4) n

-- the address of the first text word of a segment, and how many there are up to the end of the file's bytes
abbrev pub text_base : SegmentData → ℕ
text_base s = round_up_4 s.base

abbrev pub text_words : SegmentData → List ℕ
text_words s = words_from s.bytes (text_base s - s.base) ((s.base + length s.bytes - text_base s) / 4)

abbrev pub text_in : Option SegmentData → TextData
text_in None = record { base = 0; words = [] }
text_in (Some s) = record { base = text_base s; words = text_words s }

-- the text of the executable segment
unfoldable pub text_of : List SegmentData → TextData
text_of segments = text_in (find can_execute segments)

-- a text word stands at the address
pub record IsTextAddress (t : TextData) (a : ℕ) : Type 0 where
  pub aligned : a % 4 ≡ 0
  pub first : t.base ≤ a
  pub last : a + 4 ≤ t.base + 4 * length t.words

-- the word of the text at the address, where a text word stands there
abbrev pub word_of : TextData → ℕ → Option ℕ
word_of t a =
    if a % 4 == 0 && (nat_le t.base a && nat_le (a + 4) (t.base + 4 * length t.words))
    then Some (slice_index t.words ((a - t.base) / 4))
    else None

-- what holds of the executable segment of a program: it has a whole word
pub record HasText (s : SegmentData) : Type 0 where
  pub word : text_base s + 4 ≤ s.base + length s.bytes
  pub few : length s.bytes ≤ 2 ^ 21
  pub end : s.base + length s.bytes ≤ 2 ^ 32

-- what holds of the text of a program
pub record IsSized (t : TextData) : Type 0 where
  pub aligned : t.base % 4 ≡ 0
  pub end : t.base + 4 * length t.words ≤ 2 ^ 32
  pub some : 0 < length t.words
  pub few : length t.words ≤ 2 ^ 19
