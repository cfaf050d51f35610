-- The listing of a block: a line for each of its words. Own form.
use Rattle.std.specs.Prelude.{◌≡◌, ◌+◌, ◌<◌, ◌≤◌, length, ℕ, zero, suc, List, [], ◌++◌, slice_index, codes, decimal, nat_lt, if◌then◌else◌}
use Rattle.swi_line.specs.Hex.{hex_word}
use Rattle.swi_program.specs.Text.{TextData}
use Rattle.swi_image.specs.Format.{ImageData}
use Rattle.swi_image.specs.Place.{next_start, origin_of, word_before, word_at, length_at}
use Rattle.swi_render.specs.declared.parts.Part.{Part}
use Rattle.swi_render.specs.declared.parts.Part.TheVariants.{Fall}
use Rattle.swi_render.specs.Rendering.{needs, part_at}
use Rattle.swi_render.specs.ImageOf.{address_of, offset_in, rendering_at, start_of}
use Rattle.swi_trace.specs.Text.{text_of_word}

-- the exit to the text word behind the block, or another word behind the first of a rendering
abbrev pub mark : Part → List ℕ
mark Fall = codes "fall"
mark _ = codes "."

-- what a word is that stands so many words behind the first of the rendering of the text word w at address a
abbrev pub role : ℕ → ℕ → ℕ → List ℕ
role w a zero = text_of_word w a
role w a (suc behind) = mark (part_at w a (suc behind))

-- the same behind its address; words behind the rendering and the exit are of no text word
abbrev pub note : ℕ → ℕ → ℕ → List ℕ
note w a behind = if nat_lt behind (needs w a) then hex_word a ++ codes " " ++ role w a behind else codes "-------- pad"

-- what the word at an offset of a block is: a part of the block's last text word that begins at or before it
abbrev pub origin_note : TextData → ImageData → ℕ → ℕ → List ℕ
origin_note t v b o = note (slice_index t.words (word_before v b o)) (origin_of v b o).0 (origin_of v b o).1

-- block, offset, word, and what the word is
abbrev pub list_line : TextData → ImageData → ℕ → ℕ → List ℕ
list_line t v b o =
    decimal b ++ codes " " ++ decimal o ++ codes " " ++ hex_word (word_at v b o) ++ codes " " ++ origin_note t v b o ++ codes "\n"

-- the lines of the first words of a block
unfoldable pub first_lines : TextData → ImageData → ℕ → ℕ → List ℕ
first_lines t v b zero = []
first_lines t v b (suc n) = first_lines t v b n ++ list_line t v b n

-- the lines of all its words
abbrev pub block_lines : TextData → ImageData → ℕ → List ℕ
block_lines t v b = first_lines t v b (length_at v b)

-- An image of the text lists each text word: the words of its rendering, and for the last of the block all words behind
-- them too, as so many words behind its first, with its address.
abbrev pub ListsTextWords : TextData → ImageData → ℕ → Type 0
ListsTextWords t v b = (k j : ℕ) → start_of v b ≤ k → k < next_start v b
    → (k + 1 < next_start v b → j < length (rendering_at t k))
    → origin_note t v b (offset_in t (start_of v b) k + j) ≡ note (slice_index t.words k) (address_of t k) j
