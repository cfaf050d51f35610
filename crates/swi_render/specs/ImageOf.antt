-- Which images are images of a text. Own format.
use Rattle.std.specs.Prelude.{◌≡◌, ℕ, zero, suc, ◌+◌, ◌-◌, ◌*◌, ◌<◌, ◌≤◌, ◌==◌, Bool, List, [], ◌∷◌, ◌++◌, length, get_or, slice_index, if◌then◌else◌}
use Rattle.swi_program.specs.Text.{TextData}
use Rattle.swi_image.specs.Words.{part}
use Rattle.swi_image.specs.Format.{ImageData}
use Rattle.swi_image.specs.Place.{block_at, next_start}
use Rattle.swi_render.specs.declared.parts.Part.TheVariants.{Inert}
use Rattle.swi_render.specs.Rendering.{Slot, slot, Is, As, rendering, falls, fall_exit}

-- the address of text word k, its rendering, and whether control can go on behind it
abbrev pub address_of : TextData → ℕ → ℕ
address_of t k = t.base + 4 * k

abbrev pub rendering_at : TextData → ℕ → List Slot
rendering_at t k = rendering (slice_index t.words k) (address_of t k)

abbrev pub falls_at : TextData → ℕ → Bool
falls_at t k = falls (slice_index t.words k)

-- the renderings of consecutive text words, the first of which stands at a
unfoldable pub renderings : ℕ → List ℕ → List Slot
renderings a [] = []
renderings a (w ∷ ws) = rendering w a ++ renderings (a + 4) ws

-- the exit behind the last of them, where it falls
abbrev pub exit_behind : ℕ → List ℕ → List Slot
exit_behind a ws = if falls (slice_index ws (length ws - 1)) then fall_exit (a + 4 * (length ws - 1)) else []

-- a block of these text words
unfoldable pub block_of_words : ℕ → List ℕ → List Slot
block_of_words a ws = renderings a ws ++ exit_behind a ws

-- a word behind a block's exit
abbrev pub pad : Slot
pad = slot Inert (Is 0)

unfoldable pub pads : ℕ → List Slot
pads zero = []
pads (suc n) = pad ∷ pads n

-- words are, one by one, as they are asked
pub record AreWordsOf (ss : List Slot) (xs : List ℕ) : Type 0 where
  pub size : length xs ≡ length ss
  pub each : (o : ℕ) → o < length ss → As (get_or ss o pad).asked (slice_index xs o)

-- the renderings of the text words from one up to another, and the block of them
abbrev pub renderings_between : TextData → ℕ → ℕ → List Slot
renderings_between t first end = renderings (address_of t first) (part first (end - first) t.words)

abbrev pub block_between : TextData → ℕ → ℕ → List Slot
block_between t first end = block_of_words (address_of t first) (part first (end - first) t.words)

-- the offset of text word k in a block that begins with text word first; for the end of the block, that of its exit
abbrev pub offset_in : TextData → ℕ → ℕ → ℕ
offset_in t first k = length (renderings_between t first k)

-- the first text word of a block
abbrev pub start_of : ImageData → ℕ → ℕ
start_of v b = slice_index v.starts b

-- what is asked of all words of a block: in version 1 zeros follow up to the most words, in version 2 nothing
abbrev pub filled : ImageData → List Slot → List Slot
filled v ss = if v.version == 1 then ss ++ pads (v.block_words - length ss) else ss

-- the offsets of text words are the lengths of the renderings before them in their block
abbrev pub OffsetsRight : TextData → List ℕ → ℕ → ℕ → Type 0
OffsetsRight t offsets first end = (k : ℕ) → first ≤ k → k < end → slice_index offsets k ≡ offset_in t first k

-- block b is as the text asks
pub record IsBlockOf (t : TextData) (v : ImageData) (b : ℕ) : Type 0 where
  pub offsets : OffsetsRight t v.offsets (start_of v b) (next_start v b)
  pub fits : length (block_between t (start_of v b) (next_start v b)) ≤ v.block_words
  pub words : AreWordsOf (filled v (block_between t (start_of v b) (next_start v b))) (block_at v b)

-- the image is one of the text: its words are cut into blocks in their order, each rendered with its exit
pub record IsImageOf (t : TextData) (v : ImageData) : Type 0 where
  pub base : v.base ≡ t.base
  pub len : length v.offsets ≡ length t.words
  pub blocks : (b : ℕ) → b < length v.starts → IsBlockOf t v b
