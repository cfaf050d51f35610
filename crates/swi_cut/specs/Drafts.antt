-- A text that is cut as far as some word: what the private functions of this crate tell each other.
use Rattle.std.specs.Prelude.{◌≡◌, ◌⊎◌, ℕ, ◌+◌, ◌*◌, ◌<◌, ◌≤◌, List, length, get_or, slice_index}
use Rattle.swi_program.specs.Text.{TextData}
use Rattle.swi_image.specs.Checks.{begin_of}
use Rattle.swi_image.specs.Place.{next_of}
use Rattle.swi_render.specs.Rendering.{Slot, As}
use Rattle.swi_render.specs.ImageOf.{block_between, OffsetsRight, pad}
use Rattle.swi_render.specs.Cut.{needs_of}
use Rattle.swi_render.specs.Loops.{IsKept, KeepsSequences, EndsFull, EndsBeforeSequence}
use Rattle.swi_cut.specs.declared.cutting.Cutting.{Cutting}
use Rattle.swi_cut.specs.declared.cutting.Cutting.TheVariants.{Greedy, WholeLoops}
use Rattle.swi_cut.specs.declared.draft.Draft.{Draft}

-- a list that grew at its end
abbrev pub Grew : List ℕ → List ℕ → Type 0
Grew old new = (length old ≤ length new) × ((i : ℕ) → i < length old → slice_index new i ≡ slice_index old i)

-- words from a place on are as they are asked
abbrev pub AreAskedAt : List Slot → List ℕ → ℕ → Type 0
AreAskedAt ss xs from = (o : ℕ) → o < length ss → As (get_or ss o pad).asked (slice_index xs (from + o))

-- words are appended that are as they are asked
pub record IsAppended (ss : List Slot) (old new : List ℕ) : Type 0 where
  pub grew : Grew old new
  pub size : length new ≡ length old + length ss
  pub each : AreAskedAt ss new (length old)

-- behind the offsets of all text words before the first those of the text words up to another are appended, and words
-- that are as they are asked
pub record IsWritten (t : TextData) (first end : ℕ) (ss : List Slot)
    (offsets_old offsets_new words_old words_new : List ℕ) : Type 0 where
  pub offsets_grew : Grew offsets_old offsets_new
  pub offsets_size : length offsets_new ≡ end
  pub offsets_right : OffsetsRight t offsets_new first end
  pub words : IsAppended ss words_old words_new

-- the block of the text words from one up to another fits
pub record IsRun (t : TextData) (most first end : ℕ) : Type 0 where
  pub some : first < end
  pub within : end ≤ length t.words
  pub block : length (block_between t first end) ≤ most

-- each of these words fits, and the block would not fit with the word behind them
pub record IsGreedy (t : TextData) (most first end : ℕ) : Type 0 where
  pub fit : (k : ℕ) → first ≤ k → k < end → needs_of t k ≤ most
  pub full : end < length t.words → most < length (block_between t first (end + 1))

-- each of these words fits, the block keeps its sequences, and it does not end before it must
pub record IsWhole (t : TextData) (most first end : ℕ) : Type 0 where
  pub fit : (k : ℕ) → first ≤ k → k < end → needs_of t k ≤ most
  pub keeps : KeepsSequences t most first end
  pub ends : end < length t.words → EndsFull t most first end ⊎ EndsBeforeSequence t most first end

-- a block that ends before a text word splits a sequence that begins at another and that it is to keep
abbrev pub IsSplit : TextData → ℕ → ℕ → ℕ → Type 0
IsSplit t most lr end = (sc : ℕ) × IsKept t most lr sc × (end ≤ sc)

-- the block ends where it is to end
abbrev pub IsBlockEnd : Cutting → TextData → ℕ → ℕ → ℕ → Type 0
IsBlockEnd Greedy t most first end = IsGreedy t most first end
IsBlockEnd WholeLoops t most first end = IsWhole t most first end

-- a block of a draft: its text words, and where its words stand
pub record IsDone (t : TextData) (most first end from to : ℕ) (offsets words : List ℕ) : Type 0 where
  pub run : IsRun t most first end
  pub held : end ≤ length offsets
  pub size : to ≡ from + length (block_between t first end)
  pub inside : to ≤ length words
  pub offsets_right : OffsetsRight t offsets first end
  pub words_right : AreAskedAt (block_between t first end) words from

-- the tables of the blocks of all text words before one
pub record AreDrafted (t : TextData) (most done : ℕ) (starts ends offsets words : List ℕ) : Type 0 where
  pub ended : length ends ≡ length starts
  pub covered : length offsets ≡ done
  pub all : begin_of ends (length starts) ≡ length words
  pub few : length words ≤ 1024 * done
  pub fewer : length starts ≤ done
  pub first : 0 < length starts → slice_index starts 0 ≡ 0
  pub none : length starts ≡ 0 → done ≡ 0
  pub blocks : (b : ℕ) → b < length starts →
      IsDone t most (slice_index starts b) (next_of starts done b) (begin_of ends b) (slice_index ends b) offsets words

abbrev pub IsDraft : TextData → ℕ → ℕ → Draft → Type 0
IsDraft t most done d = AreDrafted t most done d.starts.items d.ends.items d.offsets.items d.words.items

-- the blocks end where they are to end, and all text words before one fit
pub record AreBlockEnds (c : Cutting) (t : TextData) (most : ℕ) (starts : List ℕ) (done : ℕ) : Type 0 where
  pub fit : (k : ℕ) → k < done → needs_of t k ≤ most
  pub each : (b : ℕ) → b < length starts → IsBlockEnd c t most (slice_index starts b) (next_of starts done b)
