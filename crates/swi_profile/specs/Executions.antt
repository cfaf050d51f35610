-- How often a run executes each word of its text, and the lines that tell it.
use Rattle.std.specs.Prelude.{◌≡◌, ◌==◌, ℕ, ◌+◌, ◌*◌, ◌<◌, List, [], ◌++◌, length, codes, decimal, count_by, slice_index, if◌then◌else◌}
use Rattle.std.specs.List.{flat_map}
use Rattle.swi_line.specs.Hex.{hex_word}
use Rattle.swi_memory.specs.declared.word_range.WordRange.{WordRange}
use Rattle.swi_program.specs.Text.{TextData}
use Rattle.swi_calls.specs.State.{FlatState}
use Rattle.swi_calls.specs.Flat.{flat_run}
use Rattle.swi_report.specs.State.{numbers}

-- how many of the first n steps of a run from a state stand at an address
unfoldable pub executions : ℕ → FlatState → ℕ → ℕ
executions n s a = count_by (λ i. (flat_run i s).machine.pc == a) (numbers 0 n)

-- the line of a word that was executed: its address, and how often
abbrev pub word_line : ℕ → ℕ → List ℕ
word_line a count = if count == 0 then [] else hex_word a ++ (codes " " ++ (decimal count ++ codes "\n"))

-- the lines of so many words from an address on, in their order
abbrev pub lines_of : ℕ → ℕ → (ℕ → ℕ) → List ℕ
lines_of base words count = flat_map (λ k. word_line (base + 4 * k) (count (base + 4 * k))) (numbers 0 words)

-- those of a text, of the first n steps of a run
abbrev pub profile_lines : TextData → ℕ → FlatState → List ℕ
profile_lines t n s = lines_of t.base (length t.words) (executions n s)

-- the range of the words of a text
abbrev pub range_of : TextData → WordRange
range_of t = record { from = t.base; words = length t.words }

-- of each word of a range, how often it was executed
pub record AreCounts (range : WordRange) (counts : List ℕ) (count : ℕ → ℕ) : Type 0 where
  pub long : length counts ≡ range.words
  pub each : (k : ℕ) → k < range.words → slice_index counts k ≡ count (range.from + 4 * k)
