-- Bytes as words, the lowest byte first.
use Rattle.std.specs.Prelude.{ℕ, ◌/◌, List, length, take, drop}
use Rattle.swi_program.specs.Text.{words_from}

-- the whole words of the bytes
unfoldable pub words_of : List ℕ → List ℕ
words_of bytes = words_from bytes 0 (length bytes / 4)

-- n words from the i-th on
abbrev pub part : ℕ → ℕ → List ℕ → List ℕ
part i n w = take n (drop i w)
