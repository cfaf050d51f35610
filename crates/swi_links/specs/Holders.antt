-- Which list has a word.
use Rattle.std.specs.Prelude.{ℕ, ◌+◌, ◌==◌, ◌||◌, Bool, false, if◌then◌else◌, List, [], ◌∷◌}

-- whether a list has a word
abbrev pub has : List ℕ → ℕ → Bool
has [] x = false
has (y ∷ ys) x = y == x || has ys x

-- the number of the first list that has a word; where none has it, the number of lists
unfoldable pub holder_of : List (List ℕ) → ℕ → ℕ
holder_of [] x = 0
holder_of (xs ∷ rest) x = if has xs x then 0 else holder_of rest x + 1
