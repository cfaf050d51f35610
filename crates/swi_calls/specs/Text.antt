-- The line that tells of a system call: its number in decimal, and words in eight hexadecimal digits.
use Rattle.std.specs.Prelude.{ℕ, List, [], ◌++◌, codes, decimal, Option, Some, None}
use Rattle.swi_line.specs.Hex.{hex_word}

-- what a call answered, where it returned
abbrev pub answer_text : Option ℕ → List ℕ
answer_text None = []
answer_text (Some v) = codes " = " ++ hex_word v

-- the line of a call: its number, its three arguments, and its answer
abbrev pub call_line : ℕ → ℕ → ℕ → ℕ → Option ℕ → List ℕ
call_line number a0 a1 a2 answer =
    codes "call " ++ decimal number ++ codes " " ++ hex_word a0 ++ codes " " ++ hex_word a1 ++ codes " " ++ hex_word a2
    ++ answer_text answer ++ codes "\n"
