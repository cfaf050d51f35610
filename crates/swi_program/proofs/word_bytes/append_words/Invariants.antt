use Rattle.std.proofs.Common.{◌≡◌, ◌++◌, drop}
use Rattle.swi_program.specs.ProgramOf.{bytes_of_words}
use Rattle.swi_program.proofs.word_bytes.append_words.Given as goal

-- the bytes so far, followed by those of the words to come, are those of all
abbrev pub invariant-loop-word : goal.invariant-loop-word
invariant-loop-word l = l.bytes.items ++ bytes_of_words (drop l.word-index l.words) ≡ l.initial.bytes.items ++ bytes_of_words l.words
