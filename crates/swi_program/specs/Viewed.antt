-- What is seen of a text's fields, and what is true of them.
use Rattle.std.specs.Prelude.{◌≡◌, ℕ, ◌+◌, ◌/◌, ◌%◌, ◌^◌, ◌≤◌, List, length}
use Rattle.swi_program.specs.Text.{TextData, words_from}

abbrev pub seen : ℕ → List ℕ → TextData
seen base bytes = record { base = base; words = words_from bytes 0 (length bytes / 4) }

pub record IsWhole (base : ℕ) (bytes : List ℕ) : Type 0 where
  pub aligned : base % 4 ≡ 0
  pub whole : length bytes % 4 ≡ 0
  pub some : 4 ≤ length bytes
  pub few : length bytes ≤ 2 ^ 21
  pub end : base + length bytes ≤ 2 ^ 32
