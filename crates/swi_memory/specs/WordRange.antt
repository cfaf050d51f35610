-- Ranges of words.
use Rattle.std.specs.Prelude.{◌≡◌, ◌==◌, ℕ, ◌+◌, ◌*◌, ◌%◌, ◌^◌, ◌<◌, ◌≤◌, ◌&&◌, Bool, nat_le, nat_lt}
use Rattle.swi_memory.specs.declared.word_range.WordRange.{WordRange}

-- fewer than 2 ^ 30 words, from a multiple of 4 on, and none ends past 2 ^ 32
pub record IsWordRange (r : WordRange) : Type 0 where
  pub first : r.from % 4 ≡ 0
  pub few : r.words < 2 ^ 30
  pub end : r.from + 4 * r.words ≤ 2 ^ 32

-- whether a word of the range stands at the address
abbrev pub in_range : WordRange → ℕ → Bool
in_range r a = (a % 4 == 0) && (nat_le r.from a && nat_lt a (r.from + 4 * r.words))
