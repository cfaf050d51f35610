-- Division by the words of a slot.
use Rattle.std.specs.Prelude.{ℕ, ◌+◌, ◌*◌, ◌^◌, ◌<◌, ◌≤◌}

-- the least number not below 2^32 / n, for a slot's n words
pub record IsInverse (n inverse : ℕ) : Type 0 where
  pub least : 2 ≤ n
  pub most : n ≤ 1024
  pub enough : 2 ^ 32 ≤ inverse * n
  pub nearest : inverse * n < 2 ^ 32 + n
