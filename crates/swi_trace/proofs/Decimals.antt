-- A number in decimal digits: its last digit, and those before it.
use Rattle.std.proofs.Common.{◌≡◌, ℕ, ◌+◌, ◌/◌, ◌%◌, ◌^◌, ◌<◌, ◌≤◌, [], ◌∷◌, ◌++◌, length, arith}
use Rattle.std.proofs.lemmas.Fmt.{decimal_digit, decimal_step, length-decimal-le}
use Rattle.std.specs.Fmt.{decimal}

pub decimal_last : (n : ℕ) → n < 10 → decimal n ≡ (48 + n % 10) ∷ []
decimal_last n small = let same : n % 10 ≡ n = omega arith in rw same (decimal_digit n small)

pub decimal_more : (n : ℕ) → 10 ≤ n → n < 2 ^ 32 → decimal n ≡ decimal (n / 10) ++ (48 + n % 10) ∷ []
decimal_more n large word = decimal_step n large (omega arith)

pub length_decimal : (n : ℕ) → n < 2 ^ 32 → length (decimal n) ≤ 10
length_decimal n word = length-decimal-le 10 n (omega arith) (omega arith) (omega arith)

pub length_front : (n : ℕ) → n < 2 ^ 32 → length (decimal (n / 10)) ≤ 9
length_front n word = length-decimal-le 9 (n / 10) (omega arith) (omega arith) (omega arith)
