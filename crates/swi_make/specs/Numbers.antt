-- The numbers of a seed, and what they decide: how many additions each function of the program makes.
use Rattle.std.specs.Prelude.{ℕ, zero, suc, ◌+◌, ◌*◌, ◌/◌, ◌%◌, ◌^◌, List, map}
use Rattle.std.specs.List.{range_with_len}

-- the k-th number of a seed: number 0 is the seed, and each number gives the next, modulo 2 ^ 32
unfoldable pub number : ℕ → ℕ → ℕ
number seed zero = seed
number seed (suc k) = (1664525 * number seed k + 1013904223) % 2 ^ 32

-- how many additions function i makes: 1 to 16, one more than the four highest bits of number i + 1 say
abbrev pub additions : ℕ → ℕ → ℕ
additions seed i = 1 + number seed (i + 1) / 2 ^ 28

-- the same of the functions 0 to count - 1, in order
abbrev pub all_additions : ℕ → ℕ → List ℕ
all_additions seed count = map (additions seed) (range_with_len 0 count)
