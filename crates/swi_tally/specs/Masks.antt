-- Numbers as sets of caches: a cache is in the set where its bit is 1.
use Rattle.std.specs.Prelude.{ℕ, Bool, List, ◌==◌, slice_index}
use Rattle.std.specs.Int.{bit_at}

unfoldable pub has : ℕ → ℕ → Bool
has mask cache = bit_at mask cache == 1

-- whether the set at an index has the cache
abbrev pub has_at : List ℕ → ℕ → ℕ → Bool
has_at masks cache x = has (slice_index masks x) cache
