use Rattle.std.proofs.Common.{◌≡◌, ◌⊎◌, ◌+◌, ◌*◌, ◌<◌, ◌≤◌, ℕ, slice_index}
use Rattle.swi_chip.proofs.missing.copy_fours.Given as goal

abbrev pub invariant-loop-k : goal.invariant-loop-k
invariant-loop-k l = ((j : ℕ) → j < 4 * l.k → slice_index l.cache (l.first + j) ≡ slice_index l.words (l.begin + j))
    × ((i : ℕ) → (i < l.first) ⊎ (l.first + 4 * l.fours ≤ i) → slice_index l.cache i ≡ slice_index l.fn.cache i)
