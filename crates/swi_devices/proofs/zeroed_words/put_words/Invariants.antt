use Rattle.std.specs.Prelude.{◌≡◌, ◌+◌, ◌<◌, ◌≤◌, ℕ, length, slice_index}
use Rattle.swi_devices.proofs.zeroed_words.put_words.Given as goal

-- the first words stand, and no other has changed
abbrev pub invariant-loop-k : goal.invariant-loop-k
invariant-loop-k g l =
    (length l.held ≡ length l.fn.held)
    × ((j : ℕ) → j < l.k → slice_index l.held (l.first + j) ≡ slice_index (g.W.Words.items l.words) j)
    × ((i : ℕ) → i < l.first → slice_index l.held i ≡ slice_index l.fn.held i)
    × ((i : ℕ) → l.first + l.k ≤ i → slice_index l.held i ≡ slice_index l.fn.held i)
