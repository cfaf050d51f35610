use Rattle.std.proofs.Common.{◌≡◌, ℕ, ◌+◌, ◌*◌, ◌^◌, ◌<◌, ◌≤◌, length, slice_index}
use Rattle.swi_image.specs.Checks.{block_of}
use Rattle.swi_chip_places.proofs.filling.fill_places.Given as goal

-- the block is that of the text word before, and the places of all before are filled
abbrev pub invariant-loop-k : goal.invariant-loop-k
invariant-loop-k l =
    (length l.places ≡ length l.offsets)
    × (l.block < length l.starts)
    × (slice_index l.starts l.block ≤ l.k)
    × (l.block + 1 < length l.starts → l.k ≤ slice_index l.starts (l.block + 1))
    × ((j : ℕ) → j < l.k → slice_index l.places j ≡ block_of l.starts j * 2 ^ 13 + slice_index l.offsets j)
