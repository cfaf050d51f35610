use Rattle.std.proofs.Common.{◌≡◌, ◌-◌, ◌+◌, ◌<◌, ◌≤◌, slice_index}
use Rattle.swi_image.specs.Words.{words_of}
use Rattle.swi_image.specs.Format.{starts_of, ends_of, offsets_of}
use Rattle.swi_image.specs.Checks.{first_from, first_below, is_offset_wrong}
use Rattle.swi_image.proofs.checks.first_wrong_offset.Given as goal

-- what is still to be found is what was to be found at the start, and the block is that of the word before
abbrev pub invariant-loop-k : goal.invariant-loop-k
invariant-loop-k l =
    (first_from (is_offset_wrong (starts_of (words_of l.bytes)) (ends_of (words_of l.bytes)) (offsets_of (words_of l.bytes))) l.k (l.h.len - l.k)
    ≡ first_below (is_offset_wrong (starts_of (words_of l.bytes)) (ends_of (words_of l.bytes)) (offsets_of (words_of l.bytes))) l.h.len)
    × (l.block < l.h.blocks)
    × (slice_index (starts_of (words_of l.bytes)) l.block ≤ l.k)
    × (l.block + 1 < l.h.blocks → l.k ≤ slice_index (starts_of (words_of l.bytes)) (l.block + 1))
