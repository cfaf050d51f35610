use Rattle.std.proofs.Common.{◌≡◌, ◌-◌}
use Rattle.swi_image.specs.Words.{words_of}
use Rattle.swi_image.specs.Format.{block_words_of, ends_of}
use Rattle.swi_image.specs.Checks.{first_from, first_below, is_end_wrong}
use Rattle.swi_image.proofs.checks.first_wrong_end.Given as goal

-- what is still to be found is what was to be found at the start
abbrev pub invariant-loop-i : goal.invariant-loop-i
invariant-loop-i l =
    first_from (is_end_wrong (block_words_of (words_of l.bytes)) (ends_of (words_of l.bytes))) l.i (l.h.blocks - l.i)
    ≡ first_below (is_end_wrong (block_words_of (words_of l.bytes)) (ends_of (words_of l.bytes))) l.h.blocks
