use Rattle.std.proofs.Common.{◌≡◌, ◌-◌}
use Rattle.swi_image.specs.Words.{words_of}
use Rattle.swi_image.specs.Format.{len_of, starts_of}
use Rattle.swi_image.specs.Checks.{first_from, first_below, is_start_wrong}
use Rattle.swi_image.proofs.checks.first_wrong_start.Given as goal

-- what is still to be found is what was to be found at the start
abbrev pub invariant-loop-i : goal.invariant-loop-i
invariant-loop-i l =
    first_from (is_start_wrong (len_of (words_of l.bytes)) (starts_of (words_of l.bytes))) l.i (l.h.blocks - l.i)
    ≡ first_below (is_start_wrong (len_of (words_of l.bytes)) (starts_of (words_of l.bytes))) l.h.blocks
