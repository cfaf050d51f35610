use Rattle.std.proofs.Common.{◌≡◌, ◌≤◌, ◌^◌, take, drop}
use Rattle.swi_elf_read.specs.ProgramHeaders.{is_too_large, first_from, first_among, memory_of}
use Rattle.swi_elf_read.proofs.checks.first_too_large.Given as goal

-- what is still to be found is what was to be found at the start, and the sum so far is within the limit
abbrev pub invariant-loop-i : goal.invariant-loop-i
invariant-loop-i l =
    (first_from is_too_large (take l.i l.headers) (drop l.i l.headers) ≡ first_among is_too_large l.headers)
    × (l.total ≡ memory_of (take l.i l.headers)) × (l.total ≤ 2 ^ 25)
