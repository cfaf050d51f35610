use Rattle.std.proofs.Common.{◌≡◌, take, drop}
use Rattle.swi_elf_read.specs.ProgramHeaders.{is_overlap, first_from, first_among}
use Rattle.swi_elf_read.proofs.checks.first_overlap.Given as goal

-- what is still to be found is what was to be found at the start
abbrev pub invariant-loop-i : goal.invariant-loop-i
invariant-loop-i l = first_from is_overlap (take l.i l.headers) (drop l.i l.headers) ≡ first_among is_overlap l.headers
