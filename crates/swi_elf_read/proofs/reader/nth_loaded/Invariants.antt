use Rattle.std.proofs.Common.{◌≡◌, filter, drop, slice_get}
use Rattle.swi_elf_read.specs.ProgramHeaders.{is_loaded}
use Rattle.swi_elf_read.proofs.reader.nth_loaded.Given as goal

-- what is still to be found is what was to be found at the start
abbrev pub invariant-loop-header : goal.invariant-loop-header
invariant-loop-header l = slice_get (filter is_loaded (drop l.header-index l.headers)) l.left ≡ slice_get (filter is_loaded l.headers) l.k
