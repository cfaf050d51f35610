use Rattle.std.proofs.Common.{◌≡◌, ◌≤◌, filter, length, take}
use Rattle.swi_elf_read.specs.ProgramHeaders.{is_loaded}
use Rattle.swi_elf_read.proofs.reader.count_loaded.Given as goal

-- so many of the headers so far are loaded
abbrev pub invariant-loop-header : goal.invariant-loop-header
invariant-loop-header l = (l.count ≡ length (filter is_loaded (take l.header-index l.headers))) × (l.count ≤ l.header-index)
