use Rattle.std.proofs.Common.{◌≡◌, ◌+◌, ◌*◌, ◌-◌, ◌++◌, length}
use Rattle.swi_elf_read.specs.ProgramHeaders.{table_at}
use Rattle.swi_elf_read.proofs.program_header.table_at.Given as goal

-- the entries so far, followed by those to come, are the table
abbrev pub invariant-loop-k : goal.invariant-loop-k
invariant-loop-k l =
    (l.headers.items ++ table_at l.bytes (l.offset + 32 * l.k) (l.count - l.k) ≡ table_at l.bytes l.offset l.count)
    × (length l.headers.items ≡ l.k)
