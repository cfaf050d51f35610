use Rattle.std.proofs.Common.{◌≡◌, ◌+◌, ◌++◌, drop, length}
use Rattle.swi_elf_write.specs.FileHeader.{table_bytes}
use Rattle.swi_elf_write.specs.Rewritten.{contents, segment_headers}
use Rattle.swi_elf_write.proofs.writer.append_segment_headers.Given as goal

-- the headers so far and those to come are those of all segments, and so are the bytes
abbrev pub invariant-loop-segment : goal.invariant-loop-segment
invariant-loop-segment l =
    (l.file.items ++ table_bytes (segment_headers l.offset (drop l.segment-index l.segments)) ≡ l.initial.file.items ++ table_bytes (segment_headers l.first l.segments))
    × (l.offset + length (contents (drop l.segment-index l.segments)) ≡ l.first + length (contents l.segments))
