use Rattle.std.proofs.Common.{◌≡◌, ◌++◌, drop}
use Rattle.swi_elf_write.specs.Rewritten.{contents}
use Rattle.swi_elf_write.proofs.writer.append_contents.Given as goal

-- the bytes so far and those to come are those of all segments
abbrev pub invariant-loop-segment : goal.invariant-loop-segment
invariant-loop-segment l = l.file.items ++ contents (drop l.segment-index l.segments) ≡ l.initial.file.items ++ contents l.segments
