use Rattle.std.proofs.Common.{◌≡◌, ◌+◌, drop, length}
use Rattle.swi_elf_write.specs.Rewritten.{contents}
use Rattle.swi_elf_write.proofs.writer.contents_size.Given as goal

-- the bytes so far and those to come are as many as those of all segments
abbrev pub invariant-loop-segment : goal.invariant-loop-segment
invariant-loop-segment l = l.size + length (contents (drop l.segment-index l.segments)) ≡ length (contents l.segments)
