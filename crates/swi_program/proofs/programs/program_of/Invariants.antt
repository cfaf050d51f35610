use Rattle.std.proofs.Common.{◌≡◌, ◌++◌, drop, map}
use Rattle.swi_elf_read.specs.Loaded.{loaded_segments}
use Rattle.swi_program.specs.ProgramOf.{segment_of}
use Rattle.swi_program.proofs.programs.program_of.Given as goal

-- the segments so far, followed by those to come, are those of the file
abbrev pub invariant-loop-k : goal.invariant-loop-k
invariant-loop-k l = l.segments.items ++ map segment_of (drop l.k (loaded_segments l.e)) ≡ map segment_of (loaded_segments l.e)
