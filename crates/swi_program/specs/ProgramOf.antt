-- The program of a file, that of a text alone, and words as bytes.
-- Source: System V ABI, "Program Loading": each PT_LOAD entry gives a segment, in the order of the table.
-- The program of a text alone.
use Rattle.std.specs.Prelude.{ℕ, List, [], ◌∷◌, ◌++◌, length, map}
use Rattle.byteorder.specs.Endian.{little_bytes}
use Rattle.swi_elf_read.specs.Elf.{e_entry, e_flags}
use Rattle.swi_elf_read.specs.Loaded.{LoadedData, loaded_segments}
use Rattle.swi_program.specs.Program.{ProgramData, SegmentData}

abbrev pub segment_of : LoadedData → SegmentData
segment_of s = record { base = s.base; flags = s.flags; size = s.size; bytes = s.bytes }

-- the program of an accepted file
abbrev pub program_of_file : List ℕ → ProgramData
program_of_file file = record { entry = e_entry file; flags = e_flags file; segments = map segment_of (loaded_segments file) }

-- words of four bytes, the lowest byte first
unfoldable pub bytes_of_words : List ℕ → List ℕ
bytes_of_words [] = []
bytes_of_words (w ∷ rest) = little_bytes 4 w ++ bytes_of_words rest

-- one segment that can be read and executed, at which a run begins
abbrev pub program_of_text : ℕ → List ℕ → ProgramData
program_of_text base text = record {
  entry = base;
  flags = 0;
  segments = record { base = base; flags = 5; size = length text; bytes = text } ∷ [];
}
