-- A program: an entry address, the flags of an ELF header and the segments that a run loads.
-- Source: System V ABI, "ELF Header" (e_entry, e_flags) and "Program Header" (PT_LOAD); RISC-V ELF psABI, "File
-- Header" (bits 0 to 3 of e_flags). The limits on sizes and that there is one executable segment.
use Rattle.std.specs.Prelude.{◌≡◌, ℕ, ◌+◌, ◌%◌, ◌^◌, ◌<◌, ◌≤◌, Bool, true, List, [], ◌∷◌, length, map, filter, sum_by}
use Rattle.std.specs.List.{list_any}
pub use Rattle.swi_memory.specs.Segment.{SegmentData}
use Rattle.swi_memory.specs.declared.right.Right.TheVariants.{Execute}
use Rattle.swi_memory.specs.Bus.{has_word}
use Rattle.swi_memory.specs.BusOf.{AreApart, area_of, range_of}
use Rattle.swi_memory.specs.Rights.{grants}

pub record ProgramData : Type 0 where
  pub entry : ℕ
  pub flags : ℕ
  pub segments : List SegmentData

-- the right to execute
abbrev pub can_execute : SegmentData → Bool
can_execute s = grants Execute s.flags

-- a text word: a whole word at a multiple of 4, within the file's bytes of an executable segment
abbrev pub has_word_at : ℕ → SegmentData → Bool
has_word_at a s = has_word (area_of s) a

-- what holds of each segment of a program
pub record IsSegment (s : SegmentData) : Type 0 where
  pub rights : s.flags < 8
  pub some : 0 < s.size
  pub front : length s.bytes ≤ s.size
  pub end : s.base + s.size ≤ 2 ^ 32
  pub text : can_execute s ≡ true → length s.bytes ≤ 2 ^ 21

abbrev pub AreSegments : List SegmentData → Type 0
AreSegments [] = Unit {0}
AreSegments (s ∷ rest) = IsSegment s × AreSegments rest

-- what every program keeps; in the words of the memory's crate, so that a bus's conditions follow without a lemma
-- about that crate
pub record IsProgram (p : ProgramData) : Type 0 where
  pub plain : p.flags % 16 ≡ 0
  pub each : AreSegments p.segments
  pub apart : AreApart (map range_of p.segments)
  pub one_text : length (filter can_execute p.segments) ≡ 1
  pub memory : sum_by (λ s. s.size) p.segments ≤ 2 ^ 25
  pub word : list_any (has_word_at p.entry) p.segments ≡ true
