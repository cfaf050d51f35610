-- The segments of an accepted file that a run loads.
-- Source: System V ABI, "Program Header" and "Program Loading": p_vaddr, p_memsz, the file's bytes at p_offset, and
-- the rights PF_X (1), PF_W (2) and PF_R (4). The limits on sizes are this project's own rules.
use Rattle.std.specs.Prelude.{◌≡◌, ℕ, ◌+◌, ◌%◌, ◌^◌, ◌<◌, ◌≤◌, ◌==◌, ◌⊎◌, Bool, true, ◌&&◌, nat_le, List, [], ◌∷◌, length, take, drop, map, filter, find, Option, option_map}
use Rattle.swi_elf_read.specs.declared.program_header.ProgramHeader.{ProgramHeader}
use Rattle.swi_elf_read.specs.ProgramHeaders.{is_loaded, is_image}
use Rattle.swi_elf_read.specs.Elf.{program_headers}

-- a base address, rights, a size in memory, and the bytes that the file has
pub record LoadedData : Type 0 where
  pub base : ℕ
  pub flags : ℕ
  pub size : ℕ
  pub bytes : List ℕ

-- the bytes that an entry has in the file
abbrev pub bytes_of : List ℕ → ProgramHeader → List ℕ
bytes_of file h = take h.p_filesz (drop h.p_offset file)

-- what an entry describes; bits of p_flags other than the three rights are dropped
abbrev pub loaded_of : List ℕ → ProgramHeader → LoadedData
loaded_of file h = record { base = h.p_vaddr; flags = h.p_flags % 8; size = h.p_memsz; bytes = bytes_of file h }

-- what the loaded entries of a table describe, in the order of the table
abbrev pub loaded_from : List ℕ → List ProgramHeader → List LoadedData
loaded_from file headers = map (loaded_of file) (filter is_loaded headers)

-- the loaded segments of the file
unfoldable pub loaded_segments : List ℕ → List LoadedData
loaded_segments file = loaded_from file (program_headers file)

-- the bytes of the first entry of the own type
unfoldable pub image_of : List ℕ → Option (List ℕ)
image_of file = option_map (bytes_of file) (find is_image (program_headers file))

-- the right to execute
abbrev pub can_execute : LoadedData → Bool
can_execute s = s.flags % 2 == 1

-- a whole word stands at the address, which is a multiple of 4, within the bytes of the file
abbrev pub has_word_at : ℕ → LoadedData → Bool
has_word_at a s = can_execute s && (a % 4 == 0 && (nat_le s.base a && nat_le (a + 4) (s.base + length s.bytes)))

-- what holds of each loaded segment of an accepted file
pub record IsLoadable (s : LoadedData) : Type 0 where
  pub rights : s.flags < 8
  pub some : 0 < s.size
  pub front : length s.bytes ≤ s.size
  pub end : s.base + s.size ≤ 2 ^ 32
  pub text : can_execute s ≡ true → length s.bytes ≤ 2 ^ 21

abbrev pub AreLoadable : List LoadedData → Type 0
AreLoadable [] = Unit {0}
AreLoadable (s ∷ rest) = IsLoadable s × AreLoadable rest

-- a segment shares no address with these
abbrev pub IsClearOf : LoadedData → List LoadedData → Type 0
IsClearOf s [] = Unit {0}
IsClearOf s (t ∷ rest) = ((s.base + s.size ≤ t.base) ⊎ (t.base + t.size ≤ s.base)) × IsClearOf s rest

-- no two segments share an address
abbrev pub AreApart : List LoadedData → Type 0
AreApart [] = Unit {0}
AreApart (s ∷ rest) = IsClearOf s rest × AreApart rest
