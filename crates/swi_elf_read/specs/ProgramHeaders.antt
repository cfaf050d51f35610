-- Program headers of a 32-bit ELF file, and what is asked of them.
-- Source: System V ABI, "Program Header" (p_type, p_flags) and the standard's little-endian data encoding.
-- The type of a cache image and the limits on sizes are this project's own rules.
use Rattle.std.specs.Prelude.{ℕ, zero, suc, ◌+◌, ◌*◌, ◌/◌, ◌%◌, ◌^◌, ◌==◌, Bool, ◌&&◌, ◌||◌, nat_lt, nat_le, List, [], ◌∷◌, ◌++◌, length, drop, filter, sum_by, Option, Some, None, if◌then◌else◌}
use Rattle.std.specs.List.{list_any}
use Rattle.byteorder.specs.Endian.{little_number}
use Rattle.swi_elf_read.specs.declared.program_header.ProgramHeader.{ProgramHeader}

-- an Elf32_Half and an Elf32_Word (also Elf32_Addr, Elf32_Off) at an offset of the file
unfoldable pub half_at : List ℕ → ℕ → ℕ
half_at file offset = little_number 2 (drop offset file)

unfoldable pub word_at : List ℕ → ℕ → ℕ
word_at file offset = little_number 4 (drop offset file)

-- the Elf32_Phdr at an offset; p_paddr (at 12) and p_align (at 28) are not looked at
abbrev pub header_at : List ℕ → ℕ → ProgramHeader
header_at file offset = record {
  p_type = word_at file offset;
  p_offset = word_at file (offset + 4);
  p_vaddr = word_at file (offset + 8);
  p_filesz = word_at file (offset + 16);
  p_memsz = word_at file (offset + 20);
  p_flags = word_at file (offset + 24);
}

-- the n entries of 32 bytes of a program header table
unfoldable pub table_at : List ℕ → ℕ → ℕ → List ProgramHeader
table_at file offset zero = []
table_at file offset (suc n) = header_at file offset ∷ table_at file (offset + 32) n

-- PT_LOAD is 1
abbrev pub is_load : ProgramHeader → Bool
is_load h = h.p_type == 1

-- a PT_LOAD entry with memory
unfoldable pub is_loaded : ProgramHeader → Bool
is_loaded h = is_load h && nat_lt 0 h.p_memsz

-- PF_X is bit 0 of p_flags
abbrev pub is_executable : ProgramHeader → Bool
is_executable h = h.p_flags % 2 == 1

-- a loaded entry that is executable
unfoldable pub is_text : ProgramHeader → Bool
is_text h = is_loaded h && is_executable h

-- the own type of a cache image, between PT_LOOS and PT_HIOS
unfoldable pub is_image : ProgramHeader → Bool
is_image h = h.p_type == 0x6C434953

-- PT_DYNAMIC is 2 and PT_INTERP is 3: the file is not static
unfoldable pub is_dynamic : ProgramHeader → Bool
is_dynamic h = h.p_type == 2 || h.p_type == 3

-- more bytes in the file than in memory, or bytes past the end of a file of n bytes
abbrev pub is_outside : ℕ → ProgramHeader → Bool
is_outside n h = nat_lt h.p_memsz h.p_filesz || (nat_lt 0 h.p_filesz && nat_lt n (h.p_offset + h.p_filesz))

-- memory past the last address
abbrev pub is_past_memory : ProgramHeader → Bool
is_past_memory h = nat_lt (2 ^ 32) (h.p_vaddr + h.p_memsz)

-- in a file of n bytes, a PT_LOAD entry or one of a cache image is outside, or a PT_LOAD entry is past memory
unfoldable pub is_extent_wrong : ℕ → ProgramHeader → Bool
is_extent_wrong n h = ((is_load h || is_image h) && is_outside n h) || (is_load h && is_past_memory h)

-- some address is in both
unfoldable pub shares_address : ProgramHeader → ProgramHeader → Bool
shares_address g h = nat_lt g.p_vaddr (h.p_vaddr + h.p_memsz) && nat_lt h.p_vaddr (g.p_vaddr + g.p_memsz)

-- a loaded entry shares an address with a loaded one before it
unfoldable pub is_overlap : List ProgramHeader → ProgramHeader → Bool
is_overlap before h = is_loaded h && list_any (λ g. is_loaded g && shares_address g h) before

-- a whole word stands at an address that is a multiple of 4, within the bytes of the file
unfoldable pub is_word_address : ProgramHeader → ℕ → Bool
is_word_address h a = a % 4 == 0 && (nat_le h.p_vaddr a && nat_le (a + 4) (h.p_vaddr + h.p_filesz))

-- the least multiple of 4 that is not below a
abbrev pub round_up_4 : ℕ → ℕ
round_up_4 a = (a + 3) / 4 * 4

-- a text word stands at the address
unfoldable pub is_text_word : ℕ → ProgramHeader → Bool
is_text_word a h = is_text h && is_word_address h a

-- there is a text word at all
unfoldable pub has_text_word : ProgramHeader → Bool
has_text_word h = is_text_word (round_up_4 h.p_vaddr) h

-- a loaded executable entry comes after one
unfoldable pub is_second_text : List ProgramHeader → ProgramHeader → Bool
is_second_text before h = is_text h && list_any is_text before

-- the bytes of memory that loaded entries take together
unfoldable pub memory_of : List ProgramHeader → ℕ
memory_of headers = sum_by (λ h. h.p_memsz) (filter is_loaded headers)

-- the bytes of memory that an entry takes
unfoldable pub memory_taken : ProgramHeader → ℕ
memory_taken h = if is_loaded h then h.p_memsz else 0

-- a loaded entry, after others that take so many bytes, makes them more than 2 ^ 25, or has more than 2 ^ 21 bytes of text
unfoldable pub passes_limit : ℕ → ProgramHeader → Bool
passes_limit total h = is_loaded h && (nat_lt (2 ^ 25) (total + h.p_memsz) || (is_executable h && nat_lt (2 ^ 21) h.p_filesz))

-- the first loaded entry to pass a limit
unfoldable pub is_too_large : List ProgramHeader → ProgramHeader → Bool
is_too_large before h = passes_limit (memory_of before) h

-- the index of the first entry, from those after `before` on, that a test picks; the test sees the entries before it, too
unfoldable pub first_from : (List ProgramHeader → ProgramHeader → Bool) → List ProgramHeader → List ProgramHeader → Option ℕ
first_from test before [] = None
first_from test before (h ∷ rest) = if test before h then Some (length before) else first_from test (before ++ h ∷ []) rest

abbrev pub first_among : (List ProgramHeader → ProgramHeader → Bool) → List ProgramHeader → Option ℕ
first_among test headers = first_from test [] headers
