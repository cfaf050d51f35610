-- The file of a program and its cache image.
-- Source: System V ABI, "ELF Header", "Program Header" and "Program Loading"; RISC-V ELF psABI, "File Header".
-- The order of the parts, their alignment and the type of the image's header.
use Rattle.std.specs.Prelude.{ℕ, ◌+◌, ◌-◌, ◌*◌, List, [], ◌∷◌, ◌++◌, length, replicate}
use Rattle.swi_elf_read.specs.ProgramHeaders.{round_up_4}
use Rattle.swi_program.specs.Program.{ProgramData, SegmentData}
use Rattle.swi_elf_write.specs.declared.program_header.ProgramHeader.{ProgramHeader}
use Rattle.swi_elf_write.specs.FileHeader.{FileHeader, file_header_bytes, table_bytes}

-- the file's bytes of the segments, one after the other
unfoldable pub contents : List SegmentData → List ℕ
contents [] = []
contents (s ∷ rest) = s.bytes ++ contents rest

-- where these begin, behind the headers of n segments and the image
abbrev pub contents_at : ℕ → ℕ
contents_at n = 52 + 32 * (n + 1)

-- where they end, and where the image begins
abbrev pub contents_end : List SegmentData → ℕ
contents_end segments = contents_at (length segments) + length (contents segments)

abbrev pub image_at : List SegmentData → ℕ
image_at segments = round_up_4 (contents_end segments)

-- EI_MAG0 to EI_MAG3; EI_CLASS is ELFCLASS32, EI_DATA ELFDATA2LSB and EI_VERSION EV_CURRENT, each 1; the others are 0
abbrev pub identification : List ℕ
identification = 0x7F ∷ 0x45 ∷ 0x4C ∷ 0x46 ∷ 1 ∷ 1 ∷ 1 ∷ 0 ∷ 0 ∷ 0 ∷ 0 ∷ 0 ∷ 0 ∷ 0 ∷ 0 ∷ 0 ∷ []

-- of an executable with n program headers right behind it and no section headers: ET_EXEC is 2, EM_RISCV is 243 and
-- EV_CURRENT is 1
abbrev pub executable_header : ℕ → ℕ → ℕ → FileHeader
executable_header entry flags n = record {
  e_ident = identification;
  e_type = 2;
  e_machine = 243;
  e_version = 1;
  e_entry = entry;
  e_phoff = 52;
  e_shoff = 0;
  e_flags = flags;
  e_ehsize = 52;
  e_phentsize = 32;
  e_phnum = n;
  e_shentsize = 0;
  e_shnum = 0;
  e_shstrndx = 0;
}

-- there is a program header for each segment, and the image's
abbrev pub file_header : ProgramData → FileHeader
file_header p = executable_header p.entry p.flags (length p.segments + 1)

-- PT_LOAD is 1
abbrev pub segment_header : ℕ → SegmentData → ProgramHeader
segment_header at s = record {
  p_type = 1;
  p_offset = at;
  p_vaddr = s.base;
  p_paddr = s.base;
  p_filesz = length s.bytes;
  p_memsz = s.size;
  p_flags = s.flags;
  p_align = 1;
}

-- of segments whose bytes stand one after the other from `at` on
unfoldable pub segment_headers : ℕ → List SegmentData → List ProgramHeader
segment_headers at [] = []
segment_headers at (s ∷ rest) = segment_header at s ∷ segment_headers (at + length s.bytes) rest

-- PF_R is 4; the type is between PT_LOOS and PT_HIOS
abbrev pub image_header : ℕ → List ℕ → ProgramHeader
image_header at image = record {
  p_type = 0x6C434953;
  p_offset = at;
  p_vaddr = 0;
  p_paddr = 0;
  p_filesz = length image;
  p_memsz = length image;
  p_flags = 4;
  p_align = 4;
}

abbrev pub headers : List SegmentData → List ℕ → List ProgramHeader
headers segments image =
    segment_headers (contents_at (length segments)) segments
    ++ image_header (image_at segments) image ∷ []

-- zeros up to a multiple of 4
abbrev pub padding : List SegmentData → List ℕ
padding segments = replicate (image_at segments - contents_end segments) 0

-- headers, the segments' bytes, zeros, and the bytes of the image, which end the file
unfoldable pub rewritten_file : ProgramData → List ℕ → List ℕ
rewritten_file p image =
    file_header_bytes (file_header p)
    ++ table_bytes (headers p.segments image)
    ++ contents p.segments
    ++ padding p.segments
    ++ image
