-- The headers of a 32-bit ELF file as bytes. Source: System V ABI, "ELF Header" and "Program Header", with its names.
use Rattle.std.specs.Prelude.{ℕ, List, [], ◌∷◌, ◌++◌}
use Rattle.byteorder.specs.Endian.{little_bytes}
use Rattle.swi_elf_write.specs.declared.program_header.ProgramHeader.{ProgramHeader}

-- an Elf32_Half and an Elf32_Word (also Elf32_Addr, Elf32_Off), in the encoding ELFDATA2LSB
abbrev pub half : ℕ → List ℕ
half n = little_bytes 2 n

abbrev pub word : ℕ → List ℕ
word n = little_bytes 4 n

-- an Elf32_Ehdr
pub record FileHeader : Type 0 where
  pub e_ident : List ℕ
  pub e_type : ℕ
  pub e_machine : ℕ
  pub e_version : ℕ
  pub e_entry : ℕ
  pub e_phoff : ℕ
  pub e_shoff : ℕ
  pub e_flags : ℕ
  pub e_ehsize : ℕ
  pub e_phentsize : ℕ
  pub e_phnum : ℕ
  pub e_shentsize : ℕ
  pub e_shnum : ℕ
  pub e_shstrndx : ℕ

abbrev pub file_header_bytes : FileHeader → List ℕ
file_header_bytes h =
    h.e_ident ++ half h.e_type ++ half h.e_machine ++ word h.e_version ++ word h.e_entry ++ word h.e_phoff
    ++ word h.e_shoff ++ word h.e_flags ++ half h.e_ehsize ++ half h.e_phentsize ++ half h.e_phnum
    ++ half h.e_shentsize ++ half h.e_shnum ++ half h.e_shstrndx

-- an Elf32_Phdr
abbrev pub program_header_bytes : ProgramHeader → List ℕ
program_header_bytes h =
    word h.p_type ++ word h.p_offset ++ word h.p_vaddr ++ word h.p_paddr
    ++ word h.p_filesz ++ word h.p_memsz ++ word h.p_flags ++ word h.p_align

-- a program header table
unfoldable pub table_bytes : List ProgramHeader → List ℕ
table_bytes [] = []
table_bytes (h ∷ rest) = program_header_bytes h ++ table_bytes rest
