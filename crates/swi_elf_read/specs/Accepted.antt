-- What is kept of an accepted file.
use Rattle.std.specs.Prelude.{◌≡◌, ℕ, ◌≤◌, ◌^◌, List, length, None}
use Rattle.swi_elf_read.specs.declared.program_header.ProgramHeader.{ProgramHeader}
use Rattle.swi_elf_read.specs.Elf.{first_refusal, program_headers}

-- the bytes of an accepted file, and its program header table
pub record IsRead (file : List ℕ) (headers : List ProgramHeader) : Type 0 where
  pub whole : 52 ≤ length file
  pub size : length file ≤ 2 ^ 26
  pub table : headers ≡ program_headers file
  pub accepted : first_refusal file ≡ None
