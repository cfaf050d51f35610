-- What a rewritten file is read as.
use Rattle.std.specs.Prelude.{◌≡◌, ℕ, List, Some, None}
use Rattle.swi_elf_read.specs.Elf.{first_refusal}
use Rattle.swi_elf_read.specs.Loaded.{image_of}
use Rattle.swi_program.specs.Program.{ProgramData}
use Rattle.swi_program.specs.ProgramOf.{program_of_file}

-- the file is accepted, and holds this program and an image of these bytes
pub record ReadsAs (file : List ℕ) (p : ProgramData) (bytes : List ℕ) : Type 0 where
  pub accepted : first_refusal file ≡ None
  pub program : program_of_file file ≡ p
  pub image : image_of file ≡ Some bytes
