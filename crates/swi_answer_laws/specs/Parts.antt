-- What a contract leaves to a command's choice is one thing each.
use Rattle.std.specs.Prelude.{◌≡◌, ℕ, List, Err}
use Rattle.swi_elf_read.specs.Loaded.{image_of as image_in}
use Rattle.swi_program.specs.Program.{ProgramData}
use Rattle.swi_image.specs.Format.{ImageData}
use Rattle.swi_make.specs.Made.{IsMade}
use Rattle.swi_rom.specs.Coherent.{Coherent}
use Rattle.swi_prefetch.specs.Scheduled.{AheadRun, AreRounds}
use Rattle.swi_answer.specs.declared.answer.Refusal.{Refusal}
use Rattle.swi_task.specs.Checks.{Check, IsRefusedBy}
use Rattle.swi_task.specs.Subject.{IsImageFor}
use Rattle.swi_answer_laws.specs.Answered.{HasWord}
use Rattle.swi_answer_laws.specs.Placed.{HoldAlike, Standing}

-- the image of a file, in blocks of so many words where the file has none
abbrev pub ImageIsOne : Type 0
ImageIsOne = (file : List ℕ) (most : ℕ) (v w : ImageData) → IsImageFor file most (image_in file) v → IsImageFor file most (image_in file) w → v ≡ w

-- the program that is made of a seed
abbrev pub ProgramIsOne : Type 0
ProgramIsOne = (seed functions : ℕ) (p q : ProgramData) → IsMade seed functions p → IsMade seed functions q → p ≡ q

-- how many rounds a run beside an engine has
abbrev pub RoundsAreOne : Type 0
RoundsAreOne = (c : AheadRun) (m n : ℕ) → AreRounds c m → AreRounds c n → m ≡ n

-- the words in which blocks stand
abbrev pub PlacedWordsAreOne : Type 0
PlacedWordsAreOne = (s : Standing) (ws us : List ℕ) → Coherent s.image s.kept s.span ws → Coherent s.image s.kept s.span us → HoldAlike s ws us

-- the refusal by the first check that fails, down to the first difference of an image
abbrev pub RefusalIsOne : Type 0
RefusalIsOne = (checks : List Check) (r s : Refusal) → HasWord (Err r) → HasWord (Err s) → IsRefusedBy checks r → IsRefusedBy checks s → r ≡ s
