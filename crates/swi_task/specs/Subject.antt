-- What a command works on: a program, and an image of its text.
use Rattle.std.specs.Prelude.{◌≡◌, ℕ, List, Option, Some, None, Ok}
use Rattle.swi_elf_read.specs.Loaded.{image_of as image_in}
use Rattle.swi_image.specs.Format.{ImageData, image_of}
use Rattle.swi_program.specs.Layout.{IsLayoutOf}
use Rattle.swi_program.specs.ProgramOf.{program_of_file}
use Rattle.swi_program.specs.Text.{text_of}
use Rattle.swi_cut.specs.Cuts.{IsSound}
use Rattle.swi_render.specs.Cut.{IsCut}
use Rattle.swi_render.specs.ImageOf.{IsImageOf}
use Rattle.swi_command.specs.declared.command.RunLimits.{RunLimits}
use Rattle.swi_task.specs.declared.subject.Prepared.{Prepared}
use Rattle.swi_task.specs.declared.subject.SubjectImage.{SubjectImage}
use Rattle.swi_task.specs.declared.subject.SubjectImage.TheVariants as image
use Rattle.swi_task.specs.declared.subject.Subject.{Subject}
use Rattle.swi_task.specs.Checks.{room_in, text_in}

-- the image that a command uses: that of the file, or, where it has none, the greedy cut of its text
abbrev pub IsImageFor : List ℕ → ℕ → Option (List ℕ) → ImageData → Type 0
IsImageFor file most None v = IsSound v × IsCut (text_in file) most v
IsImageFor file most (Some bytes) v = v ≡ image_of bytes

-- the image of a subject, wherever it stands
abbrev pub view_of : SubjectImage → ImageData
view_of (image.Own v) = v
view_of (image.Cut bytes) = image_of bytes

-- the file's program, with that image
pub record IsSubject (file : List ℕ) (most : ℕ) (s : Subject) : Type 0 where
  pub program : s.program ≡ program_of_file file
  pub image : IsImageFor file most (image_in file) (view_of s.image)
  pub own : IsImageOf (text_of s.program.segments) (view_of s.image)

-- the file's program, with the layout that these limits give it
pub record IsPrepared (file : List ℕ) (limits : RunLimits) (p : Prepared) : Type 0 where
  pub program : p.program ≡ program_of_file file
  pub layout : room_in file limits ≡ Ok p.layout
  pub own : IsLayoutOf p.program.segments p.layout
