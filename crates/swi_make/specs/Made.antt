-- Which program is made: the only one whose words decode to the listed instructions.
use Rattle.std.specs.Prelude.{◌≡◌, ℕ, ◌^◌, ◌<◌, Some}
use Rattle.std.specs.List.{AllZip}
use Rattle.swi_encode.specs.Canonical.{canonical}
use Rattle.swi_encode.specs.Valid.{IsValid}
use Rattle.swi_isa.specs.declared.instr.Instr.{Instr}
use Rattle.swi_isa.specs.Decode.{decoded}
use Rattle.swi_program.specs.Program.{ProgramData}
use Rattle.swi_program.specs.ProgramOf.{bytes_of_words, program_of_text}
use Rattle.swi_program.specs.Text.{text_of}
use Rattle.swi_make.specs.Listing.{instructions_of}
use Rattle.swi_make.specs.Numbers.{all_additions}

-- a word of 32 bits that decodes to the instruction, as no other does
pub record IsWordOf (i : Instr) (w : ℕ) : Type 0 where
  pub bits : w < 2 ^ 32
  pub decodes : decoded w ≡ Some i
  pub only : (y : ℕ) → y < 2 ^ 32 → decoded y ≡ Some i → y ≡ w

-- the instruction has a word, and no field that the word doesn't fix, as FENCE and the atomics have
pub record HasOneWord (i : Instr) : Type 0 where
  pub valid : IsValid i
  pub own : (w : ℕ) → canonical i w ≡ w

-- The program of a seed with so many functions: the words of its text are, one by one, those of the instructions, and
-- it is nothing but this text, which begins at 0x10000, where the run begins too.
pub record IsMade (seed count : ℕ) (p : ProgramData) : Type 0 where
  pub text : AllZip IsWordOf (instructions_of (all_additions seed count)) (text_of p.segments).words
  pub alone : p ≡ program_of_text 0x10000 (bytes_of_words (text_of p.segments).words)
