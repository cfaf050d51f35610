-- The command `rewrite`.
use Rattle.std.specs.Prelude.{◌≡◌, ℕ, List, [], ◌∷◌, Bool, true, false, Some, None}
use Rattle.swi_image.specs.Checks.{first_refusal}
use Rattle.swi_image.specs.Format.{image_of}
use Rattle.swi_program.specs.ProgramOf.{program_of_file}
use Rattle.swi_cut.specs.Cuts.{IsCutBy}
use Rattle.swi_cut.specs.declared.cutting.Cutting.{Cutting}
use Rattle.swi_cut.specs.declared.cutting.Cutting.TheVariants as cutting
use Rattle.swi_elf_write.specs.Rewritten.{rewritten_file}
use Rattle.swi_answer.specs.declared.answer.Ending.TheVariants as ending
use Rattle.swi_task.specs.Checks.{NoCache, Check, IsShort, IsAcceptedElf, FitsBlocks, text_in}
use Rattle.swi_task.specs.Puts.{Puts}
use Rattle.swi_task.specs.Task.{Task}

-- how a text is cut whose loops are to stay whole, or not
abbrev pub cutting_of : Bool → Cutting
cutting_of true = cutting.WholeLoops
cutting_of false = cutting.Greedy

-- the bytes are the file's program with the image of a cut of its text; an image that the file has is dropped, unread
pub record IsRewritten (file : List ℕ) (block : ℕ) (whole : Bool) (bytes : List ℕ) : Type 0 where
  pub image : List ℕ
  pub accepted : first_refusal image ≡ None
  pub cut : IsCutBy (cutting_of whole) (text_in file) block (image_of image)
  pub made : bytes ≡ rewritten_file (program_of_file file) image

abbrev pub rewrite_checks : ℕ → List ℕ → List Check
rewrite_checks block file = IsShort file ∷ IsAcceptedElf file ∷ FitsBlocks file block ∷ []

abbrev pub rewrite_task : List ℕ → List ℕ → ℕ → Bool → Task
rewrite_task input output block whole = record {
  reads = input ∷ [];
  Files = List ℕ;
  contents = λ file. file ∷ [];
  writes = Some output;
  takes_input = false;
  caches = NoCache;
  checks = rewrite_checks block;
  before_next = λ file. [];
  ends = λ e. e ≡ ending.Done;
  does = λ file before after e last. Puts (IsRewritten file block whole) output before after e;
  fails = λ file before after r last. ⊥;
}
