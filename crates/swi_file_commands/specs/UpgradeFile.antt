-- The command `upgrade`.
use Rattle.std.specs.Prelude.{◌≡◌, ℕ, List, [], ◌∷◌, Some, None, false}
use Rattle.swi_elf_read.specs.Loaded.{image_of as image_in}
use Rattle.swi_image.specs.Checks.{first_refusal}
use Rattle.swi_image.specs.Format.{image_of}
use Rattle.swi_program.specs.ProgramOf.{program_of_file}
use Rattle.swi_cut.specs.Upgrades.{IsUpgrade}
use Rattle.swi_elf_write.specs.Rewritten.{rewritten_file}
use Rattle.swi_answer.specs.declared.answer.Ending.TheVariants as ending
use Rattle.swi_task.specs.Checks.{NoCache, image_checks, text_in}
use Rattle.swi_task.specs.Puts.{Puts}
use Rattle.swi_task.specs.Task.{Task}

-- the bytes are the file's program with the version 2 image that has the same blocks as the file's image
pub record IsUpgraded (file bytes : List ℕ) : Type 0 where
  pub own : List ℕ
  pub has : image_in file ≡ Some own
  pub image : List ℕ
  pub accepted : first_refusal image ≡ None
  -- of version 2, with the same text words in each block; the same image where the file's is of version 2
  pub upgrade : IsUpgrade (text_in file) (image_of own) (image_of image)
  pub same : (image_of own).version ≡ 2 → image_of image ≡ image_of own
  pub made : bytes ≡ rewritten_file (program_of_file file) image

abbrev pub upgrade_task : List ℕ → List ℕ → Task
upgrade_task input output = record {
  reads = input ∷ [];
  Files = List ℕ;
  contents = λ file. file ∷ [];
  writes = Some output;
  takes_input = false;
  caches = NoCache;
  checks = image_checks;
  before_next = λ file. [];
  ends = λ e. e ≡ ending.Done;
  does = λ file before after e last. Puts (IsUpgraded file) output before after e;
  fails = λ file before after r last. ⊥;
}
