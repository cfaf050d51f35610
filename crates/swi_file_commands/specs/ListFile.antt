-- The command `list`.
use Rattle.std.specs.Prelude.{◌≡◌, ℕ, zero, suc, List, [], ◌∷◌, ◌++◌, length, None, false}
use Rattle.std.specs.Io.KnownBytes.{Appends}
use Rattle.swi_outside.specs.Causes.{Rose}
use Rattle.swi_outside.specs.Sink.{AppendsPrefix}
use Rattle.swi_elf_read.specs.Loaded.{image_of as image_in}
use Rattle.swi_program.specs.Text.{TextData}
use Rattle.swi_image.specs.Format.{ImageData}
use Rattle.swi_trace.specs.Block.{block_lines}
use Rattle.swi_answer.specs.declared.answer.Ending.{Ending}
use Rattle.swi_answer.specs.declared.answer.Ending.TheVariants as ending
use Rattle.swi_answer.specs.declared.answer.Refusal.{Refusal}
use Rattle.swi_answer.specs.declared.answer.Refusal.TheVariants as refusal
use Rattle.swi_task.specs.Checks.{NoCache, Check, IsShort, IsAcceptedElf, IsAcceptedImage, IsOwnImage, FitsUnlessImage, text_in}
use Rattle.swi_task.specs.Devices.{Devices}
use Rattle.swi_task.specs.Subject.{IsImageFor}
use Rattle.swi_task.specs.Task.{Task}

-- the lines of an image's first blocks
unfoldable pub first_blocks : TextData → ImageData → ℕ → List ℕ
first_blocks t v zero = []
first_blocks t v (suc n) = first_blocks t v n ++ block_lines t v n

-- the lines of all its blocks, in their order
abbrev pub listing : TextData → ImageData → List ℕ
listing t v = first_blocks t v (length v.starts)

-- the lines of all blocks of the image that is used
pub record Lists (file : List ℕ) (most : ℕ) (before after : Devices) (e : Ending) : Type 0 where
  pub ending : e ≡ ending.Done
  pub image : ImageData
  pub own : IsImageFor file most (image_in file) image
  pub output : Appends before.output.held after.output.held (listing (text_in file) image)
  pub others : after ≡ record before { shelf = after.shelf; output = after.output }

-- the output failed
pub record ListFailed (file : List ℕ) (most : ℕ) (before after : Devices) (r : Refusal) (last : List ℕ) : Type 0 where
  pub image : ImageData
  pub own : IsImageFor file most (image_in file) image
  pub output : AppendsPrefix before.output.held after.output.held (listing (text_in file) image)
  pub error : Appends before.error.held after.error.held last
  pub fault : r ≡ refusal.SinkFault
  pub cause : Rose before.output.faults after.output.faults

abbrev pub list_checks : ℕ → List ℕ → List Check
list_checks most file = IsShort file ∷ IsAcceptedElf file ∷ IsAcceptedImage file ∷ IsOwnImage file ∷ FitsUnlessImage file most ∷ []

abbrev pub list_task : List ℕ → ℕ → Task
list_task name most = record {
  reads = name ∷ [];
  Files = List ℕ;
  contents = λ file. file ∷ [];
  writes = None;
  takes_input = false;
  caches = NoCache;
  checks = list_checks most;
  before_next = λ file. [];
  ends = λ e. e ≡ ending.Done;
  does = λ file before after e last. Lists file most before after e;
  fails = λ file before after r last. ListFailed file most before after r last;
}
