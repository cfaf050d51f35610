-- The command `check`.
use Rattle.std.specs.Prelude.{◌≡◌, ℕ, List, [], ◌∷◌, length, Some, None, false}
use Rattle.std.specs.Io.KnownBytes.{Appends}
use Rattle.swi_outside.specs.Causes.{Rose}
use Rattle.swi_outside.specs.Sink.{AppendsPrefix}
use Rattle.swi_elf_read.specs.Loaded.{image_of as image_in}
use Rattle.swi_image.specs.Format.{ImageData, image_of}
use Rattle.swi_answer.specs.Lines.{image_line}
use Rattle.swi_answer.specs.declared.answer.Ending.{Ending}
use Rattle.swi_answer.specs.declared.answer.Ending.TheVariants as ending
use Rattle.swi_answer.specs.declared.answer.Refusal.{Refusal}
use Rattle.swi_answer.specs.declared.answer.Refusal.TheVariants as refusal
use Rattle.swi_task.specs.Checks.{NoCache, image_checks}
use Rattle.swi_task.specs.Devices.{Devices}
use Rattle.swi_task.specs.Task.{Task}

-- a line says how many blocks the image has, and of how many words
abbrev pub checked_line : ImageData → List ℕ
checked_line v = image_line (length v.starts) v.block_words

pub record Confirms (file : List ℕ) (before after : Devices) (e : Ending) : Type 0 where
  pub ending : e ≡ ending.Done
  pub own : List ℕ
  pub has : image_in file ≡ Some own
  pub output : Appends before.output.held after.output.held (checked_line (image_of own))
  pub others : after ≡ record before { shelf = after.shelf; output = after.output }

-- the output failed
pub record ConfirmFailed (file : List ℕ) (before after : Devices) (r : Refusal) (last : List ℕ) : Type 0 where
  pub own : List ℕ
  pub has : image_in file ≡ Some own
  pub output : AppendsPrefix before.output.held after.output.held (checked_line (image_of own))
  pub error : Appends before.error.held after.error.held last
  pub fault : r ≡ refusal.SinkFault
  pub cause : Rose before.output.faults after.output.faults

abbrev pub check_task : List ℕ → Task
check_task name = record {
  reads = name ∷ [];
  Files = List ℕ;
  contents = λ file. file ∷ [];
  writes = None;
  takes_input = false;
  caches = NoCache;
  checks = image_checks;
  before_next = λ file. [];
  ends = λ e. e ≡ ending.Done;
  does = λ file before after e last. Confirms file before after e;
  fails = ConfirmFailed;
}
