-- When a command ends, and how a program ends alike on both machines.
use Rattle.std.specs.Prelude.{◌≡◌, ℕ, ◌<◌, List, [], ◌++◌, length, false, Some, None, Result, Ok, IsErrOf}
use Rattle.std.specs.Io.KnownBytes.{Appends}
use Rattle.swi_outside.specs.Causes.{Rose}
use Rattle.swi_calls.specs.FirstStore.{StoresAt}
use Rattle.swi_command.specs.declared.command.CacheOptions.{CacheOptions}
use Rattle.swi_command.specs.declared.command.RunOptions.{RunOptions}
use Rattle.swi_line.specs.declared.trace.Trace.TheVariants.{Off}
use Rattle.swi_command.specs.CommandLine.{Request}
use Rattle.swi_answer.specs.declared.answer.Ending.{Ending}
use Rattle.swi_answer.specs.declared.answer.Refusal.{Refusal}
use Rattle.swi_answer.specs.declared.answer.Refusal.TheVariants as refusal
use Rattle.swi_task.specs.Devices.{Devices}
use Rattle.swi_task.specs.Checks.{IsAccepted, cache_refusal}
use Rattle.swi_task.specs.Runs.{start_of}
use Rattle.swi_task.specs.Answers.{AnswersWithLine}
use Rattle.swi_cached_command.specs.RunCached.{cached_task}
use Rattle.swi_file_commands.specs.RunPlain.{plain_task}
use Rattle.swi_task.specs.Task.{AreFiles, Task}
use Rattle.swi_top.specs.Tasks.{task_of}

-- no device's count of faults rose
pub record NoneRose (before after : Devices) : Type 0 where
  pub shelf : Rose before.shelf.faults after.shelf.faults → ⊥
  pub input : Rose before.input.faults after.input.faults → ⊥
  pub output : Rose before.output.faults after.output.faults → ⊥
  pub error : Rose before.error.faults after.error.faults → ⊥
  pub ram : Rose before.ram.faults after.ram.faults → ⊥

-- nothing stood in a command's way: all its files were given, or are told, and all checks pass; none of its caches is too large, or larger than
-- the ram; no device failed, and there was memory
pub record IsUnhindered (t : Task) (files : t.Files) (before after : Devices) (result : Result Ending Refusal) : Type 0 where
  pub are : AreFiles t before.shelf after.shelf files
  pub all : length (t.contents files) ≡ length t.reads
  pub accepted : IsAccepted (t.checks files)
  pub sized : cache_refusal t.caches (length before.ram.words) ≡ None
  pub quiet : NoneRose before after
  pub memory : IsErrOf result refusal.Memory → ⊥

-- then it ends
abbrev pub Completes : Type 0
Completes = (q : Request) (files : (task_of q).Files) (before after : Devices) (result : Result Ending Refusal) →
    AnswersWithLine (task_of q) before after result → IsUnhindered (task_of q) files before after result → (e : Ending) × (result ≡ Ok e)

-- what two runs leave that began over the same devices
pub record LeavesAlike (o : RunOptions) (before plain cached : Devices) : Type 0 where
  -- the same input
  pub input : cached.input.left ≡ plain.input.left
  -- the same bytes of the output, the state included; behind them, where counts are asked for, those that only the cached machine has
  pub bytes : List ℕ
  pub counts : List ℕ
  pub plain_output : Appends before.output.held plain.output.held bytes
  pub cached_output : Appends before.output.held cached.output.held (bytes ++ counts)
  pub uncounted : o.reports.stats ≡ false → counts ≡ []
  -- the same errors, the lines of calls and of the ending included, where no steps are told
  pub lines : List ℕ
  pub plain_error : Appends before.error.held plain.error.held lines
  pub cached_error : o.reports.trace ≡ Off → Appends before.error.held cached.error.held lines

-- A program that would not store into its text ends alike by `plain` and by `cached`, or `trace`, whatever cache and blocks it is given,
-- with the same limits, reports and input.
abbrev pub EndsAlike : Type 0
EndsAlike = (name : List ℕ) (cache : CacheOptions) (o : RunOptions) (file input : List ℕ) (before plain cached : Devices) (one other : Result Ending Refusal) →
    AnswersWithLine (plain_task name o) before plain one → IsUnhindered (plain_task name o) file before plain one →
    AnswersWithLine (cached_task name cache o) before cached other → IsUnhindered (cached_task name cache o) file before cached other →
    before.input.left ≡ Some input → ((j : ℕ) → j < o.limits.steps → StoresAt (start_of o file input) j → ⊥) →
    (e : Ending) × (one ≡ Ok e) × (other ≡ Ok e) × LeavesAlike o before plain cached
