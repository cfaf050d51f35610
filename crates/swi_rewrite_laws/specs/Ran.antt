-- A run of a file's program by a command, and what two of them leave, whatever caches they are given.
use Rattle.std.specs.Prelude.{◌≡◌, ◌⊎◌, ℕ, ◌<◌, List, [], ◌∷◌, ◌++◌, Bool, true, false, Option, Some, None, Ok}
use Rattle.std.specs.Io.KnownBytes.{Appends}
use Rattle.swi_outside.specs.Causes.{Rose}
use Rattle.swi_calls.specs.FirstStore.{StoresAt}
use Rattle.swi_command.specs.declared.command.RunOptions.{RunOptions}
use Rattle.swi_command.specs.CommandLine.{Request, RunAhead, RunCached, RunPlain}
use Rattle.swi_line.specs.declared.trace.Trace.{Trace}
use Rattle.swi_line.specs.declared.trace.Trace.TheVariants.{Off}
use Rattle.swi_answer.specs.declared.answer.Ending.{Ending}
use Rattle.swi_task.specs.Answers.{AnswersWithLine}
use Rattle.swi_task.specs.Devices.{Devices}
use Rattle.swi_task.specs.Runs.{start_of}
use Rattle.swi_task.specs.Task.{AreFiles}
use Rattle.swi_top.specs.Tasks.{task_of}

-- what came of a command that has ended: what it was asked for, the devices before and after it, and how it ended
pub record Outcome : Type 0 where
  pub request : Request
  pub before : Devices
  pub after : Devices
  pub ending : Ending

-- it answered so, and its one file was this
pub record IsOutcomeOf (file : List ℕ) (c : Outcome) : Type 0 where
  pub answers : AnswersWithLine (task_of c.request) c.before c.after (Ok c.ending)
  pub files : (task_of c.request).Files
  pub are : AreFiles (task_of c.request) c.before.shelf c.after.shelf files
  pub only : (task_of c.request).contents files ≡ file ∷ []

-- How a program is run: its limits and reports; whether its text is fixed, as out of a cache, so that the run ends before a step that would
-- store into it; and what is told of its steps.
pub record ProgramRun : Type 0 where
  pub options : RunOptions
  pub fixed : Bool
  pub tells : Trace

-- so a request asks for it: by `plain`, by `cached` or `trace`, and by `prefetch`
abbrev pub program_run : Request → Option ProgramRun
program_run (RunPlain name o) = Some (record { options = o; fixed = false; tells = Off })
program_run (RunCached name cache o) = Some (record { options = o; fixed = true; tells = o.reports.trace })
program_run (RunAhead name cache o rate) = Some (record { options = o; fixed = true; tells = Off })
program_run _ = None

-- a command ran the file's program so, with this input
pub record HasRun (a : ProgramRun) (file given : List ℕ) (c : Outcome) : Type 0 where
  pub asked : program_run c.request ≡ Some a
  pub ended : IsOutcomeOf file c
  pub input : c.before.input.left ≡ Some given
  -- and the error sink did not fail
  pub quiet : Rose c.before.error.faults c.after.error.faults → ⊥

-- what two of them leave, each over its own devices
pub record LeavesTheSame (a : ProgramRun) (one other : Outcome) : Type 0 where
  -- the same input
  pub input : other.after.input.left ≡ one.after.input.left
  -- the same bytes of the output, the state included; behind them, where counts are asked for, those that only a machine with a cache has
  pub bytes : List ℕ
  pub counts : List ℕ
  pub other_counts : List ℕ
  pub output : Appends one.before.output.held one.after.output.held (bytes ++ counts)
  pub other_output : Appends other.before.output.held other.after.output.held (bytes ++ other_counts)
  pub uncounted : a.options.reports.stats ≡ false → (counts ≡ []) × (other_counts ≡ [])
  -- the same errors, the lines of calls, of the steps that are told and of the ending included
  pub lines : List ℕ
  pub error : Appends one.before.error.held one.after.error.held lines
  pub other_error : Appends other.before.error.held other.after.error.held lines

-- no step of the file's program would store into its text
abbrev pub NeverStores : ProgramRun → List ℕ → List ℕ → Type 0
NeverStores a file input = (j : ℕ) → j < a.options.limits.steps → StoresAt (start_of a.options file input) j → ⊥

-- Runs of two files end alike that are asked for alike, with the same input; on the flat machine and out of a cache where no step would
-- store into the text.
abbrev pub RunAlike : List ℕ → List ℕ → Type 0
RunAlike file out = (a : ProgramRun) (fixed : Bool) (input : List ℕ) (one other : Outcome) → (fixed ≡ a.fixed) ⊎ NeverStores a file input →
    HasRun a file input one → HasRun (record a { fixed = fixed }) out input other → (other.ending ≡ one.ending) × LeavesTheSame a one other

-- so no choice of a cache, of how blocks stand in it, of its blocks or of an engine's rate changes what a program comes to
abbrev pub NoCacheMatters : Type 0
NoCacheMatters = (file : List ℕ) → RunAlike file file
