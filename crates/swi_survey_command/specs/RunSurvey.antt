-- The command `survey`: one run of a program, and the counts of many caches.
use Rattle.std.specs.Prelude.{◌≡◌, ◌⊎◌, ℕ, List, [], ◌∷◌, true, false, Some, None, Result, ⊤}
use Rattle.std.specs.List.{flat_map}
use Rattle.swi_elf_read.specs.Loaded.{image_of as image_in}
use Rattle.swi_memory.specs.declared.layout.Layout.{Layout}
use Rattle.swi_program.specs.Program.{ProgramData}
use Rattle.swi_image.specs.Format.{ImageData}
use Rattle.swi_command.specs.declared.command.CacheKind.{CacheKind}
use Rattle.swi_command.specs.declared.command.RunLimits.{RunLimits}
use Rattle.swi_command.specs.declared.command.RunOptions.{RunOptions}
use Rattle.swi_line.specs.declared.trace.Trace.TheVariants as trace
use Rattle.swi_calls.specs.State.{FlatState}
use Rattle.swi_calls.specs.Flat.{flat_start}
use Rattle.swi_calls.specs.Held.{held_run}
use Rattle.swi_calls.specs.declared.end.CallFault.TheVariants as call
use Rattle.swi_survey.specs.declared.survey.SurveyStop.{SurveyStop}
use Rattle.swi_survey.specs.declared.survey.SurveyStop.TheVariants as stop
use Rattle.swi_file_commands.specs.RunFlat.{untold_steps}
use Rattle.swi_cached.specs.Cached.{CachedRun, IsFlatRun, StopsBeforeStore, end_of}
use Rattle.swi_answer.specs.declared.answer.Ending.{Ending}
use Rattle.swi_answer.specs.declared.answer.Refusal.{Refusal}
use Rattle.swi_answer.specs.declared.answer.Refusal.TheVariants as refusal
use Rattle.swi_task.specs.Checks.{CountedFor}
use Rattle.swi_task.specs.Devices.{Devices}
use Rattle.swi_task.specs.Over.{IsRunErr, RanOver}
use Rattle.swi_task.specs.Runs.{Ran, FailedAtStep, FailedAfterRun, start_of}
use Rattle.swi_task.specs.Subject.{IsImageFor}
use Rattle.swi_task.specs.Task.{Task}
use Rattle.swi_cached_task.specs.Placing.{placed_checks}
use Rattle.swi_cached_task.specs.Caching.{cache_by, cached_run, work_of}
use Rattle.swi_survey_command.specs.Rows.{size_line}

-- what `cached --stats` is asked for, with these limits
abbrev pub counting : RunLimits → RunOptions
counting limits = record { limits = limits; reports = record { state = false; calls = false; stats = true; trace = trace.Off } }

-- a survey, as data: its image, the kind of its caches and their sizes in bytes, its limits, and the program before its first step
pub record SurveyRun : Type 0 where
  pub image : ImageData
  pub kind : CacheKind
  pub sizes : List ℕ
  pub limits : RunLimits
  pub start : FlatState

-- the run of `cached --stats` through a cache of so many bytes
abbrev pub run_through : SurveyRun → ℕ → CachedRun
run_through r bytes = cached_run (cache_by r.kind bytes r.image) (counting r.limits) r.image r.start

-- ---- what is written

-- the line of a cache of so many bytes: what `cached --stats` counts with it
abbrev pub line_through : SurveyRun → ℕ → List ℕ
line_through r bytes = size_line bytes (end_of (run_through r bytes)).machine.steps (work_of (run_through r bytes))

-- a line for each size, in their order
abbrev pub survey_lines : SurveyRun → List ℕ
survey_lines r = flat_map (line_through r) r.sizes

-- ---- what it does

-- the program after so many steps, over a text that is fixed
abbrev pub surveyed : SurveyRun → ℕ → FlatState
surveyed r n = held_run n r.start

-- the most steps
abbrev pub limit_of : SurveyRun → ℕ
limit_of r = r.limits.steps

pub record Surveys (r : SurveyRun) (before after : Devices) (e : Ending) (last : List ℕ) : Type 0 where
  -- the ending, the input and the bytes are those of the program's run; behind its own bytes stand the lines
  pub ran : Ran (surveyed r (limit_of r)) (survey_lines r) before after e last
  -- that is the flat machine's run, up to the first step that would store into the text, before which it ends
  pub flat : (bytes : ℕ) → IsFlatRun (run_through r bytes)
  pub stops : (bytes : ℕ) → StopsBeforeStore (run_through r bytes)

-- a source or a sink failed, in the run or behind it
abbrev pub SurveyBroke : SurveyRun → Devices → Devices → Refusal → List ℕ → Type 0
SurveyBroke r before after f last =
    FailedAtStep (untold_steps (surveyed r) (limit_of r)) before after f last
    ⊎ FailedAfterRun (surveyed r (limit_of r)) (survey_lines r) [] before after f last

pub record SurveyFailed (r : SurveyRun) (before after : Devices) (f : Refusal) (last : List ℕ) : Type 0 where
  pub broke : SurveyBroke r before after f last
  -- the run so far is the flat machine's, as above
  pub flat : (bytes : ℕ) → IsFlatRun (run_through r bytes)
  pub stops : (bytes : ℕ) → StopsBeforeStore (run_through r bytes)

-- the survey of a file's program with this image and this input
abbrev pub survey_of : CacheKind → List ℕ → RunLimits → List ℕ → ImageData → List ℕ → SurveyRun
survey_of kind sizes limits file v input = record { image = v; kind = kind; sizes = sizes; limits = limits; start = start_of (counting limits) file input }

abbrev pub survey_task : List ℕ → List ℕ → ℕ → CacheKind → RunLimits → Task
survey_task name sizes block kind limits = record {
  reads = name ∷ [];
  Files = List ℕ;
  contents = λ file. file ∷ [];
  writes = None;
  takes_input = true;
  caches = CountedFor sizes;
  checks = placed_checks limits sizes block;
  before_next = λ file. [];
  ends = λ e. ⊤;
  does = λ file before after e last. (v : ImageData) × IsImageFor file block (image_in file) v
      × ((input : List ℕ) → before.input.left ≡ Some input → Surveys (survey_of kind sizes limits file v input) before after e last);
  fails = λ file before after f last. (v : ImageData) × IsImageFor file block (image_in file) v
      × ((input : List ℕ) → before.input.left ≡ Some input → SurveyFailed (survey_of kind sizes limits file v input) before after f last);
}

-- ---- as its functions say it

-- what a survey is refused with that stopped so
abbrev pub refusal_of : SurveyStop → Refusal
refusal_of stop.Memory = refusal.Memory
refusal_of (stop.Fault call.SourceFault) = refusal.SourceFault
refusal_of (stop.Fault call.SinkFault) = refusal.SinkFault

-- the survey of a program with this input
abbrev pub survey_from : CacheKind → List ℕ → RunLimits → ImageData → ProgramData → Layout → List ℕ → SurveyRun
survey_from kind sizes limits v p l input = record { image = v; kind = kind; sizes = sizes; limits = limits; start = flat_start p l false input }

-- what it does, whatever its input tells
abbrev pub SurveysOver : (List ℕ → SurveyRun) → Devices → Devices → Result Ending Refusal → Type 0
SurveysOver r before after result = RanOver IsRunErr
    (λ e. (input : List ℕ) → before.input.left ≡ Some input → Surveys (r input) before after e [])
    (λ f. (input : List ℕ) → before.input.left ≡ Some input → SurveyFailed (r input) before after f [])
    before after result
