-- The commands `cached` and `trace`: a run on the cached machine.
use Rattle.std.specs.Prelude.{◌≡◌, ◌⊎◌, ℕ, ◌+◌, ◌<◌, ◌≤◌, List, [], ◌∷◌, ◌++◌, Bool, true, if◌then◌else◌, Option, Some, None, Result, ⊤}
use Rattle.std.specs.Io.KnownBytes.{Appends}
use Rattle.swi_outside.specs.CacheRam.{KeepsBeyond}
use Rattle.swi_outside.specs.Causes.{risen}
use Rattle.swi_elf_read.specs.Loaded.{image_of as image_in}
use Rattle.swi_memory.specs.Bus.{AreaData}
use Rattle.swi_memory.specs.declared.layout.Layout.{Layout}
use Rattle.swi_program.specs.Program.{ProgramData}
use Rattle.swi_image.specs.Format.{ImageData}
use Rattle.swi_command.specs.declared.command.CacheOptions.{CacheOptions}
use Rattle.swi_command.specs.declared.command.RunOptions.{RunOptions}
use Rattle.swi_line.specs.declared.trace.Trace.{Trace}
use Rattle.swi_line.specs.declared.trace.Trace.TheVariants as trace
use Rattle.swi_calls.specs.State.{FlatState}
use Rattle.swi_calls.specs.Flat.{flat_start}
use Rattle.swi_rom.specs.Service.{Cache}
use Rattle.swi_trace.specs.History.{last_of}
use Rattle.swi_cached.specs.Answers.{RamAfter, RamWithin, told_steps}
use Rattle.swi_cached.specs.Cached.{CachedRun, IsFlatRun, StopsBeforeStore, end_of, program_after, told_after, fetches_after, words_after}
use Rattle.swi_board.specs.Fetching.{FetchedFront}
use Rattle.swi_cached.specs.Told.{addresses, lines_at, told_line}
use Rattle.swi_cached.specs.declared.run.CachedStop.{CachedStop}
use Rattle.swi_cached.specs.declared.run.CachedStop.TheVariants as stop
use Rattle.swi_answer.specs.declared.answer.Ending.{Ending}
use Rattle.swi_answer.specs.declared.answer.Refusal.{Refusal}
use Rattle.swi_answer.specs.declared.answer.Refusal.TheVariants as refusal
use Rattle.swi_cached_task.specs.Caching.{IsCachedRun, cache_for, cached_run, work_of}
use Rattle.swi_cached_task.specs.Placing.{cached_checks}
use Rattle.swi_task.specs.Checks.{InRam}
use Rattle.swi_task.specs.Devices.{Devices}
use Rattle.swi_task.specs.Over.{IsRunErr, RanOver}
use Rattle.swi_task.specs.Runs.{Ran, FailedAtStep, FailedAfterRun, refusal_of, report, start_of}
use Rattle.swi_task.specs.Subject.{IsImageFor}
use Rattle.swi_task.specs.Task.{Task}

abbrev pub cached_report : RunOptions → CachedRun → List ℕ
cached_report o c = report o.reports (end_of c).machine (Some (work_of c))

-- the lines of the last 32 steps, where these are told behind the run
abbrev pub last_told : Trace → List AreaData → List ℕ → List ℕ
last_told trace.Last bus history = lines_at bus history
last_told _ bus history = []

abbrev pub last_lines : Trace → CachedRun → List ℕ
last_lines t c = last_told t (end_of c).machine.bus (last_of 32 (addresses c.limit c.start))

abbrev pub shown_error : Trace → CachedRun → List ℕ
shown_error trace.Last c = (told_after c c.limit).error ++ last_lines trace.Last c
shown_error _ c = (told_after c c.limit).error

-- the run's end, with all that the errors have gained but for the ending's line
abbrev pub shown_end : RunOptions → CachedRun → FlatState
shown_end o c = record (told_after c c.limit) { error = shown_error o.reports.trace c }

pub record RunsCached (o : RunOptions) (c : CachedRun) (before after : Devices) (e : Ending) (last : List ℕ) : Type 0 where
  -- the ending, the input and the bytes are those of the program's run, in which the text is fixed; where steps are told, the errors have
  -- their lines too
  pub ran : Ran (shown_end o c) (cached_report o c) before after e last
  pub cached : IsCachedRun c before.ram after.ram

-- The ram failed: both sinks hold what the longest run wrote whose fetches were made, and of the input is gone what that took. Where each
-- step is told, the line of the next one may stand behind it.
pub record RamBroke (c : CachedRun) (before after : Devices) (r : Refusal) (last : List ℕ) : Type 0 where
  pub fault : r ≡ refusal.RamFault
  pub fetched : ℕ
  pub fetches : after.ram.fetches ≡ risen before.ram.fetches fetched
  pub steps : ℕ
  pub within : steps ≤ c.limit
  pub enough : fetches_after c steps ≤ fetched
  pub longest : steps < c.limit → fetched < fetches_after c (steps + 1)
  pub output : Appends before.output.held after.output.held (program_after c steps).output
  pub begun : Bool
  pub error : Appends before.error.held after.error.held (((told_after c steps).error ++ (if begun then told_line c.trace (program_after c steps).machine else [])) ++ last)
  pub input : after.input.left ≡ Some (program_after c steps).input
  -- no call of the ram comes behind the one that failed
  pub last_failed : after.ram.last_failed ≡ true

-- A source or a sink failed at a step: the ram was asked for what the steps made before it ask, and for no more than this one does.
pub record StreamBroke (c : CachedRun) (before after : Devices) (r : Refusal) (last : List ℕ) : Type 0 where
  pub failed : FailedAtStep (told_steps c) before after r last
  pub ram : RamWithin c failed.steps before.ram after.ram

-- a device failed in the run, or behind it
abbrev pub BrokeIn : RunOptions → CachedRun → Devices → Devices → Refusal → List ℕ → Type 0
BrokeIn o c before after r last =
    RamBroke c before after r last
    ⊎ (StreamBroke c before after r last
    ⊎ (FailedAfterRun (told_after c c.limit) (cached_report o c) (last_lines o.reports.trace c) before after r last × RamAfter c before.ram after.ram))

pub record CachedFailed (o : RunOptions) (c : CachedRun) (before after : Devices) (r : Refusal) (last : List ℕ) : Type 0 where
  pub broke : BrokeIn o c before after r last
  -- the words that were fetched are a front of those of the whole run
  pub fetched_at : FetchedFront (words_after c c.limit) before.ram after.ram
  -- the run so far is the flat machine's, as above
  pub flat : IsFlatRun c
  pub stops : StopsBeforeStore c

abbrev pub cached_task : List ℕ → CacheOptions → RunOptions → Task
cached_task name cache o = record {
  reads = name ∷ [];
  Files = List ℕ;
  contents = λ file. file ∷ [];
  writes = None;
  takes_input = true;
  caches = InRam cache.cache_bytes;
  checks = cached_checks o.limits cache;
  before_next = λ file. [];
  ends = λ e. ⊤;
  does = λ file before after e last. (v : ImageData) × IsImageFor file cache.block_words (image_in file) v
      × KeepsBeyond (cache_for cache v).span before.ram after.ram
      × ((input : List ℕ) → before.input.left ≡ Some input → RunsCached o (cached_run (cache_for cache v) o v (start_of o file input)) before after e last);
  fails = λ file before after r last. (v : ImageData) × IsImageFor file cache.block_words (image_in file) v
      × KeepsBeyond (cache_for cache v).span before.ram after.ram
      × ((input : List ℕ) → before.input.left ≡ Some input → CachedFailed o (cached_run (cache_for cache v) o v (start_of o file input)) before after r last);
}

-- ---- as its functions say it

-- what a run is refused with that stopped so
abbrev pub stop_refusal : CachedStop → Refusal
stop_refusal stop.Memory = refusal.Memory
stop_refusal (stop.Fault fault) = refusal_of fault

-- what such a run does, whatever its input tells
pub record RunsOver (o : RunOptions) (k : Cache) (v : ImageData) (p : ProgramData) (l : Layout) (before after : Devices) (result : Result Ending Refusal) : Type 0 where
  pub ran : RanOver IsRunErr
      (λ e. (input : List ℕ) → before.input.left ≡ Some input → RunsCached o (cached_run k o v (flat_start p l o.reports.calls input)) before after e [])
      (λ r. (input : List ℕ) → before.input.left ≡ Some input → CachedFailed o (cached_run k o v (flat_start p l o.reports.calls input)) before after r [])
      before after result
  pub beyond : KeepsBeyond k.span before.ram after.ram

-- a list of the address, if there is one
abbrev pub one_of : Option ℕ → List ℕ
one_of None = []
one_of (Some a) = a ∷ []

-- the addresses of a history, if there is one
abbrev pub addresses_in : Option (List ℕ) → List ℕ
addresses_in None = []
addresses_in (Some history) = history
