-- The command `measure`: the run of a program that is made from a number.
use Rattle.std.specs.Prelude.{◌≡◌, ◌⊎◌, ℕ, ◌*◌, ◌^◌, List, [], ◌∷◌, ◌++◌, length, take, true, false, Option, Some, None, Result, Ok, ⊤}
use Rattle.std.specs.Io.KnownBytes.{Appends}
use Rattle.swi_outside.specs.CacheRam.{KeepsBeyond, RamState}
use Rattle.swi_memory.specs.declared.layout.Layout.{Layout}
use Rattle.swi_program.specs.Layout.{laid_out}
use Rattle.swi_program.specs.Program.{ProgramData}
use Rattle.swi_program.specs.Text.{text_of}
use Rattle.swi_make.specs.Made.{IsMade}
use Rattle.swi_cut.specs.Cuts.{IsSound}
use Rattle.swi_render.specs.Cut.{IsCut}
use Rattle.swi_image.specs.Format.{ImageData}
use Rattle.swi_command.specs.declared.command.CacheOptions.{CacheOptions}
use Rattle.swi_calls.specs.declared.end.End.{End}
use Rattle.swi_calls.specs.declared.end.End.TheVariants as end
use Rattle.swi_calls.specs.State.{FlatState}
use Rattle.swi_rom.specs.Record.{Record}
use Rattle.swi_rom.specs.Service.{Cache}
use Rattle.swi_hart.specs.Hart.{HartData}
use Rattle.swi_cached.specs.Cached.{CachedRun, run_of, end_of, instructions_after, record_after, words_after}
use Rattle.swi_board.specs.Board.{Around}
use Rattle.swi_line.specs.declared.trace.Trace.TheVariants as trace
use Rattle.swi_board.specs.Fetching.{FetchedFront}
use Rattle.swi_report.specs.declared.stats.Work.{Work}
use Rattle.swi_report.specs.declared.summary.Measured.{Measured}
use Rattle.swi_report.specs.Summary.{summary_text_of}
use Rattle.swi_answer.specs.declared.answer.Ending.{Ending}
use Rattle.swi_answer.specs.declared.answer.Ending.TheVariants as ending
use Rattle.swi_answer.specs.declared.answer.Refusal.{Refusal}
use Rattle.swi_answer.specs.declared.answer.Refusal.TheVariants as refusal
use Rattle.swi_answer.specs.Lines.{ending_line}
use Rattle.swi_cached_task.specs.Caching.{IsCachedRun, board_work, cache_for, work_of}
use Rattle.swi_task.specs.Checks.{InRam, Check, FitsMade, HoldsBlock}
use Rattle.swi_task.specs.Devices.{Devices}
use Rattle.swi_task.specs.Over.{IsUnfedErr, RanOver}
use Rattle.swi_task.specs.Runs.{FailedBehind}
use Rattle.swi_task.specs.Task.{Task}

-- a ram, beside an input without bytes and sinks that keep nothing
abbrev pub nowhere : RamState → Around
nowhere ram = record {
  ram = ram;
  devices = record { input = record { given = []; left = Some []; faults = 0 }; output = record { held = None; faults = 0 }; error = record { held = None; faults = 0 } };
}

-- done where the made program exited; else its ending
abbrev pub made_ending_by : Option End → ℕ → ℕ → Ending
made_ending_by None pc steps = ending.Spent steps pc
made_ending_by (Some (end.Exited code)) pc steps = ending.Done
made_ending_by (Some (end.Faulted kind a)) pc steps = ending.Faulted kind pc a steps
made_ending_by (Some (end.StoreText a)) pc steps = ending.StoreText pc a steps

-- a made program that exited
abbrev pub measured : ℕ → ProgramData → ImageData → ℕ → Measured
measured functions p v code =
    record { functions = functions; text = length (text_of p.segments).words; blocks = length v.starts; exit = code }

-- its summary, where it exited
abbrev pub summary_by : ℕ → ProgramData → ImageData → Work → Option End → ℕ → List ℕ
summary_by functions p v w (Some (end.Exited code)) steps = summary_text_of (measured functions p v code) steps w
summary_by functions p v w _ steps = []

-- the run, with no input, of the program that is made of the seed, in the blocks of its greedy cut
abbrev pub made_run : Cache → ProgramData → Layout → ImageData → CachedRun
made_run k p l v = run_of v k p l (record { limit = 2 ^ 48; calls = false; trace = trace.Off }) []

pub record IsMadeRun (seed functions : ℕ) (cache : CacheOptions) (p : ProgramData) (l : Layout) (v : ImageData) : Type 0 where
  pub made : IsMade seed functions p
  pub layout : laid_out p.segments 1048576 65536 ≡ Ok l
  pub sound : IsSound v
  pub cut : IsCut (text_of p.segments) cache.block_words v

-- where it exited, the command is done, and writes the summary; else it ends as the run did, and writes nothing
abbrev pub made_ending : FlatState → Ending
made_ending s = made_ending_by s.machine.ending s.machine.pc s.machine.steps

abbrev pub made_summary : ℕ → ProgramData → ImageData → CachedRun → List ℕ
made_summary functions p v c = summary_by functions p v (work_of c) (end_of c).machine.ending (end_of c).machine.steps

pub record Measures (seed functions : ℕ) (cache : CacheOptions) (before after : Devices) (e : Ending) (last : List ℕ) : Type 0 where
  pub program : ProgramData
  pub layout : Layout
  pub image : ImageData
  pub is : IsMadeRun seed functions cache program layout image
  pub ending : e ≡ made_ending (end_of (made_run (cache_for cache image) program layout image))
  pub output : Appends before.output.held after.output.held (made_summary functions program image (made_run (cache_for cache image) program layout image))
  pub error : Appends before.error.held after.error.held last
  pub input : after.input ≡ before.input
  pub ran : IsCachedRun (made_run (cache_for cache image) program layout image) before.ram after.ram
  pub beyond : KeepsBeyond (cache_for cache image).span before.ram after.ram

-- the ram failed in the run: the words that were fetched are a front of the run's, and no call of the ram comes behind the one that failed
pub record MadeRamFailed (c : CachedRun) (before after : RamState) : Type 0 where
  pub fetched_at : FetchedFront (words_after c c.limit) before after
  pub last_failed : after.last_failed ≡ true

-- and nothing was written
pub record MadeRunBroke (c : CachedRun) (before after : Devices) (r : Refusal) (last : List ℕ) : Type 0 where
  pub fault : r ≡ refusal.RamFault
  pub ram : MadeRamFailed c before.ram after.ram
  pub output : after.output ≡ before.output
  pub error : Appends before.error.held after.error.held last

-- or a sink failed behind the run: the output at the summary, or the errors at the ending's line
pub record SummaryBroke (e : Ending) (summary : List ℕ) (before after : Devices) (r : Refusal) (last : List ℕ) : Type 0 where
  pub fault : r ≡ refusal.SinkFault
  pub output_front : ℕ
  pub output : Appends before.output.held after.output.held (take output_front summary)
  pub error_front : ℕ
  pub error : Appends before.error.held after.error.held (take error_front (ending_line e) ++ last)
  pub behind : FailedBehind summary output_front (ending_line e) error_front before after

pub record MeasureFailed (seed functions : ℕ) (cache : CacheOptions) (before after : Devices) (r : Refusal) (last : List ℕ) : Type 0 where
  pub program : ProgramData
  pub layout : Layout
  pub image : ImageData
  pub is : IsMadeRun seed functions cache program layout image
  pub broke : MadeRunBroke (made_run (cache_for cache image) program layout image) before after r last
      ⊎ (SummaryBroke (made_ending (end_of (made_run (cache_for cache image) program layout image))) (made_summary functions program image (made_run (cache_for cache image) program layout image)) before after r last
      × IsCachedRun (made_run (cache_for cache image) program layout image) before.ram after.ram)
  pub input : after.input ≡ before.input
  pub beyond : KeepsBeyond (cache_for cache image).span before.ram after.ram

abbrev pub measure_checks : ℕ → ℕ → CacheOptions → List Check
measure_checks seed functions cache = FitsMade seed functions cache.block_words ∷ HoldsBlock cache.cache_bytes (4 * cache.block_words) ∷ []

abbrev pub measure_task : ℕ → ℕ → CacheOptions → Task
measure_task seed functions cache = record {
  reads = [];
  Files = ⊤;
  contents = λ files. [];
  writes = None;
  takes_input = false;
  caches = InRam cache.cache_bytes;
  checks = λ files. measure_checks seed functions cache;
  before_next = λ file. [];
  ends = λ e. ⊤;
  does = λ files before after e last. Measures seed functions cache before after e last;
  fails = λ files before after r last. MeasureFailed seed functions cache before after r last;
}

-- ---- as its functions say it

-- a made program came to its end, on a board with this hart and this record of its service
pub record MadeRan (c : CachedRun) (h : HartData) (r : Record) (before after : RamState) : Type 0 where
  pub machine : h.machine ≡ (end_of c).machine
  pub count : h.count ≡ instructions_after c c.limit
  pub kept : r ≡ record_after c c.limit
  pub ran : IsCachedRun c before after

-- what is written of it
abbrev pub board_summary : ℕ → ProgramData → ImageData → HartData → Record → List ℕ
board_summary functions p v h r = summary_by functions p v (board_work h.count h.machine.ending r) h.machine.ending h.machine.steps

-- it came to its end, and its summary was written
pub record MadeSummarized (functions : ℕ) (p : ProgramData) (v : ImageData) (c : CachedRun) (before after : Devices) (e : Ending) : Type 0 where
  pub ending : e ≡ made_ending (end_of c)
  pub output : Appends before.output.held after.output.held (made_summary functions p v c)
  pub ran : IsCachedRun c before.ram after.ram

-- or a device failed in it, or behind it
abbrev pub MadeBroke : ℕ → ProgramData → ImageData → CachedRun → Devices → Devices → Refusal → Type 0
MadeBroke functions p v c before after r =
    MadeRunBroke c before after r []
    ⊎ (SummaryBroke (made_ending (end_of c)) (made_summary functions p v c) before after r [] × IsCachedRun c before.ram after.ram)

-- what such a run does
pub record MeasuresOver (functions : ℕ) (k : Cache) (v : ImageData) (p : ProgramData) (l : Layout) (before after : Devices) (result : Result Ending Refusal) : Type 0 where
  pub ran : RanOver IsUnfedErr (MadeSummarized functions p v (made_run k p l v) before after) (MadeBroke functions p v (made_run k p l v) before after) before after result
  pub beyond : KeepsBeyond k.span before.ram after.ram
