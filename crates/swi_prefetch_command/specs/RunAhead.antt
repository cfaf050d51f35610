-- The command `prefetch`: a run on the cached machine beside whose hart an engine copies blocks ahead.
use Rattle.std.specs.Prelude.{◌≡◌, ◌⊎◌, ℕ, ◌+◌, ◌-◌, ◌*◌, ◌^◌, ◌<◌, ◌≤◌, min, List, [], ◌∷◌, ◌++◌, length, if◌then◌else◌, None, Some, Result, IfOk, IfErr, true, ⊤}
use Rattle.std.specs.Io.KnownBytes.{Appends}
use Rattle.swi_outside.specs.CacheRam.{KeepsBeyond, RamState}
use Rattle.swi_outside.specs.Causes.{risen}
use Rattle.swi_elf_read.specs.Loaded.{image_of as image_in}
use Rattle.swi_memory.specs.declared.layout.Layout.{Layout}
use Rattle.swi_program.specs.Program.{ProgramData}
use Rattle.swi_image.specs.Format.{ImageData}
use Rattle.swi_command.specs.declared.command.CacheOptions.{CacheOptions}
use Rattle.swi_command.specs.declared.command.Reports.{Reports}
use Rattle.swi_command.specs.declared.command.RunOptions.{RunOptions}
use Rattle.swi_calls.specs.declared.end.End.TheVariants as end
use Rattle.swi_calls.specs.declared.machine.Machine.{Machine}
use Rattle.swi_calls.specs.FirstStore.{StoresAt}
use Rattle.swi_calls.specs.Flat.{flat_run, flat_start}
use Rattle.swi_calls.specs.Held.{held_run, stopped_at}
use Rattle.swi_calls.specs.State.{FlatState}
use Rattle.swi_calls.specs.StoresText.{next_store}
use Rattle.swi_rom.specs.Coherent.{Coherent}
use Rattle.swi_rom.specs.Record.{Record, writes}
use Rattle.swi_rom.specs.Served.{SameFrom}
use Rattle.swi_hart.specs.Hart.{HartData}
use Rattle.swi_board.specs.Board.{BoardOf, Around}
use Rattle.swi_board.specs.Fetching.{HasFetched}
use Rattle.swi_board.specs.Moments.{Moment}
use Rattle.swi_board.specs.Ran.{next_of}
use Rattle.swi_outcome.specs.Broken.{Coming, taken_next}
use Rattle.swi_engine.specs.Engine.{engine_copies, engine_words, extent_of, span_of}
use Rattle.swi_engine.specs.State.{EngineData, kept_by, setting_of}
use Rattle.swi_prefetch.specs.Events.{Turn, of_hart, rounds}
use Rattle.swi_prefetch.specs.Prefetching.{PrefetchData, empty_for}
use Rattle.swi_prefetch.specs.Running.{OfBoard}
use Rattle.swi_prefetch.specs.Scheduled.{AheadEnded, AheadRun, AreBegun, AreRounds, end_of, moment_after, moment_of, setting_for, words_of}
use Rattle.swi_cached.specs.Cached.{unfetched}
use Rattle.swi_report.specs.declared.engine.EngineWork.{EngineWork}
use Rattle.swi_report.specs.declared.stats.Work.{Work}
use Rattle.swi_report.specs.Engine.{engine_text_of}
use Rattle.swi_answer.specs.declared.answer.Ending.{Ending}
use Rattle.swi_answer.specs.declared.answer.Refusal.{Refusal}
use Rattle.swi_answer.specs.declared.answer.Refusal.TheVariants as refusal
use Rattle.swi_prefetch_command.specs.declared.command.AheadAsked.{AheadAsked}
use Rattle.swi_task.specs.Answers.{IsRunFault}
use Rattle.swi_cached_task.specs.Caching.{RamCounted, board_work}
use Rattle.swi_task.specs.Causes.{HasCauses}
use Rattle.swi_task.specs.Checks.{InRam}
use Rattle.swi_task.specs.Devices.{Devices}
use Rattle.swi_task.specs.Over.{IsRunErr, RanOver}
use Rattle.swi_cached_task.specs.Placing.{cached_checks}
use Rattle.swi_task.specs.Runs.{FailedAfterRun, Ran, StepFailed, report, start_of}
use Rattle.swi_task.specs.Subject.{IsImageFor}
use Rattle.swi_task.specs.Task.{Task}

-- the run of a program in an image's blocks
abbrev pub ahead_run : AheadAsked → ImageData → FlatState → AheadRun
ahead_run a v s = record { image = v; bytes = a.bytes; start = s; limit = a.run.limits.steps; rate = a.rate }

-- the words of the ram that its cache uses: slots of a block each
abbrev pub ahead_span : ℕ → ImageData → ℕ
ahead_span bytes v = span_of (setting_of (empty_for bytes v))

-- ---- what is told of it

-- What the counts tell. Written are the words that service and engine copied, the links, and the links undone, as a number of 64 bits.
abbrev pub ahead_work : Moment → Work
ahead_work s = record {
  machine = s.count;
  fetches = length s.words;
  writes = min (writes s.kept + engine_words s.kept) (2 ^ 64 - 1);
  counts = s.kept.counts;
}

abbrev pub engine_work : Record → EngineWork
engine_work r = record { words = engine_words r; copies = engine_copies r }

-- the engine's counts, where counts are asked for
abbrev pub engine_lines : Reports → EngineWork → List ℕ
engine_lines r w = if r.stats then engine_text_of w else []

-- the report of a run on the cached machine, and then the engine's counts
abbrev pub report_with : Reports → Machine → Work → EngineWork → List ℕ
report_with r m w e = report r m (Some w) ++ engine_lines r e

abbrev pub ahead_report : RunOptions → AheadRun → ℕ → List ℕ
ahead_report o c made = report_with o.reports (end_of c).machine (ahead_work (moment_after c made)) (engine_work (moment_after c made).kept)

-- ---- the run

-- from a state the program's run over its fixed text is the flat machine's, up to the first step that would store into the text
abbrev pub IsFlatFrom : FlatState → Type 0
IsFlatFrom s = (n : ℕ) → ((j : ℕ) → j < n → StoresAt s j → ⊥) → held_run n s ≡ flat_run n s

-- and where step k + 1 is the first that would, it ends as the flat machine stands after k steps, with the ending StoreText
abbrev pub StopsFrom : FlatState → Type 0
StopsFrom s = (n k : ℕ) → k < n → ((j : ℕ) → j < k → StoresAt s j → ⊥) → StoresAt s k →
    (a : ℕ) × (next_store (flat_run k s).machine ≡ Some a) × (held_run n s ≡ stopped_at (flat_run k s) a)

-- each machine instruction but the boot has fetched a word, but for one at an address without a text word
abbrev pub HasFetchedEach : Moment → Type 0
HasFetchedEach s = s.count ≡ 1 + length s.words + unfetched s.flat.machine.ending

-- What a run is that came to its end behind so many rounds, and what it leaves of the ram.
pub record IsAheadRun (c : AheadRun) (made : ℕ) (before after : RamState) : Type 0 where
  -- its events are rounds: one of the hart, and then those of the engine, as many as are made while it goes on below its limit
  pub are : AreRounds c made
  -- whatever they are, the program is the flat machine, up to the first step that would store into the text, before which it ends
  pub flat : IsFlatFrom c.start
  pub stops : StopsFrom c.start
  pub ends : (moment_after c made).flat ≡ end_of c
  -- each placed block stands in its slot word for word, but that at each link there is a jump to its target's place
  pub coherent : Coherent c.image (moment_after c made).kept (span_of (setting_for c)) after.words
  -- and each word of a slot that was never taken is as it was
  pub unused : SameFrom (extent_of (setting_for c) (moment_after c made).kept) before.words after.words
  -- the run's counts are those that the ram has counted
  pub counted : RamCounted (ahead_work (moment_after c made)) before after
  -- and the words that were fetched are those of its rounds, in order, each behind as many sets, of service and engine, as in these
  pub words : HasFetched (words_of c (rounds c.rate made)) before after
  -- at most three machine instructions for each step, and one for the boot; one more where the run stopped before a store into the text
  pub most : (moment_after c made).count ≤ 3 * (end_of c).machine.steps + 2
  pub fewer : ((a : ℕ) → (end_of c).machine.ending ≡ Some (end.StoreText a) → ⊥) → (moment_after c made).count ≤ 3 * (end_of c).machine.steps + 1
  pub each : HasFetchedEach (moment_after c made)

pub record RunsAhead (o : RunOptions) (c : AheadRun) (before after : Devices) (e : Ending) (last : List ℕ) : Type 0 where
  pub made : ℕ
  -- the ending, the input and the bytes are those of the program's run, in which the text is fixed
  pub ran : Ran (end_of c) (ahead_report o c made) before after e last
  pub ahead : IsAheadRun c made before.ram after.ram

-- ---- where a device failed

-- the ram and the streams
abbrev pub around : Devices → Around
around d = record { ram = d.ram; devices = record { input = d.input; output = d.output; error = d.error } }

-- The ram failed with the words of these events fetched, each behind their sets, and no others: the sinks hold just what the steps wrote whose words they are, and
-- of the input is gone just what those took. No call of the ram comes behind the one that failed.
pub record RamBrokeAhead (c : AheadRun) (before after : Devices) (r : Refusal) (last : List ℕ) : Type 0 where
  pub fault : r ≡ refusal.RamFault
  pub events : List Turn
  -- in the boot, or behind it
  pub are : (events ≡ []) ⊎ AreBegun c events
  pub output : Appends before.output.held after.output.held (moment_of c events).flat.output
  pub error : Appends before.error.held after.error.held ((moment_of c events).flat.error ++ last)
  pub input : after.input.left ≡ Some (moment_of c events).flat.input
  pub fetches : after.ram.fetches ≡ risen before.ram.fetches (length (moment_of c events).words)
  pub words : HasFetched (words_of c events) before.ram after.ram
  pub last_failed : after.ram.last_failed ≡ true

-- a state with its next step over the fixed text, which isn't told of before it is made
abbrev pub held_coming : FlatState → Coming
held_coming s = record { state = s; begun = s.error; next = next_of s; most = taken_next s }

-- or the input or a sink failed at the step that comes next behind these events
pub record StepBrokeAhead (c : AheadRun) (before after : Devices) (r : Refusal) (last : List ℕ) : Type 0 where
  pub events : List Turn
  pub are : AreBegun c events
  -- the word of that step which was under control was fetched too, and no word was set behind those of these events
  pub words : HasFetched (words_of c (events ++ of_hart ∷ [])) before.ram after.ram
  pub sets : after.ram.sets ≡ risen before.ram.sets (moment_of c events).sets
  pub failed : StepFailed (held_coming (moment_of c events).flat) before after r last

-- or a sink failed behind the run
pub record BehindAhead (o : RunOptions) (c : AheadRun) (before after : Devices) (r : Refusal) (last : List ℕ) : Type 0 where
  pub made : ℕ
  pub failed : FailedAfterRun (end_of c) (ahead_report o c made) [] before after r last
  pub ahead : IsAheadRun c made before.ram after.ram

pub record AheadFailed (o : RunOptions) (c : AheadRun) (before after : Devices) (r : Refusal) (last : List ℕ) : Type 0 where
  pub broke : RamBrokeAhead c before after r last ⊎ (StepBrokeAhead c before after r last ⊎ BehindAhead o c before after r last)
  -- the run so far is the flat machine's, as above
  pub flat : IsFlatFrom c.start
  pub stops : StopsFrom c.start

-- ---- the command

abbrev pub ahead_asked : CacheOptions → RunOptions → ℕ → AheadAsked
ahead_asked cache o rate = record { run = o; bytes = cache.cache_bytes; rate = rate }

abbrev pub ahead_task : List ℕ → CacheOptions → RunOptions → ℕ → Task
ahead_task name cache o rate = record {
  reads = name ∷ [];
  Files = List ℕ;
  contents = λ file. file ∷ [];
  writes = None;
  takes_input = true;
  caches = InRam cache.cache_bytes;
  checks = cached_checks o.limits cache;
  before_next = λ file. [];
  ends = λ e. ⊤;
  does = λ file before after e last. (v : ImageData) × IsImageFor file cache.block_words (image_in file) v
      × KeepsBeyond (ahead_span cache.cache_bytes v) before.ram after.ram
      × ((input : List ℕ) → before.input.left ≡ Some input → RunsAhead o (ahead_run (ahead_asked cache o rate) v (start_of o file input)) before after e last);
  fails = λ file before after r last. (v : ImageData) × IsImageFor file cache.block_words (image_in file) v
      × KeepsBeyond (ahead_span cache.cache_bytes v) before.ram after.ram
      × ((input : List ℕ) → before.input.left ≡ Some input → AheadFailed o (ahead_run (ahead_asked cache o rate) v (start_of o file input)) before after r last);
}

-- ---- as its functions say it

-- the run of a program with this input, from its boot
abbrev pub ahead_from : AheadAsked → ImageData → ProgramData → Layout → List ℕ → AheadRun
ahead_from a v p l input = ahead_run a v (flat_start p l a.run.reports.calls input)

-- why a run is refused that did not come to its end: there was no memory, and nothing changed; or a device failed in it
abbrev pub IsAheadErr : AheadAsked → ImageData → ProgramData → Layout → Devices → Devices → Refusal → Type 0
IsAheadErr a v p l before after r =
    ((r ≡ refusal.Memory) × (after ≡ before))
    ⊎ (IsRunFault r × ((input : List ℕ) → before.input.left ≡ Some input →
    RamBrokeAhead (ahead_from a v p l input) before after r [] ⊎ StepBrokeAhead (ahead_from a v p l input) before after r []))

-- what a whole run does: it comes to its end on a board of which no device has failed
pub record RunsToEnd (a : AheadAsked) (v : ImageData) (p : ProgramData) (l : Layout) (before after : Devices) (result : Result PrefetchData Refusal) : Type 0 where
  pub ended : IfOk result (λ x. (input : List ℕ) → before.input.left ≡ Some input →
      OfBoard x.board (λ b. (made : ℕ) × AheadEnded (ahead_from a v p l input) made b (around before) (around after)
      × HasFetchedEach (moment_after (ahead_from a v p l input) made)))
  pub refused : IfErr result (IsAheadErr a v p l before after)
  pub beyond : KeepsBeyond (ahead_span a.bytes v) before.ram after.ram
  pub causes : HasCauses before after result

-- what a board tells that came to its end
abbrev pub board_work_with : HartData → Record → Work
board_work_with h r = record (board_work h.count h.machine.ending r) { writes = min (writes r + engine_words r) (2 ^ 64 - 1) }

abbrev pub board_report : Reports → BoardOf EngineData → List ℕ
board_report r b = report_with r b.hart.machine (board_work_with b.hart (kept_by b.rom)) (engine_work (kept_by b.rom))

-- and what a run with its report does, whatever its input tells
pub record RunsWithReport (a : AheadAsked) (v : ImageData) (p : ProgramData) (l : Layout) (before after : Devices) (result : Result Ending Refusal) : Type 0 where
  pub ran : RanOver IsRunErr
      (λ e. (input : List ℕ) → before.input.left ≡ Some input → RunsAhead a.run (ahead_from a v p l input) before after e [])
      (λ r. (input : List ℕ) → before.input.left ≡ Some input → AheadFailed a.run (ahead_from a v p l input) before after r [])
      before after result
  pub beyond : KeepsBeyond (ahead_span a.bytes v) before.ram after.ram
