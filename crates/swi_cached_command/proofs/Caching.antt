-- A run on the cached machine, from what its parts say.
use Rattle.std.proofs.Common.{◌≡◌, ◌⊎◌, inl, inr, ℕ, ◌+◌, ◌≤◌, List, [], ◌++◌, length, take, if◌then◌else◌, Option, None, Some, Result, Ok, Err, IsErrOf, MatchResult, refl, sym, ◌∙◌, subst, ap, arith}
use Rattle.std.proofs.lemmas.List.{append-nil}
use Rattle.std.specs.Io.KnownBytes.{Appends}
use Rattle.swi_outside.specs.Causes.{DeviceCause, Rose}
use Rattle.swi_outside.specs.CacheRam.{KeepsBeyond, RamState}
use Rattle.swi_outside.specs.Devices as outside
use Rattle.swi_outside.specs.Laws.{Appends-append, Appends-none, cause_as, named_as, no_cause, ok_unmoved}
use Rattle.swi_outside.specs.Shelf.{ShelfState}
use Rattle.swi_outside.specs.Sink.{AppendsPrefix, SinkState}
use Rattle.swi_outside.specs.Source.{SourceState}
use Rattle.swi_elf_read.specs.Loaded.{image_of as image_in}
use Rattle.swi_memory.specs.declared.layout.Layout.{Layout}
use Rattle.swi_program.specs.Program.{ProgramData}
use Rattle.swi_program.specs.ProgramOf.{program_of_file}
use Rattle.swi_image.specs.Format.{ImageData}
use Rattle.swi_command.specs.declared.command.CacheOptions.{CacheOptions}
use Rattle.swi_command.specs.declared.command.RunOptions.{RunOptions}
use Rattle.swi_calls.specs.declared.machine.Machine.{Machine}
use Rattle.swi_calls.specs.Flat.{flat_start}
use Rattle.swi_calls.specs.State.{FlatState}
use Rattle.swi_rom.specs.Record.{Record}
use Rattle.swi_rom.specs.Service.{Cache}
use Rattle.swi_report.specs.declared.stats.Work.{Work}
use Rattle.swi_hart.specs.Hart.{HartData}
use Rattle.swi_cached.specs.declared.run.CachedStop.{CachedStop}
use Rattle.swi_cached.specs.declared.run.CachedStop.TheVariants as stop
use Rattle.swi_cached.specs.Answers as run
use Rattle.swi_board.specs.Board.{Around}
use Rattle.swi_hart.specs.declared.fault.BoardFault.{BoardFault}
use Rattle.swi_hart.specs.declared.fault.BoardFault.TheVariants as board
use Rattle.swi_cached.specs.Told.{addresses, history_of, told_line}
use Rattle.swi_memory.specs.Bus.{AreaData}
use Rattle.std.proofs.Math.Seq.{take-length}
use Rattle.swi_cached.specs.Cached.{CachedRun, IsCounted, end_of, program_after, told_after, instructions_after, words_after, record_after}
use Rattle.swi_cached.proofs.Failed.{is_flat_run, stops_before_store}
use Rattle.swi_board.specs.Fetching.{FetchedFront}
use Rattle.swi_answer.specs.declared.answer.Ending.{Ending}
use Rattle.swi_answer.specs.declared.answer.Refusal.{Refusal}
use Rattle.swi_answer.specs.declared.answer.Refusal.TheVariants as refusal
use Rattle.swi_answer.specs.Lines.{ending_line}
use Rattle.swi_outcome.proofs.Fronts.{seam, to_nil}
use Rattle.swi_outcome.proofs.Named.{AreNamed, step_named}
use Rattle.swi_task.specs.Answers.{Answers, IsChecked, IsRunFault}
use Rattle.swi_task.specs.Over.{IsRunErr}
use Rattle.swi_cached_task.specs.Caching.{board_work, cache_for, cached_run}
use Rattle.swi_cached_task.specs.Placing.{cached_checks}
use Rattle.swi_cached_task.proofs.Caching.{cached_run_is, cached_to, keeps_all, keeps_run, ran_all, run_err_asked, run_err_checked, run_err_given, run_err_not, run_err_short, run_err_size, work_is}
use Rattle.swi_task.specs.Causes.{HasCauses}
use Rattle.swi_task.specs.Checks.{IsAccepted, room_in, size_refusal}
use Rattle.swi_task.specs.Devices.{Devices, stream_faults}
use Rattle.swi_cached_command.specs.RunCached.{BrokeIn, CachedFailed, RamBroke, RunsCached, StreamBroke, RunsOver, addresses_in, cached_report, last_lines, last_told, stop_refusal, cached_task, shown_error}
use Rattle.swi_task.specs.Runs.{FailedAfterRun, ending_by, refusal_names, refusal_of, report, start_of}
use Rattle.swi_task.specs.Subject.{IsImageFor}
use Rattle.swi_task.proofs.Due.{left_empty}
use Rattle.swi_cached_command.proofs.Tracing.{all_shown, last_is, shown_split, some_shown}
use Rattle.swi_task.proofs.Refusals.{IsRead, calm_causes, causes_behind, causes_of, keeps_read, none_long, out_causes, read_is, same_count, sized_along, sized_err, sized_ok}
use Rattle.swi_task.proofs.Starts.{start_is}
use Rattle.swi_task.proofs.Lines.{IsLined, after_line, after_run_line, appends_last, holds_then, ran_line, step_line}

-- what the run sees of them
abbrev pub around_of : Devices → Around
around_of d = record { ram = d.ram; devices = record { input = d.input; output = d.output; error = d.error } }

-- the cached run of a program with this input
abbrev pub run_with : RunOptions → Cache → ImageData → ProgramData → Layout → List ℕ → CachedRun
run_with o cache v p l input = cached_run cache o v (flat_start p l o.reports.calls input)

no_memory : (o : RunOptions) (cache : Cache) (v : ImageData) (p : ProgramData) (l : Layout) (d : Devices) →
    RunsOver o cache v p l d d (Err refusal.Memory)
no_memory o cache v p l d = record {
  ran = record {
    done = tt;
    refused = tt;
    quiet = λ _. refl;
    failed = λ f. absurd f;
    causes = calm_causes d d (Err refusal.Memory) tt refl refl refl;
  };
  beyond = keeps_all _ d.ram;
}

-- the causes of the board's devices, by the run's answer
pub record BoardCauses {T : Type 0} (before after : Devices) (r : Result T CachedStop) : Type 0 where
  pub streams : outside.HasCauses (stream_faults before) (stream_faults after) (IsErrOf r (stop.Fault board.SourceFault)) (IsErrOf r (stop.Fault board.SinkFault))
  pub ram_cause : DeviceCause before.ram.faults after.ram.faults (IsErrOf r (stop.Fault board.RamFault))

memory_after : (o : RunOptions) (cache : Cache) (v : ImageData) (p : ProgramData) (l : Layout) (d : Devices) (i : SourceState) (out e : SinkState) (ram : RamState) →
    (ram ≡ d.ram) × (i ≡ d.input) × (out ≡ d.output) × (e ≡ d.error) → RunsOver o cache v p l d (ran_all d i out e ram) (Err refusal.Memory)
memory_after o cache v p l d i out e ram same =
    subst (λ (a : SourceState). RunsOver o cache v p l d (ran_all d a out e ram) (Err refusal.Memory)) (sym same.1)
    (subst (λ (b : SinkState). RunsOver o cache v p l d (ran_all d d.input b e ram) (Err refusal.Memory)) (sym same.2)
    (subst (λ (x : SinkState). RunsOver o cache v p l d (ran_all d d.input d.output x ram) (Err refusal.Memory)) (sym same.3)
    (subst (λ (r : RamState). RunsOver o cache v p l d (ran_all d d.input d.output d.error r) (Err refusal.Memory)) (sym same.0) (no_memory o cache v p l d))))

-- a run that stopped so is refused so
stop_causes : {T : Type 0} (f : CachedStop) (before after : Devices) → after.shelf.faults ≡ before.shelf.faults → BoardCauses {T = T} before after (Err f) →
    HasCauses {T = Ending} before after (Err (stop_refusal f))
stop_causes {T} f before after shelf h =
    causes_of before after (Err (stop_refusal f)) (no_cause shelf (no_shelf f)) (cause_as h.ram_cause (to f (stop.Fault board.RamFault)) (from_ram f))
    (named_as h.streams (to f (stop.Fault board.SourceFault)) (from_source f) (to f (stop.Fault board.SinkFault)) (from_sink f))
  where
    no_shelf : (f : CachedStop) → IsErrOf {T = Ending} (Err (stop_refusal f)) refusal.ShelfFault → ⊥
    no_shelf stop.Memory e = let never : ⊥ = cc in never
    no_shelf (stop.Fault board.RamFault) e = let never : ⊥ = cc in never
    no_shelf (stop.Fault board.SourceFault) e = let never : ⊥ = cc in never
    no_shelf (stop.Fault board.SinkFault) e = let never : ⊥ = cc in never

    to : (f g : CachedStop) → IsErrOf {T = T} (Err f) g → IsErrOf {T = Ending} (Err (stop_refusal f)) (stop_refusal g)
    to f g e = let same : f ≡ g = cc in ap (λ (x : CachedStop). Err (stop_refusal x)) same

    from_ram : (f : CachedStop) → IsErrOf {T = Ending} (Err (stop_refusal f)) refusal.RamFault → IsErrOf {T = T} (Err f) (stop.Fault board.RamFault)
    from_ram (stop.Fault board.RamFault) e = refl
    from_ram stop.Memory e = let never : ⊥ = cc in absurd never
    from_ram (stop.Fault board.SourceFault) e = let never : ⊥ = cc in absurd never
    from_ram (stop.Fault board.SinkFault) e = let never : ⊥ = cc in absurd never

    from_source : (f : CachedStop) → IsErrOf {T = Ending} (Err (stop_refusal f)) refusal.SourceFault → IsErrOf {T = T} (Err f) (stop.Fault board.SourceFault)
    from_source (stop.Fault board.SourceFault) e = refl
    from_source stop.Memory e = let never : ⊥ = cc in absurd never
    from_source (stop.Fault board.RamFault) e = let never : ⊥ = cc in absurd never
    from_source (stop.Fault board.SinkFault) e = let never : ⊥ = cc in absurd never

    from_sink : (f : CachedStop) → IsErrOf {T = Ending} (Err (stop_refusal f)) refusal.SinkFault → IsErrOf {T = T} (Err f) (stop.Fault board.SinkFault)
    from_sink (stop.Fault board.SinkFault) e = refl
    from_sink stop.Memory e = let never : ⊥ = cc in absurd never
    from_sink (stop.Fault board.RamFault) e = let never : ⊥ = cc in absurd never
    from_sink (stop.Fault board.SourceFault) e = let never : ⊥ = cc in absurd never

-- the run so far is the flat machine's
failed_so : (o : RunOptions) (c : CachedRun) (d m : Devices) (r : Refusal) (last : List ℕ) → BrokeIn o c d m r last → FetchedFront (words_after c c.limit) d.ram m.ram → CachedFailed o c d m r last
failed_so o c d m r last broke words = record { broke = broke; fetched_at = words; flat = is_flat_run c; stops = stops_before_store c }

-- all words are a front of themselves
all_words : (c : CachedRun) (before after : RamState) → run.RamAfter c before after → FetchedFront (words_after c c.limit) before after
all_words c before after h = ([], record { fetched = words_after c c.limit; are = h.fetched_at; front = append-nil (words_after c c.limit) })

-- what is called a failed source or sink by the board's answer is called so by the refusal
names_of : (f : BoardFault) → AreNamed run.stream_names refusal_names f (refusal_of f)
names_of f = record { source = λ e. ap refusal_of e; sink = λ e. ap refusal_of e; back = back f }
  where
    back : (f : BoardFault) → refusal_of f ≡ refusal.SourceFault → f ≡ board.SourceFault
    back board.SourceFault e = refl
    back board.RamFault e = let never : ⊥ = cc in absurd never
    back board.SinkFault e = let never : ⊥ = cc in absurd never

step_broke : (f : BoardFault) (c : CachedRun) (d m : Devices) → run.StreamFailed c f (around_of d) (around_of m) → StreamBroke c d m (refusal_of f) []
step_broke f c d m h = record {
  failed = record { steps = h.failed.steps; fewer = h.failed.fewer; failed = step_named (names_of f) h.failed.failed };
  ram = h.ram;
}

ram_failed : {T : Type 0} (o : RunOptions) (cache : Cache) (v : ImageData) (p : ProgramData) (l : Layout) (d : Devices) (i : SourceState) (out e : SinkState) (ram : RamState) →
    KeepsBeyond cache.span d.ram ram →
    ((left : List ℕ) → d.input.left ≡ Some left → FetchedFront (words_after (run_with o cache v p l left) o.limits.steps) d.ram ram) →
    ((left : List ℕ) → d.input.left ≡ Some left → run.RamFailed (run_with o cache v p l left) (around_of d) (around_of (ran_all d i out e ram))) →
    BoardCauses {T = T} d (ran_all d i out e ram) (Err (stop.Fault board.RamFault)) → RunsOver o cache v p l d (ran_all d i out e ram) (Err refusal.RamFault)
ram_failed {T} o cache v p l d i out e ram kept words broke h = record {
  ran = record {
    done = tt;
    refused = tt;
    quiet = λ never. absurd (never tt);
    failed = λ _ left told.
        let b = broke left told in
        let c = run_with o cache v p l left in
        failed_so o c d (ran_all d i out e ram) refusal.RamFault [] (inl (record {
          fault = refl;
          fetched = b.fetched;
          fetches = b.fetches;
          steps = b.steps;
          within = b.within;
          enough = b.enough;
          longest = b.longest;
          output = b.output;
          begun = b.begun;
          error = to_nil d.error.held e.held ((told_after c b.steps).error ++ (if b.begun then told_line c.trace (program_after c b.steps).machine else [])) b.error;
          input = b.input;
          last_failed = b.last_failed;
        })) (words left told);
    causes = stop_causes {T = T} (stop.Fault board.RamFault) d (ran_all d i out e ram) refl h;
  };
  beyond = kept;
}

run_fault : (f : BoardFault) → IsRunErr (refusal_of f) × IsRunFault (refusal_of f)
run_fault board.RamFault = (tt, tt)
run_fault board.SourceFault = (tt, tt)
run_fault board.SinkFault = (tt, tt)

device_failed : {T : Type 0} (f : BoardFault) (o : RunOptions) (cache : Cache) (v : ImageData) (p : ProgramData) (l : Layout) (d : Devices) (i : SourceState) (out e : SinkState) (ram : RamState) →
    KeepsBeyond cache.span d.ram ram →
    ((left : List ℕ) → d.input.left ≡ Some left → FetchedFront (words_after (run_with o cache v p l left) o.limits.steps) d.ram ram) →
    ((left : List ℕ) → d.input.left ≡ Some left → run.StreamFailed (run_with o cache v p l left) f (around_of d) (around_of (ran_all d i out e ram))) →
    BoardCauses {T = T} d (ran_all d i out e ram) (Err (stop.Fault f)) → RunsOver o cache v p l d (ran_all d i out e ram) (Err (refusal_of f))
device_failed {T} f o cache v p l d i out e ram kept words broke h = record {
  ran = record {
    done = tt;
    refused = (run_fault f).0;
    quiet = λ never. absurd (never (run_fault f).1);
    failed = λ _ left told.
        let c = run_with o cache v p l left in
        failed_so o c d (ran_all d i out e ram) (refusal_of f) [] (inr (inl (step_broke f c d (ran_all d i out e ram) (broke left told)))) (words left told);
    causes = stop_causes {T = T} (stop.Fault f) d (ran_all d i out e ram) refl h;
  };
  beyond = kept;
}

-- there was no memory for it
pub none_run : (o : RunOptions) (cache : Cache) (v : ImageData) (p : ProgramData) (l : Layout) (d : Devices) → RunsOver o cache v p l d d (Err refusal.Memory)
none_run o cache v p l d = memory_after o cache v p l d d.input d.output d.error d.ram (refl, refl, refl, refl)

-- it stopped before its end
pub run_stopped : {T : Type 0} {o : RunOptions} {cache : Cache} {v : ImageData} {p : ProgramData} {l : Layout} {d : Devices} {i : SourceState} {out e : SinkState} {ram : RamState}
    (f : CachedStop) (r : Refusal) → r ≡ stop_refusal f → KeepsBeyond cache.span d.ram ram →
    ((left : List ℕ) → d.input.left ≡ Some left → FetchedFront (words_after (run_with o cache v p l left) o.limits.steps) d.ram ram) →
    (IsErrOf {T = T} (Err f) stop.Memory → around_of (ran_all d i out e ram) ≡ around_of d) →
    ((fault : BoardFault) → IsErrOf {T = T} (Err f) (stop.Fault fault) → (left : List ℕ) → d.input.left ≡ Some left → run.Failed (run_with o cache v p l left) fault (around_of d) (around_of (ran_all d i out e ram))) →
    BoardCauses {T = T} d (ran_all d i out e ram) (Err f) → RunsOver o cache v p l d (ran_all d i out e ram) (Err r)
run_stopped {T} {o} {cache} {v} {p} {l} {d} {i} {out} {e} {ram} f r is kept words memory broke causes =
    subst (λ (x : Refusal). RunsOver o cache v p l d (ran_all d i out e ram) (Err x)) (sym is) (by f memory broke causes)
  where
    by : (f : CachedStop) → (IsErrOf {T = T} (Err f) stop.Memory → around_of (ran_all d i out e ram) ≡ around_of d) →
        ((fault : BoardFault) → IsErrOf {T = T} (Err f) (stop.Fault fault) → (left : List ℕ) → d.input.left ≡ Some left → run.Failed (run_with o cache v p l left) fault (around_of d) (around_of (ran_all d i out e ram))) →
        BoardCauses {T = T} d (ran_all d i out e ram) (Err f) → RunsOver o cache v p l d (ran_all d i out e ram) (Err (stop_refusal f))
    by stop.Memory memory broke causes =
        let same = memory refl in
        memory_after o cache v p l d i out e ram
        (ap (λ (a : Around). a.ram) same, ap (λ (a : Around). a.devices.input) same, ap (λ (a : Around). a.devices.output) same, ap (λ (a : Around). a.devices.error) same)
    by (stop.Fault board.RamFault) memory broke causes = ram_failed {T = T} o cache v p l d i out e ram kept words (broke board.RamFault refl) causes
    by (stop.Fault board.SourceFault) memory broke causes = device_failed {T = T} board.SourceFault o cache v p l d i out e ram kept words (broke board.SourceFault refl) causes
    by (stop.Fault board.SinkFault) memory broke causes = device_failed {T = T} board.SinkFault o cache v p l d i out e ram kept words (broke board.SinkFault refl) causes

-- what stopped a run whose refusal `map_err(stop_refusal)?` hands on
pub handed_on : {T : Type 0} (r : Result T CachedStop) (x : Refusal) → MatchResult r (λ y. ◌≡◌ {A = Result T Refusal} (Err x) (Ok y)) (λ f. x ≡ stop_refusal f) →
    (f : CachedStop) × (r ≡ Err f) × (x ≡ stop_refusal f)
handed_on (Ok y) x h = let bad : ⊥ = cc in absurd bad
handed_on (Err f) x h = (f, refl, h)

-- the report of a board that came to its end
abbrev pub board_report : RunOptions → HartData → Record → List ℕ
board_report o h r = report o.reports h.machine (Some (board_work h.count h.machine.ending r))

report_is : (o : RunOptions) (c : CachedRun) (h : HartData) (r : Record) → h.machine ≡ (end_of c).machine → h.count ≡ instructions_after c c.limit →
    r ≡ record_after c c.limit → IsCounted c → board_report o h r ≡ cached_report o c
report_is o c h r machine count kept counted =
    ap (λ (m : Machine). report o.reports m (Some (board_work h.count m.ending r))) machine
    ∙ ap (λ (n : ℕ). report o.reports (end_of c).machine (Some (board_work n (end_of c).machine.ending r))) count
    ∙ ap (λ (k : Record). report o.reports (end_of c).machine (Some (board_work (instructions_after c c.limit) (end_of c).machine.ending k))) kept
    ∙ ap (λ (w : Work). report o.reports (end_of c).machine (Some w)) (work_is c counted)

-- none of the board's devices failed in the run
pub record IsQuiet (before after : Devices) : Type 0 where
  pub streams : stream_faults after ≡ stream_faults before
  pub ram_same : after.ram.faults ≡ before.ram.faults

pub quiet_run : {T : Type 0} {before after : Devices} (r : Result T CachedStop) (y : T) → BoardCauses before after r →
    MatchResult r (λ x. ◌≡◌ {A = Result T Refusal} (Ok y) (Ok x)) (λ _. ⊥) → IsQuiet before after
quiet_run (Ok x) y h is = record { streams = ok_unmoved h.streams; ram_same = same_count h.ram_cause (λ e. let bad : ⊥ = cc in bad) }
quiet_run (Err f) y h is = absurd is

-- a run that came to its end, on a board with this hart and this record of its service, and with this history
pub record IsEnded (o : RunOptions) (cache : Cache) (v : ImageData) (p : ProgramData) (l : Layout) (d : Devices) (h : HartData) (r : Record) (i : SourceState) (mid em : SinkState) (ram : RamState) (history : Option (List ℕ)) : Type 0 where
  pub ended : (left : List ℕ) → d.input.left ≡ Some left → run.Ended (run_with o cache v p l left) h r i.left d.output.held mid.held d.error.held em.held
  pub told : (left : List ℕ) → d.input.left ≡ Some left → history ≡ history_of o.reports.trace (addresses o.limits.steps (flat_start p l o.reports.calls left))
  pub short : (left : List ℕ) → d.input.left ≡ Some left → run.IsShort h
  pub after : (left : List ℕ) → d.input.left ≡ Some left → run.RamAfter (run_with o cache v p l left) d.ram ram
  pub counted : (left : List ℕ) → IsCounted (run_with o cache v p l left)

-- Behind it the output gains the report, from `mid` on, and the errors the last lines, from `em` on.
module _ {o : RunOptions} {cache : Cache} {v : ImageData} {p : ProgramData} {l : Layout} {d : Devices} {h : HartData} {r : Record} {i : SourceState} {mid em : SinkState} {ram : RamState} {history : Option (List ℕ)}
    (a : IsEnded o cache v p l d h r i mid em ram history) (kept : KeepsBeyond cache.span d.ram ram)
    (quiet : IsQuiet d (ran_all d i mid em ram)) where
  abbrev of : List ℕ → CachedRun
  of left = run_with o cache v p l left

  input_same : i.faults ≡ d.input.faults
  input_same = ap (λ (f : outside.Faults). f.input) quiet.streams

  output_same : mid.faults ≡ d.output.faults
  output_same = ap (λ (f : outside.Faults). f.output) quiet.streams

  error_same : em.faults ≡ d.error.faults
  error_same = ap (λ (f : outside.Faults). f.error) quiet.streams

  -- a sink failed
  behind : (out e : SinkState) → HasCauses {T = Ending} d (ran_all d i out e ram) (Err refusal.SinkFault) →
      ((left : List ℕ) → d.input.left ≡ Some left →
      FailedAfterRun (told_after (of left) (of left).limit) (cached_report o (of left)) (last_lines o.reports.trace (of left)) d (ran_all d i out e ram) refusal.SinkFault []) →
      RunsOver o cache v p l d (ran_all d i out e ram) (Err refusal.SinkFault)
  behind out e causes broke = record {
    ran = record {
      done = tt;
      refused = tt;
      quiet = λ never. absurd (never tt);
      failed = λ _ left told. failed_so o (of left) d (ran_all d i out e ram) refusal.SinkFault [] (inr (inr (broke left told, a.after left told))) (all_words (of left) d.ram ram (a.after left told));
      causes = causes;
    };
    beyond = kept;
  }

  wrote : (left : List ℕ) → d.input.left ≡ Some left → board_report o h r ≡ cached_report o (of left)
  wrote left told = let b = a.ended left told in report_is o (of left) h r b.machine b.count b.record_is (a.counted left)

  pub report_broke : {out : SinkState} → AppendsPrefix mid.held out.held (board_report o h r) → (board_report o h r ≡ [] → ⊥) → mid.faults ≤ out.faults → Rose mid.faults out.faults →
      RunsOver o cache v p l d (ran_all d i out em ram) (Err refusal.SinkFault)
  report_broke {out} part due later rose =
      let failed : Rose d.output.faults out.faults = subst (λ (n : ℕ). Rose n out.faults) output_same rose in
      behind out em
      (out_causes d (ran_all d i out em ram) refl quiet.ram_same input_same error_same (subst (λ (n : ℕ). n ≤ out.faults) output_same later) failed)
      (λ left told.
      let b = a.ended left told in record {
        output_front = part.0;
        output = Appends-append d.output.held mid.held out.held (end_of (of left)).output (take part.0 (cached_report o (of left))) b.output
            (subst (λ (y : List ℕ). Appends mid.held out.held (take part.0 y)) (wrote left told) part.1);
        error_front = 0;
        error = to_nil d.error.held em.held ((told_after (of left) (of left).limit).error ++ []) (to_nil d.error.held em.held (told_after (of left) (of left).limit).error b.error);
        behind = inl (refl, (λ none. due (wrote left told ∙ none)), failed);
        input = b.input;
        fault = refl;
      })

  -- the report was written, and of the last lines a front
  pub lines_broke : {out e : SinkState} {bus : List AreaData} → Appends mid.held out.held (board_report o h r) → out.faults ≡ mid.faults → bus ≡ h.machine.bus →
      AppendsPrefix em.held e.held (last_told o.reports.trace bus (addresses_in history)) → (last_told o.reports.trace bus (addresses_in history) ≡ [] → ⊥) →
      em.faults ≤ e.faults → Rose em.faults e.faults → RunsOver o cache v p l d (ran_all d i out e ram) (Err refusal.SinkFault)
  lines_broke {out} {e} {bus} written same_out bus_is part due later rose =
      let failed : Rose d.error.faults e.faults = subst (λ (n : ℕ). Rose n e.faults) error_same rose in
      behind out e (err_causes (subst (λ (n : ℕ). n ≤ e.faults) error_same later) failed)
      (λ left told.
      let b = a.ended left told in
      let lines = last_lines o.reports.trace (of left) in
      let q = some_shown o.reports.trace (of left) em.held e.held h.machine bus history bus_is b.machine (a.told left told) part in record {
        output_front = length (cached_report o (of left));
        output = Appends-append d.output.held mid.held out.held (end_of (of left)).output (take (length (cached_report o (of left))) (cached_report o (of left))) b.output
            (subst (λ (y : List ℕ). Appends mid.held out.held y) (wrote left told ∙ sym (take-length (cached_report o (of left)))) written);
        error_front = length (take q.0 lines);
        error = to_nil d.error.held e.held _ (subst (λ (y : List ℕ). Appends d.error.held e.held ((told_after (of left) (of left).limit).error ++ y)) (sym (seam q.0 lines _))
            (Appends-append d.error.held em.held e.held (told_after (of left) (of left).limit).error (take q.0 lines) b.error q.1));
        behind = inr (
          refl,
          (λ none. due (last_is o.reports.trace (of left) h.machine bus history bus_is b.machine (a.told left told) ∙ left_empty lines _ none)),
          same_out ∙ output_same,
          failed,
        );
        input = b.input;
        fault = refl;
      })
    where
      err_causes : d.error.faults ≤ e.faults → Rose d.error.faults e.faults → HasCauses {T = Ending} d (ran_all d i out e ram) (Err refusal.SinkFault)
      err_causes later rose =
          let still : out.faults ≡ d.output.faults = same_out ∙ output_same in
          causes_of d (ran_all d i out e ram) (Err refusal.SinkFault) (no_cause refl (λ x. let bad : ⊥ = cc in bad)) (no_cause quiet.ram_same (λ x. let bad : ⊥ = cc in bad))
          (record {
            input = no_cause input_same (λ x. let bad : ⊥ = cc in bad);
            sinks = record { one_later = omega (arith, still); other_later = later; cause = λ _. inr rose; one_told = inl still; other_told = inr refl };
            once = λ x. let bad : ⊥ = cc in absurd bad;
          })

  -- both were written
  pub run_ended : {out e : SinkState} {bus : List AreaData} {x : Ending} → Appends mid.held out.held (board_report o h r) → out.faults ≡ mid.faults → bus ≡ h.machine.bus →
      Appends em.held e.held (last_told o.reports.trace bus (addresses_in history)) → e.faults ≡ em.faults → x ≡ ending_by h.machine.ending h.machine.pc h.machine.steps →
      RunsOver o cache v p l d (ran_all d i out e ram) (Ok x)
  run_ended {out} {e} {bus} {x} written same_out bus_is shown same_err ending = record {
    ran = record {
      done = λ left told.
          let b = a.ended left told in record {
            ran = record {
              ending = ending ∙ ap (λ (m : Machine). ending_by m.ending m.pc m.steps) b.machine;
              input = b.input;
              output = Appends-append d.output.held mid.held out.held (end_of (of left)).output (cached_report o (of left)) b.output
                  (subst (λ (y : List ℕ). Appends mid.held out.held y) (wrote left told) written);
              error = to_nil d.error.held e.held (shown_error o.reports.trace (of left))
                  (all_shown o.reports.trace (of left) d.error.held em.held e.held h.machine bus history bus_is b.machine (a.told left told) b.error shown);
            };
            cached = cached_run_is (of left) h r i.left d.output.held mid.held d.error.held em.held d.ram ram b (a.short left told) (a.after left told) (a.counted left);
          };
      refused = tt;
      quiet = tt;
      failed = tt;
      causes = calm_causes d (ran_all d i out e ram) (Ok x) tt refl quiet.ram_same
          (ap (λ (n : ℕ). record (stream_faults d) { input = i.faults; output = n; error = e.faults }) same_out
          ∙ ap (λ (n : ℕ). record (stream_faults d) { input = i.faults; output = mid.faults; error = n }) same_err ∙ quiet.streams);
    };
    beyond = kept;
  }

-- ---- from the run of a file's program to the command's answer

-- the run over it is the run in the cache that the options name
pub in_cache : (o : RunOptions) (cache : CacheOptions) (v : ImageData) (p : ProgramData) (l : Layout) (d m : Devices) (r : Result Ending Refusal) (k : Cache) → k ≡ cache_for cache v →
    RunsOver o k v p l d m r → RunsOver o (cache_for cache v) v p l d m r
in_cache o cache v p l d m r k is run = subst (λ (x : Cache). RunsOver o x v p l d m r) is run

-- ---- what the command answers

done_again : (o : RunOptions) (r : CachedRun) (d m : Devices) (s : ShelfState) (e : Ending) → RunsCached o r (record d { shelf = s }) m e [] → RunsCached o r d m e []
done_again o r d m s e h = record {
  ran = let a = h.ran in record { ending = a.ending; input = a.input; output = a.output; error = a.error };
  cached = h.cached;
}

left_again : (o : RunOptions) (k : CachedRun) (d m : Devices) (s : ShelfState) (r : Refusal) → CachedFailed o k (record d { shelf = s }) m r [] → CachedFailed o k d m r []
left_again o k d m s r h = failed_so o k d m r [] (elim h.broke [
  | inl a ↦ inl (record {
    fault = a.fault;
    fetched = a.fetched;
    fetches = a.fetches;
    steps = a.steps;
    within = a.within;
    enough = a.enough;
    longest = a.longest;
    output = a.output;
    begun = a.begun;
    error = a.error;
    input = a.input;
    last_failed = a.last_failed;
  })
  | inr b ↦ inr (elim b [
    | inl a ↦ inl (record { failed = a.failed; ram = a.ram })
    | inr p ↦ let a = p.0 in inr (record { output_front = a.output_front; output = a.output; error_front = a.error_front; error = a.error; behind = a.behind; input = a.input; fault = a.fault }, p.1)
  ])
]) h.fetched_at

-- either way
pub cached_answers : (name : List ℕ) (cache : CacheOptions) (o : RunOptions) (d : Devices) (s : ShelfState) (i : SourceState) (out e : SinkState) (ram : RamState) (bytes : List ℕ) (v : ImageData) (l : Layout) (r : Result Ending Refusal) →
    size_refusal cache.cache_bytes (length d.ram.words) ≡ None → IsRead d.shelf s name bytes → IsAccepted (cached_checks o.limits cache bytes) →
    IsImageFor bytes cache.block_words (image_in bytes) v → room_in bytes o.limits ≡ Ok l →
    RunsOver o (cache_for cache v) v (program_of_file bytes) l (record d { shelf = s }) (cached_to d s i out e ram) r →
    Answers (cached_task name cache o) d (cached_to d s i out e ram) r []
cached_answers name cache o d s i out e ram bytes v l (Ok x) size read accepted own room run =
    let m : Devices = cached_to d s i out e ram in record {
      asked = λ y. let bad : ⊥ = cc in bad;
      sized = sized_along (size_refusal cache.cache_bytes (length d.ram.words)) (Ok x) size (sized_ok x);
      checked = λ file are. subst (λ (f : List ℕ). IsAccepted (cached_checks o.limits cache f)) (read_is read are refl) accepted;
      long = λ limit y. absurd (let bad : ⊥ = cc in bad);
      ended = tt;
      done = λ file are. subst (λ (f : List ℕ). (cached_task name cache o).does f d m x []) (read_is read are refl) (
        v,
        own,
        run.beyond,
        λ input left. done_again o _ d m s x
            (subst (λ (q : FlatState). RunsCached o (cached_run (cache_for cache v) o v q) (record d { shelf = s }) m x []) (start_is o bytes input l room) (run.ran.done input left)),
      );
      failed = tt;
      refused = tt;
      shelf = keeps_read (cached_task name cache o) d.shelf s name bytes (Ok x) refl refl read (refl, refl) refl (λ y. let never : ⊥ = cc in never);
      input = tt;
      ram = keeps_run cache v d.ram ram run.beyond;
      causes = causes_behind d s m (Ok x) read.faults run.ran.causes;
    }
cached_answers name cache o d s i out e ram bytes v l (Err r) size read accepted own room run =
    let m : Devices = cached_to d s i out e ram in record {
      asked = run_err_not r refusal.Usage run.ran.refused (λ x. x);
      sized = sized_along (size_refusal cache.cache_bytes (length d.ram.words)) (Err r) size (sized_err r (run_err_size r run.ran.refused));
      checked = λ file are. subst (λ (f : List ℕ). IsChecked (cached_checks o.limits cache f) s.last_failed (Err r)) (read_is read are refl)
          (run_err_checked (cached_checks o.limits cache bytes) s.last_failed r run.ran.refused accepted);
      long = none_long (cached_task name cache o) d.shelf.contents r (run_err_short r run.ran.refused);
      ended = tt;
      done = tt;
      failed = λ fault file are. subst (λ (f : List ℕ). (cached_task name cache o).fails f d m r []) (read_is read are refl) (
        v,
        own,
        run.beyond,
        λ input left. left_again o _ d m s r
            (subst (λ (q : FlatState). CachedFailed o (cached_run (cache_for cache v) o v q) (record d { shelf = s }) m r []) (start_is o bytes input l room) (run.ran.failed fault input left)),
      );
      refused = λ never. let same_all : m ≡ record d { shelf = s } = run.ran.quiet never in (
        record { input = ap (λ (y : Devices). y.input) same_all; output = ap (λ (y : Devices). y.output) same_all; ram = ap (λ (y : Devices). y.ram) same_all },
        subst (λ (y : SinkState). Appends d.error.held y.held []) (sym (ap (λ (y : Devices). y.error) same_all)) (Appends-none d.error.held),
      );
      shelf = keeps_read (cached_task name cache o) d.shelf s name bytes (Err r) refl refl read (run_err_asked s.last_failed r run.ran.refused) (run_err_given s.last_failed r run.ran.refused) (run_err_not r refusal.ShelfFault run.ran.refused (λ x. x));
      input = tt;
      ram = keeps_run cache v d.ram ram run.beyond;
      causes = causes_behind d s m (Err r) read.faults run.ran.causes;
    }

-- ---- the last line behind it

ram_line : (c : CachedRun) (d m : Devices) (r : Refusal) (held : Option (List ℕ)) (line : List ℕ) →
    RamBroke c d m r [] → Appends m.error.held held line → RamBroke c d (holds_then m held) r line
ram_line c d m r held line h p = record {
  fault = h.fault;
  fetched = h.fetched;
  fetches = h.fetches;
  steps = h.steps;
  within = h.within;
  enough = h.enough;
  longest = h.longest;
  output = h.output;
  begun = h.begun;
  error = appends_last d.error.held m.error.held held ((told_after c h.steps).error ++ (if h.begun then told_line c.trace (program_after c h.steps).machine else [])) line h.error p;
  input = h.input;
  last_failed = h.last_failed;
}

step_lined : (c : CachedRun) (d m : Devices) (r : Refusal) (held : Option (List ℕ)) (line : List ℕ) →
    StreamBroke c d m r [] → Appends m.error.held held line → StreamBroke c d (holds_then m held) r line
step_lined c d m r held line h p = record {
  failed = record {
    steps = h.failed.steps;
    fewer = h.failed.fewer;
    failed = step_line ((run.told_steps c).coming h.failed.steps) d m r held line h.failed.failed p;
  };
  ram = h.ram;
}

pub cached_lined : (name : List ℕ) (cache : CacheOptions) (o : RunOptions) → IsLined (cached_task name cache o)
cached_lined name cache o = record {
  done = λ file d m e error is h p same. (
    h.0,
    h.1,
    h.2,
    λ input left. let r = h.3 input left in record { ran = ran_line _ _ d m e error (ending_line e) r.ran p; cached = r.cached },
  );
  failed = λ file d m r held line h p. (
    h.0,
    h.1,
    h.2,
    λ input is. let f = h.3 input is in record {
      broke = elim f.broke [
        | inl a ↦ inl (ram_line (cached_run (cache_for cache h.0) o h.0 (start_of o file input)) d m r held line a p)
        | inr b ↦ inr (elim b [
          | inl a ↦ inl (step_lined (cached_run (cache_for cache h.0) o h.0 (start_of o file input)) d m r held line a p)
          | inr a ↦ inr (after_run_line _ _ _ d m r held line a.0 p, a.1)
        ])
      ];
      fetched_at = f.fetched_at;
      flat = f.flat;
      stops = f.stops;
    },
  );
  unended = λ file d m e error is h p never same rose. (
    h.0,
    h.1,
    h.2,
    λ input left.
        let r = h.3 input left in
        let c = cached_run (cache_for cache h.0) o h.0 (start_of o file input) in record { broke = inr (inr (after_line (told_after c c.limit) (shown_error o.reports.trace c) _ (last_lines o.reports.trace c) d m e error (shown_split o.reports.trace c) r.ran p never same rose, r.cached.ram)); fetched_at = all_words c d.ram m.ram r.cached.ram; flat = r.cached.flat; stops = r.cached.stops },
  );
  unwritten = λ e out is never named. let bad : ⊥ = cc in bad;
}
