-- The run of a made program, and what a command answers that measures it.
use Rattle.std.proofs.Common.{◌≡◌, ◌⊎◌, inl, inr, ℕ, ◌*◌, ◌^◌, ◌≤◌, List, [], ◌∷◌, ◌++◌, length, take, Option, None, Result, Ok, Err, IfOk, IfErr, OnErr, IsErrOf, refl, sym, ◌∙◌, subst, ap, arith, nat_lt, false}
use Rattle.std.proofs.lemmas.Bool.Decides.{nat_tests}
use Rattle.std.proofs.lemmas.List.{append-nil}
use Rattle.std.specs.List.{AllZip}
use Rattle.std.specs.Io.KnownBytes.{Appends}
use Rattle.swi_outside.specs.Causes.{DeviceCause, HasCause, Rose}
use Rattle.swi_outside.specs.CacheRam.{KeepsBeyond, RamState}
use Rattle.swi_outside.specs.Laws.{Appends-append, Appends-none, no_cause, none_named}
use Rattle.swi_outside.specs.Shelf.{ShelfState}
use Rattle.swi_outside.specs.Sink.{AppendsPrefix, SinkState}
use Rattle.swi_isa.specs.declared.instr.Instr.{Instr}
use Rattle.swi_memory.specs.declared.layout.Layout.{Layout}
use Rattle.swi_program.specs.declared.placement.Room.{Room}
use Rattle.swi_program.specs.Layout.{highest_end, laid_out, stack_end}
use Rattle.swi_program.specs.Program.{ProgramData}
use Rattle.swi_program.specs.ProgramOf.{bytes_of_words, program_of_text}
use Rattle.swi_program.specs.Text.{text_of}
use Rattle.swi_make.specs.Listing.{instructions_of}
use Rattle.swi_make.specs.Made.{IsMade, IsWordOf}
use Rattle.swi_make.specs.Numbers.{all_additions}
use Rattle.swi_image.specs.Format.{ImageData}
use Rattle.swi_render.specs.Cut.{Fits}
use Rattle.swi_command.specs.declared.command.CacheOptions.{CacheOptions}
use Rattle.swi_calls.specs.declared.machine.Machine.{Machine}
use Rattle.swi_rom.specs.Record.{Record}
use Rattle.swi_rom.specs.Service.{Cache}
use Rattle.swi_hart.specs.Hart.{HartData}
use Rattle.swi_report.specs.declared.stats.Work.{Work}
use Rattle.swi_report.specs.declared.summary.Measured.{Measured}
use Rattle.swi_report.specs.Summary.{head_counts, summary_text_of}
use Rattle.swi_cached.specs.Cached.{CachedRun, IsCounted, end_of, instructions_after}
use Rattle.swi_cached.specs.Answers as run
use Rattle.swi_answer.specs.declared.answer.Ending.{Ending}
use Rattle.swi_answer.specs.declared.answer.Refusal.{Refusal}
use Rattle.swi_answer.specs.declared.answer.Refusal.TheVariants as refusal
use Rattle.swi_answer.specs.Lines.{ending_line}
use Rattle.swi_task.specs.Answers.{Answers, AreGiven, HasPassed, HasStored, IsAskedFor, KeepsShelf, writes_in}
use Rattle.swi_task.specs.Task.{Task}
use Rattle.swi_cached_task.specs.Caching.{IsCachedRun, board_work, cache_for}
use Rattle.swi_task.specs.Causes.{HasCauses}
use Rattle.swi_task.specs.Checks.{HoldsBlock, Fails, IsLong, IsRefusedBy, size_refusal}
use Rattle.swi_task.specs.Devices.{Devices, stream_faults}
use Rattle.swi_outside.specs.Source.{SourceState, HasGiven}
use Rattle.swi_outside.specs.Told.{AsTold}
use Rattle.swi_outside.proofs.ToldLemmas.{as_told_said}
use Rattle.swi_rom.specs.Service.{ServiceOf}
use Rattle.swi_board.specs.Board.{BoardOf, Around}
use Rattle.swi_cached.specs.declared.run.CachedStop.{CachedStop}
use Rattle.swi_cached.specs.Answers.{InSteps}
use Rattle.swi_cached.specs.CachedRan.{Given}
use Rattle.swi_measure_command.specs.MeasureMade.{IsMadeRun, MadeRamFailed, MadeRan, MadeRunBroke, MeasuresOver, SummaryBroke, board_summary, made_ending, made_ending_by, made_run, made_summary, measure_checks, measure_task, nowhere, summary_by}
use Rattle.swi_task.proofs.Refusals.{asked_none, calm_causes, causes_of, checked_by, contents_stay, gave_none, given_all, given_short, late, none_before, none_long, none_longer, out_causes, passed_none, refused_late, rose_cause, same_all, short_refused, sized_along, sized_err, sized_ok, stores_none}
use Rattle.swi_cached_task.proofs.Caching.{cached_run_is, keeps_run, work_is}
use Rattle.swi_task.proofs.Due.{some_bytes}
use Rattle.swi_task.proofs.Lines.{IsLined, appends_as, appends_last, behind_ending, take_all}

-- ---- a seed and a number make one program

same_words : (is : List Instr) (xs ys : List ℕ) → AllZip IsWordOf is xs → AllZip IsWordOf is ys → xs ≡ ys
same_words [] [] [] a b = refl
same_words [] [] (y ∷ ys) a b = absurd b
same_words [] (x ∷ xs) ys a b = absurd a
same_words (i ∷ is) [] ys a b = absurd a
same_words (i ∷ is) (x ∷ xs) [] a b = absurd b
same_words (i ∷ is) (x ∷ xs) (y ∷ ys) a b =
    ap (λ (w : ℕ). w ∷ xs) (sym (a.0.only y b.0.bits b.0.decodes)) ∙ ap (λ (l : List ℕ). y ∷ l) (same_words is xs ys a.1 b.1)

only_made : (seed functions : ℕ) (p q : ProgramData) → IsMade seed functions p → IsMade seed functions q → p ≡ q
only_made seed functions p q a b =
    a.alone ∙ ap (λ (l : List ℕ). program_of_text 0x10000 (bytes_of_words l)) (same_words (instructions_of (all_additions seed functions)) (text_of p.segments).words (text_of q.segments).words a.text b.text)
    ∙ sym b.alone

pub fits_made : (seed functions most : ℕ) (p : ProgramData) → IsMade seed functions p → Fits (text_of p.segments) most →
    (q : ProgramData) → IsMade seed functions q → Fits (text_of q.segments) most
fits_made seed functions most p made fits q other =
    subst (λ (x : ProgramData). Fits (text_of x.segments) most) (only_made seed functions p q made other) fits

pub made_of : (seed functions : ℕ) (text bytes : List ℕ) (p : ProgramData) → p ≡ program_of_text 0x10000 bytes → bytes ≡ text →
    IsMade seed functions (program_of_text 0x10000 text) → IsMade seed functions p
made_of seed functions text bytes p is same made =
    subst (λ (x : ProgramData). IsMade seed functions x) (sym (is ∙ ap (program_of_text 0x10000) same)) made

-- ---- heap and stack find room behind it

no_room : (text : List ℕ) (room : Room) → length text ≤ 2 ^ 21 → Err room ≡ laid_out (program_of_text 0x10000 text).segments 1048576 65536 → ⊥
unfolding laid_out highest_end
no_room text room few e =
    let end : stack_end (program_of_text 0x10000 text).segments 1048576 65536 ≤ 2 ^ 32 = omega (arith, few) in
    let test : nat_lt (2 ^ 32) (stack_end (program_of_text 0x10000 text).segments 1048576 65536) ≡ false = grind (arith, nat_tests) in
    let bad : ⊥ = cc in bad

pub text_room : (text : List ℕ) (p : ProgramData) (room : Room) → p ≡ program_of_text 0x10000 text → length text ≤ 2 ^ 21 →
    Err room ≡ laid_out p.segments 1048576 65536 → ⊥
text_room text p room is few e =
    no_room text room few (e ∙ ap (λ (x : ProgramData). laid_out x.segments 1048576 65536) is)

-- ---- the run and its summary

pub made_ran : (c : CachedRun) (h : HartData) (r : Record) (i o p e f : Option (List ℕ)) (before after : RamState) → run.Ended c h r i o p e f → run.IsShort h →
    run.RamAfter c before after → IsCounted c → MadeRan c h r before after
made_ran c h r i o p e f before after b s ram counted =
    record { machine = b.machine; count = b.count; kept = b.record_is; ran = cached_run_is c h r i o p e f before after b s ram counted }

-- a ram, beside an input without bytes and sinks that keep nothing
abbrev beside : RamState → SourceState → Around
beside ram input = record (nowhere ram) { devices = record (nowhere ram).devices { input = input } }

pub ran_nowhere : {S : Type 0} (k : ServiceOf S) (g : Given) (rom : S) (before after : RamState) (result : Result (BoardOf S × Option (List ℕ)) CachedStop) →
    HasGiven (nowhere before).devices.input (nowhere after).devices.input →
    AsTold (nowhere before).devices.input (nowhere after).devices.input (λ from to. InSteps k g rom (beside before from) (beside after to) result) → InSteps k g rom (nowhere before) (nowhere after) result
ran_nowhere k g rom before after result gave all = as_told_said (λ from to. InSteps k g rom (beside before from) (beside after to) result) gave refl all

summary_is : (functions : ℕ) (p : ProgramData) (v : ImageData) (c : CachedRun) (h : HartData) (r : Record) (before after : RamState) → MadeRan c h r before after →
    board_summary functions p v h r ≡ made_summary functions p v c
summary_is functions p v c h r before after a =
    ap (λ (m : Machine). summary_by functions p v (board_work h.count m.ending r) m.ending m.steps) a.machine
    ∙ ap (λ (n : ℕ). summary_by functions p v (board_work n (end_of c).machine.ending r) (end_of c).machine.ending (end_of c).machine.steps) a.count
    ∙ ap (λ (k : Record). summary_by functions p v (board_work (instructions_after c c.limit) (end_of c).machine.ending k) (end_of c).machine.ending (end_of c).machine.steps) a.kept
    ∙ ap (λ (w : Work). summary_by functions p v w (end_of c).machine.ending (end_of c).machine.steps) (work_is c a.ran.each)

-- the devices after the command
abbrev pub measured_to : Devices → SinkState → RamState → Devices
measured_to d out ram = record d { output = out; ram = ram }

-- what a run over a service does where it came to its end, and the summary was written
over_done : (functions : ℕ) (k : Cache) (p : ProgramData) (l : Layout) (v : ImageData) (d : Devices) (out : SinkState) (ram : RamState) (h : HartData) (r : Record) (e : Ending) →
    MadeRan (made_run k p l v) h r d.ram ram → KeepsBeyond k.span d.ram ram → ram.faults ≡ d.ram.faults → e ≡ made_ending_by h.machine.ending h.machine.pc h.machine.steps →
    Appends d.output.held out.held (board_summary functions p v h r) → out.faults ≡ d.output.faults → MeasuresOver functions k v p l d (measured_to d out ram) (Ok e)
over_done functions k p l v d out ram h r e ran beyond ram_is ending written still =
    let c = made_run k p l v in record {
      ran = record {
        done = record {
          ending = ending ∙ ap (λ (m : Machine). made_ending_by m.ending m.pc m.steps) ran.machine;
          output = subst (λ (x : List ℕ). Appends d.output.held out.held x) (summary_is functions p v c h r d.ram ram ran) written;
          ran = ran.ran;
        };
        refused = tt;
        quiet = tt;
        failed = tt;
        causes = calm_causes d (measured_to d out ram) (Ok e) tt refl ram_is (ap (λ (n : ℕ). record (stream_faults d) { output = n }) still);
      };
      beyond = beyond;
    }

-- where the summary was not written whole
over_summary_broke : (functions : ℕ) (k : Cache) (p : ProgramData) (l : Layout) (v : ImageData) (d : Devices) (out : SinkState) (ram : RamState) (h : HartData) (r : Record) →
    MadeRan (made_run k p l v) h r d.ram ram → KeepsBeyond k.span d.ram ram → ram.faults ≡ d.ram.faults → AppendsPrefix d.output.held out.held (board_summary functions p v h r) →
    (board_summary functions p v h r ≡ [] → ⊥) → d.output.faults ≤ out.faults → Rose d.output.faults out.faults → MeasuresOver functions k v p l d (measured_to d out ram) (Err refusal.SinkFault)
over_summary_broke functions k p l v d out ram h r ran beyond ram_is part due later rose =
    let c = made_run k p l v in record {
      ran = record {
        done = tt;
        refused = tt;
        quiet = λ never. absurd (never tt);
        failed = λ _. inr (
          record {
            fault = refl;
            output_front = part.0;
            output = subst (λ (x : List ℕ). Appends d.output.held out.held (take part.0 x)) (summary_is functions p v c h r d.ram ram ran) part.1;
            error_front = 0;
            error = Appends-none d.error.held;
            behind = inl (refl, (λ none. due (summary_is functions p v c h r d.ram ram ran ∙ none)), rose);
          },
          ran.ran,
        );
        causes = out_causes d (measured_to d out ram) refl ram_is refl refl later rose;
      };
      beyond = beyond;
    }

ram_causes : (d : Devices) (ram : RamState) → d.ram.faults ≤ ram.faults → Rose d.ram.faults ram.faults → HasCauses {T = Ending} d (record d { ram = ram }) (Err refusal.RamFault)
ram_causes d ram later rose =
    causes_of d (record d { ram = ram }) (Err refusal.RamFault) (no_cause refl (λ x. let never : ⊥ = cc in never)) (rose_cause d.ram.faults ram.faults _ refl later rose)
    (none_named refl (λ x. let never : ⊥ = cc in never) (λ x. let never : ⊥ = cc in never))

-- where the ram failed in it
over_run_broke : (functions : ℕ) (k : Cache) (p : ProgramData) (l : Layout) (v : ImageData) (d : Devices) (ram : RamState) → KeepsBeyond k.span d.ram ram → d.ram.faults ≤ ram.faults →
    Rose d.ram.faults ram.faults → MadeRamFailed (made_run k p l v) d.ram ram → MeasuresOver functions k v p l d (record d { ram = ram }) (Err refusal.RamFault)
over_run_broke functions k p l v d ram beyond later rose failed = record {
  ran = record {
    done = tt;
    refused = tt;
    quiet = λ never. absurd (never tt);
    failed = λ _. inl (record { fault = refl; ram = failed; output = refl; error = Appends-none d.error.held });
    causes = ram_causes d ram later rose;
  };
  beyond = beyond;
}

-- where there was no memory
over_memory : (functions : ℕ) (k : Cache) (p : ProgramData) (l : Layout) (v : ImageData) (d : Devices) → KeepsBeyond k.span d.ram d.ram → MeasuresOver functions k v p l d d (Err refusal.Memory)
over_memory functions k p l v d beyond = record {
  ran = record {
    done = tt;
    refused = tt;
    quiet = λ _. refl;
    failed = λ f. absurd f;
    causes = calm_causes d d (Err refusal.Memory) tt refl refl refl;
  };
  beyond = beyond;
}

-- where it was refused
pub over_refused : {T : Type 0} (functions : ℕ) (k : Cache) (p : ProgramData) (l : Layout) (v : ImageData) (d : Devices) (ram : RamState) (r : Refusal) →
    KeepsBeyond k.span d.ram ram → ((r ≡ refusal.Memory) × (ram ≡ d.ram)) ⊎ ((r ≡ refusal.RamFault) × MadeRamFailed (made_run k p l v) d.ram ram) →
    DeviceCause d.ram.faults ram.faults (IsErrOf {T = T} (Err r) refusal.RamFault) → MeasuresOver functions k v p l d (record d { ram = ram }) (Err r)
over_refused functions k p l v d ram r beyond why cause =
    let Goal : RamState → Refusal → Type 0 = λ s x. MeasuresOver functions k v p l d (record d { ram = s }) (Err x) in
    elim why [
      | inl m ↦ subst (λ (x : Refusal). Goal ram x) (sym m.0)
          (subst (λ (s : RamState). Goal s refusal.Memory) (sym m.1)
          (over_memory functions k p l v d (subst (λ (s : RamState). KeepsBeyond k.span d.ram s) m.1 beyond)))
      | inr e ↦ subst (λ (x : Refusal). Goal ram x) (sym e.0)
          (over_run_broke functions k p l v d ram beyond cause.later (cause.cause (ap (λ (x : Refusal). Err x) e.0)) e.1)
    ]

-- where it came to its end, and the summary was written, or not
pub over_summarized : (functions : ℕ) (k : Cache) (p : ProgramData) (l : Layout) (v : ImageData) (d : Devices) (out : SinkState) (ram : RamState) (h : HartData) (m : Record) (r : Result Ending Refusal) →
    MadeRan (made_run k p l v) h m d.ram ram → KeepsBeyond k.span d.ram ram → ram.faults ≡ d.ram.faults →
    IfOk r (λ e. (e ≡ made_ending_by h.machine.ending h.machine.pc h.machine.steps) × Appends d.output.held out.held (board_summary functions p v h m)) →
    IfErr r (λ e. (e ≡ refusal.SinkFault) × AppendsPrefix d.output.held out.held (board_summary functions p v h m)) → OnErr r (board_summary functions p v h m ≡ [] → ⊥) →
    HasCause d.output.faults out.faults r → MeasuresOver functions k v p l d (measured_to d out ram) r
over_summarized functions k p l v d out ram h m (Ok e) ran beyond ram_is done failed due cause =
    over_done functions k p l v d out ram h m e ran beyond ram_is done.0 done.1 cause.quiet
over_summarized functions k p l v d out ram h m (Err r) ran beyond ram_is done failed due cause =
    subst (λ (x : Refusal). MeasuresOver functions k v p l d (measured_to d out ram) (Err x)) (sym failed.0)
    (over_summary_broke functions k p l v d out ram h m ran beyond ram_is failed.1 due cause.later cause.failed)

-- ---- from the run over a service to what the command answers

-- nothing passed
none_passed : (seed functions : ℕ) (cache : CacheOptions) (s : ShelfState) (r : Refusal) → IsRefusedBy (measure_checks seed functions cache) r →
    HasPassed (measure_task seed functions cache) s s (Err r) 0
none_passed seed functions cache s r by = passed_none (measure_task seed functions cache) s s r 0 refl refl
    (given_all 0 s.last_failed r (refused_late (measure_checks seed functions cache) r by) (short_refused (measure_checks seed functions cache) r tt by))
    (none_longer (measure_task seed functions cache) s.contents r 0 (short_refused (measure_checks seed functions cache) r tt by))

-- the cache holds no block
pub small_refused : (seed functions : ℕ) (cache : CacheOptions) (p : ProgramData) (d : Devices) (r : Refusal) → size_refusal cache.cache_bytes (length d.ram.words) ≡ None →
    IsMade seed functions p → Fits (text_of p.segments) cache.block_words → Fails (HoldsBlock cache.cache_bytes (4 * cache.block_words)) r →
    Answers (measure_task seed functions cache) d d (Err r) []
small_refused seed functions cache p d r size made fits fails =
    let by = inr (fits_made seed functions cache.block_words p made fits, inl fails) in
    late (measure_task seed functions cache) d d.shelf r 0 0 (refused_late (measure_checks seed functions cache) r by) size (contents_stay d) refl refl
    (λ _ _. checked_by (measure_checks seed functions cache) d.shelf.last_failed r by) (none_long (measure_task seed functions cache) d.shelf.contents r (short_refused (measure_checks seed functions cache) r tt by))
    (asked_none d.shelf.calls) (subst (λ (x : Refusal). IsAskedFor 0 0 d.shelf.last_failed (Err x) 0 0) (sym fails.1) (refl, refl))
    (none_passed seed functions cache d.shelf r by)

-- it leaves the shelf alone
keeps_shelf : (t : Task) (s : ShelfState) (r : Result Ending Refusal) → length t.reads ≡ 0 → t.writes ≡ None → IsAskedFor 0 (writes_in t.writes) s.last_failed r 0 0 →
    AreGiven s.last_failed r 0 0 → (IsErrOf r refusal.ShelfFault → ⊥) → KeepsShelf t s s r
keeps_shelf t s r none unwritten asked given never = record {
  others = λ x _. same_all s.contents x;
  refused = on_err r (λ _. same_all s.contents);
  quiet = λ _. refl;
  failed = λ e. absurd (never e);
  gets = 0;
  puts = 0;
  calls = asked_none s.calls;
  asked = subst (λ (n : ℕ). IsAskedFor n (writes_in t.writes) s.last_failed r 0 0) (sym none) asked;
  passed = record {
    given = [];
    gave = gave_none t.reads s s refl;
    all = given;
    stood = tt;
    accepted = none_before t 0;
    long = λ limit is. absurd (given_short s.last_failed r 0 given limit is);
    stored = subst (λ (o : Option (List ℕ)). HasStored r o s.stored s.stored) (sym unwritten) (stores_none r s.stored);
  };
}
  where
    on_err : {P : Type 0} (r : Result Ending Refusal) → P → OnErr r P
    on_err (Ok v) p = tt
    on_err (Err e) p = p

made_done : (seed functions : ℕ) (cache : CacheOptions) (p : ProgramData) (l : Layout) (v : ImageData) (d : Devices) (out : SinkState) (ram : RamState) (e : Ending) →
    size_refusal cache.cache_bytes (length d.ram.words) ≡ None → IsMadeRun seed functions cache p l v → Fits (text_of p.segments) cache.block_words →
    4 * cache.block_words ≤ cache.cache_bytes → MeasuresOver functions (cache_for cache v) v p l d (measured_to d out ram) (Ok e) →
    Answers (measure_task seed functions cache) d (measured_to d out ram) (Ok e) []
made_done seed functions cache p l v d out ram e size is fits held run = record {
  asked = λ x. let bad : ⊥ = cc in bad;
  sized = sized_along _ _ size (sized_ok e);
  checked = λ _ _. (fits_made seed functions cache.block_words p is.made fits, (held, tt));
  long = λ limit x. absurd (let bad : ⊥ = cc in bad);
  ended = tt;
  done = λ _ _. record {
    program = p;
    layout = l;
    image = v;
    is = is;
    ending = run.ran.done.ending;
    output = run.ran.done.output;
    error = Appends-none d.error.held;
    input = refl;
    ran = run.ran.done.ran;
    beyond = run.beyond;
  };
  failed = tt;
  refused = tt;
  shelf = keeps_shelf (measure_task seed functions cache) d.shelf (Ok e) refl refl (refl, refl) refl (λ x. let never : ⊥ = cc in never);
  input = refl;
  ram = keeps_run cache v d.ram ram run.beyond;
  causes = run.ran.causes;
}

-- a device failed, in the run or behind it
made_failed : (seed functions : ℕ) (cache : CacheOptions) (p : ProgramData) (l : Layout) (v : ImageData) (d : Devices) (out : SinkState) (ram : RamState) (r : Refusal) → (r ≡ refusal.RamFault) ⊎ (r ≡ refusal.SinkFault) →
    size_refusal cache.cache_bytes (length d.ram.words) ≡ None → IsMadeRun seed functions cache p l v → Fits (text_of p.segments) cache.block_words →
    4 * cache.block_words ≤ cache.cache_bytes → KeepsBeyond (cache_for cache v).span d.ram ram → HasCauses {T = Ending} d (measured_to d out ram) (Err r) →
    (let c = made_run (cache_for cache v) p l v in
    MadeRunBroke c d (measured_to d out ram) r [] ⊎ (SummaryBroke (made_ending (end_of c)) (made_summary functions p v c) d (measured_to d out ram) r [] × IsCachedRun c d.ram ram)) →
    Answers (measure_task seed functions cache) d (measured_to d out ram) (Err r) []
made_failed seed functions cache p l v d out ram refusal.RamFault kind size is fits held beyond causes broke = record {
  asked = λ x. let bad : ⊥ = cc in bad;
  sized = sized_along _ _ size (sized_err refusal.RamFault (λ x. x));
  checked = λ _ _. (fits_made seed functions cache.block_words p is.made fits, (held, tt));
  long = none_long (measure_task seed functions cache) d.shelf.contents refusal.RamFault (λ x. x);
  ended = tt;
  done = tt;
  failed = λ _ _ _. record { program = p; layout = l; image = v; is = is; broke = broke; input = refl; beyond = beyond };
  refused = λ never. absurd (never tt);
  shelf = keeps_shelf (measure_task seed functions cache) d.shelf (Err refusal.RamFault) refl refl (refl, refl) refl (λ x. let never : ⊥ = cc in never);
  input = refl;
  ram = keeps_run cache v d.ram ram beyond;
  causes = causes;
}
made_failed seed functions cache p l v d out ram refusal.SinkFault kind size is fits held beyond causes broke = record {
  asked = λ x. let bad : ⊥ = cc in bad;
  sized = sized_along _ _ size (sized_err refusal.SinkFault (λ x. x));
  checked = λ _ _. (fits_made seed functions cache.block_words p is.made fits, (held, tt));
  long = none_long (measure_task seed functions cache) d.shelf.contents refusal.SinkFault (λ x. x);
  ended = tt;
  done = tt;
  failed = λ _ _ _. record { program = p; layout = l; image = v; is = is; broke = broke; input = refl; beyond = beyond };
  refused = λ never. absurd (never tt);
  shelf = keeps_shelf (measure_task seed functions cache) d.shelf (Err refusal.SinkFault) refl refl (refl, refl) refl (λ x. let never : ⊥ = cc in never);
  input = refl;
  ram = keeps_run cache v d.ram ram beyond;
  causes = causes;
}
made_failed seed functions cache p l v d out ram _ kind size is fits held beyond causes broke = absurd (elim kind [ inl e ↦ let bad : ⊥ = cc in bad | inr e ↦ let bad : ⊥ = cc in bad ])

-- a cache that is not refused lies in the ram
pub ram_holds : (bytes words : ℕ) → size_refusal bytes words ≡ None → bytes ≤ 4 * words
ram_holds bytes words e = grind (arith, nat_tests)

-- where there was no memory nothing has changed
no_measure : (seed functions : ℕ) (cache : CacheOptions) (d : Devices) → size_refusal cache.cache_bytes (length d.ram.words) ≡ None →
    Answers (measure_task seed functions cache) d d (Err refusal.Memory) []
no_measure seed functions cache d size =
    late (measure_task seed functions cache) d d.shelf refusal.Memory 0 0 tt size (contents_stay d) refl refl (λ _ _. tt)
    (none_long (measure_task seed functions cache) d.shelf.contents refusal.Memory (λ x. x)) (asked_none d.shelf.calls) (omega arith, omega arith, λ _. refl)
    (passed_none (measure_task seed functions cache) d.shelf d.shelf refusal.Memory 0 refl refl (omega arith, omega arith)
    (none_longer (measure_task seed functions cache) d.shelf.contents refusal.Memory 0 (λ x. x)))

pub made_memory : (seed functions : ℕ) (cache : CacheOptions) (d : Devices) (r : Refusal) → size_refusal cache.cache_bytes (length d.ram.words) ≡ None → r ≡ refusal.Memory →
    Answers (measure_task seed functions cache) d d (Err r) []
made_memory seed functions cache d r size is = subst (λ (x : Refusal). Answers (measure_task seed functions cache) d d (Err x) []) (sym is) (no_measure seed functions cache d size)

-- or an instruction does not fit into a block
pub made_long : (seed functions : ℕ) (cache : CacheOptions) (p : ProgramData) (d : Devices) (r : Refusal) → size_refusal cache.cache_bytes (length d.ram.words) ≡ None →
    IsMade seed functions p → (r ≡ refusal.Memory) ⊎ IsLong (text_of p.segments) cache.block_words r → Answers (measure_task seed functions cache) d d (Err r) []
made_long seed functions cache p d r size made why = elim why [
  | inl e ↦ made_memory seed functions cache d r size e
  | inr long ↦ by (inl (p, made, long)) (subst (λ (x : Refusal). IsAskedFor 0 0 d.shelf.last_failed (Err x) 0 0) (sym long.2) ((omega arith, λ some. omega (arith, some)), refl))
]
  where
    by : IsRefusedBy (measure_checks seed functions cache) r → IsAskedFor 0 0 d.shelf.last_failed (Err r) 0 0 → Answers (measure_task seed functions cache) d d (Err r) []
    by fails asked =
        late (measure_task seed functions cache) d d.shelf r 0 0 (refused_late (measure_checks seed functions cache) r fails) size (contents_stay d) refl refl
        (λ _ _. checked_by (measure_checks seed functions cache) d.shelf.last_failed r fails)
        (none_long (measure_task seed functions cache) d.shelf.contents r (short_refused (measure_checks seed functions cache) r tt fails)) (asked_none d.shelf.calls) asked
        (none_passed seed functions cache d.shelf r fails)

-- the command answers what the run over its cache does
pub measured_so : (seed functions : ℕ) (cache : CacheOptions) (p : ProgramData) (l : Layout) (v : ImageData) (d : Devices) (out : SinkState) (ram : RamState) (r : Result Ending Refusal) (k : Cache) → k ≡ cache_for cache v →
    size_refusal cache.cache_bytes (length d.ram.words) ≡ None → IsMadeRun seed functions cache p l v → Fits (text_of p.segments) cache.block_words →
    4 * cache.block_words ≤ cache.cache_bytes → MeasuresOver functions k v p l d (measured_to d out ram) r → Answers (measure_task seed functions cache) d (measured_to d out ram) r []
measured_so seed functions cache p l v d out ram r k same size is fits held run = by r (subst (λ (x : Cache). MeasuresOver functions x v p l d (measured_to d out ram) r) same run)
  where
    by : (r : Result Ending Refusal) → MeasuresOver functions (cache_for cache v) v p l d (measured_to d out ram) r → Answers (measure_task seed functions cache) d (measured_to d out ram) r []
    by (Ok e) run = made_done seed functions cache p l v d out ram e size is fits held run
    by (Err refusal.Memory) run = subst (λ (x : Devices). Answers (measure_task seed functions cache) d x (Err refusal.Memory) []) (sym (run.ran.quiet (λ x. x))) (no_measure seed functions cache d size)
    by (Err refusal.RamFault) run = made_failed seed functions cache p l v d out ram refusal.RamFault (inl refl) size is fits held run.beyond run.ran.causes (run.ran.failed tt)
    by (Err refusal.SinkFault) run = made_failed seed functions cache p l v d out ram refusal.SinkFault (inr refl) size is fits held run.beyond run.ran.causes (run.ran.failed tt)
    by (Err _) run = absurd run.ran.refused

-- ---- the last line behind it

pub measure_lined : (seed functions : ℕ) (cache : CacheOptions) → IsLined (measure_task seed functions cache)
measure_lined seed functions cache = record {
  done = λ files d m e error is h p same. record {
    program = h.program;
    layout = h.layout;
    image = h.image;
    is = h.is;
    ending = h.ending;
    output = h.output;
    error = Appends-append d.error.held m.error.held error.held [] (ending_line e) h.error p;
    input = h.input;
    ran = h.ran;
    beyond = h.beyond;
  };
  failed = λ files d m r held line h p. record {
    program = h.program;
    layout = h.layout;
    image = h.image;
    is = h.is;
    broke = elim h.broke [
      | inl a ↦ inl (record {
        fault = a.fault;
        ram = a.ram;
        output = a.output;
        error = Appends-append d.error.held m.error.held held [] line a.error p;
      })
      | inr a ↦ inr (
        record {
          fault = a.0.fault;
          output_front = a.0.output_front;
          output = a.0.output;
          error_front = a.0.error_front;
          error = appends_last d.error.held m.error.held held _ line a.0.error p;
          behind = a.0.behind;
        },
        a.1,
      )
    ];
    input = h.input;
    beyond = h.beyond;
  };
  unended = λ files d m e error is h p never same rose.
      let c = made_run (cache_for cache h.image) h.program h.layout h.image in
      let summary : List ℕ = made_summary functions h.program h.image c in record {
        program = h.program;
        layout = h.layout;
        image = h.image;
        is = h.is;
        broke = inr (
          record {
            fault = refl;
            output_front = length summary;
            output = appends_as d.output.held m.output.held summary (take (length summary) summary) (take_all summary) h.output;
            error_front = p.0;
            error = appends_as d.error.held error.held (take p.0 (ending_line (made_ending (end_of c)))) (take p.0 (ending_line (made_ending (end_of c))) ++ []) (sym (append-nil _))
                (Appends-append d.error.held m.error.held error.held [] (take p.0 (ending_line (made_ending (end_of c)))) h.error
                (subst (λ (x : Ending). Appends m.error.held error.held (take p.0 (ending_line x))) h.ending p.1));
            behind = behind_ending summary [] p.0 e (made_ending (end_of c)) d m error h.ending never same rose;
          },
          h.ran,
        );
        input = h.input;
        beyond = h.beyond;
      };
  unwritten = λ e out is never named. let bad : ⊥ = cc in bad;
}

-- ---- where a sink failed at a summary, there was something to write

pub summary_due : (m : Measured) (steps : ℕ) (w : Work) → summary_text_of m steps w ≡ [] → ⊥
unfolding head_counts
summary_due m steps w e = some_bytes _ _ e
