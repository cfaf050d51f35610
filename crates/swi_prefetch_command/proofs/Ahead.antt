-- A run on the cached machine beside whose hart an engine copies ahead, from what its parts say.
use Rattle.std.proofs.Common.{◌≡◌, ◌⊎◌, inl, inr, ℕ, suc, ◌+◌, ◌-◌, ◌/◌, ◌^◌, ◌<◌, ◌≤◌, min, List, [], ◌∷◌, ◌++◌, length, take, if◌then◌else◌, Bool, true, Option, None, Some, Result, Ok, Err, IsErrOf, refl, sym, ◌∙◌, subst, ap, arith}
use Rattle.std.proofs.Math.Nat.{div-mul-le_self}
use Rattle.std.proofs.lemmas.List.{append-nil, reverse-reverse}
use Rattle.std.specs.Io.KnownBytes.{Appends}
use Rattle.swi_outside.specs.CacheRam.{Fetch, KeepsBeyond, RamState, since}
use Rattle.swi_outside.specs.Causes.{DeviceCause, Rose, risen}
use Rattle.swi_outside.specs.Devices as outside
use Rattle.swi_outside.specs.Laws.{Appends-append, Appends-none, cause_as, cause_from, named_as, no_cause, none_named, ok_unmoved}
use Rattle.swi_outside.specs.Shelf.{ShelfState}
use Rattle.swi_outside.specs.Sink.{AppendsPrefix, SinkState}
use Rattle.swi_outside.proofs.SinkLemmas.{prefix_last}
use Rattle.swi_outside.specs.Source.{SourceState}
use Rattle.swi_elf_read.specs.Loaded.{image_of as image_in}
use Rattle.swi_memory.specs.Bus.{fetched}
use Rattle.swi_memory.specs.declared.layout.Layout.{Layout}
use Rattle.swi_program.specs.Program.{ProgramData}
use Rattle.swi_program.specs.ProgramOf.{program_of_file}
use Rattle.swi_image.specs.Format.{ImageData}
use Rattle.swi_command.specs.declared.command.CacheOptions.{CacheOptions}
use Rattle.swi_command.specs.declared.command.Reports.{Reports}
use Rattle.swi_command.specs.declared.command.RunOptions.{RunOptions}
use Rattle.swi_calls.specs.declared.end.End.{End}
use Rattle.swi_calls.specs.declared.machine.Machine.{Machine}
use Rattle.swi_calls.specs.Flat.{machine_of}
use Rattle.swi_calls.specs.Held.{held_run}
use Rattle.swi_calls.specs.Laws.{held_is_flat, held_stops}
use Rattle.swi_calls.specs.State.{FlatState}
use Rattle.swi_render.specs.Carried.{Carries}
use Rattle.swi_rom.specs.Coherent.{Coherent}
use Rattle.swi_rom.specs.Record.{Record, writes}
use Rattle.swi_rom.specs.Service.{Setting}
use Rattle.swi_report.specs.declared.engine.EngineWork.{EngineWork}
use Rattle.swi_report.specs.declared.stats.Work.{Work}
use Rattle.swi_report.specs.Engine.{engine_counts, engine_text_of}
use Rattle.swi_hart.specs.declared.fault.BoardFault.{BoardFault}
use Rattle.swi_hart.specs.declared.fault.BoardFault.TheVariants as fault
use Rattle.swi_hart.specs.Hart.{HartData, unbooted}
use Rattle.swi_hart.specs.Leaving.{RamFailed}
use Rattle.swi_board.specs.Board.{BoardOf, Around}
use Rattle.swi_board.specs.Fetching.{HasFetched}
use Rattle.swi_board.specs.Moments.{Moment, event as instruction}
use Rattle.swi_board.specs.Ran.{Unasked, next_of}
use Rattle.swi_run_laws.specs.Broken.{Broke, DeviceBroke, InOrder}
use Rattle.swi_board.proofs.Running.{kept_both}
use Rattle.swi_engine.specs.Engine.{beside, engine_copies, engine_words, span_of}
use Rattle.swi_engine.specs.State.{EngineData, kept_by}
use Rattle.swi_prefetch.specs.Events.{Turn, of_hart, booted, round, rounds, turned_all}
use Rattle.swi_prefetch.specs.Prefetching.{Booted, PrefetchData, empty_for}
use Rattle.swi_prefetch.proofs.Rounds.{turned_more}
use Rattle.swi_prefetch.proofs.RunLaws.{run_breaks, run_ends}
use Rattle.swi_prefetch.proofs.Writing.{booted_written, written}
use Rattle.swi_prefetch.specs.Running.{KeepsBehind, OfBoard, RanTo, RunBroke, whole}
use Rattle.swi_prefetch.specs.Scheduled.{AheadBroke, AheadEnded, AheadRun, AreBegun, end_of, moment_after, moment_of, setting_for, words_of}
use Rattle.swi_prefetch.specs.Tracking.{Begins, point_around}
use Rattle.swi_answer.specs.declared.answer.Ending.{Ending}
use Rattle.swi_answer.specs.declared.answer.Refusal.{Refusal}
use Rattle.swi_answer.specs.declared.answer.Refusal.TheVariants as refusal
use Rattle.swi_answer.specs.Lines.{ending_line}
use Rattle.swi_prefetch_command.specs.declared.command.AheadAsked.{AheadAsked}
use Rattle.swi_task.specs.Answers.{Answers, IsChecked, IsRunFault}
use Rattle.swi_cached_task.specs.Caching.{board_work}
use Rattle.swi_outcome.proofs.Fronts.{front_none, to_nil}
use Rattle.swi_task.specs.Over.{IsRunErr}
use Rattle.swi_task.specs.Causes.{HasCauses}
use Rattle.swi_task.specs.Checks.{IsAccepted, room_in, size_refusal}
use Rattle.swi_task.specs.Devices.{Devices, stream_faults}
use Rattle.swi_prefetch_command.specs.RunAhead.{AheadFailed, HasFetchedEach, IsAheadRun, IsFlatFrom, RamBrokeAhead, RunsAhead, RunsToEnd, RunsWithReport, StepBrokeAhead, StopsFrom, ahead_asked, ahead_from, ahead_report, ahead_run, ahead_span, ahead_task, ahead_work, around, board_report, board_work_with, engine_lines, engine_work, held_coming, report_with}
use Rattle.swi_cached_task.specs.Placing.{cached_checks}
use Rattle.swi_task.specs.Runs.{ending_by, refusal_of, start_of}
use Rattle.swi_task.specs.Subject.{IsImageFor}
use Rattle.swi_cached_task.proofs.Caching.{cached_to, fetches_are, keeps_all, keeps_less, ran_all, risen_min, run_err_asked, run_err_given, run_err_short, run_err_checked, run_err_not, run_err_size}
use Rattle.swi_task.proofs.Due.{left_empty, right_empty}
use Rattle.swi_task.proofs.Starts.{start_is}
use Rattle.swi_task.proofs.Lines.{IsLined, after_line, after_run_line, appends_last, holds_then, ran_line, step_line}
use Rattle.swi_prefetch_command.proofs.Losing.{fetched_each}
use Rattle.swi_task.proofs.Refusals.{IsRead, calm_causes, causes_behind, causes_of, keeps_read, none_long, out_causes, read_is, rose_cause, same_count, sized_along, sized_err, sized_ok}

-- ---- numbers and texts

-- the words of service and engine, together a number of 64 bits
pub sum_most : (a b m : ℕ) → min (min a m + b) m ≡ min (a + b) m
sum_most a b m = grind arith

pub first_due : (xs ys : List ℕ) → (xs ≡ [] → ⊥) → xs ++ ys ≡ [] → ⊥
first_due xs ys some none = some (left_empty xs ys none)

engine_some : (w : EngineWork) → engine_text_of w ≡ [] → ⊥
unfolding engine_counts
engine_some w none = cc

pub engine_due : (xs : List ℕ) (r : Reports) (w : EngineWork) → r.stats ≡ true → xs ++ engine_lines r w ≡ [] → ⊥
engine_due xs r w asked none =
    engine_some w (subst (λ (b : Bool). (if b then engine_text_of w else []) ≡ []) asked (right_empty xs (engine_lines r w) none))

-- a report was written, and then a front of the engine's lines
pub engine_front : (before mid after : Option (List ℕ)) (xs ys : List ℕ) (r : Reports) (v w : EngineWork) → Appends before mid xs → AppendsPrefix mid after (engine_text_of v) → r.stats ≡ true → xs ≡ ys → v ≡ w →
    AppendsPrefix before after (ys ++ engine_lines r w)
engine_front before mid after xs ys r v w whole part asked same_text same_work =
    subst (λ (zs : List ℕ). AppendsPrefix before after (zs ++ engine_lines r w)) same_text
    (subst (λ (u : EngineWork). AppendsPrefix before after (xs ++ engine_lines r u)) same_work
    (subst (λ (t : Bool). AppendsPrefix before after (xs ++ (if t then engine_text_of v else []))) (sym asked) (prefix_last before mid after xs (engine_text_of v) whole part)))

abbrev engine_told : ℕ → ℕ → EngineWork
engine_told a b = record { words = a; copies = b }

-- what the engine tells of itself
pub engine_is : (r q : EngineData) (a b : ℕ) → r ≡ q → a ≡ engine_words (kept_by r) → b ≡ engine_copies (kept_by r) → engine_told a b ≡ engine_work (kept_by q)
engine_is r q a b same words copies =
    ap (λ (x : ℕ). engine_told x b) words
    ∙ ap (λ (x : ℕ). engine_told (engine_words (kept_by r)) x) copies
    ∙ ap (λ (e : EngineData). engine_work (kept_by e)) same

-- ---- a whole run

pub boot_memory : (a : AheadAsked) (v : ImageData) (p : ProgramData) (l : Layout) (d : Devices) (ram : RamState) → ram ≡ d.ram → RunsToEnd a v p l d (record d { ram = ram }) (Err refusal.Memory)
boot_memory a v p l d ram same = subst (λ (r : RamState). RunsToEnd a v p l d (record d { ram = r }) (Err refusal.Memory)) (sym same) (record {
  ended = tt;
  refused = inl (refl, refl);
  beyond = keeps_all _ d.ram;
  causes = calm_causes d d (Err refusal.Memory) tt refl refl refl;
})

no_more_risen : (n : ℕ) → n ≡ risen n 0
no_more_risen n = grind arith

-- the ram failed in the boot
pub boot_broke : (a : AheadAsked) (v : ImageData) (p : ProgramData) (l : Layout) (d : Devices) (ram : RamState) → RamFailed (ahead_span a.bytes v) d.ram ram → RunsToEnd a v p l d (record d { ram = ram }) (Err refusal.RamFault)
unfolding turned_all
boot_broke a v p l d ram h = record {
  ended = tt;
  refused = inr (
    tt,
    λ left told. inl (record {
      fault = refl;
      events = [];
      are = inl refl;
      output = Appends-none d.output.held;
      error = Appends-none d.error.held;
      input = told;
      fetches = h.fetches_stay ∙ no_more_risen d.ram.fetches;
      words = h.fetched_at_stays;
      last_failed = h.last_failed;
    }),
  );
  beyond = h.kept;
  causes = causes_of d (record d { ram = ram }) (Err refusal.RamFault) (no_cause refl (λ x. let never : ⊥ = cc in never)) (rose_cause d.ram.faults ram.faults _ refl h.later h.rose)
      (none_named refl (λ x. let never : ⊥ = cc in never) (λ x. let never : ⊥ = cc in never));
}

-- a device failed in the run: the answer's causes
fault_causes : {T U : Type 0} (f : BoardFault) (before after : Devices) → after.shelf.faults ≡ before.shelf.faults → DeviceCause before.ram.faults after.ram.faults (IsErrOf {T = T} (Err f) fault.RamFault) →
    outside.HasCauses (stream_faults before) (stream_faults after) (IsErrOf {T = T} (Err f) fault.SourceFault) (IsErrOf {T = T} (Err f) fault.SinkFault) →
    HasCauses {T = U} before after (Err (refusal_of f))
fault_causes {T} {U} fault.RamFault before after shelf ram streams =
    causes_of before after (Err refusal.RamFault) (no_cause shelf (λ x. let never : ⊥ = cc in never)) (cause_as ram (λ _. refl) (λ _. refl))
    (named_as streams (λ x. let never : ⊥ = cc in absurd never) (λ x. let never : ⊥ = cc in absurd never) (λ x. let never : ⊥ = cc in absurd never) (λ x. let never : ⊥ = cc in absurd never))
fault_causes {T} {U} fault.SourceFault before after shelf ram streams =
    causes_of before after (Err refusal.SourceFault) (no_cause shelf (λ x. let never : ⊥ = cc in never)) (cause_as ram (λ x. let never : ⊥ = cc in absurd never) (λ x. let never : ⊥ = cc in absurd never))
    (named_as streams (λ _. refl) (λ _. refl) (λ x. let never : ⊥ = cc in absurd never) (λ x. let never : ⊥ = cc in absurd never))
fault_causes {T} {U} fault.SinkFault before after shelf ram streams =
    causes_of before after (Err refusal.SinkFault) (no_cause shelf (λ x. let never : ⊥ = cc in never)) (cause_as ram (λ x. let never : ⊥ = cc in absurd never) (λ x. let never : ⊥ = cc in absurd never))
    (named_as streams (λ x. let never : ⊥ = cc in absurd never) (λ x. let never : ⊥ = cc in absurd never) (λ _. refl) (λ _. refl))

-- the words that these events fetch
words_so : (c : AheadRun) (ts : List Turn) (s : Moment) (before after : RamState) → moment_of c ts ≡ s → after.fetched_at ≡ since before.sets s.words ++ before.fetched_at → HasFetched (words_of c ts) before after
words_so c ts s before after is words =
    words ∙ ap (λ (k : Moment). since before.sets k.words ++ before.fetched_at) (sym is)
    ∙ ap (λ (l : List Fetch). since before.sets l ++ before.fetched_at) (sym (reverse-reverse (moment_of c ts).words))

ram_at : (c : AheadRun) (d m : Devices) (s : Moment) (ts : List Turn) → AreBegun c ts → moment_of c ts ≡ s → m.input.left ≡ Some s.flat.input → Appends d.output.held m.output.held s.flat.output → Appends d.error.held m.error.held s.flat.error →
    m.ram.fetched_at ≡ since d.ram.sets s.words ++ d.ram.fetched_at → m.ram.fetches ≡ risen d.ram.fetches (length s.words) → m.ram.last_failed ≡ true → RamBrokeAhead c d m refusal.RamFault []
ram_at c d m s ts are is input output error words fetches failed = record {
  fault = refl;
  events = ts;
  are = inr are;
  output = subst (λ (k : Moment). Appends d.output.held m.output.held k.flat.output) (sym is) output;
  error = to_nil d.error.held m.error.held (moment_of c ts).flat.error (subst (λ (k : Moment). Appends d.error.held m.error.held k.flat.error) (sym is) error);
  input = input ∙ ap (λ (k : Moment). Some k.flat.input) (sym is);
  fetches = fetches ∙ ap (λ (k : Moment). risen d.ram.fetches (length k.words)) (sym is);
  words = words_so c ts s d.ram m.ram is words;
  last_failed = failed;
}

-- the hart's event behind these
hart_next : (c : AheadRun) (ts : List Turn) → moment_of c (ts ++ of_hart ∷ []) ≡ instruction (beside (setting_for c)) c.image (moment_of c ts)
unfolding turned_all
hart_next c ts = turned_more (setting_for c) c.image ts (of_hart ∷ []) (booted (setting_for c) c.image c.start.machine c.start.input)

ram_from : (c : AheadRun) (d m : Devices) (b : BoardOf EngineData) (before after : outside.Faults) → AheadBroke c fault.RamFault (point_around b (around d)) (point_around b (around m)) before after → RamBrokeAhead c d m refusal.RamFault []
ram_from c d m b before after h = elim h.stopped [
  | inl hart ↦ let broke = hart.broke in elim broke.is [
    | inl is ↦ ram_at c d m broke.reached (rounds c.rate h.made) (record { made = h.made; going = h.going; events = inl refl }) (sym is)
        broke.input broke.output broke.error broke.words broke.fetches broke.last_failed
    | inr is ↦ ram_at c d m broke.reached (rounds c.rate h.made ++ of_hart ∷ []) (record { made = h.made; going = h.going; events = inr (0, inl refl, refl) })
        (hart_next c (rounds c.rate h.made) ∙ sym is) broke.input broke.output broke.error broke.words broke.fetches broke.last_failed
  ]
  | inr engine ↦ ram_at c d m (turned_all (setting_for c) c.image (round engine.made) (moment_after c h.made)) (rounds c.rate h.made ++ round engine.made)
      (record { made = h.made; going = h.going; events = inr (engine.made, inr engine.fewer, refl) })
      (turned_more (setting_for c) c.image (rounds c.rate h.made) (round engine.made) (booted (setting_for c) c.image c.start.machine c.start.input))
      engine.input engine.output engine.error engine.words engine.fetches engine.last_failed
]

step_at : (f : BoardFault) (c : AheadRun) (d m : Devices) (b : BoardOf EngineData) → (f ≡ fault.RamFault → ⊥) → (h : AheadBroke c f (point_around b (around d)) (point_around b (around m)) (stream_faults d) (stream_faults m)) →
    DeviceBroke (beside (setting_for c)) c.image f (moment_after c h.made) (point_around b (around d)) (point_around b (around m)) → Unasked (next_of (moment_after c h.made).flat) (stream_faults d) (stream_faults m) →
    InOrder (moment_after c h.made).flat (point_around b (around d)) (point_around b (around m)) (stream_faults d) (stream_faults m) → StepBrokeAhead c d m (refusal_of f) []
step_at f c d m b other h broke unasked order =
    let going = h.going h.made (omega arith) in
    record {
      events = rounds c.rate h.made;
      are = record { made = h.made; going = h.going; events = inl refl };
      words = words_so c (rounds c.rate h.made ++ of_hart ∷ []) (instruction (beside (setting_for c)) c.image (moment_after c h.made)) d.ram m.ram (hart_next c (rounds c.rate h.made)) broke.words;
      sets = broke.sets;
      failed = record {
        fault = kind f other;
        going = going.0;
        output = (broke.output_front, broke.output);
        error_front = broke.error_front;
        error = to_nil d.error.held m.error.held (s.error ++ take broke.error_front (next_of s).error) broke.error;
        source = λ is. let none = broke.unwritten (named f is) in (
          front_none d.output.held m.output.held s.output (next_of s).output broke.output_front none.0 broke.output,
          to_nil d.error.held m.error.held s.error (front_none d.error.held m.error.held s.error (next_of s).error broke.error_front none.1 broke.error),
        );
        output_failed = λ rose. to_nil d.error.held m.error.held s.error (order.output_failed rose);
        error_failed = λ rose. inr (order.error_failed rose);
        unasked = unasked;
        taken = broke.taken;
        no_more = let few : length broke.taken + length (next_of s).input ≤ length s.input = broke.few in omega arith;
        input = broke.input;
      };
    }
  where
    s : FlatState
    s = (moment_after c h.made).flat

    kind : (f : BoardFault) → (f ≡ fault.RamFault → ⊥) → (refusal_of f ≡ refusal.SourceFault) ⊎ (refusal_of f ≡ refusal.SinkFault)
    kind fault.RamFault other = absurd (other refl)
    kind fault.SourceFault other = inl refl
    kind fault.SinkFault other = inr refl

    named : (f : BoardFault) → refusal_of f ≡ refusal.SourceFault → f ≡ fault.SourceFault
    named fault.SourceFault is = refl
    named fault.RamFault is = absurd (let bad : ⊥ = cc in bad)
    named fault.SinkFault is = absurd (let bad : ⊥ = cc in bad)

step_from : (f : BoardFault) (c : AheadRun) (d m : Devices) (b : BoardOf EngineData) → (f ≡ fault.RamFault → ⊥) → AheadBroke c f (point_around b (around d)) (point_around b (around m)) (stream_faults d) (stream_faults m) →
    StepBrokeAhead c d m (refusal_of f) []
step_from f c d m b other h = elim h.stopped [
  | inl hart ↦ step_at f c d m b other h (of_device f other hart.broke) (hart.unasked other) (hart.in_order other)
  | inr engine ↦ absurd (other engine.told)
]
  where
    of_device : (f : BoardFault) → (f ≡ fault.RamFault → ⊥) → Broke (beside (setting_for c)) c.image f (moment_after c h.made) (point_around b (around d)) (point_around b (around m)) →
        DeviceBroke (beside (setting_for c)) c.image f (moment_after c h.made) (point_around b (around d)) (point_around b (around m))
    of_device fault.RamFault other broke = absurd (other refl)
    of_device fault.SourceFault other broke = broke
    of_device fault.SinkFault other broke = broke

-- the boot and the run over it
module _ (a : AheadAsked) (v : ImageData) (p : ProgramData) (l : Layout) (d : Devices) (first : Option (BoardOf EngineData)) (middle : RamState)
    (boots : Booted v (unbooted (machine_of p l a.run.reports.calls)) (empty_for a.bytes v) d.ram (record { board = first; ram = middle }))
    (begins : Begins v (machine_of p l a.run.reports.calls) a.bytes d.ram first middle) where
  abbrev m : Machine
  m = machine_of p l a.run.reports.calls

  abbrev begun : Around
  begun = record { ram = middle; devices = (around d).devices }

  -- the ram of the boot
  boot_quiet : middle.faults ≡ d.ram.faults
  boot_quiet = by first boots
    where
      by : (o : Option (BoardOf EngineData)) → Booted v (unbooted m) (empty_for a.bytes v) d.ram (record { board = o; ram = middle }) → middle.faults ≡ d.ram.faults
      by None boots = absurd boots
      by (Some b) boots = boots.entered.ram.quiet

  both_kept : (ram : RamState) → KeepsBehind first middle ram → KeepsBeyond (ahead_span a.bytes v) d.ram ram
  both_kept ram kept = by first boots kept
    where
      by : (o : Option (BoardOf EngineData)) → Booted v (unbooted m) (empty_for a.bytes v) d.ram (record { board = o; ram = middle }) → KeepsBehind o middle ram → KeepsBeyond (ahead_span a.bytes v) d.ram ram
      by None boots kept = absurd boots
      by (Some b) boots kept = kept_both (ahead_span a.bytes v) d.ram middle ram boots.entered.ram.kept (subst (λ (s : Setting). KeepsBeyond (span_of s) middle ram) boots.entered.setting kept)

  carries : Carries (fetched m.bus) v
  carries = by first boots
    where
      by : (o : Option (BoardOf EngineData)) → Booted v (unbooted m) (empty_for a.bytes v) d.ram (record { board = o; ram = middle }) → Carries (fetched m.bus) v
      by None boots = absurd boots
      by (Some b) boots = subst (λ (x : Machine). Carries (fetched x.bus) v) (ap (λ (h : HartData). h.machine) boots.entered.hart) boots.entered.fits.image

  -- it came to its end
  pub run_done : (x : PrefetchData) (i : SourceState) (out e : SinkState) (ram : RamState) → m.pc < 2 ^ 32 → KeepsBehind first middle ram →
      RanTo v a.run.limits.steps a.rate (whole first begun) (whole x.board (around (ran_all d i out e ram))) → stream_faults (ran_all d i out e ram) ≡ stream_faults d → ram.faults ≡ middle.faults →
      RunsToEnd a v p l d (ran_all d i out e ram) (Ok x)
  run_done x i out e ram word kept ran streams quiet = record {
    ended = λ left told. each left x.board (run_ends v a.bytes m left a.run.limits.steps a.rate d.ram middle (around d).devices first told boots begins (whole x.board (around (ran_all d i out e ram))) refl ran);
    refused = tt;
    beyond = both_kept ram kept;
    causes = calm_causes d (ran_all d i out e ram) (Ok x) tt refl (quiet ∙ boot_quiet) streams;
  }
    where
      each : (left : List ℕ) (o : Option (BoardOf EngineData)) → OfBoard o (λ b. (made : ℕ) × AheadEnded (ahead_from a v p l left) made b (around d) (around (ran_all d i out e ram))) →
          OfBoard o (λ b. (made : ℕ) × AheadEnded (ahead_from a v p l left) made b (around d) (around (ran_all d i out e ram)) × HasFetchedEach (moment_after (ahead_from a v p l left) made))
      each left None h = absurd h
      each left (Some b) h = (h.0, h.1, fetched_each (setting_for (ahead_from a v p l left)) v m left (rounds a.rate h.0) carries word refl)

  -- or a device failed in it
  pub run_failed : (f : BoardFault) (last : Option (BoardOf EngineData)) (i : SourceState) (out e : SinkState) (ram : RamState) → KeepsBehind first middle ram →
      RunBroke v a.run.limits.steps a.rate (whole first begun) (whole last (around (ran_all d i out e ram))) (Err f) →
      outside.HasCauses (stream_faults d) (stream_faults (ran_all d i out e ram)) (IsErrOf {T = Unit {0}} (Err f) fault.SourceFault) (IsErrOf {T = Unit {0}} (Err f) fault.SinkFault) →
      DeviceCause middle.faults ram.faults (IsErrOf {T = Unit {0}} (Err f) fault.RamFault) → RunsToEnd a v p l d (ran_all d i out e ram) (Err (refusal_of f))
  run_failed f last i out e ram kept broke streams cause = record {
    ended = tt;
    refused = inr (
      is_run f,
      λ left told. by f left first
          (run_breaks v a.bytes m left a.run.limits.steps a.rate d.ram middle (around d).devices first told boots begins f (whole last (around (ran_all d i out e ram))) broke),
    );
    beyond = both_kept ram kept;
    causes = fault_causes {T = Unit {0}} f d (ran_all d i out e ram) refl (cause_from boot_quiet cause) streams;
  }
    where
      is_run : (f : BoardFault) → IsRunFault (refusal_of f)
      is_run fault.RamFault = tt
      is_run fault.SourceFault = tt
      is_run fault.SinkFault = tt

      by : (f : BoardFault) (left : List ℕ) (o : Option (BoardOf EngineData)) →
          OfBoard o (λ b. AheadBroke (ahead_from a v p l left) f (point_around b (around d)) (point_around b (around (ran_all d i out e ram))) (stream_faults d) (stream_faults (ran_all d i out e ram))) →
          RamBrokeAhead (ahead_from a v p l left) d (ran_all d i out e ram) (refusal_of f) [] ⊎ StepBrokeAhead (ahead_from a v p l left) d (ran_all d i out e ram) (refusal_of f) []
      by f left None broke = absurd broke
      by fault.RamFault left (Some b) broke = inl (ram_from (ahead_from a v p l left) d (ran_all d i out e ram) b (stream_faults d) (stream_faults (ran_all d i out e ram)) broke)
      by fault.SourceFault left (Some b) broke = inr (step_from fault.SourceFault (ahead_from a v p l left) d (ran_all d i out e ram) b (λ x. cc) broke)
      by fault.SinkFault left (Some b) broke = inr (step_from fault.SinkFault (ahead_from a v p l left) d (ran_all d i out e ram) b (λ x. cc) broke)

-- ---- the report

-- what the board tells is what its run has done
work_is : (b : BoardOf EngineData) (s : Moment) → b.hart.count ≡ s.count → b.hart.machine.ending ≡ s.flat.machine.ending → kept_by b.rom ≡ s.kept → HasFetchedEach s → board_work_with b.hart (kept_by b.rom) ≡ ahead_work s
work_is b s count ending kept each =
    ap (λ (n : ℕ). record (board_work n b.hart.machine.ending (kept_by b.rom)) { writes = min (writes (kept_by b.rom) + engine_words (kept_by b.rom)) (2 ^ 64 - 1) }) count
    ∙ ap (λ (x : Option End). record (board_work s.count x (kept_by b.rom)) { writes = min (writes (kept_by b.rom) + engine_words (kept_by b.rom)) (2 ^ 64 - 1) }) ending
    ∙ ap (λ (r : Record). record (board_work s.count s.flat.machine.ending r) { writes = min (writes r + engine_words r) (2 ^ 64 - 1) }) kept
    ∙ ap (λ (n : ℕ). record (ahead_work s) { fetches = n }) (fetches_are s.count (length s.words) _ each)

stops_from : (s : FlatState) → StopsFrom s
stops_from s = λ n k less never at.
    let stop = held_stops k s never at (n - k - 1) in
    let all : suc k + (n - k - 1) ≡ n = omega (arith, less) in
    (stop.0, stop.1, ap (λ (j : ℕ). held_run j s) (sym all) ∙ stop.2)

flat_from : (s : FlatState) → IsFlatFrom s
flat_from s = λ n never. held_is_flat n s never

-- a run that came to its end on this board
module _ (o : RunOptions) (c : AheadRun) (made : ℕ) (b : BoardOf EngineData) (d m : Devices) (e : AheadEnded c made b (around d) (around m)) (each : HasFetchedEach (moment_after c made)) where
  ending_same : b.hart.machine.ending ≡ (moment_after c made).flat.machine.ending
  ending_same = ap (λ (x : Machine). x.ending) e.machine ∙ ap (λ (q : FlatState). q.machine.ending) (sym e.flat)

  report_is : board_report o.reports b ≡ ahead_report o c made
  report_is =
      ap (λ (x : Machine). report_with o.reports x (board_work_with b.hart (kept_by b.rom)) (engine_work (kept_by b.rom))) e.machine
      ∙ ap (λ (w : Work). report_with o.reports (end_of c).machine w (engine_work (kept_by b.rom))) (work_is b (moment_after c made) e.tracks.count ending_same e.tracks.kept each)
      ∙ ap (λ (r : Record). report_with o.reports (end_of c).machine (ahead_work (moment_after c made)) (engine_work r)) e.tracks.kept

  input_is : m.input.left ≡ Some (end_of c).input
  input_is = e.tracks.input ∙ ap (λ (q : FlatState). Some q.input) e.flat

  output_is : Appends d.output.held m.output.held (end_of c).output
  output_is = subst (λ (q : FlatState). Appends d.output.held m.output.held q.output) e.flat e.tracks.output

  error_is : Appends d.error.held m.error.held (end_of c).error
  error_is = subst (λ (q : FlatState). Appends d.error.held m.error.held q.error) e.flat e.tracks.error

  is_ahead_run : IsAheadRun c made d.ram m.ram
  is_ahead_run =
      let count = e.tracks.count in
      let steps = ap (λ (x : Machine). x.steps) e.machine in
      let most = e.most in record {
        are = e.are;
        flat = flat_from c.start;
        stops = stops_from c.start;
        ends = e.flat;
        coherent = subst (λ (r : Record). Coherent c.image r (span_of (setting_for c)) m.ram.words) e.tracks.kept e.coherent;
        unused = e.unused;
        counted = record {
          fetches = e.tracks.ram.fetches;
          sets = e.tracks.ram.sets ∙ ap (λ (n : ℕ). risen d.ram.sets n) (written (setting_for c) c.image (rounds c.rate made) (booted (setting_for c) c.image c.start.machine c.start.input) (booted_written (setting_for c) c.image c.start.machine c.start.input))
              ∙ risen_min d.ram.sets (writes (moment_after c made).kept + engine_words (moment_after c made).kept);
        };
        words = words_so c (rounds c.rate made) (moment_after c made) d.ram m.ram refl e.tracks.words;
        most = omega (arith, count, steps, most);
        fewer = λ never. let few = e.fewer (λ a is. never a (ap (λ (x : Machine). x.ending) (sym e.machine) ∙ is)) in omega (arith, count, steps, few);
        each = each;
      }

-- Behind it the output gains the report, from `mid` on.
module _ {a : AheadAsked} {v : ImageData} {p : ProgramData} {l : Layout} {d : Devices} {i : SourceState} {mid em : SinkState} {ram : RamState} {x : PrefetchData} {b : BoardOf EngineData}
    (run : RunsToEnd a v p l d (ran_all d i mid em ram) (Ok x)) (is : x.board ≡ Some b) where
  abbrev of : List ℕ → AheadRun
  of left = ahead_from a v p l left

  abbrev Ends : List ℕ → BoardOf EngineData → Type 0
  Ends left at = (made : ℕ) × AheadEnded (of left) made at (around d) (around (ran_all d i mid em ram)) × HasFetchedEach (moment_after (of left) made)

  end_at : (left : List ℕ) → d.input.left ≡ Some left → Ends left b
  end_at left told = subst (λ (o : Option (BoardOf EngineData)). OfBoard o (Ends left)) is (run.ended left told)

  calm : stream_faults (ran_all d i mid em ram) ≡ stream_faults d
  calm = ok_unmoved run.causes.streams

  ram_calm : ram.faults ≡ d.ram.faults
  ram_calm = same_count run.causes.ram (λ y. let bad : ⊥ = cc in bad)

  -- it was written
  pub report_written : {out : SinkState} {y : Ending} → Appends mid.held out.held (board_report a.run.reports b) → out.faults ≡ mid.faults → y ≡ ending_by b.hart.machine.ending b.hart.machine.pc b.hart.machine.steps →
      RunsWithReport a v p l d (ran_all d i out em ram) (Ok y)
  report_written {out} {y} bytes same ending = record {
    ran = record {
      done = λ left told.
          let end = end_at left told in
          let c = of left in record {
            made = end.0;
            ran = record {
              ending = ending ∙ ap (λ (m : Machine). ending_by m.ending m.pc m.steps) end.1.machine;
              input = input_is a.run c end.0 b d (ran_all d i mid em ram) end.1 end.2;
              output = Appends-append d.output.held mid.held out.held (end_of c).output (ahead_report a.run c end.0) (output_is a.run c end.0 b d (ran_all d i mid em ram) end.1 end.2)
                  (subst (λ (t : List ℕ). Appends mid.held out.held t) (report_is a.run c end.0 b d (ran_all d i mid em ram) end.1 end.2) bytes);
              error = to_nil d.error.held em.held (end_of c).error (error_is a.run c end.0 b d (ran_all d i mid em ram) end.1 end.2);
            };
            ahead = is_ahead_run a.run c end.0 b d (ran_all d i mid em ram) end.1 end.2;
          };
      refused = tt;
      quiet = tt;
      failed = tt;
      causes = calm_causes d (ran_all d i out em ram) (Ok y) tt refl ram_calm
          (ap (λ (n : ℕ). record (stream_faults d) { input = i.faults; output = n; error = em.faults }) same ∙ calm);
    };
    beyond = run.beyond;
  }

  -- or a front of it
  pub report_broke : {out : SinkState} → AppendsPrefix mid.held out.held (board_report a.run.reports b) → (board_report a.run.reports b ≡ [] → ⊥) → mid.faults ≤ out.faults → Rose mid.faults out.faults →
      RunsWithReport a v p l d (ran_all d i out em ram) (Err refusal.SinkFault)
  report_broke {out} part due later rose =
      let output_same : mid.faults ≡ d.output.faults = ap (λ (f : outside.Faults). f.output) calm in
      let failed : Rose d.output.faults out.faults = subst (λ (n : ℕ). Rose n out.faults) output_same rose in record {
        ran = record {
          done = tt;
          refused = tt;
          quiet = λ never. absurd (never tt);
          failed = λ _ left told.
              let end = end_at left told in
              let c = of left in
              let same = report_is a.run c end.0 b d (ran_all d i mid em ram) end.1 end.2 in record {
                broke = inr (inr (record {
                  made = end.0;
                  failed = record {
                    output_front = part.0;
                    output = Appends-append d.output.held mid.held out.held (end_of c).output (take part.0 (ahead_report a.run c end.0)) (output_is a.run c end.0 b d (ran_all d i mid em ram) end.1 end.2)
                        (subst (λ (t : List ℕ). Appends mid.held out.held (take part.0 t)) same part.1);
                    error_front = 0;
                    error = to_nil d.error.held em.held ((end_of c).error ++ []) (to_nil d.error.held em.held (end_of c).error (error_is a.run c end.0 b d (ran_all d i mid em ram) end.1 end.2));
                    behind = inl (refl, (λ none. due (same ∙ none)), failed);
                    input = input_is a.run c end.0 b d (ran_all d i mid em ram) end.1 end.2;
                    fault = refl;
                  };
                  ahead = is_ahead_run a.run c end.0 b d (ran_all d i mid em ram) end.1 end.2;
                }));
                flat = flat_from c.start;
                stops = stops_from c.start;
              };
          causes = out_causes d (ran_all d i out em ram) refl ram_calm (ap (λ (f : outside.Faults). f.input) calm) (ap (λ (f : outside.Faults). f.error) calm)
              (subst (λ (n : ℕ). n ≤ out.faults) output_same later) failed;
        };
        beyond = run.beyond;
      }

-- a run that stopped before its end has no report
err_causes : {T U : Type 0} (d m : Devices) (r : Refusal) → HasCauses {T = T} d m (Err r) → HasCauses {T = U} d m (Err r)
err_causes {T} {U} d m r h = record {
  shelf = cause_as h.shelf (λ x. to refusal.ShelfFault x) (λ x. back refusal.ShelfFault x);
  ram = cause_as h.ram (λ x. to refusal.RamFault x) (λ x. back refusal.RamFault x);
  streams = named_as h.streams (λ x. to refusal.SourceFault x) (λ x. back refusal.SourceFault x) (λ x. to refusal.SinkFault x) (λ x. back refusal.SinkFault x);
}
  where
    to : (f : Refusal) → IsErrOf {T = T} (Err r) f → IsErrOf {T = U} (Err r) f
    to f x = let same : r ≡ f = cc in ap (λ (y : Refusal). Err y) same

    back : (f : Refusal) → IsErrOf {T = U} (Err r) f → IsErrOf {T = T} (Err r) f
    back f x = let same : r ≡ f = cc in ap (λ (y : Refusal). Err y) same

pub run_stopped : (a : AheadAsked) (v : ImageData) (p : ProgramData) (l : Layout) (d m : Devices) (r : Refusal) → RunsToEnd a v p l d m (Err r) → RunsWithReport a v p l d m (Err r)
run_stopped a v p l d m r run = record {
  ran = record {
    done = tt;
    refused = elim run.refused [ inl none ↦ subst IsRunErr (sym none.0) tt | inr broke ↦ run_err r broke.0 ];
    quiet = λ never. elim run.refused [ inl none ↦ none.1 | inr broke ↦ absurd (never broke.0) ];
    failed = λ is left told. elim run.refused [
      | inl none ↦ absurd (subst IsRunFault none.0 is)
      | inr broke ↦ record {
        broke = elim (broke.1 left told) [ inl x ↦ inl x | inr y ↦ inr (inl y) ];
        flat = flat_from (ahead_from a v p l left).start;
        stops = stops_from (ahead_from a v p l left).start;
      }
    ];
    causes = err_causes {T = PrefetchData} d m r run.causes;
  };
  beyond = run.beyond;
}
  where
    run_err : (r : Refusal) → IsRunFault r → IsRunErr r
    run_err refusal.SourceFault is = tt
    run_err refusal.SinkFault is = tt
    run_err refusal.RamFault is = tt
    run_err _ is = absurd is

-- ---- what the command answers

keeps_ahead : (bytes : ℕ) (v : ImageData) (r s : RamState) → KeepsBeyond (ahead_span bytes v) r s → KeepsBeyond (bytes / 4) r s
keeps_ahead bytes v r s k = keeps_less _ _ r s (div-mul-le_self (bytes / 4) v.block_words) k

done_again : (o : RunOptions) (c : AheadRun) (d m : Devices) (s : ShelfState) (e : Ending) → RunsAhead o c (record d { shelf = s }) m e [] → RunsAhead o c d m e []
done_again o c d m s e h = record {
  made = h.made;
  ran = let a = h.ran in record { ending = a.ending; input = a.input; output = a.output; error = a.error };
  ahead = h.ahead;
}

left_again : (o : RunOptions) (c : AheadRun) (d m : Devices) (s : ShelfState) (r : Refusal) → AheadFailed o c (record d { shelf = s }) m r [] → AheadFailed o c d m r []
left_again o c d m s r h = record {
  broke = elim h.broke [
    | inl a ↦ inl (record {
      fault = a.fault;
      events = a.events;
      are = a.are;
      output = a.output;
      error = a.error;
      input = a.input;
      fetches = a.fetches;
      words = a.words;
      last_failed = a.last_failed;
    })
    | inr b ↦ inr (elim b [
      | inl a ↦ inl (record {
        events = a.events;
        are = a.are;
        words = a.words;
        sets = a.sets;
        failed = a.failed;
      })
      | inr a ↦ inr (record {
        made = a.made;
        failed = let f = a.failed in record { output_front = f.output_front; output = f.output; error_front = f.error_front; error = f.error; behind = f.behind; input = f.input; fault = f.fault };
        ahead = a.ahead;
      })
    ])
  ];
  flat = h.flat;
  stops = h.stops;
}

pub ahead_answers : (name : List ℕ) (cache : CacheOptions) (o : RunOptions) (rate : ℕ) (d : Devices) (s : ShelfState) (i : SourceState) (out e : SinkState) (ram : RamState) (bytes : List ℕ) (v : ImageData) (l : Layout) (r : Result Ending Refusal) →
    size_refusal cache.cache_bytes (length d.ram.words) ≡ None → IsRead d.shelf s name bytes → IsAccepted (cached_checks o.limits cache bytes) →
    IsImageFor bytes cache.block_words (image_in bytes) v → room_in bytes o.limits ≡ Ok l →
    RunsWithReport (ahead_asked cache o rate) v (program_of_file bytes) l (record d { shelf = s }) (cached_to d s i out e ram) r →
    Answers (ahead_task name cache o rate) d (cached_to d s i out e ram) r []
ahead_answers name cache o rate d s i out e ram bytes v l (Ok x) size read accepted own room run =
    let m : Devices = cached_to d s i out e ram in record {
      asked = λ y. let bad : ⊥ = cc in bad;
      sized = sized_along (size_refusal cache.cache_bytes (length d.ram.words)) (Ok x) size (sized_ok x);
      checked = λ file are. subst (λ (f : List ℕ). IsAccepted (cached_checks o.limits cache f)) (read_is read are refl) accepted;
      long = λ limit y. absurd (let bad : ⊥ = cc in bad);
      ended = tt;
      done = λ file are. subst (λ (f : List ℕ). (ahead_task name cache o rate).does f d m x []) (read_is read are refl) (
        v,
        own,
        run.beyond,
        λ input left. done_again o _ d m s x
            (subst (λ (q : FlatState). RunsAhead o (ahead_run (ahead_asked cache o rate) v q) (record d { shelf = s }) m x []) (start_is o bytes input l room) (run.ran.done input left)),
      );
      failed = tt;
      refused = tt;
      shelf = keeps_read (ahead_task name cache o rate) d.shelf s name bytes (Ok x) refl refl read (refl, refl) refl (λ y. let never : ⊥ = cc in never);
      input = tt;
      ram = keeps_ahead cache.cache_bytes v d.ram ram run.beyond;
      causes = causes_behind d s m (Ok x) read.faults run.ran.causes;
    }
ahead_answers name cache o rate d s i out e ram bytes v l (Err r) size read accepted own room run =
    let m : Devices = cached_to d s i out e ram in record {
      asked = run_err_not r refusal.Usage run.ran.refused (λ x. x);
      sized = sized_along (size_refusal cache.cache_bytes (length d.ram.words)) (Err r) size (sized_err r (run_err_size r run.ran.refused));
      checked = λ file are. subst (λ (f : List ℕ). IsChecked (cached_checks o.limits cache f) s.last_failed (Err r)) (read_is read are refl)
          (run_err_checked (cached_checks o.limits cache bytes) s.last_failed r run.ran.refused accepted);
      long = none_long (ahead_task name cache o rate) d.shelf.contents r (run_err_short r run.ran.refused);
      ended = tt;
      done = tt;
      failed = λ fault file are. subst (λ (f : List ℕ). (ahead_task name cache o rate).fails f d m r []) (read_is read are refl) (
        v,
        own,
        run.beyond,
        λ input left. left_again o _ d m s r
            (subst (λ (q : FlatState). AheadFailed o (ahead_run (ahead_asked cache o rate) v q) (record d { shelf = s }) m r []) (start_is o bytes input l room) (run.ran.failed fault input left)),
      );
      refused = λ never. let same_all : m ≡ record d { shelf = s } = run.ran.quiet never in (
        record { input = ap (λ (y : Devices). y.input) same_all; output = ap (λ (y : Devices). y.output) same_all; ram = ap (λ (y : Devices). y.ram) same_all },
        subst (λ (y : SinkState). Appends d.error.held y.held []) (sym (ap (λ (y : Devices). y.error) same_all)) (Appends-none d.error.held),
      );
      shelf = keeps_read (ahead_task name cache o rate) d.shelf s name bytes (Err r) refl refl read (run_err_asked s.last_failed r run.ran.refused) (run_err_given s.last_failed r run.ran.refused) (run_err_not r refusal.ShelfFault run.ran.refused (λ x. x));
      input = tt;
      ram = keeps_ahead cache.cache_bytes v d.ram ram run.beyond;
      causes = causes_behind d s m (Err r) read.faults run.ran.causes;
    }

-- ---- the last line behind it

ram_line : (c : AheadRun) (d m : Devices) (r : Refusal) (held : Option (List ℕ)) (line : List ℕ) →
    RamBrokeAhead c d m r [] → Appends m.error.held held line → RamBrokeAhead c d (holds_then m held) r line
ram_line c d m r held line h p = record {
  fault = h.fault;
  events = h.events;
  are = h.are;
  output = h.output;
  error = appends_last d.error.held m.error.held held (moment_of c h.events).flat.error line h.error p;
  input = h.input;
  fetches = h.fetches;
  words = h.words;
  last_failed = h.last_failed;
}

pub ahead_lined : (name : List ℕ) (cache : CacheOptions) (o : RunOptions) (rate : ℕ) → IsLined (ahead_task name cache o rate)
ahead_lined name cache o rate = record {
  done = λ file d m e error is h p same. (
    h.0,
    h.1,
    h.2,
    λ input left. let r = h.3 input left in record { made = r.made; ran = ran_line _ _ d m e error (ending_line e) r.ran p; ahead = r.ahead },
  );
  failed = λ file d m r held line h p. (
    h.0,
    h.1,
    h.2,
    λ input is. let f = h.3 input is in let c = ahead_run (ahead_asked cache o rate) h.0 (start_of o file input) in record {
      broke = elim f.broke [
        | inl a ↦ inl (ram_line c d m r held line a p)
        | inr b ↦ inr (elim b [
          | inl a ↦ inl (record { events = a.events; are = a.are; words = a.words; sets = a.sets; failed = step_line (held_coming (moment_of c a.events).flat) d m r held line a.failed p })
          | inr a ↦ inr (record { made = a.made; failed = after_run_line _ _ _ d m r held line a.failed p; ahead = a.ahead })
        ])
      ];
      flat = f.flat;
      stops = f.stops;
    },
  );
  unended = λ file d m e error is h p never same rose. (
    h.0,
    h.1,
    h.2,
    λ input left.
        let r = h.3 input left in
        let c = ahead_run (ahead_asked cache o rate) h.0 (start_of o file input) in record {
          broke = inr (inr (record { made = r.made; failed = after_line (end_of c) (end_of c).error _ [] d m e error (sym (append-nil _)) r.ran p never same rose; ahead = r.ahead }));
          flat = r.ahead.flat;
          stops = r.ahead.stops;
        },
  );
  unwritten = λ e out is never named. let bad : ⊥ = cc in bad;
}
