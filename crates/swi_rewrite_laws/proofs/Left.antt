-- What a run leaves, whatever cache it is given.
use Rattle.std.proofs.Common.{◌≡◌, ◌⊎◌, inl, inr, ℕ, ◌<◌, Bool, true, false, List, [], ◌∷◌, ◌++◌, length, take, Some, None, Ok, if◌then◌else◌, refl, sym, ◌∙◌, subst, ap}
use Rattle.std.proofs.lemmas.List.{append-nil, append_assoc}
use Rattle.std.specs.Io.KnownBytes.{Appends}
use Rattle.swi_outside.specs.Causes.{Rose}
use Rattle.swi_calls.specs.FirstStore.{StoresAt}
use Rattle.swi_calls.specs.Flat.{flat_run}
use Rattle.swi_calls.specs.Held.{held_run}
use Rattle.swi_calls.specs.Laws.{held_is_flat}
use Rattle.swi_calls.specs.State.{FlatState}
use Rattle.swi_command.specs.declared.command.CacheOptions.{CacheOptions}
use Rattle.swi_command.specs.declared.command.RunOptions.{RunOptions}
use Rattle.swi_command.specs.CommandLine.{Request, RewriteFile, RunAhead, RunShared, RunCached, RunPlain, ListFile, CheckFile, UpgradeFile, MeasureMade, RunSurvey, RunProfile}
use Rattle.swi_report.specs.Stats.{work_text}
use Rattle.swi_trace.specs.History.{last_of}
use Rattle.swi_line.specs.declared.trace.Trace.{Trace}
use Rattle.swi_line.specs.declared.trace.Trace.TheVariants as trace
use Rattle.swi_cached.specs.Cached.{CachedRun}
use Rattle.swi_cached.specs.Told.{addresses, error_by, is_each, lines_at}
use Rattle.swi_answer.specs.declared.answer.Ending.{Ending}
use Rattle.swi_answer.specs.Lines.{ending_line}
use Rattle.swi_task.specs.Answers.{AnswersWithLine}
use Rattle.swi_task.specs.Devices.{Devices, with_error_faults}
use Rattle.swi_task.specs.Runs.{Ran, ending_of, report, start_of}
use Rattle.swi_task.specs.Task.{AreFiles, Task}
use Rattle.swi_task.proofs.Lines.{errors_later, rose_below}
use Rattle.swi_file_commands.specs.RunPlain.{plain_report, plain_task}
use Rattle.swi_cached_task.specs.Caching.{cache_for, cached_run, work_of}
use Rattle.swi_cached_command.specs.RunCached.{cached_task, shown_error}
use Rattle.swi_prefetch_command.specs.RunAhead.{ahead_asked, ahead_report, ahead_run, ahead_task, ahead_work, engine_lines, engine_work}
use Rattle.swi_prefetch.specs.Scheduled.{moment_after}
use Rattle.swi_top.proofs.Alike.{no_counts, report_more, whole_line}
use Rattle.swi_rewrite_laws.specs.Ran.{ProgramRun, HasRun, LeavesTheSame, Outcome, RunAlike}

-- a program's end, over a text that is fixed or not
abbrev pub end_by : Bool → ℕ → FlatState → FlatState
end_by true n s = held_run n s
end_by false n s = flat_run n s

-- its errors, with what is told of its steps
abbrev pub told_by : Trace → Bool → ℕ → FlatState → List ℕ
told_by trace.Off fixed n s = (end_by fixed n s).error
told_by trace.Each fixed n s = error_by true n s
told_by trace.Last fixed n s = (end_by fixed n s).error ++ lines_at (end_by fixed n s).machine.bus (last_of 32 (addresses n s))

-- a command has left a program that stands so, with these errors
record RunLeft (o : RunOptions) (t : FlatState) (told : List ℕ) (c : Outcome) : Type 0 where
  ending : c.ending ≡ ending_of t
  input : c.after.input.left ≡ Some t.input
  counts : List ℕ
  output : Appends c.before.output.held c.after.output.held ((t.output ++ report o.reports t.machine None) ++ counts)
  uncounted : o.reports.stats ≡ false → counts ≡ []
  error : Appends c.before.error.held c.after.error.held (told ++ ending_line (ending_of t))

left_by : (o : RunOptions) (t : FlatState) (told counts : List ℕ) (c : Outcome) (untold n : ℕ) →
    Ran (record t { error = told }) (report o.reports t.machine None ++ counts) c.before (with_error_faults c.after untold) c.ending (take n (ending_line c.ending)) →
    n ≡ length (ending_line c.ending) → (o.reports.stats ≡ false → counts ≡ []) → RunLeft o t told c
left_by o t told counts c untold n ran whole none = record {
  ending = ran.ending;
  input = ran.input;
  counts = counts;
  output = subst (λ (l : List ℕ). Appends c.before.output.held c.after.output.held l) (sym (append_assoc t.output (report o.reports t.machine None) counts)) ran.output;
  uncounted = none;
  error = subst (λ (e : Ending). Appends c.before.error.held c.after.error.held (told ++ ending_line e)) ran.ending
      (whole_line c.before.error.held c.after.error.held told (ending_line c.ending) n whole ran.error);
}

-- the ending's line is whole
line_whole : (t : Task) (before after : Devices) (e : Ending) (a : AnswersWithLine t before after (Ok e)) → (Rose before.error.faults after.error.faults → ⊥) → a.shown ≡ length (ending_line e)
line_whole t before after e a quiet =
    a.whole (λ rose. quiet (rose_below before.error.faults a.untold after.error.faults (errors_later before (with_error_faults after a.untold) (Ok e) a.answers.causes) rose))

-- ---- each command

plain_left : (name : List ℕ) (o : RunOptions) (file input : List ℕ) (c : Outcome) → AnswersWithLine (plain_task name o) c.before c.after (Ok c.ending) →
    AreFiles (plain_task name o) c.before.shelf c.after.shelf file → c.before.input.left ≡ Some input → (Rose c.before.error.faults c.after.error.faults → ⊥) →
    RunLeft o (flat_run o.limits.steps (start_of o file input)) (flat_run o.limits.steps (start_of o file input)).error c
plain_left name o file input c a are left quiet =
    let s = flat_run o.limits.steps (start_of o file input) in
    let ran = a.answers.done file are input left in
    left_by o s s.error [] c a.untold a.shown
    (subst (λ (l : List ℕ). Ran (record s { error = s.error }) l c.before (with_error_faults c.after a.untold) c.ending (take a.shown (ending_line c.ending))) (sym (append-nil (plain_report o s))) ran)
    (line_whole (plain_task name o) c.before c.after c.ending a quiet) (λ _. refl)

-- what is told of the steps depends on the program alone
shown_told : (t : Trace) (k : CachedRun) → shown_error t (record k { trace = is_each t }) ≡ told_by t true k.limit k.start
shown_told trace.Off k = refl
shown_told trace.Each k = refl
shown_told trace.Last k = refl

cached_left : (name : List ℕ) (cache : CacheOptions) (o : RunOptions) (file input : List ℕ) (c : Outcome) → AnswersWithLine (cached_task name cache o) c.before c.after (Ok c.ending) →
    AreFiles (cached_task name cache o) c.before.shelf c.after.shelf file → c.before.input.left ≡ Some input → (Rose c.before.error.faults c.after.error.faults → ⊥) →
    RunLeft o (held_run o.limits.steps (start_of o file input)) (told_by o.reports.trace true o.limits.steps (start_of o file input)) c
cached_left name cache o file input c a are left quiet =
    let s = held_run o.limits.steps (start_of o file input) in
    let told : List ℕ = told_by o.reports.trace true o.limits.steps (start_of o file input) in
    let does = a.answers.done file are in
    let runs = does.3 input left in
    let k = cached_run (cache_for cache does.0) o does.0 (start_of o file input) in
    let counts : List ℕ = if o.reports.stats then work_text (work_of k) else [] in
    let Goal : List ℕ → List ℕ → Type 0 =
    λ l r. Ran (record s { error = l }) r c.before (with_error_faults c.after a.untold) c.ending (take a.shown (ending_line c.ending)) in
    left_by o s told counts c a.untold a.shown
    (subst (λ (l : List ℕ). Goal l (report o.reports s.machine None ++ counts)) (shown_told o.reports.trace k)
    (subst (λ (r : List ℕ). Goal (shown_error o.reports.trace k) r) (report_more o.reports s.machine (work_of k)) runs.ran))
    (line_whole (cached_task name cache o) c.before c.after c.ending a quiet) (no_counts o.reports.stats (work_text (work_of k)))

neither : (t : Bool) (xs ys : List ℕ) → t ≡ false → (if t then xs else []) ++ (if t then ys else []) ≡ []
neither true xs ys e = absurd (let bad : ⊥ = cc in bad)
neither false xs ys e = refl

ahead_left : (name : List ℕ) (cache : CacheOptions) (o : RunOptions) (rate : ℕ) (file input : List ℕ) (c : Outcome) → AnswersWithLine (ahead_task name cache o rate) c.before c.after (Ok c.ending) →
    AreFiles (ahead_task name cache o rate) c.before.shelf c.after.shelf file → c.before.input.left ≡ Some input → (Rose c.before.error.faults c.after.error.faults → ⊥) →
    RunLeft o (held_run o.limits.steps (start_of o file input)) (held_run o.limits.steps (start_of o file input)).error c
ahead_left name cache o rate file input c a are left quiet =
    let s = held_run o.limits.steps (start_of o file input) in
    let does = a.answers.done file are in
    let runs = does.3 input left in
    let k = ahead_run (ahead_asked cache o rate) does.0 (start_of o file input) in
    let work = ahead_work (moment_after k runs.made) in
    let engine : List ℕ = engine_lines o.reports (engine_work (moment_after k runs.made).kept) in
    let own : List ℕ = if o.reports.stats then work_text work else [] in
    let all : ahead_report o k runs.made ≡ report o.reports s.machine None ++ (own ++ engine) =
    ap (λ (l : List ℕ). l ++ engine) (report_more o.reports s.machine work) ∙ append_assoc (report o.reports s.machine None) own engine in
    left_by o s s.error (own ++ engine) c a.untold a.shown
    (subst (λ (l : List ℕ). Ran (record s { error = s.error }) l c.before (with_error_faults c.after a.untold) c.ending (take a.shown (ending_line c.ending))) all runs.ran)
    (line_whole (ahead_task name cache o rate) c.before c.after c.ending a quiet)
    (neither o.reports.stats (work_text work) _)

-- ---- any of them

abbrev LeftBy : ProgramRun → List ℕ → List ℕ → Outcome → Type 0
LeftBy a file input c =
    RunLeft a.options (end_by a.fixed a.options.limits.steps (start_of a.options file input)) (told_by a.tells a.fixed a.options.limits.steps (start_of a.options file input)) c

same_run : (a b : ProgramRun) → Some a ≡ Some b → a ≡ b
same_run a b e = cc

pub same_file : (a b : List ℕ) → a ∷ [] ≡ b ∷ [] → a ≡ b
same_file a b e = cc

no_run : (a : ProgramRun) → None ≡ Some a → ⊥
no_run a e = cc

left_of : (q : Request) (before after : Devices) (e : Ending) (a : ProgramRun) (file input : List ℕ) →
    HasRun a file input (record { request = q; before = before; after = after; ending = e }) → LeftBy a file input (record { request = q; before = before; after = after; ending = e })
left_of (RunPlain name o) before after e a file input h =
    let c : Outcome = record { request = RunPlain name o; before = before; after = after; ending = e } in
    let asked : ProgramRun = record { options = o; fixed = false; tells = trace.Off } in
    let are = subst (λ (f : List ℕ). AreFiles (plain_task name o) before.shelf after.shelf f) (same_file h.ended.files file h.ended.only) h.ended.are in
    subst (λ (x : ProgramRun). LeftBy x file input c) (same_run asked a h.asked) (plain_left name o file input c h.ended.answers are h.input h.quiet)
left_of (RunCached name cache o) before after e a file input h =
    let c : Outcome = record { request = RunCached name cache o; before = before; after = after; ending = e } in
    let asked : ProgramRun = record { options = o; fixed = true; tells = o.reports.trace } in
    let are = subst (λ (f : List ℕ). AreFiles (cached_task name cache o) before.shelf after.shelf f) (same_file h.ended.files file h.ended.only) h.ended.are in
    subst (λ (x : ProgramRun). LeftBy x file input c) (same_run asked a h.asked) (cached_left name cache o file input c h.ended.answers are h.input h.quiet)
left_of (RunAhead name cache o rate) before after e a file input h =
    let c : Outcome = record { request = RunAhead name cache o rate; before = before; after = after; ending = e } in
    let asked : ProgramRun = record { options = o; fixed = true; tells = trace.Off } in
    let are = subst (λ (f : List ℕ). AreFiles (ahead_task name cache o rate) before.shelf after.shelf f) (same_file h.ended.files file h.ended.only) h.ended.are in
    subst (λ (x : ProgramRun). LeftBy x file input c) (same_run asked a h.asked) (ahead_left name cache o rate file input c h.ended.answers are h.input h.quiet)
left_of (RewriteFile from to block whole) before after e a file input h = absurd (no_run a h.asked)
left_of (UpgradeFile from to) before after e a file input h = absurd (no_run a h.asked)
left_of (CheckFile name) before after e a file input h = absurd (no_run a h.asked)
left_of (ListFile name most) before after e a file input h = absurd (no_run a h.asked)
left_of (MeasureMade seed functions cache) before after e a file input h = absurd (no_run a h.asked)
left_of (RunShared names cache o) before after e a file input h = absurd (no_run a h.asked)
left_of (RunSurvey name sizes block kind limits) before after e a file input h = absurd (no_run a h.asked)
left_of (RunProfile name limits) before after e a file input h = absurd (no_run a h.asked)

-- ---- two of them

-- where no step would store into the text, a program comes to the same end
flat_end : (fixed : Bool) (n : ℕ) (s : FlatState) → ((j : ℕ) → j < n → StoresAt s j → ⊥) → end_by fixed n s ≡ flat_run n s
flat_end true n s never = held_is_flat n s never
flat_end false n s never = refl

same_end : (f g : Bool) (n : ℕ) (s : FlatState) → (g ≡ f) ⊎ ((j : ℕ) → j < n → StoresAt s j → ⊥) → end_by g n s ≡ end_by f n s
same_end f g n s h = elim h [ inl e ↦ ap (λ (b : Bool). end_by b n s) e | inr never ↦ flat_end g n s never ∙ sym (flat_end f n s never) ]

same_told : (t : Trace) (f g : Bool) (n : ℕ) (s : FlatState) → end_by g n s ≡ end_by f n s → told_by t g n s ≡ told_by t f n s
same_told trace.Off f g n s e = ap (λ (q : FlatState). q.error) e
same_told trace.Each f g n s e = refl
same_told trace.Last f g n s e = ap (λ (q : FlatState). q.error ++ lines_at q.machine.bus (last_of 32 (addresses n s))) e

both_left : (a : ProgramRun) (t : FlatState) (told : List ℕ) (one other : Outcome) → RunLeft a.options t told one → RunLeft a.options t told other → (other.ending ≡ one.ending) × LeavesTheSame a one other
both_left a t told one other x y = (
  y.ending ∙ sym x.ending,
  record {
    input = y.input ∙ sym x.input;
    bytes = t.output ++ report a.options.reports t.machine None;
    counts = x.counts;
    other_counts = y.counts;
    output = x.output;
    other_output = y.output;
    uncounted = λ off. (x.uncounted off, y.uncounted off);
    lines = told ++ ending_line (ending_of t);
    error = x.error;
    other_error = y.error;
  },
)

-- runs that begin alike end alike
pub run_alike : (file out : List ℕ) → ((o : RunOptions) (input : List ℕ) → start_of o out input ≡ start_of o file input) → RunAlike file out
run_alike file out same a fixed input one other text h g =
    let n : ℕ = a.options.limits.steps in
    let s : FlatState = start_of a.options file input in
    let x : LeftBy a file input one = left_of one.request one.before one.after one.ending a file input h in
    let y : LeftBy (record a { fixed = fixed }) out input other = left_of other.request other.before other.after other.ending (record a { fixed = fixed }) out input g in
    let begun : RunLeft a.options (end_by fixed n s) (told_by a.tells fixed n s) other =
    subst (λ (q : FlatState). RunLeft a.options (end_by fixed n q) (told_by a.tells fixed n q) other) (same a.options input) y in
    let ends : end_by fixed n s ≡ end_by a.fixed n s = same_end a.fixed fixed n s text in
    let told : told_by a.tells fixed n s ≡ told_by a.tells a.fixed n s = same_told a.tells a.fixed fixed n s ends in
    both_left a (end_by a.fixed n s) (told_by a.tells a.fixed n s) one other x
    (subst (λ (l : List ℕ). RunLeft a.options (end_by a.fixed n s) l other) told (subst (λ (q : FlatState). RunLeft a.options q (told_by a.tells fixed n s) other) ends begun))
