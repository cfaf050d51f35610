-- A command in whose way nothing stands ends, and a program ends alike on both machines.
use Rattle.std.proofs.Common.{◌≡◌, inl, inr, ℕ, ◌+◌, ◌<◌, ◌≤◌, Bool, true, false, List, [], ◌∷◌, ◌++◌, length, take, Option, Some, None, Result, Ok, Err, if◌then◌else◌, refl, sym, ◌∙◌, subst, ap, arith}
use Rattle.std.proofs.lemmas.List.{append-nil, append_assoc}
use Rattle.std.specs.Io.KnownBytes.{Appends}
use Rattle.swi_calls.specs.FirstStore.{StoresAt}
use Rattle.swi_calls.specs.declared.machine.Machine.{Machine}
use Rattle.swi_calls.specs.State.{FlatState}
use Rattle.swi_check.proofs.Never.{err_not}
use Rattle.swi_elf_read.specs.Loaded.{image_of as image_in}
use Rattle.swi_image.specs.Checks as image
use Rattle.swi_image.specs.Format.{image_of}
use Rattle.swi_render.specs.ImageOf.{IsImageOf}
use Rattle.swi_command.specs.declared.command.CacheOptions.{CacheOptions}
use Rattle.swi_command.specs.declared.command.RunOptions.{RunOptions}
use Rattle.swi_command.specs.declared.command.Reports.{Reports}
use Rattle.swi_command.specs.CommandLine.{Request}
use Rattle.swi_report.specs.declared.stats.Work.{Work}
use Rattle.swi_report.specs.State.{state_text_of}
use Rattle.swi_report.specs.Stats.{stats_text_of, work_text}
use Rattle.swi_cached.specs.Cached.{CachedRun, end_of, program_after}
use Rattle.swi_cached.specs.Told.{is_each}
use Rattle.swi_line.specs.declared.trace.Trace.{Trace}
use Rattle.swi_line.specs.declared.trace.Trace.TheVariants as trace
use Rattle.swi_answer.specs.declared.answer.Ending.{Ending}
use Rattle.swi_answer.specs.declared.answer.Refusal.{Refusal}
use Rattle.swi_answer.specs.declared.answer.Refusal.TheVariants as refusal
use Rattle.swi_answer.specs.Lines.{ending_line}
use Rattle.swi_task.specs.Devices.{Devices, with_error_faults}
use Rattle.swi_task.specs.Checks.{Check, OfImage, IsShort, IsAcceptedElf, HasRoom, HasImage, IsAcceptedImage, IsOwnImage, FitsBlocks, FitsUnlessImage, FitsMade, HoldsBlock, Fails, Passes, IsAccepted, IsRefusedBy, cache_refusal, text_in}
use Rattle.swi_task.specs.Runs.{Ran, report, start_of}
use Rattle.swi_task.specs.Answers.{AnswersWithLine}
use Rattle.swi_cached_task.specs.Caching.{cache_for, cached_run, work_of}
use Rattle.swi_cached_command.specs.RunCached.{cached_task, shown_end, shown_error}
use Rattle.swi_file_commands.specs.RunPlain.{plain_report, plain_run, plain_task}
use Rattle.swi_task.specs.Task.{Task}
use Rattle.swi_top.specs.Tasks.{task_of}
use Rattle.swi_top.specs.Alike.{IsUnhindered, LeavesAlike}
use Rattle.swi_task.proofs.Lines.{errors_later, rose_above, rose_below, take_all}
use Rattle.swi_task.proofs.Refusals.{gave_same}

-- ---- a file does not both pass a check and fail it

image_fact : (x : Option (List ℕ)) (P : List ℕ → Type 0) (bytes : List ℕ) → x ≡ Some bytes → OfImage x P → P bytes
image_fact x P bytes e h = subst (λ (y : Option (List ℕ)). OfImage y P) e h

pub fails_not : (c : Check) (r : Refusal) → Passes c → Fails c r → ⊥
fails_not (IsShort file) r p f = let long = f.0 in omega (arith, p, long)
fails_not (IsAcceptedElf file) r p f = let bad : ⊥ = cc in bad
fails_not (HasRoom file limits) r p f = let ok = p.1 in let err = f.1 in let bad : ⊥ = cc in bad
fails_not (HasImage file) r p f = let some = p.1 in let none = f.0 in let bad : ⊥ = cc in bad
fails_not (IsAcceptedImage file) r p f =
    let none = image_fact (image_in file) (λ bytes. image.first_refusal bytes ≡ None) f.0 f.1 p in let some = f.2 in let bad : ⊥ = cc in bad
fails_not (IsOwnImage file) r p f =
    err_not (text_in file) (image_of f.0) (Err f.2.0) f.2.1 (image_fact (image_in file) (λ bytes. IsImageOf (text_in file) (image_of bytes)) f.0 f.1 p)
fails_not (FitsBlocks file most) r p f = let few = p f.0 f.1.within in let long = f.1.long in omega (arith, few, long)
fails_not (FitsUnlessImage file most) r p f = let few = p f.0 f.1.0 f.1.1.within in let long = f.1.1.long in omega (arith, few, long)
fails_not (FitsMade seed functions most) r p f = let few = p f.0 f.1 f.2.0 f.2.1.within in let long = f.2.1.long in omega (arith, few, long)
fails_not (HoldsBlock bytes least) r p f = let less = f.0 in omega (arith, p, less)

not_both : (cs : List Check) (r : Refusal) → IsAccepted cs → IsRefusedBy cs r → ⊥
not_both [] r passed h = h
not_both (c ∷ cs) r passed h = elim h [ inl f ↦ fails_not c r passed.0 f | inr rest ↦ not_both cs r passed.1 rest.1 ]

-- ---- a command ends

size_not : (x : Option Refusal) (r : Refusal) → x ≡ None → x ≡ Some r → ⊥
size_not x r none some = cc

not_refused : (t : Task) (files : t.Files) (before after : Devices) (r : Refusal) → AnswersWithLine t before after (Err r) → IsUnhindered t files before after (Err r) → ⊥
not_refused t files before after refusal.Usage a free = a.answers.asked refl
not_refused t files before after refusal.Memory a free = free.memory refl
not_refused t files before after refusal.ShelfFault a free = free.quiet.shelf (a.answers.causes.shelf.cause refl)
not_refused t files before after refusal.SourceFault a free = free.quiet.input (a.answers.causes.streams.input.cause refl)
not_refused t files before after refusal.SinkFault a free = elim (a.answers.causes.streams.sinks.cause refl) [
  | inl rose ↦ free.quiet.output rose
  | inr rose ↦ free.quiet.error (rose_above before.error.faults a.untold after.error.faults a.later rose)
]
not_refused t files before after refusal.RamFault a free = free.quiet.ram (a.answers.causes.ram.cause refl)
not_refused t files before after (refusal.CacheLarge bytes) a free = size_not (cache_refusal t.caches (length before.ram.words)) (refusal.CacheLarge bytes) free.sized (a.answers.sized.only tt)
not_refused t files before after (refusal.RamSmall bytes held) a free = size_not (cache_refusal t.caches (length before.ram.words)) (refusal.RamSmall bytes held) free.sized (a.answers.sized.only tt)
not_refused t files before after (refusal.FileLong limit) a free = elim free.are [
  | inl gave ↦
      let passed = a.answers.shelf.passed in
      let same : passed.given ≡ t.contents files = gave_same t.reads passed.given (t.contents files) before.shelf after.shelf passed.gave gave in
      let as_many : length passed.given ≡ length t.reads = ap (λ (l : List (List ℕ)). length l) same ∙ free.all in
      let one_more : a.answers.shelf.gets ≡ length passed.given + 1 = passed.all in
      let most : a.answers.shelf.gets ≤ length t.reads = a.answers.shelf.asked.1 in
      omega (arith, as_many, one_more, most)
  | inr tells ↦ not_both (t.checks files) (refusal.FileLong limit) free.accepted (a.answers.long limit refl files tells)
]
not_refused t files before after (refusal.Elf r) a free = not_both (t.checks files) (refusal.Elf r) free.accepted (a.answers.checked files free.are)
not_refused t files before after (refusal.Room end) a free = not_both (t.checks files) (refusal.Room end) free.accepted (a.answers.checked files free.are)
not_refused t files before after refusal.NoImage a free = not_both (t.checks files) refusal.NoImage free.accepted (a.answers.checked files free.are)
not_refused t files before after (refusal.Image r) a free = not_both (t.checks files) (refusal.Image r) free.accepted (a.answers.checked files free.are)
not_refused t files before after (refusal.Mismatch m) a free = not_both (t.checks files) (refusal.Mismatch m) free.accepted (a.answers.checked files free.are)
not_refused t files before after (refusal.Long address needs) a free = not_both (t.checks files) (refusal.Long address needs) free.accepted (a.answers.checked files free.are)
not_refused t files before after (refusal.CacheSmall bytes least) a free = not_both (t.checks files) (refusal.CacheSmall bytes least) free.accepted (a.answers.checked files free.are)

pub completes : (q : Request) (files : (task_of q).Files) (before after : Devices) (result : Result Ending Refusal) →
    AnswersWithLine (task_of q) before after result → IsUnhindered (task_of q) files before after result → (e : Ending) × (result ≡ Ok e)
completes q files before after (Ok e) a free = (e, refl)
completes q files before after (Err r) a free = absurd (not_refused (task_of q) files before after r a free)

-- ---- both machines

-- behind the state and the steps stand the counts of the cached machine
pub report_more : (r : Reports) (m : Machine) (w : Work) → report r m (Some w) ≡ report r m None ++ (if r.stats then work_text w else [])
report_more r m w = by r.stats (if r.state then state_text_of m.pc m.regs m.bus m.heap.now else [])
  where
    by : (t : Bool) (state : List ℕ) →
        ◌≡◌ {A = List ℕ} (state ++ (if t then stats_text_of m.steps (Some w) else [])) ((state ++ (if t then stats_text_of m.steps None else [])) ++ (if t then work_text w else []))
    by true state = sym (append_assoc state (stats_text_of m.steps None) (work_text w))
    by false state = sym (append-nil (state ++ []))

pub no_counts : (t : Bool) (l : List ℕ) → t ≡ false → (if t then l else []) ≡ []
no_counts true l e = absurd (let bad : ⊥ = cc in bad)
no_counts false l e = refl

pub whole_line : (old new : Option (List ℕ)) (error line : List ℕ) (n : ℕ) → n ≡ length line → Appends old new (error ++ take n line) → Appends old new (error ++ line)
whole_line old new error line n all h =
    subst (λ (l : List ℕ). Appends old new (error ++ l)) (ap (λ (k : ℕ). take k line) all ∙ sym (take_all line)) h

both_ran : (o : RunOptions) (s t : FlatState) (w : Work) (before plain cached : Devices) (e f : Ending) (n k : ℕ) → t ≡ record s { error = t.error } → (o.reports.trace ≡ trace.Off → t.error ≡ s.error) →
    Ran s (plain_report o s) before plain e (take n (ending_line e)) → n ≡ length (ending_line e) →
    Ran t (report o.reports t.machine (Some w)) before cached f (take k (ending_line f)) → k ≡ length (ending_line f) → (f ≡ e) × LeavesAlike o before plain cached
both_ran o s t w before plain cached e f n k same quiet one whole other whole' =
    let ran : Ran (record s { error = t.error }) (report o.reports s.machine (Some w)) before cached f (take k (ending_line f)) =
    subst (λ (u : FlatState). Ran u (report o.reports u.machine (Some w)) before cached f (take k (ending_line f))) same other in
    let ends : f ≡ e = ran.ending ∙ sym one.ending in
    let counts : List ℕ = if o.reports.stats then work_text w else [] in (
      ends,
      record {
        input = ran.input ∙ sym one.input;
        bytes = s.output ++ plain_report o s;
        counts = counts;
        plain_output = one.output;
        cached_output = subst (λ (l : List ℕ). Appends before.output.held cached.output.held l)
            (ap (λ (l : List ℕ). s.output ++ l) (report_more o.reports s.machine w) ∙ sym (append_assoc s.output (plain_report o s) counts)) ran.output;
        uncounted = no_counts o.reports.stats (work_text w);
        lines = s.error ++ ending_line e;
        plain_error = whole_line before.error.held plain.error.held s.error (ending_line e) n whole one.error;
        cached_error = λ off. subst (λ (l : List ℕ). Appends before.error.held cached.error.held (l ++ ending_line e)) (quiet off)
            (subst (λ (x : Ending). Appends before.error.held cached.error.held (t.error ++ ending_line x)) ends
            (whole_line before.error.held cached.error.held t.error (ending_line f) k whole' ran.error));
      },
    )

-- without lines of steps the errors are the program's own
shown_is : (t : Trace) (c : CachedRun) → t ≡ trace.Off → record (program_after c c.limit) { error = shown_error t (record c { trace = is_each t }) } ≡ end_of c
shown_is trace.Off c off = refl
shown_is trace.Each c off = cc
shown_is trace.Last c off = cc

-- whatever the error sink's count
ran_seen : (s : FlatState) (report : List ℕ) (d m : Devices) (n : ℕ) (e : Ending) (last : List ℕ) → Ran s report d (with_error_faults m n) e last → Ran s report d m e last
ran_seen s report d m n e last h = record { ending = h.ending; input = h.input; output = h.output; error = h.error }

ended_alike : (name : List ℕ) (cache : CacheOptions) (o : RunOptions) (file input : List ℕ) (before plain cached : Devices) (e f : Ending) →
    AnswersWithLine (plain_task name o) before plain (Ok e) → IsUnhindered (plain_task name o) file before plain (Ok e) →
    AnswersWithLine (cached_task name cache o) before cached (Ok f) → IsUnhindered (cached_task name cache o) file before cached (Ok f) →
    before.input.left ≡ Some input → ((j : ℕ) → j < o.limits.steps → StoresAt (start_of o file input) j → ⊥) → (f ≡ e) × LeavesAlike o before plain cached
ended_alike name cache o file input before plain cached e f one free other free' told never =
    let ran = ran_seen _ _ before plain one.untold e _ (one.answers.done file free.are input told) in
    let does = other.answers.done file free'.are in
    let runs = does.3 input told in
    let c = cached_run (cache_for cache does.0) o does.0 (start_of o file input) in
    let flat = runs.cached.flat o.limits.steps never in
    both_ran o (plain_run o file input o.limits.steps) (shown_end o c) (work_of c) before plain cached e f one.shown other.shown (ap (λ (q : FlatState). record q { error = shown_error o.reports.trace c }) flat)
    (λ off. ap (λ (q : FlatState). q.error) (shown_is o.reports.trace c off ∙ flat)) ran (one.whole (λ rose. free.quiet.error (rose_below before.error.faults one.untold plain.error.faults (errors_later before (with_error_faults plain one.untold) (Ok e) one.answers.causes) rose))) (ran_seen _ _ before cached other.untold f _ runs.ran) (other.whole (λ rose. free'.quiet.error (rose_below before.error.faults other.untold cached.error.faults (errors_later before (with_error_faults cached other.untold) (Ok f) other.answers.causes) rose)))

pub ends_alike : (name : List ℕ) (cache : CacheOptions) (o : RunOptions) (file input : List ℕ) (before plain cached : Devices) (one other : Result Ending Refusal) →
    AnswersWithLine (plain_task name o) before plain one → IsUnhindered (plain_task name o) file before plain one →
    AnswersWithLine (cached_task name cache o) before cached other → IsUnhindered (cached_task name cache o) file before cached other →
    before.input.left ≡ Some input → ((j : ℕ) → j < o.limits.steps → StoresAt (start_of o file input) j → ⊥) →
    (e : Ending) × (one ≡ Ok e) × (other ≡ Ok e) × LeavesAlike o before plain cached
ends_alike name cache o file input before plain cached (Ok e) (Ok f) a free b free' told never =
    let both = ended_alike name cache o file input before plain cached e f a free b free' told never in (e, refl, ap (λ (x : Ending). Ok x) both.0, both.1)
ends_alike name cache o file input before plain cached (Err r) other a free b free' told never = absurd (not_refused (plain_task name o) file before plain r a free)
ends_alike name cache o file input before plain cached (Ok e) (Err r) a free b free' told never = absurd (not_refused (cached_task name cache o) file before cached r b free')
