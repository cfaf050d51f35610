-- What is asked has one answer.
use Rattle.std.proofs.Common.{◌≡◌, ◌⊎◌, inl, inr, ℕ, ◌+◌, ◌≤◌, List, length, take, Option, Some, None, Result, Ok, Err, IsErrOf, refl, sym, ◌∙◌, subst, ap, arith}
use Rattle.swi_outside.specs.CacheRam.{RamState}
use Rattle.swi_command.specs.CommandLine.{Request, RewriteFile, RunAhead, RunShared, RunCached, RunPlain, ListFile, CheckFile, UpgradeFile, MeasureMade, RunSurvey, RunProfile}
use Rattle.std.specs.Io.KnownBytes.{Appends}
use Rattle.swi_answer.specs.declared.answer.Ending.{Ending}
use Rattle.swi_answer.specs.declared.answer.Refusal.{Refusal}
use Rattle.swi_answer.specs.declared.answer.Refusal.TheVariants as refusal
use Rattle.swi_answer.specs.Lines.{refusal_line}
use Rattle.swi_task.specs.Answers.{AnswersWithLine, IsRunFault}
use Rattle.swi_task.specs.Checks.{IsRefusedBy, cache_refusal}
use Rattle.swi_task.specs.Devices.{Devices, IsUntouched, with_error_faults}
use Rattle.swi_task.specs.Task.{Task}
use Rattle.swi_task.proofs.Lines.{errors_later, rose_above, rose_below, take_all}
use Rattle.swi_task.proofs.Refusals.{gave_same}
use Rattle.swi_top.specs.Alike.{IsUnhindered}
use Rattle.swi_top.specs.Tasks.{task_of}
use Rattle.swi_top.proofs.Alike.{completes}
use Rattle.swi_answer_laws.specs.Answered.{Answer, AnswersAreOne, Given, IsAnswerTo, IsSameAnswer, cache_words}
use Rattle.swi_answer_laws.proofs.Alike.{gain, gain_none, same_ram, store_none, whole_answers}
use Rattle.swi_answer_laws.proofs.Cached.{ahead_once, cached_once, measure_once, share_once}
use Rattle.swi_answer_laws.proofs.Ended.{End, EndOnce, Ended, check_once, list_once, plain_once, profile_once, rewrite_once, survey_once, upgrade_once}
use Rattle.swi_answer_laws.proofs.Refusals.{refusal_is_one}

-- ---- two endings

end_once : (q : Request) → EndOnce q
end_once (RewriteFile from to block whole) = rewrite_once from to block whole
end_once (UpgradeFile from to) = upgrade_once from to
end_once (CheckFile name) = check_once name
end_once (ListFile name most) = list_once name most
end_once (RunPlain name o) = plain_once name o
end_once (RunCached name cache o) = cached_once name cache o
end_once (RunAhead name cache o rate) = ahead_once name cache o rate
end_once (MeasureMade seed functions cache) = measure_once seed functions cache
end_once (RunShared names cache o) = share_once names cache o
end_once (RunSurvey name sizes block kind limits) = survey_once name sizes block kind limits
end_once (RunProfile name limits) = profile_once name limits

-- an answer, of the result that it has
abbrev answer : Devices → Devices → Result Ending Refusal → Answer
answer d m r = record { before = d; after = m; result = r }

abbrev pub end : Devices → Devices → Ending → End
end d m e = record { before = d; after = m; ending = e }

pub ended : (g : Given) (d m : Devices) (e : Ending) → IsAnswerTo g (answer d m (Ok e)) → Ended g.request g.files g.input (end d m e)
ended g d m e x = record {
  answers = whole_answers (task_of g.request) d m e x.answers x.quiet;
  are = x.are;
  told = x.input;
  stored = x.typed.stored;
}

both_ended : (g : Given) (d m d_ m_ : Devices) (e f : Ending) → IsAnswerTo g (answer d m (Ok e)) → IsAnswerTo g (answer d_ m_ (Ok f)) → IsSameAnswer g (answer d m (Ok e)) (answer d_ m_ (Ok f))
both_ended g d m d_ m_ e f x y =
    let same = end_once g.request g.files g.input (end d m e) (end d_ m_ f) (x.ram ∙ sym y.ram) (ended g d m e x) (ended g d_ m_ f y) in
    record {
      result = ap (λ (r : Ending). Ok r) same.ending;
      output = same.output;
      error = same.error;
      left = same.left;
      stored = same.stored;
      ram = same.ram;
      placed = same.placed;
    }

-- ---- two refusals

-- the cache is refused first; else a check refuses
by_size : (t : Task) (d m : Devices) (r p : Refusal) → AnswersWithLine t d m (Err r) → (IsErrOf {T = Ending} (Err r) refusal.Memory → ⊥) → cache_refusal t.caches (length d.ram.words) ≡ Some p → r ≡ p
by_size t d m r p a memory is = elim (a.answers.sized.refused p is) [
  | inl e ↦ (let same : ◌≡◌ {A = Result Ending Refusal} (Err r) (Err p) = e in cc)
  | inr none ↦ absurd (memory none)
]

no_size : (x : Option Refusal) (r : Refusal) → x ≡ None → x ≡ Some r → ⊥
no_size x r none some = cc

by_check : (g : Given) (d m : Devices) (r : Refusal) → IsAnswerTo g (answer d m (Err r)) → cache_refusal (task_of g.request).caches (length d.ram.words) ≡ None → IsRefusedBy ((task_of g.request).checks g.files) r
by_check g d m refusal.Usage x none = absurd (x.answers.answers.asked refl)
by_check g d m refusal.Memory x none = absurd (x.memory refl)
by_check g d m refusal.ShelfFault x none = absurd (x.quiet.shelf (x.answers.answers.causes.shelf.cause refl))
by_check g d m refusal.SourceFault x none = absurd (x.quiet.input (x.answers.answers.causes.streams.input.cause refl))
by_check g d m refusal.SinkFault x none = elim (x.answers.answers.causes.streams.sinks.cause refl) [
  | inl rose ↦ absurd (x.quiet.output rose)
  | inr rose ↦ absurd (x.quiet.error (rose_above d.error.faults x.answers.untold m.error.faults x.answers.later rose))
]
by_check g d m refusal.RamFault x none = absurd (x.quiet.ram (x.answers.answers.causes.ram.cause refl))
by_check g d m (refusal.CacheLarge bytes) x none = absurd (no_size (cache_refusal (task_of g.request).caches (length d.ram.words)) (refusal.CacheLarge bytes) none (x.answers.answers.sized.only tt))
by_check g d m (refusal.RamSmall bytes held) x none = absurd (no_size (cache_refusal (task_of g.request).caches (length d.ram.words)) (refusal.RamSmall bytes held) none (x.answers.answers.sized.only tt))
by_check g d m (refusal.FileLong limit) x none = elim x.are [
  | inl gave ↦
      let t : Task = task_of g.request in
      let passed = x.answers.answers.shelf.passed in
      let same : passed.given ≡ t.contents g.files = gave_same t.reads passed.given (t.contents g.files) d.shelf m.shelf passed.gave gave in
      let as_many : length passed.given ≡ length t.reads = ap (λ (l : List (List ℕ)). length l) same ∙ x.all in
      let one_more : x.answers.answers.shelf.gets ≡ length passed.given + 1 = passed.all in
      let most : x.answers.answers.shelf.gets ≤ length t.reads = x.answers.answers.shelf.asked.1 in
      absurd (omega (arith, as_many, one_more, most))
  | inr tells ↦ x.answers.answers.long limit refl g.files tells
]
by_check g d m (refusal.Elf r) x none = x.answers.answers.checked g.files x.are
by_check g d m (refusal.Room last) x none = x.answers.answers.checked g.files x.are
by_check g d m refusal.NoImage x none = x.answers.answers.checked g.files x.are
by_check g d m (refusal.Image r) x none = x.answers.answers.checked g.files x.are
by_check g d m (refusal.Mismatch r) x none = x.answers.answers.checked g.files x.are
by_check g d m (refusal.Long address needs) x none = x.answers.answers.checked g.files x.are
by_check g d m (refusal.CacheSmall bytes least) x none = x.answers.answers.checked g.files x.are

cases_size : (x : Option Refusal) → (x ≡ None) ⊎ ((p : Refusal) × (x ≡ Some p))
cases_size None = inl refl
cases_size (Some p) = inr (p, refl)

refused_once : (g : Given) (d m d_ m_ : Devices) (r s : Refusal) → IsAnswerTo g (answer d m (Err r)) → IsAnswerTo g (answer d_ m_ (Err s)) → r ≡ s
refused_once g d m d_ m_ r s x y =
    let t : Task = task_of g.request in
    let rams : d.ram ≡ d_.ram = x.ram ∙ sym y.ram in
    let sizes : cache_refusal t.caches (length d_.ram.words) ≡ cache_refusal t.caches (length d.ram.words) = ap (λ (k : RamState). cache_refusal t.caches (length k.words)) (sym rams) in
    elim (cases_size (cache_refusal t.caches (length d.ram.words))) [
      | inl none ↦ refusal_is_one (t.checks g.files) r s x.typed.refused y.typed.refused (by_check g d m r x none) (by_check g d_ m_ s y (sizes ∙ none))
      | inr some ↦ by_size t d m r some.0 x.answers x.memory some.1 ∙ sym (by_size t d_ m_ s some.0 y.answers y.memory (sizes ∙ some.1))
    ]

-- no fault in the run
no_fault : (g : Given) (d m : Devices) (r : Refusal) → IsAnswerTo g (answer d m (Err r)) → IsRunFault r → ⊥
no_fault g d m refusal.SourceFault x f = x.quiet.input (x.answers.answers.causes.streams.input.cause refl)
no_fault g d m refusal.SinkFault x f = elim (x.answers.answers.causes.streams.sinks.cause refl) [
  | inl rose ↦ x.quiet.output rose
  | inr rose ↦ x.quiet.error (rose_above d.error.faults x.answers.untold m.error.faults x.answers.later rose)
]
no_fault g d m refusal.RamFault x f = x.quiet.ram (x.answers.answers.causes.ram.cause refl)
no_fault g d m _ x f = f

-- a refusal leaves the streams and the ram, and its line is whole
record LeftAlone (d m : Devices) (r : Refusal) : Type 0 where
  untouched : IsUntouched d m
  error : Appends d.error.held m.error.held (refusal_line r)

left_alone : (g : Given) (d m : Devices) (r : Refusal) → IsAnswerTo g (answer d m (Err r)) → LeftAlone d m r
left_alone g d m r x =
    let a = x.answers in
    let stays = a.answers.refused (no_fault g d m r x) in
    let shown : a.shown ≡ length (refusal_line r) =
    a.whole (λ rose. x.quiet.error (rose_below d.error.faults a.untold m.error.faults (errors_later d (with_error_faults m a.untold) (Err r) a.answers.causes) rose)) in
    let line : take a.shown (refusal_line r) ≡ refusal_line r = ap (λ (n : ℕ). take n (refusal_line r)) shown ∙ sym (take_all (refusal_line r)) in
    record {
      untouched = record { input = stays.0.input; output = stays.0.output; ram = stays.0.ram };
      error = subst (λ (l : List ℕ). Appends d.error.held m.error.held l) line stays.1;
    }

both_refused : (g : Given) (d m d_ m_ : Devices) (r s : Refusal) → IsAnswerTo g (answer d m (Err r)) → IsAnswerTo g (answer d_ m_ (Err s)) → IsSameAnswer g (answer d m (Err r)) (answer d_ m_ (Err s))
both_refused g d m d_ m_ r s x y =
    let same : r ≡ s = refused_once g d m d_ m_ r s x y in
    let one = left_alone g d m r x in
    let other = left_alone g d_ m_ s y in
    record {
      result = ap (λ (k : Refusal). Err k) same;
      output = gain_none d.output m.output d_.output m_.output one.untouched.output other.untouched.output;
      error = gain d.error m.error d_.error m_.error (refusal_line r) (refusal_line s) (ap (λ (k : Refusal). refusal_line k) same) one.error other.error;
      left = ap (λ k. k.left) one.untouched.input ∙ (x.input ∙ (sym y.input ∙ sym (ap (λ k. k.left) other.untouched.input)));
      stored = store_none d.shelf.stored m.shelf.stored d_.shelf.stored m_.shelf.stored x.answers.answers.shelf.passed.stored y.answers.answers.shelf.passed.stored;
      ram = same_ram (cache_words (task_of g.request).caches) m.ram m_.ram (one.untouched.ram ∙ (x.ram ∙ (sym y.ram ∙ sym other.untouched.ram)));
      placed = tt;
    }

-- ---- an ending and a refusal

no_larger : (g : Given) (d m : Devices) (e : Ending) (x : Option Refusal) → x ≡ cache_refusal (task_of g.request).caches (length d.ram.words) → AnswersWithLine (task_of g.request) d m (Ok e) → x ≡ None
no_larger g d m e None is a = refl
no_larger g d m e (Some p) is a = elim (a.answers.sized.refused p (sym is)) [
  | inl bad ↦ (let wrong : ◌≡◌ {A = Result Ending Refusal} (Ok e) (Err p) = bad in let bad_ : ⊥ = cc in absurd bad_)
  | inr bad ↦ (let wrong : ◌≡◌ {A = Result Ending Refusal} (Ok e) (Err refusal.Memory) = bad in let bad_ : ⊥ = cc in absurd bad_)
]

not_both : (g : Given) (d m d_ m_ : Devices) (e : Ending) (r : Refusal) → IsAnswerTo g (answer d m (Ok e)) → IsAnswerTo g (answer d_ m_ (Err r)) → ⊥
not_both g d m d_ m_ e r x y =
    let t : Task = task_of g.request in
    let rams : d_.ram ≡ d.ram = y.ram ∙ sym x.ram in
    let free : IsUnhindered t g.files d_ m_ (Err r) = record {
      are = y.are;
      all = y.all;
      accepted = x.answers.answers.checked g.files x.are;
      sized = ap (λ (k : RamState). cache_refusal t.caches (length k.words)) rams ∙ no_larger g d m e (cache_refusal t.caches (length d.ram.words)) refl x.answers;
      quiet = y.quiet;
      memory = y.memory;
    } in
    let ends = completes g.request g.files d_ m_ (Err r) y.answers free in
    let wrong : ◌≡◌ {A = Result Ending Refusal} (Err r) (Ok ends.0) = ends.1 in
    cc

answer_once : (g : Given) (d m d_ m_ : Devices) (r s : Result Ending Refusal) → IsAnswerTo g (answer d m r) → IsAnswerTo g (answer d_ m_ s) → IsSameAnswer g (answer d m r) (answer d_ m_ s)
answer_once g d m d_ m_ (Ok e) (Ok f) x y = both_ended g d m d_ m_ e f x y
answer_once g d m d_ m_ (Ok e) (Err s) x y = absurd (not_both g d m d_ m_ e s x y)
answer_once g d m d_ m_ (Err r) (Ok f) x y = absurd (not_both g d_ m_ d m f r y x)
answer_once g d m d_ m_ (Err r) (Err s) x y = both_refused g d m d_ m_ r s x y

pub answers_are_one : AnswersAreOne
answers_are_one g a b x y = answer_once g a.before a.after b.before b.after a.result b.result x y
