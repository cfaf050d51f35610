-- What two commands gain, keep and store alike.
use Rattle.std.proofs.Common.{◌≡◌, ℕ, ◌+◌, ◌<◌, List, [], ◌∷◌, ◌++◌, length, get_or, take, reverse, Ok, refl, arith, length-append, sym, ap, subst, ◌∙◌, get_or-drop}
use Rattle.std.proofs.lemmas.List.{append-nil}
use Rattle.std.proofs.Math.Seq.{drop-append_seam, get_or-append_seam}
use Rattle.std.specs.Prelude.{All}
use Rattle.std.specs.Io.KnownBytes.{Appends}
use Rattle.swi_outside.specs.CacheRam.{Fetch, KeepsBeyond, RamState, since}
use Rattle.swi_outside.specs.Causes.{risen}
use Rattle.swi_outside.specs.Laws.{Appends-none}
use Rattle.swi_outside.specs.Shelf.{Passed}
use Rattle.swi_outside.specs.Sink.{SinkState}
use Rattle.swi_board.specs.Fetching.{HasFetched}
use Rattle.swi_answer.specs.declared.answer.Ending.{Ending}
use Rattle.swi_answer.specs.Lines.{ending_line}
use Rattle.swi_calls.specs.State.{FlatState}
use Rattle.swi_task.specs.Answers.{Answers, AnswersWithLine}
use Rattle.swi_task.specs.Devices.{Devices, with_error_faults}
use Rattle.swi_task.specs.Runs.{Ran}
use Rattle.swi_task.specs.Task.{Task}
use Rattle.swi_task.proofs.Lines.{errors_later, rose_below, take_all}
use Rattle.swi_top.specs.Alike.{NoneRose}
use Rattle.swi_answer_laws.specs.Answered.{GainAlike, RamsAlike, StoreAlike}

-- ---- sinks

pub gain : (d m d_ m_ : SinkState) (xs ys : List ℕ) → xs ≡ ys → Appends d.held m.held xs → Appends d_.held m_.held ys → GainAlike d m d_ m_
gain d m d_ m_ xs ys same p q = (xs, p, subst (λ (l : List ℕ). Appends d_.held m_.held l) (sym same) q)

gained_none : (d m : SinkState) → m ≡ d → Appends d.held m.held []
gained_none d m same = subst (λ (s : SinkState). Appends d.held s.held []) (sym same) (Appends-none d.held)

pub gain_none : (d m d_ m_ : SinkState) → m ≡ d → m_ ≡ d_ → GainAlike d m d_ m_
gain_none d m d_ m_ p q = ([], gained_none d m p, gained_none d_ m_ q)

-- ---- shelves

kept_by_append : (xs ys : Passed) → xs ≡ ys → xs ≡ ys ++ []
kept_by_append xs ys e = e ∙ sym (append-nil ys)

pub store_none : (d m d_ m_ : Passed) → m ≡ d → m_ ≡ d_ → StoreAlike d m d_ m_
store_none d m d_ m_ p q = ([], kept_by_append m d p, kept_by_append m_ d_ q)

pub store_one : (d m d_ m_ : Passed) (name xs ys : List ℕ) → xs ≡ ys → m ≡ d ++ (name, xs) ∷ [] → m_ ≡ d_ ++ (name, ys) ∷ [] → StoreAlike d m d_ m_
store_one d m d_ m_ name xs ys same p q = ((name, xs) ∷ [], p, q ∙ ap (λ (l : List ℕ). d_ ++ (name, l) ∷ []) (sym same))

-- bytes that were stored last
pub last_small : (d m : Passed) (name xs : List ℕ) → m ≡ d ++ (name, xs) ∷ [] → All (λ p. (i : ℕ) → get_or p.1 i 0 < 256) m → (i : ℕ) → get_or xs i 0 < 256
last_small d m name xs e all i =
    let p : List ℕ × List ℕ = (name, xs) in
    let within : length d < length (d ++ p ∷ []) = omega (arith, length-append d (p ∷ [])) in
    let there : (k : ℕ) → get_or (get_or (d ++ p ∷ []) (length d) p).1 k 0 < 256 = subst (λ (l : Passed). All (λ r. (k : ℕ) → get_or r.1 k 0 < 256) l) e all (length d) p within in
    subst (λ (r : List ℕ × List ℕ). get_or r.1 i 0 < 256) (get_or-append_seam d p [] p) (there i)

pub behind_small : (xs ys : List ℕ) → ((i : ℕ) → get_or (xs ++ ys) i 0 < 256) → (i : ℕ) → get_or ys i 0 < 256
behind_small xs ys s i = subst (λ (l : List ℕ). get_or l i 0 < 256) (drop-append_seam xs ys) (rw (get_or-drop (length xs) (xs ++ ys) i 0) (s (length xs + i)))

-- ---- rams

pub same_ram : (words : ℕ) (m m_ : RamState) → m ≡ m_ → RamsAlike words m m_
same_ram words m m_ e = record {
  fetches = ap (λ (r : RamState). r.fetches) e;
  sets = ap (λ (r : RamState). r.sets) e;
  fetched_at = ap (λ (r : RamState). r.fetched_at) e;
  beyond = λ i far. ap (λ (r : RamState). get_or r.words i 0) e;
}

-- so many fetches and sets were counted, and these words fetched
pub record RamWent (fetches sets : ℕ) (words : List Fetch) (before after : RamState) : Type 0 where
  pub counted : after.fetches ≡ risen before.fetches fetches
  pub written : after.sets ≡ risen before.sets sets
  pub fetched : HasFetched words before after

pub went_alike : (fetches sets words : ℕ) (at : List Fetch) (d m d_ m_ : RamState) → d ≡ d_ → RamWent fetches sets at d m → RamWent fetches sets at d_ m_ →
    KeepsBeyond words d m → KeepsBeyond words d_ m_ → RamsAlike words m m_
went_alike fetches sets words at d m d_ m_ same x y p q = record {
  fetches = x.counted ∙ (ap (λ (r : RamState). risen r.fetches fetches) same ∙ sym y.counted);
  sets = x.written ∙ (ap (λ (r : RamState). risen r.sets sets) same ∙ sym y.written);
  fetched_at = x.fetched ∙ (ap (λ (r : RamState). since r.sets (reverse at) ++ r.fetched_at) same ∙ sym y.fetched);
  beyond = λ i far. p.beyond i far ∙ (ap (λ (r : RamState). get_or r.words i 0) same ∙ sym (q.beyond i far));
}

-- ---- a run

-- two runs that came to one state with one report
pub record RanAlike (d m d_ m_ : Devices) (e f : Ending) : Type 0 where
  pub ending : e ≡ f
  pub output : GainAlike d.output m.output d_.output m_.output
  pub error : GainAlike d.error m.error d_.error m_.error
  pub left : m.input.left ≡ m_.input.left

pub ran_alike : (s : FlatState) (report : List ℕ) (d m d_ m_ : Devices) (e f : Ending) → Ran s report d m e (ending_line e) → Ran s report d_ m_ f (ending_line f) → RanAlike d m d_ m_ e f
ran_alike s report d m d_ m_ e f x y =
    let ends : e ≡ f = x.ending ∙ sym y.ending in
    record {
      ending = ends;
      output = gain d.output m.output d_.output m_.output (s.output ++ report) (s.output ++ report) refl x.output y.output;
      error = gain d.error m.error d_.error m_.error (s.error ++ ending_line e) (s.error ++ ending_line f) (ap (λ (r : Ending). s.error ++ ending_line r) ends) x.error y.error;
      left = x.input ∙ sym y.input;
    }

-- ---- the last line

-- where the error sink did not fail, the line of an ending is whole
pub whole_answers : (t : Task) (d m : Devices) (e : Ending) → AnswersWithLine t d m (Ok e) → NoneRose d m → Answers t d m (Ok e) (ending_line e)
whole_answers t d m e a quiet =
    let shown : a.shown ≡ length (ending_line e) =
    a.whole (λ rose. quiet.error (rose_below d.error.faults a.untold m.error.faults (errors_later d (with_error_faults m a.untold) (Ok e) a.answers.causes) rose)) in
    let line : take a.shown (ending_line e) ≡ ending_line e = ap (λ (n : ℕ). take n (ending_line e)) shown ∙ sym (take_all (ending_line e)) in
    let told : Answers t d (with_error_faults m m.error.faults) (Ok e) (take a.shown (ending_line e)) = subst (λ (n : ℕ). Answers t d (with_error_faults m n) (Ok e) (take a.shown (ending_line e))) (sym a.quiet) a.answers in
    subst (λ (l : List ℕ). Answers t d m (Ok e) l) line told
