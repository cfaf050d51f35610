-- The last line, behind what a command answered before it.
use Rattle.std.proofs.Common.{◌≡◌, inl, inr, ℕ, ◌+◌, ◌≤◌, append_assoc, List, [], ◌∷◌, ◌++◌, length, take, Option, Some, None, Result, Ok, Err, IsErrOf, refl, sym, ◌∙◌, subst, ap, arith}
use Rattle.std.proofs.lemmas.List.{append-nil}
use Rattle.std.specs.Io.KnownBytes.{Appends}
use Rattle.swi_outside.specs.Causes.{Rose}
use Rattle.swi_outside.specs.Devices as outside
use Rattle.swi_outside.specs.Laws.{Appends-append, no_cause, ok_unmoved}
use Rattle.swi_outside.specs.Shelf.{Passed}
use Rattle.swi_outside.specs.Sink.{AppendsPrefix, SinkState, WasWritten}
use Rattle.swi_answer.specs.declared.answer.Ending.{Ending}
use Rattle.swi_answer.specs.declared.answer.Ending.TheVariants as ending
use Rattle.swi_answer.specs.declared.answer.Refusal.{Refusal}
use Rattle.swi_answer.specs.declared.answer.Refusal.TheVariants as refusal
use Rattle.swi_answer.specs.Lines.{ending_line, refusal_line}
use Rattle.std.proofs.Math.Seq.{take-append-add}
use Rattle.swi_calls.specs.State.{FlatState}
use Rattle.swi_outcome.specs.Broken.{Coming, Steps}
use Rattle.swi_task.specs.Devices.{Devices, ShowsLine, stream_faults}
use Rattle.swi_task.specs.Causes.{HasCauses}
use Rattle.swi_task.specs.Checks.{cache_refusal}
use Rattle.swi_task.specs.Runs.{Ran, StepFailed, FailedAtStep, FailedAfterRun, FailedBehind, ending_of}
use Rattle.swi_task.specs.Answers.{Answers, AnswersWithLine, HasStored, IsRefusedAtOnce, IsSized, writes_in}
use Rattle.swi_task.specs.Task.{Task}
use Rattle.swi_task.proofs.Due.{right_empty}
use Rattle.swi_task.proofs.Refusals.{causes_of, same_count}

pub appends_as : (a b : Option (List ℕ)) (x y : List ℕ) → x ≡ y → Appends a b x → Appends a b y
appends_as a b x y e p = subst (λ (z : List ℕ). Appends a b z) e p

-- behind what stood last there was nothing
pub appends_last : (a b c : Option (List ℕ)) (x line : List ℕ) → Appends a b (x ++ []) → Appends b c line → Appends a c (x ++ line)
appends_last a b c x line p q = Appends-append a b c x line (appends_as a b (x ++ []) x (append-nil x) p) q

-- the devices after the line, and what the error sink holds then
abbrev pub told_to : Devices → SinkState → Devices
told_to m error = record m { error = error }

abbrev pub holds_then : Devices → Option (List ℕ) → Devices
holds_then m held = record m { error = record m.error { held = held } }

pub rose_below : (a b c : ℕ) → a ≤ b → Rose b c → Rose a c
rose_below a b c h r = omega arith

pub rose_above : (a b c : ℕ) → b ≤ c → Rose a b → Rose a c
rose_above a b c h r = omega arith

-- no count of the error sink falls
pub errors_later : {T : Type 0} (d m : Devices) (r : Result T Refusal) → HasCauses d m r → d.error.faults ≤ m.error.faults
errors_later d m r h = h.streams.sinks.other_later

pub step_line : (c : Coming) (d m : Devices) (r : Refusal) (held : Option (List ℕ)) (line : List ℕ) →
    StepFailed c d m r [] → Appends m.error.held held line → StepFailed c d (holds_then m held) r line
step_line c d m r held line h p = record {
  fault = h.fault;
  going = h.going;
  output = h.output;
  error_front = h.error_front;
  error = appends_last d.error.held m.error.held held (c.state.error ++ take h.error_front c.next.error) line h.error p;
  unasked = h.unasked;
  output_failed = λ rose. appends_last d.error.held m.error.held held c.begun line (h.output_failed rose) p;
  error_failed = λ rose. elim (h.error_failed rose) [
    | inl at ↦ inl (at.0, at.1, at.2, at.3, (at.4.0, appends_last d.error.held m.error.held held (c.state.error ++ take at.4.0 at.0) line at.4.1 p))
    | inr all ↦ inr all
  ];
  source = λ e. let both = h.source e in (both.0, appends_last d.error.held m.error.held held c.begun line both.1 p);
  taken = h.taken;
  no_more = h.no_more;
  input = h.input;
}

pub at_step_line : (run : Steps) (d m : Devices) (r : Refusal) (held : Option (List ℕ)) (line : List ℕ) →
    FailedAtStep run d m r [] → Appends m.error.held held line → FailedAtStep run d (holds_then m held) r line
at_step_line run d m r held line h p = record { steps = h.steps; fewer = h.fewer; failed = step_line (run.coming h.steps) d m r held line h.failed p }

pub after_run_line : (s : FlatState) (report tail : List ℕ) (d m : Devices) (r : Refusal) (held : Option (List ℕ)) (line : List ℕ) →
    FailedAfterRun s report tail d m r [] → Appends m.error.held held line → FailedAfterRun s report tail d (holds_then m held) r line
after_run_line s report tail d m r held line h p = record {
  output_front = h.output_front;
  output = h.output;
  error_front = h.error_front;
  error = appends_last d.error.held m.error.held held (s.error ++ take h.error_front (tail ++ ending_line (ending_of s))) line h.error p;
  behind = h.behind;
  input = h.input;
  fault = h.fault;
}

-- how the last line stands behind what a command did, or left: what is asked of each command
pub record IsLined (t : Task) : Type 0 where
  -- the line of an ending
  pub done : (files : t.Files) (d m : Devices) (e : Ending) (error : SinkState) → t.ends e → t.does files d m e [] →
      Appends m.error.held error.held (ending_line e) → (ending_line e ≡ [] → error ≡ m.error) → t.does files d (told_to m error) e (ending_line e)
  -- that of a refusal
  pub failed : (files : t.Files) (d m : Devices) (r : Refusal) (held : Option (List ℕ)) (line : List ℕ) →
      t.fails files d m r [] → Appends m.error.held held line → t.fails files d (holds_then m held) r line
  -- the line of an ending that could not be written
  pub unended : (files : t.Files) (d m : Devices) (e : Ending) (error : SinkState) → t.ends e → t.does files d m e [] →
      AppendsPrefix m.error.held error.held (ending_line e) → (ending_line e ≡ [] → ⊥) → stream_faults m ≡ stream_faults d → Rose m.error.faults error.faults →
      t.fails files d (told_to m error) refusal.SinkFault []
  -- a command that writes a file ends without a line
  pub unwritten : (e : Ending) (name : List ℕ) → t.ends e → (ending_line e ≡ [] → ⊥) → t.writes ≡ Some name → ⊥

-- the line of a refusal
pub refused_line : (t : Task) (lined : IsLined t) (d m : Devices) (r : Refusal) (error : SinkState) → Answers t d m (Err r) [] →
    ShowsLine m.error error (refusal_line r) → m.error.faults ≤ error.faults → AnswersWithLine t d (told_to m error) (Err r)
refused_line t lined d m r error a line later = record {
  shown = line.shown;
  untold = m.error.faults;
  whole = line.whole;
  later = later;
  quiet = tt;
  answers = record {
    asked = a.asked;
    sized = a.sized;
    checked = a.checked;
    long = a.long;
    ended = tt;
    done = tt;
    failed = λ f files are. lined.failed files d m r error.held (take line.shown (refusal_line r)) (a.failed f files are) line.bytes;
    refused = λ never. let u = a.refused never in (
      record { input = u.0.input; output = u.0.output; ram = u.0.ram },
      Appends-append d.error.held m.error.held error.held [] (take line.shown (refusal_line r)) u.1 line.bytes,
    );
    shelf = a.shelf;
    input = a.input;
    ram = a.ram;
    causes = let h = a.causes in record { shelf = h.shelf; ram = h.ram; streams = h.streams };
  };
}

pub take_all : (xs : List ℕ) → xs ≡ take (length xs) xs
take_all [] = refl
take_all (x ∷ xs) = ap (λ (ys : List ℕ). x ∷ ys) (take_all xs)

pub ran_line : (s : FlatState) (report : List ℕ) (d m : Devices) (e : Ending) (error : SinkState) (line : List ℕ) →
    Ran s report d m e [] → Appends m.error.held error.held line → Ran s report d (told_to m error) e line
ran_line s report d m e error line h p =
    record { ending = h.ending; input = h.input; output = h.output; error = appends_last d.error.held m.error.held error.held s.error line h.error p }

-- an ending without a line
no_line : (e : Ending) → e ≡ ending.Done → ending_line e ≡ []
no_line e is = subst (λ (x : Ending). ending_line x ≡ []) (sym is) refl

no_done : (e : Ending) → e ≡ ending.Done → (ending_line e ≡ [] → ⊥) → ⊥
no_done e is never = never (no_line e is)

-- a command that is done has no such line
pub done_lined : (t : Task) → ((e : Ending) → t.ends e → e ≡ ending.Done) →
    ((files : t.Files) (d m : Devices) (r : Refusal) (held : Option (List ℕ)) (line : List ℕ) →
    t.fails files d m r [] → Appends m.error.held held line → t.fails files d (holds_then m held) r line) → IsLined t
done_lined t only failed = record {
  done = λ files d m e error is h p same.
      subst (λ (l : List ℕ). t.does files d (told_to m error) e l) (sym (no_line e (only e is)))
      (subst (λ (x : SinkState). t.does files d (told_to m x) e []) (sym (same (no_line e (only e is)))) h);
  failed = failed;
  unended = λ files d m e error is h p never same rose. absurd (no_done e (only e is) never);
  unwritten = λ e name is never named. no_done e (only e is) never;
}

-- an ending comes where no count rose
pub quiet_streams : {T : Type 0} (d m : Devices) (v : T) → HasCauses d m (Ok v) → stream_faults m ≡ stream_faults d
quiet_streams d m v h = ok_unmoved h.streams

-- the line of an ending: the devices but for the count of the error sink are those after it
pub ended_line : (t : Task) (lined : IsLined t) (d m : Devices) (e : Ending) (error : SinkState) → error.faults ≡ m.error.faults → Answers t d m (Ok e) [] →
    Appends m.error.held error.held (ending_line e) → (ending_line e ≡ [] → error ≡ m.error) → AnswersWithLine t d (told_to m error) (Ok e)
ended_line t lined d m e error still a p same = record {
  shown = length (ending_line e);
  whole = λ _. refl;
  untold = error.faults;
  later = omega arith;
  quiet = refl;
  answers = record {
    asked = a.asked;
    sized = a.sized;
    checked = a.checked;
    long = a.long;
    ended = a.ended;
    done = λ files are. subst (λ (l : List ℕ). t.does files d (told_to m error) e l) (take_all (ending_line e))
        (lined.done files d m e error a.ended (a.done files are) p same);
    failed = tt;
    refused = tt;
    shelf = a.shelf;
    input = a.input;
    ram = a.ram;
    causes = let h = a.causes in record {
      shelf = h.shelf;
      ram = h.ram;
      streams = subst (λ (f : outside.Faults). outside.HasCauses (stream_faults d) f (IsErrOf {T = Ending} (Ok e) refusal.SourceFault) (IsErrOf {T = Ending} (Ok e) refusal.SinkFault))
          (ap (λ (n : ℕ). record (stream_faults m) { error = n }) (sym still)) h.streams;
    };
  };
}

-- the error sink failed at lines that end with one that has bytes
pub behind_ending : (report tail : List ℕ) (j : ℕ) (e x : Ending) (d m : Devices) (error : SinkState) → e ≡ x → (ending_line e ≡ [] → ⊥) → stream_faults m ≡ stream_faults d →
    Rose m.error.faults error.faults → FailedBehind report (length report) (tail ++ ending_line x) j d (told_to m error)
behind_ending report tail j e x d m error is never same rose = inr (
  refl,
  λ none. never (ap (λ (y : Ending). ending_line y) is ∙ right_empty tail (ending_line x) none),
  ap (λ (y : outside.Faults). y.output) same,
  subst (λ (n : ℕ). Rose n error.faults) (ap (λ (y : outside.Faults). y.error) same) rose,
)

-- the line of an ending could not be written
pub after_line : (s : FlatState) (all report tail : List ℕ) (d m : Devices) (e : Ending) (error : SinkState) → all ≡ s.error ++ tail →
    Ran (record s { error = all }) report d m e [] → AppendsPrefix m.error.held error.held (ending_line e) → (ending_line e ≡ [] → ⊥) → stream_faults m ≡ stream_faults d → Rose m.error.faults error.faults →
    FailedAfterRun s report tail d (told_to m error) refusal.SinkFault []
after_line s all report tail d m e error split h p never same rose = record {
  output_front = length report;
  output = appends_as d.output.held m.output.held (s.output ++ report) (s.output ++ take (length report) report) (ap (λ (x : List ℕ). s.output ++ x) (take_all report)) h.output;
  error_front = length tail + p.0;
  error = appends_as d.error.held error.held (all ++ take p.0 (ending_line (ending_of s))) ((s.error ++ take (length tail + p.0) (tail ++ ending_line (ending_of s))) ++ [])
      (ap (λ (x : List ℕ). x ++ take p.0 (ending_line (ending_of s))) split ∙ append_assoc s.error tail (take p.0 (ending_line (ending_of s)))
      ∙ ap (λ (x : List ℕ). s.error ++ x) (sym (take-append-add tail (ending_line (ending_of s)) p.0)) ∙ sym (append-nil _))
      (appends_last d.error.held m.error.held error.held all (take p.0 (ending_line (ending_of s))) h.error
      (subst (λ (x : Ending). Appends m.error.held error.held (take p.0 (ending_line x))) h.ending p.1));
  behind = behind_ending report tail (length tail + p.0) e (ending_of s) d m error h.ending never same rose;
  input = h.input;
  fault = refl;
}

err_causes : (d m : Devices) (error : SinkState) (e : Ending) → HasCauses d m (Ok e) → m.error.faults ≤ error.faults → Rose m.error.faults error.faults →
    HasCauses {T = Ending} d (told_to m error) (Err refusal.SinkFault)
err_causes d m error e h later rose =
    let before : d.error.faults ≤ m.error.faults = errors_later d m (Ok e) h in
    causes_of d (told_to m error) (Err refusal.SinkFault)
    (no_cause (same_count h.shelf (λ x. let never : ⊥ = cc in never)) (λ x. let never : ⊥ = cc in never))
    (no_cause (same_count h.ram (λ x. let never : ⊥ = cc in never)) (λ x. let never : ⊥ = cc in never))
    (record {
      input = no_cause (same_count h.streams.input (λ x. let never : ⊥ = cc in never)) (λ x. let never : ⊥ = cc in never);
      sinks = record {
        one_later = h.streams.sinks.one_later;
        other_later = omega arith;
        cause = λ _. inr (rose_below d.error.faults m.error.faults error.faults before rose);
        one_told = inr refl;
        other_told = inr refl;
      };
      once = λ x. let never : ⊥ = cc in absurd never;
    })

sized_fault : (x : Option Refusal) (e : Ending) → IsSized x (Ok e) → IsSized x (Err refusal.SinkFault)
sized_fault x e h = record {
  refused = λ r is. elim (h.refused r is) [ inl p ↦ absurd (let never : ⊥ = cc in never) | inr p ↦ absurd (let never : ⊥ = cc in never) ];
  only = λ f. absurd f;
}

-- a command that writes no file leaves none to write
no_writes : (x : Option (List ℕ)) → ((name : List ℕ) → x ≡ Some name → ⊥) → writes_in x ≡ 0
no_writes None never = refl
no_writes (Some name) never = absurd (never name refl)

-- and stores none
none_stored : (x : Option (List ℕ)) (e : Ending) (before after : Passed) → ((name : List ℕ) → x ≡ Some name → ⊥) → HasStored (Ok e) x before after → after ≡ before
none_stored None e before after never same = same
none_stored (Some name) e before after never stored = absurd (never name refl)

pub ending_failed : (t : Task) (lined : IsLined t) (d m : Devices) (e : Ending) (error : SinkState) → Answers t d m (Ok e) [] →
    AppendsPrefix m.error.held error.held (ending_line e) → (ending_line e ≡ [] → ⊥) → m.error.faults ≤ error.faults → Rose m.error.faults error.faults →
    Answers t d (told_to m error) (Err refusal.SinkFault) []
ending_failed t lined d m e error a p never later rose = record {
  asked = λ x. let bad : ⊥ = cc in bad;
  sized = sized_fault (cache_refusal t.caches (length d.ram.words)) e a.sized;
  checked = a.checked;
  long = λ limit x. absurd (let bad : ⊥ = cc in bad);
  ended = tt;
  done = tt;
  failed = λ _ files are. lined.unended files d m e error a.ended (a.done files are) p never (quiet_streams d m e a.causes) rose;
  refused = λ run. absurd (run tt);
  shelf = let k = a.shelf in record {
    others = k.others;
    refused = λ _ name. k.others name (λ named. lined.unwritten e name a.ended never named);
    quiet = λ _. k.quiet (λ x. let bad : ⊥ = cc in bad);
    failed = λ x. absurd (let bad : ⊥ = cc in bad);
    gets = k.gets;
    puts = k.puts;
    calls = k.calls;
    asked = (k.asked.0, k.asked.1 ∙ no_writes t.writes (λ name named. lined.unwritten e name a.ended never named));
    passed = let p = k.passed in record {
      given = p.given;
      gave = p.gave;
      all = p.all;
      stood = p.stood;
      accepted = p.accepted;
      long = λ limit x. absurd (let bad : ⊥ = cc in bad);
      stored = none_stored t.writes e d.shelf.stored m.shelf.stored (λ name named. lined.unwritten e name a.ended never named) p.stored;
    };
  };
  input = a.input;
  ram = a.ram;
  causes = err_causes d m error e a.causes later rose;
}

-- a line that was written, or not to its end
pub shows_line : {E : Type 0} (old new : SinkState) (r : Result Unit E) (x line : List ℕ) → x ≡ line → WasWritten old new r x → ShowsLine old new line
shows_line old new (Ok u) x line e w = record {
  shown = length line;
  bytes = appends_as old.held new.held x (take (length line) line) (e ∙ take_all line) w.bytes;
  whole = λ _. refl;
}
shows_line old new (Err f) x line e w = record {
  shown = w.bytes.0;
  bytes = appends_as old.held new.held (take w.bytes.0 x) (take w.bytes.0 line) (ap (λ (y : List ℕ). take w.bytes.0 y) e) w.bytes.1;
  whole = λ never. absurd (never w.cause.failed);
}

-- a refusal before anything was asked for
pub refused_at_once : (d : Devices) (r : Refusal) (error : SinkState) → ShowsLine d.error error (refusal_line r) → d.error.faults ≤ error.faults →
    IsRefusedAtOnce d (told_to d error) (Err r)
refused_at_once d r error line later = record {
  untouched = record { input = refl; output = refl; ram = refl };
  shelf = refl;
  shown = line.shown;
  error = line.bytes;
  whole = line.whole;
  later = later;
}
