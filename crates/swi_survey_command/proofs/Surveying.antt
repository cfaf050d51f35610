-- What `survey` answers, from what the run of its file's program does.
use Rattle.std.proofs.Common.{◌≡◌, ◌⊎◌, inl, inr, ℕ, ◌-◌, ◌<◌, ◌≤◌, List, [], ◌∷◌, ◌++◌, length, take, Option, None, Some, Result, Ok, Err, refl, sym, ◌∙◌, subst, ap, arith, false}
use Rattle.std.proofs.lemmas.List.{append-nil}
use Rattle.std.specs.Io.KnownBytes.{Appends}
use Rattle.swi_outside.specs.CacheRam.{RamState}
use Rattle.swi_outside.specs.Causes.{Rose}
use Rattle.swi_outside.specs.Devices as outside
use Rattle.swi_outside.specs.Laws.{Appends-append, Appends-none, ok_unmoved}
use Rattle.swi_outside.specs.Shelf.{ShelfState}
use Rattle.swi_outside.specs.Sink.{AppendsPrefix, SinkState}
use Rattle.swi_outside.specs.Source.{ReadFrom, SourceState}
use Rattle.swi_outside.specs.Told.{told_as}
use Rattle.swi_outside.proofs.SourceLemmas.{rest_is}
use Rattle.swi_elf_read.specs.Loaded.{image_of as image_in}
use Rattle.swi_memory.specs.declared.layout.Layout.{Layout}
use Rattle.swi_program.specs.Program.{ProgramData}
use Rattle.swi_program.specs.ProgramOf.{program_of_file}
use Rattle.swi_image.specs.Format.{ImageData}
use Rattle.swi_command.specs.declared.command.CacheKind.{CacheKind}
use Rattle.swi_command.specs.declared.command.RunLimits.{RunLimits}
use Rattle.swi_calls.specs.declared.end.CallFault.{CallFault}
use Rattle.swi_calls.specs.declared.end.CallFault.TheVariants as call
use Rattle.swi_calls.specs.declared.end.End.{End}
use Rattle.swi_calls.specs.FirstStore.{StoresAt}
use Rattle.swi_calls.specs.Flat.{flat_run, flat_start, machine_of, started}
use Rattle.swi_calls.specs.Held.{held_run}
use Rattle.swi_calls.specs.Laws.{held_is_flat}
use Rattle.swi_calls.specs.State.{FlatState}
use Rattle.swi_flat.specs.FlatData.{FlatData, state_at}
use Rattle.swi_flat.proofs.ToldRuns.{RanTold, ran_as_told}
use Rattle.swi_cached.proofs.Failed.{is_flat_run, stops_before_store}
use Rattle.swi_survey.specs.declared.survey.Surveyed.{Surveyed}
use Rattle.swi_survey.specs.declared.survey.SurveyStop.{SurveyStop}
use Rattle.swi_survey.specs.declared.survey.SurveyStop.TheVariants as stop
use Rattle.swi_survey.specs.Survey as survey
use Rattle.swi_answer.specs.declared.answer.Ending.{Ending}
use Rattle.swi_answer.specs.declared.answer.Refusal.{Refusal}
use Rattle.swi_answer.specs.declared.answer.Refusal.TheVariants as refusal
use Rattle.swi_answer.specs.Lines.{ending_line}
use Rattle.swi_cached_task.specs.Placing.{placed_checks}
use Rattle.swi_task.specs.Answers.{Answers, IsChecked, IsRunFault}
use Rattle.swi_task.specs.Causes.{HasCauses}
use Rattle.swi_task.specs.Checks.{IsAccepted, first_size_refusal, room_in}
use Rattle.swi_task.specs.Devices.{Devices, stream_faults, streams_of}
use Rattle.swi_task.specs.Over.{IsRunErr}
use Rattle.swi_task.specs.Runs.{Ran, StepFailed, ending_by}
use Rattle.swi_task.specs.Subject.{IsImageFor}
use Rattle.swi_task.proofs.Lines.{IsLined, after_line, after_run_line, at_step_line, holds_then, ran_line, told_to}
use Rattle.swi_task.proofs.Refusals.{IsRead, calm_causes, causes_behind, keeps_read, none_long, out_causes, read_is, sized_along, sized_err, sized_ok}
use Rattle.swi_task.proofs.Starts.{start_is}
use Rattle.swi_file_commands.specs.RunFlat.{flat_coming, untold_steps}
use Rattle.swi_file_commands.proofs.Running.{from_none, refusal_of as flat_refusal, run_causes, run_to, step_failed}
use Rattle.swi_cached_task.proofs.Caching.{run_err_asked, run_err_checked, run_err_given, run_err_not, run_err_short, run_err_size}
use Rattle.swi_survey_command.specs.RunSurvey.{SurveyBroke, SurveyFailed, SurveyRun, Surveys, SurveysOver, counting, limit_of, refusal_of, run_through, survey_from, survey_lines, survey_of, survey_task, surveyed}
use Rattle.swi_survey_command.proofs.Counting.{run_as}

-- the program's run is the flat machine's, whatever cache is counted for
surveys_so : (r : SurveyRun) (d m : Devices) (e : Ending) (last : List ℕ) → Ran (surveyed r (limit_of r)) (survey_lines r) d m e last → Surveys r d m e last
surveys_so r d m e last ran = record { ran = ran; flat = λ bytes. is_flat_run (run_through r bytes); stops = λ bytes. stops_before_store (run_through r bytes) }

failed_so : (r : SurveyRun) (d m : Devices) (f : Refusal) (last : List ℕ) → SurveyBroke r d m f last → SurveyFailed r d m f last
failed_so r d m f last broke = record { broke = broke; flat = λ bytes. is_flat_run (run_through r bytes); stops = λ bytes. stops_before_store (run_through r bytes) }

-- ---- there was no memory

pub no_memory : (r : List ℕ → SurveyRun) (d : Devices) → SurveysOver r d d (Err refusal.Memory)
no_memory r d = record {
  done = tt;
  refused = tt;
  quiet = λ _. refl;
  failed = λ f. absurd f;
  causes = calm_causes d d (Err refusal.Memory) tt refl refl refl;
}

-- ---- it came to its end

-- with this input, before its lines are written
pub record Came (r : SurveyRun) (d m : Devices) (s : Surveyed) : Type 0 where
  pub ending : s.ending ≡ (surveyed r (limit_of r)).machine.ending
  pub pc : s.pc ≡ (surveyed r (limit_of r)).machine.pc
  pub steps : s.steps ≡ (surveyed r (limit_of r)).machine.steps
  pub input : m.input.left ≡ Some (surveyed r (limit_of r)).input
  pub output : Appends d.output.held m.output.held (surveyed r (limit_of r)).output
  pub error : Appends d.error.held m.error.held (surveyed r (limit_of r)).error
  pub quiet : stream_faults m ≡ stream_faults d

abbrev pub streams : SourceState → SinkState → SinkState → outside.Devices
streams i o e = record { input = i; output = o; error = e }

pub came : (k : CacheKind) (sizes : List ℕ) (limits : RunLimits) (v : ImageData) (p : ProgramData) (l : Layout) (d : Devices) (i j : SourceState) (o n e f : SinkState) (s : Surveyed) (input rest : List ℕ) →
    ReadFrom i j input rest → survey.SurveyRan (run_as k sizes limits v p l) (streams i o e) (streams j n f) (Ok s) →
    Came (survey_from k sizes limits v p l input) (run_to d (told_as i input) o e) (run_to d (told_as j rest) n f) s
came k sizes limits v p l d i j o n e f s input rest read h =
    let t = h.told input rest read in record {
      ending = t.ending;
      pc = t.pc;
      steps = t.steps;
      input = ap (λ (x : List ℕ). Some x) (sym (h.input input rest read));
      output = h.output input rest read;
      error = h.error input rest read;
      quiet = ok_unmoved h.causes;
    }

same_input : (d : Devices) (a b : List ℕ) → d.input.left ≡ Some a → d.input.left ≡ Some b → a ≡ b
same_input d a b e f = cc

ends_so : (s : Surveyed) (x : Ending) (t : FlatState) → x ≡ ending_by s.ending s.pc s.steps → s.ending ≡ t.machine.ending → s.pc ≡ t.machine.pc → s.steps ≡ t.machine.steps →
    x ≡ ending_by t.machine.ending t.machine.pc t.machine.steps
ends_so s x t e a b c =
    e ∙ ap (λ (y : Option End). ending_by y s.pc s.steps) a ∙ ap (λ (n : ℕ). ending_by t.machine.ending n s.steps) b ∙ ap (λ (n : ℕ). ending_by t.machine.ending t.machine.pc n) c

-- and they were written
pub survey_done : (r : List ℕ → SurveyRun) (d m : Devices) (out : SinkState) (s : Surveyed) (x : Ending) (input : List ℕ) → d.input.left ≡ Some input → m.shelf ≡ d.shelf → m.ram ≡ d.ram →
    Came (r input) d m s → x ≡ ending_by s.ending s.pc s.steps → Appends m.output.held out.held (survey_lines (r input)) → out.faults ≡ m.output.faults →
    SurveysOver r d (record m { output = out }) (Ok x)
survey_done r d m out s x input told shelf ram h ends written still =
    let t = surveyed (r input) (limit_of (r input)) in record {
      done = λ other left. subst (λ (y : List ℕ). Surveys (r y) d (record m { output = out }) x []) (same_input d input other told left) (surveys_so (r input) d (record m { output = out }) x [] (record {
        ending = ends_so s x t ends h.ending h.pc h.steps;
        input = h.input;
        output = Appends-append d.output.held m.output.held out.held t.output (survey_lines (r input)) h.output written;
        error = subst (λ (y : List ℕ). Appends d.error.held m.error.held y) (sym (append-nil t.error)) h.error;
      }));
      refused = tt;
      quiet = tt;
      failed = tt;
      causes = calm_causes d (record m { output = out }) (Ok x) tt (ap (λ (y : ShelfState). y.faults) shelf) (ap (λ (y : RamState). y.faults) ram)
          (ap (λ (n : ℕ). record (stream_faults m) { output = n }) still ∙ h.quiet);
    }

-- or not to their end
pub lines_broke : (r : List ℕ → SurveyRun) (d m : Devices) (out : SinkState) (s : Surveyed) (input : List ℕ) → d.input.left ≡ Some input → m.shelf ≡ d.shelf → m.ram ≡ d.ram →
    Came (r input) d m s → AppendsPrefix m.output.held out.held (survey_lines (r input)) → (survey_lines (r input) ≡ [] → ⊥) → m.output.faults ≤ out.faults → Rose m.output.faults out.faults →
    SurveysOver r d (record m { output = out }) (Err refusal.SinkFault)
lines_broke r d m out s input told shelf ram h part some later rose =
    let t = surveyed (r input) (limit_of (r input)) in
    let still : m.output.faults ≡ d.output.faults = ap (λ (x : outside.Faults). x.output) h.quiet in
    let up : Rose d.output.faults out.faults = subst (λ (n : ℕ). Rose n out.faults) still rose in record {
      done = tt;
      refused = tt;
      quiet = λ never. absurd (never tt);
      failed = λ _ other left. subst (λ (y : List ℕ). SurveyFailed (r y) d (record m { output = out }) refusal.SinkFault []) (same_input d input other told left)
          (failed_so (r input) d (record m { output = out }) refusal.SinkFault [] (inr (record {
            output_front = part.0;
            output = Appends-append d.output.held m.output.held out.held t.output (take part.0 (survey_lines (r input))) h.output part.1;
            error_front = 0;
            error = subst (λ (y : List ℕ). Appends d.error.held m.error.held y) (sym (append-nil (t.error ++ [])))
                (subst (λ (y : List ℕ). Appends d.error.held m.error.held y) (sym (append-nil t.error)) h.error);
            behind = inl (refl, some, up);
            input = h.input;
            fault = refl;
          })));
      causes = out_causes d (record m { output = out }) (ap (λ (y : ShelfState). y.faults) shelf) (ap (λ (y : RamState). y.faults) ram) (ap (λ (x : outside.Faults). x.input) h.quiet) (ap (λ (x : outside.Faults). x.error) h.quiet)
          (subst (λ (n : ℕ). n ≤ out.faults) still later) up;
    }

-- ---- a device failed in it

-- before the step that failed the run is the flat machine's
flat_so_far : (first : FlatState) (n : ℕ) → ((j : ℕ) → j ≤ n → StoresAt first j → ⊥) → flat_run n first ≡ held_run n first
flat_so_far first n never = sym (held_is_flat n first (λ j less. never j (omega (arith, less))))

fault_is : (f : CallFault) → IsRunErr (refusal_of (stop.Fault f))
fault_is call.SourceFault = tt
fault_is call.SinkFault = tt

run_fault : (f : CallFault) → IsRunFault (refusal_of (stop.Fault f))
run_fault call.SourceFault = tt
run_fault call.SinkFault = tt

same_refusal : (f : CallFault) → flat_refusal f ≡ refusal_of (stop.Fault f)
same_refusal call.SourceFault = refl
same_refusal call.SinkFault = refl

-- the step that failed, with this input
broke_at : (r : SurveyRun) (first : FlatState) (left : FlatData) (d m : Devices) (f : CallFault) (input : List ℕ) → r.start ≡ first → first ≡ started first.machine input → first.machine.steps ≡ 0 →
    d.input.left ≡ Some input → RanTold first.machine (limit_of r) left (streams_of d) (streams_of m) (Err f) →
    ((j : ℕ) → j ≤ left.machine.steps - first.machine.steps → StoresAt first j → ⊥) → SurveyBroke r d m (refusal_of (stop.Fault f)) []
broke_at r first left d m f input start whole none told ran unstored =
    let n : ℕ = left.machine.steps in
    let so : state_at n first.machine input ≡ surveyed r n =
    from_none first.machine n input none ∙ ap (λ (x : FlatState). flat_run n x) (sym whole)
    ∙ flat_so_far first n (λ j le. unstored j (let same : first.machine.steps ≡ 0 = none in omega (arith, le, same))) ∙ ap (λ (x : FlatState). held_run n x) (sym start) in
    let state = state_at n first.machine input in
    let going : state.machine.ending ≡ None = sym (ap (λ (x : FlatData). x.machine.ending) (ran.stays input told)) ∙ ran.going in
    inl (record {
      steps = n;
      fewer = ran.uncounted;
      failed = subst (λ (x : FlatState). StepFailed (flat_coming x) d m (refusal_of (stop.Fault f)) []) so
          (subst (λ (x : Refusal). StepFailed (flat_coming state) d m x []) (same_refusal f)
          (step_failed {T = Unit {0}} f state left.machine.bus d m going (ran.output_part input told) (ran.error_part input told) (λ x. ran.failed_input x input told) (λ rose. ran.failed_output rose input told) (λ rose. ran.failed_error rose input told) (ran.front input told)
          (record { output = ran.unasked_output input told; error = ran.unasked_error input told })));
    })

pub run_broke : (k : CacheKind) (sizes : List ℕ) (limits : RunLimits) (v : ImageData) (p : ProgramData) (l : Layout) (d : Devices) (i j : SourceState) (o n e f : SinkState) (x : CallFault) (input rest : List ℕ) →
    ReadFrom i j input rest → survey.FailsAsFlat (run_as k sizes limits v p l) (streams i o e) (streams j n f) x →
    SurveysOver (survey_from k sizes limits v p l) (run_to d (told_as i input) o e) (run_to d (told_as j rest) n f) (Err (refusal_of (stop.Fault x)))
run_broke k sizes limits v p l d i j o n e f x input rest read h =
    let before : Devices = run_to d (told_as i input) o e in
    let after : Devices = run_to d (told_as j rest) n f in
    let ran = ran_as_told (machine_of p l false) limits.steps h.left (streams i o e) (streams j n f) (Err x) h.ran input rest read in
    record {
      done = tt;
      refused = fault_is x;
      quiet = λ never. absurd (never (run_fault x));
      failed = λ _ other told. subst (λ (y : List ℕ). SurveyFailed (survey_from k sizes limits v p l y) before after (refusal_of (stop.Fault x)) []) (same_input before input other refl told)
          (failed_so (survey_from k sizes limits v p l input) before after (refusal_of (stop.Fault x)) []
          (broke_at (survey_from k sizes limits v p l input) (flat_start p l false input) h.left before after x input refl refl refl refl ran (h.unstored input rest read)));
      causes = subst (λ (y : Refusal). HasCauses {T = Ending} before after (Err y)) (same_refusal x) (run_causes {T = Unit {0}} {U = Ending} x before (told_as j rest) n f ran.causes);
    }

-- without memory nothing has changed
memory_run : (r : List ℕ → SurveyRun) (d : Devices) (i : SourceState) (o e : SinkState) (input rest : List ℕ) (after : outside.Devices) → after ≡ streams i o e → ReadFrom i after.input input rest →
    SurveysOver r (run_to d (told_as i input) o e) (run_to d (told_as after.input rest) after.output after.error) (Err refusal.Memory)
memory_run r d i o e input rest after same read =
    let before : Devices = run_to d (told_as i input) o e in
    subst (λ (y : outside.Devices). ReadFrom i y.input input rest → SurveysOver r before (run_to d (told_as y.input rest) y.output y.error) (Err refusal.Memory)) (sym same)
    (λ read. subst (λ (l : List ℕ). SurveysOver r before (run_to d (told_as i l) o e) (Err refusal.Memory)) (sym (rest_is read)) (no_memory r before)) read

-- either way
pub run_stopped : (k : CacheKind) (sizes : List ℕ) (limits : RunLimits) (v : ImageData) (p : ProgramData) (l : Layout) (d : Devices) (i j : SourceState) (o n e f : SinkState) (x : SurveyStop) (input rest : List ℕ) →
    ReadFrom i j input rest → survey.SurveyRan (run_as k sizes limits v p l) (streams i o e) (streams j n f) (Err x) →
    SurveysOver (survey_from k sizes limits v p l) (run_to d (told_as i input) o e) (run_to d (told_as j rest) n f) (Err (refusal_of x))
run_stopped k sizes limits v p l d i j o n e f stop.Memory input rest read h = memory_run (survey_from k sizes limits v p l) d i o e input rest (streams j n f) (h.memory refl) read
run_stopped k sizes limits v p l d i j o n e f (stop.Fault x) input rest read h = run_broke k sizes limits v p l d i j o n e f x input rest read (h.failed x refl)

-- ---- the whole answer

failed_again : (r : SurveyRun) (d m : Devices) (s : ShelfState) (f : Refusal) → SurveyFailed r (record d { shelf = s }) m f [] → SurveyFailed r d m f []
failed_again r d m s f h = failed_so r d m f [] (elim h.broke [
  | inl a ↦ inl a
  | inr a ↦ inr (record { output_front = a.output_front; output = a.output; error_front = a.error_front; error = a.error; behind = a.behind; input = a.input; fault = a.fault })
])

done_again : (r : SurveyRun) (d m : Devices) (s : ShelfState) (e : Ending) → Surveys r (record d { shelf = s }) m e [] → Surveys r d m e []
done_again r d m s e h = surveys_so r d m e [] (let a = h.ran in record { ending = a.ending; input = a.input; output = a.output; error = a.error })

-- the devices after the command
abbrev pub surveyed_to : Devices → ShelfState → SourceState → SinkState → SinkState → Devices
surveyed_to d s i o e = record d { shelf = s; input = i; output = o; error = e }

-- the survey of a program that starts so
from_start : CacheKind → List ℕ → RunLimits → ImageData → FlatState → SurveyRun
from_start k sizes limits v q = record { image = v; kind = k; sizes = sizes; limits = limits; start = q }

pub survey_answers : (name sizes : List ℕ) (block : ℕ) (k : CacheKind) (limits : RunLimits) (d : Devices) (s : ShelfState) (i : SourceState) (o e : SinkState) (bytes : List ℕ) (v : ImageData) (l : Layout)
    (r : Result Ending Refusal) → first_size_refusal sizes (length d.ram.words) ≡ None → IsRead d.shelf s name bytes → IsAccepted (placed_checks limits sizes block bytes) →
    IsImageFor bytes block (image_in bytes) v → room_in bytes limits ≡ Ok l →
    SurveysOver (survey_from k sizes limits v (program_of_file bytes) l) (record d { shelf = s }) (surveyed_to d s i o e) r → Answers (survey_task name sizes block k limits) d (surveyed_to d s i o e) r []
unfolding from_start
survey_answers name sizes block k limits d s i o e bytes v l (Ok x) size read accepted own room run =
    let m : Devices = surveyed_to d s i o e in record {
      asked = λ y. let bad : ⊥ = cc in bad;
      sized = sized_along (first_size_refusal sizes (length d.ram.words)) (Ok x) size (sized_ok x);
      checked = λ file are. subst (λ (f : List ℕ). IsAccepted (placed_checks limits sizes block f)) (read_is read are refl) accepted;
      long = λ limit y. absurd (let bad : ⊥ = cc in bad);
      ended = tt;
      done = λ file are. subst (λ (f : List ℕ). (survey_task name sizes block k limits).does f d m x []) (read_is read are refl) (
        v,
        own,
        λ input left. done_again (survey_of k sizes limits bytes v input) d m s x
            (subst (λ (q : FlatState). Surveys (from_start k sizes limits v q) (record d { shelf = s }) m x []) (start_is (counting limits) bytes input l room) (run.done input left)),
      );
      failed = tt;
      refused = tt;
      shelf = keeps_read (survey_task name sizes block k limits) d.shelf s name bytes (Ok x) refl refl read (refl, refl) refl (λ y. let never : ⊥ = cc in never);
      input = tt;
      ram = refl;
      causes = causes_behind d s m (Ok x) read.faults run.causes;
    }
survey_answers name sizes block k limits d s i o e bytes v l (Err r) size read accepted own room run =
    let m : Devices = surveyed_to d s i o e in record {
      asked = run_err_not r refusal.Usage run.refused (λ x. x);
      sized = sized_along (first_size_refusal sizes (length d.ram.words)) (Err r) size (sized_err r (run_err_size r run.refused));
      checked = λ file are. subst (λ (f : List ℕ). IsChecked (placed_checks limits sizes block f) s.last_failed (Err r)) (read_is read are refl)
          (run_err_checked (placed_checks limits sizes block bytes) s.last_failed r run.refused accepted);
      long = none_long (survey_task name sizes block k limits) d.shelf.contents r (run_err_short r run.refused);
      ended = tt;
      done = tt;
      failed = λ fault file are. subst (λ (f : List ℕ). (survey_task name sizes block k limits).fails f d m r []) (read_is read are refl) (
        v,
        own,
        λ input left. failed_again (survey_of k sizes limits bytes v input) d m s r
            (subst (λ (q : FlatState). SurveyFailed (from_start k sizes limits v q) (record d { shelf = s }) m r []) (start_is (counting limits) bytes input l room) (run.failed fault input left)),
      );
      refused = λ never. let same_all : m ≡ record d { shelf = s } = run.quiet never in (
        record { input = ap (λ (y : Devices). y.input) same_all; output = ap (λ (y : Devices). y.output) same_all; ram = refl },
        subst (λ (y : SinkState). Appends d.error.held y.held []) (sym (ap (λ (y : Devices). y.error) same_all)) (Appends-none d.error.held),
      );
      shelf = keeps_read (survey_task name sizes block k limits) d.shelf s name bytes (Err r) refl refl read (run_err_asked s.last_failed r run.refused) (run_err_given s.last_failed r run.refused) (run_err_not r refusal.ShelfFault run.refused (λ x. x));
      input = tt;
      ram = refl;
      causes = causes_behind d s m (Err r) read.faults run.causes;
    }

-- ---- the last line behind it

pub survey_lined : (name sizes : List ℕ) (block : ℕ) (k : CacheKind) (limits : RunLimits) → IsLined (survey_task name sizes block k limits)
survey_lined name sizes block k limits = record {
  done = λ file d m e error is h p same. (
    h.0,
    h.1,
    λ input left. surveys_so (survey_of k sizes limits file h.0 input) d (told_to m error) e (ending_line e) (ran_line _ _ d m e error (ending_line e) (h.2 input left).ran p),
  );
  failed = λ file d m r held line h p. (
    h.0,
    h.1,
    λ input is. failed_so (survey_of k sizes limits file h.0 input) d (holds_then m held) r line (elim (h.2 input is).broke [
      | inl a ↦ inl (at_step_line (untold_steps (surveyed (survey_of k sizes limits file h.0 input)) limits.steps) d m r held line a p)
      | inr a ↦ inr (after_run_line _ _ [] d m r held line a p)
    ]),
  );
  unended = λ file d m e error is h p never same rose. (
    h.0,
    h.1,
    λ input left.
        let r = survey_of k sizes limits file h.0 input in
        let t = surveyed r (limit_of r) in
        failed_so r d (told_to m error) refusal.SinkFault [] (inr (after_line t t.error _ [] d m e error (sym (append-nil _)) (h.2 input left).ran p never same rose)),
  );
  unwritten = λ e out is never named. let bad : ⊥ = cc in bad;
}
