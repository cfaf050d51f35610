-- What a command answers that runs a file's program on the flat machine, from what the run does.
use Rattle.std.proofs.Common.{◌≡◌, ◌⊎◌, inl, inr, ℕ, List, [], Option, None, Result, Ok, Err, IsErrOf, refl, sym, subst, ap, arith}
use Rattle.std.proofs.lemmas.List.{append-nil}
use Rattle.std.specs.Io.KnownBytes.{Appends}
use Rattle.swi_outside.specs.Laws.{Appends-none}
use Rattle.swi_outside.specs.Shelf.{Asked, ShelfState}
use Rattle.swi_outside.specs.Sink.{SinkState}
use Rattle.swi_outside.specs.Source.{SourceState}
use Rattle.swi_memory.specs.declared.layout.Layout.{Layout}
use Rattle.swi_calls.specs.Flat.{flat_run}
use Rattle.swi_calls.specs.State.{FlatState}
use Rattle.swi_program.specs.Program.{ProgramData}
use Rattle.swi_program.specs.ProgramOf.{program_of_file}
use Rattle.swi_answer.specs.declared.answer.Ending.{Ending}
use Rattle.swi_answer.specs.Lines.{ending_line}
use Rattle.swi_answer.specs.declared.answer.Refusal.{Refusal}
use Rattle.swi_answer.specs.declared.answer.Refusal.TheVariants as refusal
use Rattle.swi_task.specs.Devices.{Devices}
use Rattle.swi_task.specs.Answers.{Answers, AreGiven, IsAskedFor, IsChecked, IsSized}
use Rattle.swi_task.specs.Checks.{Check, IsAccepted, room_in}
use Rattle.swi_file_commands.specs.RunFlat.{FlatCommand, IsFlatErr, RunsFlat, flat_checks, flat_task, limit_of, run_of, told_of, untold_steps}
use Rattle.swi_task.specs.Runs.{Ran, FailedAtStep, FailedAfterRun}
use Rattle.swi_task.proofs.Starts.{start_is}
use Rattle.swi_task.proofs.Lines.{IsLined, after_line, after_run_line, at_step_line, ran_line}
use Rattle.swi_task.proofs.Refusals.{IsRead, IsTooLong, causes_behind, keeps_read, none_long, read_is, sized_err, sized_ok}

-- what a run from a start does, and where it fails
abbrev pub RanFrom : FlatCommand → ProgramData → FlatState → Devices → Devices → Ending → Type 0
RanFrom c p s before after e = Ran (flat_run (limit_of c) s) (c.told p s) before after e []

abbrev pub FailedFrom : FlatCommand → ProgramData → FlatState → Devices → Devices → Refusal → Type 0
FailedFrom c p s before after r =
    FailedAtStep (untold_steps (λ n. flat_run n s) (limit_of c)) before after r []
    ⊎ FailedAfterRun (flat_run (limit_of c) s) (c.told p s) [] before after r []

-- the devices after the command
abbrev pub ran_to : Devices → ShelfState → SourceState → SinkState → SinkState → Devices
ran_to d s i o e = record d { shelf = s; input = i; output = o; error = e }

flat_err_checked : (checks : List Check) (last : Option Asked) (r : Refusal) → IsFlatErr r → IsAccepted checks → IsChecked checks last (Err r)
flat_err_checked checks last refusal.SourceFault h accepted = accepted
flat_err_checked checks last refusal.SinkFault h accepted = accepted
flat_err_checked checks last refusal.Memory h accepted = tt
flat_err_checked checks last _ h accepted = absurd h

flat_size : (r : Refusal) → IsFlatErr r → IsSized None (Err r)
flat_size refusal.SourceFault h = sized_err refusal.SourceFault (λ x. x)
flat_size refusal.SinkFault h = sized_err refusal.SinkFault (λ x. x)
flat_size refusal.Memory h = sized_err refusal.Memory (λ x. x)
flat_size _ h = absurd h

flat_shelf : (r : Refusal) → IsFlatErr r → IsErrOf {T = Ending} (Err r) refusal.ShelfFault → ⊥
flat_shelf r h e = let p : r ≡ refusal.ShelfFault = cc in subst IsFlatErr p h

flat_asked : (failed : Option Asked) (r : Refusal) → IsFlatErr r → IsAskedFor 1 0 failed (Err r) 1 0
flat_asked failed refusal.SourceFault h = (refl, refl)
flat_asked failed refusal.SinkFault h = (refl, refl)
flat_asked failed refusal.Memory h = (omega arith, omega arith, λ _. refl)
flat_asked failed _ h = absurd h

flat_given : (failed : Option Asked) (r : Refusal) → IsFlatErr r → AreGiven failed (Err r) 1 1
flat_given failed refusal.SourceFault h = refl
flat_given failed refusal.SinkFault h = refl
flat_given failed refusal.Memory h = (omega arith, omega arith)
flat_given failed _ h = absurd h

flat_short : (r : Refusal) → IsFlatErr r → IsTooLong r → ⊥
flat_short refusal.SourceFault h long = long
flat_short refusal.SinkFault h long = long
flat_short refusal.Memory h long = long
flat_short _ h long = h

pub flat_ok : (name : List ℕ) (c : FlatCommand) (d : Devices) (s : ShelfState) (i : SourceState) (out e : SinkState) (bytes : List ℕ) (l : Layout) (x : Ending) →
    IsRead d.shelf s name bytes → IsAccepted (flat_checks c.options.limits bytes) → room_in bytes c.options.limits ≡ Ok l →
    RunsFlat c (program_of_file bytes) l (record d { shelf = s }) (ran_to d s i out e) (Ok x) →
    Answers (flat_task name c) d (ran_to d s i out e) (Ok x) []
flat_ok name c d s i out e bytes l x read accepted room run = record {
  asked = λ y. let bad : ⊥ = cc in bad;
  sized = sized_ok x;
  checked = λ file are. subst (λ (f : List ℕ). IsAccepted (flat_checks c.options.limits f)) (read_is read are refl) accepted;
  long = λ limit y. absurd (let bad : ⊥ = cc in bad);
  ended = tt;
  done = λ file are. subst (λ (f : List ℕ). (flat_task name c).does f d (ran_to d s i out e) x []) (read_is read are refl)
      (λ input left. subst (λ (q : FlatState). RanFrom c (program_of_file bytes) q d (ran_to d s i out e) x) (start_is c.options bytes input l room)
      (let r = run.done input left in record { ending = r.ending; input = r.input; output = r.output; error = r.error }));
  failed = tt;
  refused = tt;
  shelf = keeps_read (flat_task name c) d.shelf s name bytes (Ok x) refl refl read (refl, refl) refl (λ y. let never : ⊥ = cc in never);
  input = tt;
  ram = refl;
  causes = causes_behind d s _ (Ok x) read.faults run.causes;
}

failed_again : (c : FlatCommand) (p : ProgramData) (q : FlatState) (d m : Devices) (s : ShelfState) (r : Refusal) → FailedFrom c p q (record d { shelf = s }) m r → FailedFrom c p q d m r
failed_again c p q d m s r h = elim h [
  | inl a ↦ inl a
  | inr a ↦ inr (record { output_front = a.output_front; output = a.output; error_front = a.error_front; error = a.error; behind = a.behind; input = a.input; fault = a.fault })
]

pub flat_refused : (name : List ℕ) (c : FlatCommand) (d : Devices) (s : ShelfState) (i : SourceState) (out e : SinkState) (bytes : List ℕ) (l : Layout) (r : Refusal) →
    IsRead d.shelf s name bytes → IsAccepted (flat_checks c.options.limits bytes) → room_in bytes c.options.limits ≡ Ok l →
    RunsFlat c (program_of_file bytes) l (record d { shelf = s }) (ran_to d s i out e) (Err r) →
    Answers (flat_task name c) d (ran_to d s i out e) (Err r) []
flat_refused name c d s i out e bytes l r read accepted room run =
    let kind = run.refused in record {
      asked = λ y. let p : r ≡ refusal.Usage = cc in subst IsFlatErr p kind;
      sized = flat_size r kind;
      checked = λ file are. subst (λ (f : List ℕ). IsChecked (flat_checks c.options.limits f) s.last_failed (Err r)) (read_is read are refl)
          (flat_err_checked (flat_checks c.options.limits bytes) s.last_failed r kind accepted);
      long = none_long (flat_task name c) d.shelf.contents r (flat_short r kind);
      ended = tt;
      done = tt;
      failed = λ fault file are. subst (λ (f : List ℕ). (flat_task name c).fails f d (ran_to d s i out e) r []) (read_is read are refl)
          (λ input left. subst (λ (q : FlatState). FailedFrom c (program_of_file bytes) q d (ran_to d s i out e) r) (start_is c.options bytes input l room)
          (failed_again c (program_of_file bytes) _ d (ran_to d s i out e) s r (run.failed fault input left)));
      refused = λ never. let same_all : ran_to d s i out e ≡ record d { shelf = s } = run.quiet never in (
        record { input = ap (λ (y : Devices). y.input) same_all; output = ap (λ (y : Devices). y.output) same_all; ram = refl },
        subst (λ (y : SinkState). Appends d.error.held y.held []) (sym (ap (λ (y : Devices). y.error) same_all)) (Appends-none d.error.held),
      );
      shelf = keeps_read (flat_task name c) d.shelf s name bytes (Err r) refl refl read (flat_asked s.last_failed r kind) (flat_given s.last_failed r kind) (flat_shelf r kind);
      input = tt;
      ram = refl;
      causes = causes_behind d s _ (Err r) read.faults run.causes;
    }

-- either way
pub flat_answers : (name : List ℕ) (c : FlatCommand) (d : Devices) (s : ShelfState) (i : SourceState) (out e : SinkState) (bytes : List ℕ) (l : Layout) (r : Result Ending Refusal) →
    IsRead d.shelf s name bytes → IsAccepted (flat_checks c.options.limits bytes) → room_in bytes c.options.limits ≡ Ok l →
    RunsFlat c (program_of_file bytes) l (record d { shelf = s }) (ran_to d s i out e) r →
    Answers (flat_task name c) d (ran_to d s i out e) r []
flat_answers name c d s i out e bytes l (Ok x) read accepted room run = flat_ok name c d s i out e bytes l x read accepted room run
flat_answers name c d s i out e bytes l (Err r) read accepted room run = flat_refused name c d s i out e bytes l r read accepted room run

-- the last line behind it
pub flat_lined : (name : List ℕ) (c : FlatCommand) → IsLined (flat_task name c)
flat_lined name c = record {
  done = λ file d m e error is h p same input left. ran_line _ _ d m e error (ending_line e) (h input left) p;
  failed = λ file d m r held line h p input is. elim (h input is) [
    | inl a ↦ inl (at_step_line (untold_steps (run_of c file input) (limit_of c)) d m r held line a p)
    | inr a ↦ inr (after_run_line (run_of c file input (limit_of c)) (told_of c file input) [] d m r held line a p)
  ];
  unended = λ file d m e error is h p never same rose input left.
      inr (after_line (run_of c file input (limit_of c)) (run_of c file input (limit_of c)).error _ [] d m e error (sym (append-nil _)) (h input left) p never same rose);
  unwritten = λ e name is never named. let bad : ⊥ = cc in bad;
}
