-- A run on the flat machine, from what its functions say.
use Rattle.std.proofs.Common.{◌≡◌, ◌⊎◌, inl, inr, ℕ, ◌-◌, ◌≤◌, List, [], ◌++◌, length, take, None, Some, Ok, Err, IsErrOf, refl, sym, ◌∙◌, subst, ap, arith}
use Rattle.std.proofs.lemmas.List.{append-nil}
use Rattle.std.specs.Io.KnownBytes.{Appends}
use Rattle.swi_outside.specs.Laws.{Appends-append, named_as, no_cause, ok_unmoved}
use Rattle.swi_outside.specs.Causes.{Rose}
use Rattle.swi_outside.specs.Sink.{AppendsPrefix, AppendsThenPrefix, SinkState}
use Rattle.swi_outside.specs.Source.{SourceState}
use Rattle.swi_memory.specs.Bus.{AreaData}
use Rattle.swi_calls.specs.declared.machine.Machine.{Machine}
use Rattle.swi_calls.specs.declared.end.CallFault.{CallFault}
use Rattle.swi_calls.specs.declared.end.CallFault.TheVariants as call
use Rattle.swi_outside.specs.Devices as outside
use Rattle.swi_calls.specs.Flat.{flat_run, machine_of, started}
use Rattle.swi_calls.specs.State.{FlatState}
use Rattle.swi_board.specs.Ran.{Unasked}
use Rattle.swi_flat.specs.FlatData.{FlatData, next_made, state_at, unfailed}
use Rattle.swi_flat.proofs.ToldRuns.{FillsFrontTold, RanTold}
use Rattle.swi_memory.specs.declared.layout.Layout.{Layout}
use Rattle.swi_program.specs.Program.{ProgramData}
use Rattle.swi_command.specs.declared.command.RunOptions.{RunOptions}
use Rattle.swi_answer.specs.declared.answer.Ending.{Ending}
use Rattle.swi_answer.specs.declared.answer.Refusal.{Refusal}
use Rattle.swi_answer.specs.declared.answer.Refusal.TheVariants as refusal
use Rattle.swi_task.specs.Devices.{Devices, stream_faults, streams_of}
use Rattle.swi_task.specs.Answers.{IsRunFault}
use Rattle.swi_task.specs.Causes.{HasCauses}
use Rattle.swi_file_commands.specs.RunFlat.{FlatCommand, IsFlatErr, RunsFlat, flat_coming, limit_of, read_room_of, run_from, start_from}
use Rattle.swi_file_commands.specs.RunPlain.{plain_command, plain_report}
use Rattle.swi_task.specs.Runs.{FailedAfterRun, Ran, StepFailed, ending_by, report}
use Rattle.swi_task.proofs.Refusals.{calm_causes, causes_of, out_causes}

-- as many steps as are counted, from a machine that has made none
pub from_none : (m : Machine) (n : ℕ) (left : List ℕ) → m.steps ≡ 0 → state_at n m left ≡ flat_run n (started m left)
from_none m n left e = let same : n - m.steps ≡ n = omega arith in ap (λ (k : ℕ). flat_run k (started m left)) same

-- the fault of a device
abbrev pub refusal_of : CallFault → Refusal
refusal_of call.SourceFault = refusal.SourceFault
refusal_of call.SinkFault = refusal.SinkFault

named : (f : CallFault) → (refusal_of f ≡ refusal.SourceFault) ⊎ (refusal_of f ≡ refusal.SinkFault)
named call.SourceFault = inl refl
named call.SinkFault = inr refl

source_is : (f : CallFault) → refusal_of f ≡ refusal.SourceFault → f ≡ call.SourceFault
source_is call.SourceFault e = refl
source_is call.SinkFault e = let never : ⊥ = cc in absurd never

-- the step that failed
pub step_failed : {T : Type 0} (f : CallFault) (s : FlatState) (bus : List AreaData) (before after : Devices) →
    s.machine.ending ≡ None → AppendsThenPrefix before.output.held after.output.held s.output (next_made s).output →
    AppendsThenPrefix before.error.held after.error.held s.error (next_made s).error →
    (IsErrOf {T = T} (Err f) call.SourceFault → Appends before.output.held after.output.held s.output × Appends before.error.held after.error.held s.error) →
    ((after.output.faults ≡ before.output.faults → ⊥) → Appends before.error.held after.error.held s.error) →
    ((after.error.faults ≡ before.error.faults → ⊥) → Appends before.output.held after.output.held (s.output ++ (next_made s).output)) →
    FillsFrontTold s bus after.input.left → Unasked (next_made s) (stream_faults before) (stream_faults after) → StepFailed (flat_coming s) before after (refusal_of f) []
step_failed {T} f s bus before after going output error source first behind front unasked = record {
  fault = named f;
  going = going;
  output = output;
  error_front = error.0;
  error = subst (λ (x : List ℕ). Appends before.error.held after.error.held x) (sym (append-nil (s.error ++ take error.0 (next_made s).error))) error.1;
  source = λ e. let both = source (let same : f ≡ call.SourceFault = source_is f e in subst (λ (x : CallFault). IsErrOf {T = T} (Err x) call.SourceFault) (sym same) refl) in
      (both.0, subst (λ (x : List ℕ). Appends before.error.held after.error.held x) (sym (append-nil s.error)) both.1);
  output_failed = λ rose. subst (λ (x : List ℕ). Appends before.error.held after.error.held x) (sym (append-nil s.error)) (first rose);
  error_failed = λ rose. inr (behind rose);
  unasked = unasked;
  taken = front.2.bytes;
  no_more = let size : length front.2.bytes ≡ front.0 = front.2.number in let room : front.0 ≤ read_room_of s = front.1 in omega arith;
  input = front.2.consumed;
}

-- the devices after a run: all but what it isn't handed
abbrev pub run_to : Devices → SourceState → SinkState → SinkState → Devices
run_to d i o e = record d { input = i; output = o; error = e }

-- causes of a run, beside devices that it isn't handed
pub run_causes : {T U : Type 0} (f : CallFault) (d : Devices) (i : SourceState) (o e : SinkState) →
    outside.HasCauses (stream_faults d) (stream_faults (run_to d i o e)) (IsErrOf {T = T} (Err f) call.SourceFault) (IsErrOf {T = T} (Err f) call.SinkFault) →
    HasCauses {T = U} d (run_to d i o e) (Err (refusal_of f))
run_causes {T} {U} call.SourceFault d i o e h =
    causes_of d (run_to d i o e) (Err refusal.SourceFault) (no_cause refl (λ x. let never : ⊥ = cc in never)) (no_cause refl (λ x. let never : ⊥ = cc in never))
    (named_as h (λ _. refl) (λ _. refl) (λ x. let never : ⊥ = cc in absurd never) (λ x. let never : ⊥ = cc in absurd never))
run_causes {T} {U} call.SinkFault d i o e h =
    causes_of d (run_to d i o e) (Err refusal.SinkFault) (no_cause refl (λ x. let never : ⊥ = cc in never)) (no_cause refl (λ x. let never : ⊥ = cc in never))
    (named_as h (λ x. let never : ⊥ = cc in absurd never) (λ x. let never : ⊥ = cc in absurd never) (λ _. refl) (λ _. refl))

-- a run that is not begun yet, by its machine
pub start_same : (c : FlatCommand) (p : ProgramData) (l : Layout) (f : FlatData) (n : ℕ) (left : List ℕ) → f ≡ unfailed (machine_of p l c.options.reports.calls) →
    state_at n f.machine left ≡ run_from c p l left n
start_same c p l f n left is =
    ap (λ (x : FlatData). state_at n x.machine left) is ∙ from_none (machine_of p l c.options.reports.calls) n left refl

kind_of : (f : CallFault) → IsFlatErr (refusal_of f)
kind_of call.SourceFault = tt
kind_of call.SinkFault = tt

run_fault : (f : CallFault) → IsRunFault (refusal_of f)
run_fault call.SourceFault = tt
run_fault call.SinkFault = tt

-- there was no memory, and nothing changed
pub no_memory : (c : FlatCommand) (p : ProgramData) (l : Layout) (d : Devices) → RunsFlat c p l d d (Err refusal.Memory)
no_memory c p l d = record {
  done = tt;
  refused = tt;
  quiet = λ _. refl;
  failed = λ fault. absurd fault;
  causes = calm_causes d d (Err refusal.Memory) tt refl refl refl;
}

pub run_failed : (f : CallFault) (c : FlatCommand) (p : ProgramData) (l : Layout) (first new : FlatData) (d : Devices) (i : SourceState) (out e : SinkState) →
    first ≡ unfailed (machine_of p l c.options.reports.calls) → RanTold first.machine (limit_of c) new (streams_of d) (streams_of (run_to d i out e)) (Err f) →
    RunsFlat c p l d (run_to d i out e) (Err (refusal_of f))
run_failed f c p l first new d i out e first_is ran = record {
  done = tt;
  refused = kind_of f;
  quiet = λ never. absurd (never (run_fault f));
  failed = λ _ input left. inl (record {
    steps = new.machine.steps;
    fewer = ran.uncounted;
    failed =
        let state = state_at new.machine.steps first.machine input in
        let ended : state.machine.ending ≡ None = sym (ap (λ (x : FlatData). x.machine.ending) (ran.stays input left)) ∙ ran.going in
        subst (λ (s : FlatState). StepFailed (flat_coming s) d (run_to d i out e) (refusal_of f) [])
        (start_same c p l first new.machine.steps input first_is)
        (step_failed {T = Unit {0}} f state new.machine.bus d (run_to d i out e) ended (ran.output_part input left) (ran.error_part input left) (λ x. ran.failed_input x input left) (λ rose. ran.failed_output rose input left) (λ rose. ran.failed_error rose input left) (ran.front input left)
        (record { output = ran.unasked_output input left; error = ran.unasked_error input left }));
  });
  causes = run_causes {T = Unit {0}} {U = Ending} f d i out e ran.causes;
}

-- the run came to its end, and what is told of it was written
pub run_done : {u : Unit} (c : FlatCommand) (p : ProgramData) (l : Layout) (first new : FlatData) (d : Devices) (i : SourceState) (mid out e : SinkState) (x : Ending) →
    first ≡ unfailed (machine_of p l c.options.reports.calls) → RanTold first.machine (limit_of c) new (streams_of d) (streams_of (run_to d i mid e)) (Ok u) →
    x ≡ ending_by new.machine.ending new.machine.pc new.machine.steps →
    ((left : List ℕ) → d.input.left ≡ Some left → Appends mid.held out.held (c.told p (start_from c p l left))) → out.faults ≡ mid.faults →
    RunsFlat c p l d (run_to d i out e) (Ok x)
run_done c p l first new d i mid out e x first_is ran ending written still = record {
  done = λ left told.
      let state = state_at (limit_of c) first.machine left in
      let lines = c.told p (start_from c p l left) in
      let same : new.machine ≡ state.machine = ap (λ (y : FlatData). y.machine) (ran.machine left told) in
      subst (λ (s : FlatState). Ran s lines d (run_to d i out e) x []) (start_same c p l first (limit_of c) left first_is) (record {
        ending = ending ∙ ap (λ (m : Machine). ending_by m.ending m.pc m.steps) same;
        input = ran.input left told;
        output = Appends-append d.output.held mid.held out.held state.output lines (ran.output left told) (written left told);
        error = subst (λ (y : List ℕ). Appends d.error.held e.held y) (sym (append-nil state.error)) (ran.error left told);
      });
  refused = tt;
  quiet = tt;
  failed = tt;
  causes = calm_causes d (run_to d i out e) (Ok x) tt refl refl
      (ap (λ (n : ℕ). record (stream_faults (run_to d i mid e)) { output = n }) still ∙ ok_unmoved ran.causes);
}

-- or not to its end
pub told_failed : {u : Unit} (c : FlatCommand) (p : ProgramData) (l : Layout) (first new : FlatData) (d : Devices) (i : SourceState) (mid out e : SinkState) →
    first ≡ unfailed (machine_of p l c.options.reports.calls) → RanTold first.machine (limit_of c) new (streams_of d) (streams_of (run_to d i mid e)) (Ok u) →
    ((left : List ℕ) → d.input.left ≡ Some left → AppendsPrefix mid.held out.held (c.told p (start_from c p l left)) × (c.told p (start_from c p l left) ≡ [] → ⊥)) →
    mid.faults ≤ out.faults → Rose mid.faults out.faults → RunsFlat c p l d (run_to d i out e) (Err refusal.SinkFault)
told_failed c p l first new d i mid out e first_is ran broke later rose =
    let quiet : stream_faults (run_to d i mid e) ≡ stream_faults d = ok_unmoved ran.causes in
    let still : mid.faults ≡ d.output.faults = ap (λ (x : outside.Faults). x.output) quiet in
    let up : Rose d.output.faults out.faults = subst (λ (n : ℕ). Rose n out.faults) still rose in record {
      done = tt;
      refused = tt;
      quiet = λ never. absurd (never tt);
      failed = λ _ left told. inr (
          let state = state_at (limit_of c) first.machine left in
          let lines = c.told p (start_from c p l left) in
          let part = (broke left told).0 in
          subst (λ (s : FlatState). FailedAfterRun s lines [] d (run_to d i out e) refusal.SinkFault []) (start_same c p l first (limit_of c) left first_is) (record {
            output_front = part.0;
            output = Appends-append d.output.held mid.held out.held state.output (take part.0 lines) (ran.output left told) part.1;
            error_front = 0;
            error = subst (λ (y : List ℕ). Appends d.error.held e.held y) (sym (append-nil (state.error ++ [])))
                (subst (λ (y : List ℕ). Appends d.error.held e.held y) (sym (append-nil state.error)) (ran.error left told));
            behind = inl (refl, (broke left told).1, up);
            input = ran.input left told;
            fault = refl;
          }));
      causes = out_causes d (run_to d i out e) refl refl (ap (λ (x : outside.Faults). x.input) quiet) (ap (λ (x : outside.Faults). x.error) quiet)
          (subst (λ (n : ℕ). n ≤ out.faults) still later) up;
    }

-- the report of `plain`
pub plain_told : (o : RunOptions) (p : ProgramData) (l : Layout) (first new : FlatData) (left : List ℕ) → first ≡ unfailed (machine_of p l o.reports.calls) →
    new ≡ unfailed (state_at o.limits.steps first.machine left).machine → report o.reports new.machine None ≡ (plain_command o).told p (start_from (plain_command o) p l left)
plain_told o p l first new left first_is is =
    ap (λ (y : FlatData). report o.reports y.machine None) is ∙ ap (λ (s : FlatState). plain_report o s) (start_same (plain_command o) p l first o.limits.steps left first_is)
