-- Over a source that tells what is left, the clauses of a run say what is done with just that: the relation as it is said of such sources
-- follows.
use Rattle.std.proofs.Common.{◌≡◌, ◌<◌, ◌≤◌, ◌++◌, ℕ, List, [], length, None, Some, refl, sym, ap, subst, ◌∙◌, Option, Result, Ok, Err, is_err, OnOk, OnErr, IsErrOf}
use Rattle.std.specs.Option.{ForSome}
use Rattle.std.specs.Io.KnownBytes.{Appends, Consumes}
use Rattle.swi_outside.specs.Sink.{AppendsThenPrefix}
use Rattle.swi_outside.specs.Source.{ReadFrom}
use Rattle.swi_outside.specs.Devices.{Devices, HasCauses, faults_of}
use Rattle.swi_outside.proofs.SourceLemmas.{read_told}
use Rattle.swi_memory.specs.Bus.{AreaData}
use Rattle.swi_calls.specs.Call.{room_of_call, second_argument}
use Rattle.swi_calls.specs.State.{FlatState}
use Rattle.swi_calls.specs.declared.end.CallFault.{CallFault}
use Rattle.swi_calls.specs.declared.end.CallFault.TheVariants.{SourceFault, SinkFault}
use Rattle.swi_calls.specs.declared.machine.Machine.{Machine}
use Rattle.swi_flat.specs.FlatData.{FlatData, unfailed, stopped, state_at, next_made, FillsFront}
use Rattle.swi_flat.specs.Ran.{Ran}
use Rattle.swi_outside.proofs.ToldLemmas.{given_as, narrow}
use Rattle.swi_calls.proofs.ToldCalls.{with_left}
use Rattle.swi_outside.specs.Told.{AsTold}
use Rattle.swi_calls.specs.Told.{ReadsIntoTold}

abbrev pub FillsFrontTold : FlatState → List AreaData → Option (List ℕ) → Type 0
FillsFrontTold s bus left = (k : ℕ) × (k ≤ room_of_call s.machine.regs s.machine.bus) ×
    ReadsIntoTold s.machine.bus bus (Some s.input) left (second_argument s.machine.regs) k

pub record RanTold (first : Machine) (limit : ℕ) (new : FlatData) (before after : Devices)
    (result : Result Unit CallFault) : Type 0 where
  pub machine : OnOk result (ForSome before.input.left (λ left. new ≡ unfailed (state_at limit first left).machine))
  pub input : OnOk result (ForSome before.input.left (λ left. after.input.left ≡ Some (state_at limit first left).input))
  pub output : OnOk result (ForSome before.input.left (λ left. Appends before.output.held after.output.held (state_at limit first left).output))
  pub error : OnOk result (ForSome before.input.left (λ left. Appends before.error.held after.error.held (state_at limit first left).error))
  pub stops : OnOk result (new.machine.ending ≡ None → new.machine.steps ≡ limit)
  pub failed : new.failed ≡ is_err result
  pub going : OnErr result (new.machine.ending ≡ None)
  pub uncounted : OnErr result (new.machine.steps < limit)
  pub no_fewer : OnErr result (first.steps ≤ new.machine.steps)
  pub stays : OnErr result (ForSome before.input.left (λ left. new ≡ stopped (state_at new.machine.steps first left).machine new.machine.bus))
  pub front : OnErr result (ForSome before.input.left (λ left. FillsFrontTold (state_at new.machine.steps first left) new.machine.bus after.input.left))
  pub output_part : OnErr result (ForSome before.input.left (λ left. AppendsThenPrefix before.output.held after.output.held
      (state_at new.machine.steps first left).output (next_made (state_at new.machine.steps first left)).output))
  pub error_part : OnErr result (ForSome before.input.left (λ left. AppendsThenPrefix before.error.held after.error.held
      (state_at new.machine.steps first left).error (next_made (state_at new.machine.steps first left)).error))
  pub failed_input : IsErrOf result SourceFault → ForSome before.input.left (λ left.
      Appends before.output.held after.output.held (state_at new.machine.steps first left).output
      × Appends before.error.held after.error.held (state_at new.machine.steps first left).error)
  pub failed_output : OnErr result ((after.output.faults ≡ before.output.faults → ⊥) → ForSome before.input.left (λ left.
      Appends before.error.held after.error.held (state_at new.machine.steps first left).error))
  pub failed_error : OnErr result ((after.error.faults ≡ before.error.faults → ⊥) → ForSome before.input.left (λ left. Appends before.output.held after.output.held
      ((state_at new.machine.steps first left).output ++ (next_made (state_at new.machine.steps first left)).output)))
  pub unasked_output : OnErr result (ForSome before.input.left (λ left. (next_made (state_at new.machine.steps first left)).output ≡ [] →
      after.output.faults ≡ before.output.faults))
  pub unasked_error : OnErr result (ForSome before.input.left (λ left. (next_made (state_at new.machine.steps first left)).error ≡ [] →
      after.error.faults ≡ before.error.faults))
  pub causes : HasCauses (faults_of before) (faults_of after) (IsErrOf result SourceFault) (IsErrOf result SinkFault)

-- a front of the buffer
front_told : (s : FlatState) (bus : List AreaData) (rest : List ℕ) (left : Option (List ℕ)) → left ≡ Some rest → FillsFront s bus rest → FillsFrontTold s bus left
front_told s bus rest left told h = (
  length h.taken,
  h.within,
  record { bytes = h.taken; number = refl; stored = h.stored; consumed = subst (λ o. Consumes (Some s.input) o h.taken) (sym told) h.left },
)

pub ran_told : (first : Machine) (limit : ℕ) (new : FlatData) (d e : Devices) (r : Result Unit CallFault) → Ran first limit new d e r → RanTold first limit new d e r
ran_told first limit new d e (Ok v) h = record {
  machine = λ left told. let t = read_told h.gave told in h.machine left t.0 t.2;
  input = λ left told. let t = read_told h.gave told in t.1 ∙ ap (λ (l : List ℕ). Some l) (sym (h.input left t.0 t.2));
  output = λ left told. let t = read_told h.gave told in h.output left t.0 t.2;
  error = λ left told. let t = read_told h.gave told in h.error left t.0 t.2;
  stops = h.stops;
  failed = h.failed;
  going = tt;
  uncounted = tt;
  no_fewer = tt;
  stays = tt;
  front = tt;
  output_part = tt;
  error_part = tt;
  failed_input = λ other. let never : ⊥ = cc in absurd never;
  failed_output = tt;
  failed_error = tt;
  unasked_output = tt;
  unasked_error = tt;
  causes = h.causes;
}
ran_told first limit new d e (Err f) h = record {
  machine = tt;
  input = tt;
  output = tt;
  error = tt;
  stops = tt;
  failed = h.failed;
  going = h.going;
  uncounted = h.uncounted;
  no_fewer = h.no_fewer;
  stays = λ left told. let t = read_told h.gave told in h.stays left t.0 t.2;
  front = λ left told. let t = read_told h.gave told in front_told (state_at new.machine.steps first left) new.machine.bus t.0 e.input.left t.1 (h.front left t.0 t.2);
  output_part = λ left told. let t = read_told h.gave told in h.output_part left t.0 t.2;
  error_part = λ left told. let t = read_told h.gave told in h.error_part left t.0 t.2;
  failed_input = λ named left told. let t = read_told h.gave told in h.failed_input named left t.0 t.2;
  failed_output = λ rose left told. let t = read_told h.gave told in h.failed_output rose left t.0 t.2;
  failed_error = λ rose left told. let t = read_told h.gave told in h.failed_error rose left t.0 t.2;
  unasked_output = λ left told. let t = read_told h.gave told in h.unasked_output left t.0 t.2;
  unasked_error = λ left told. let t = read_told h.gave told in h.unasked_error left t.0 t.2;
  causes = h.causes;
}

-- of an input from which what was given may have been read
ran_at : (first : Machine) (limit : ℕ) (new : FlatData) (d e : Devices) (i k : List ℕ) (r : Result Unit CallFault) → ReadFrom d.input e.input i k → Ran first limit new d e r →
    Ran first limit new (with_left d i) (with_left e k) r
ran_at first limit new d e i k (Ok v) r h = record {
  gave = given_as r;
  machine = λ l q x. h.machine l q (narrow r x);
  input = λ l q x. h.input l q (narrow r x);
  output = λ l q x. h.output l q (narrow r x);
  error = λ l q x. h.error l q (narrow r x);
  stops = h.stops;
  failed = h.failed;
  going = tt;
  uncounted = tt;
  no_fewer = tt;
  stays = tt;
  front = tt;
  output_part = tt;
  error_part = tt;
  failed_input = λ other. let never : ⊥ = cc in absurd never;
  failed_output = tt;
  failed_error = tt;
  unasked_output = tt;
  unasked_error = tt;
  causes = h.causes;
}
ran_at first limit new d e i k (Err f) r h = record {
  gave = given_as r;
  machine = tt;
  input = tt;
  output = tt;
  error = tt;
  stops = tt;
  failed = h.failed;
  going = h.going;
  uncounted = h.uncounted;
  no_fewer = h.no_fewer;
  stays = λ l q x. h.stays l q (narrow r x);
  front = λ l q x. h.front l q (narrow r x);
  output_part = λ l q x. h.output_part l q (narrow r x);
  error_part = λ l q x. h.error_part l q (narrow r x);
  failed_input = λ named l q x. h.failed_input named l q (narrow r x);
  failed_output = λ rose l q x. h.failed_output rose l q (narrow r x);
  failed_error = λ rose l q x. h.failed_error rose l q (narrow r x);
  unasked_output = λ l q x. h.unasked_output l q (narrow r x);
  unasked_error = λ l q x. h.unasked_error l q (narrow r x);
  causes = h.causes;
}

-- so the relation as it is said of sources that tell what is left holds of every source, for each such input
pub ran_as_told : (first : Machine) (limit : ℕ) (new : FlatData) (d e : Devices) (r : Result Unit CallFault) → Ran first limit new d e r →
    AsTold d.input e.input (λ x y. RanTold first limit new (record d { input = x }) (record e { input = y }) r)
ran_as_told first limit new d e r h = λ i k read. ran_told first limit new (with_left d i) (with_left e k) r (ran_at first limit new d e i k r read h)
