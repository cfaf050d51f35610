-- What a system call does with the devices.
use Rattle.std.proofs.Common.{◌≡◌, ℕ, Bool, true, false, List, [], ◌∷◌, ◌++◌, refl, ap, ◌∙◌, Option, Some, None, Result, Ok, Err, is_err, IsErrOf, rules}
use Rattle.std.specs.Io.KnownBytes.{Appends}
use Rattle.swi_outside.specs.Causes.{HasCause}
use Rattle.swi_outside.specs.Sink.{SinkState, AppendsPrefix}
use Rattle.swi_outside.specs.Source.{ReadFrom}
use Rattle.swi_outside.specs.Devices.{Devices, Faults, HasCauses, faults_of}
use Rattle.swi_outside.specs.Laws.{unmoved, named_as, ok_causes}
use Rattle.swi_outside.specs.Laws.{Appends-none, Appends-append}
use Rattle.swi_outside.proofs.SinkLemmas.{prefix_first, prefix_whole, prefix_last}
use Rattle.swi_calls.specs.declared.end.CallFault.{CallFault}
use Rattle.swi_calls.specs.declared.end.CallFault.TheVariants.{SourceFault, SinkFault}
use Rattle.swi_calls.specs.declared.machine.Machine.{Machine}
use Rattle.swi_calls.specs.declared.request.Called.{Called}
use Rattle.swi_calls.specs.declared.request.Request.{Request}
use Rattle.swi_calls.specs.Call.{answer_of, called, called_of, exchange_of_call, request_of, served, told, told_by}
use Rattle.swi_calls.specs.Exchange.{Exchange, Exchanged}
use Rattle.swi_calls.specs.Flat.{call_made, exchange_of}

-- a sink that gained nothing has gained a prefix of anything
pub nothing_gained : (o : Option (List ℕ)) (x : List ℕ) → AppendsPrefix o o x
nothing_gained o x = (0, Appends-none o)

-- no bytes in both is none in either
none_first : (x y : List ℕ) → x ++ y ≡ [] → x ≡ []
none_first [] y none = refl
none_first (b ∷ x) y none = cc

none_last : (x y : List ℕ) → x ++ y ≡ [] → y ≡ []
none_last [] y none = none
none_last (b ∷ x) y none = cc

-- where a call's line is empty, calls are not told
no_line : (log : Bool) (r : Request) (answer : Option ℕ) → told_by log r answer ≡ [] → log ≡ false
no_line false r answer none = refl
no_line true r answer none = cc

-- the line that was written is that of the answer
pub line_as : (P : List ℕ → Type 0) (log : Bool) (r : Request) (answer : Option ℕ) (c : Called) → c ≡ called_of r answer → P (told_by log r (answer_of c)) → P (told_by log r answer)
line_as P log r None c is h = rw is at h
line_as P log r (Some v) c is h = rw is at h

-- the same fault, whatever the call would have answered
causes_as : {T U : Type 0} (f : CallFault) (d e : Faults) → HasCauses d e (IsErrOf {T = T} (Err f) SourceFault) (IsErrOf {T = T} (Err f) SinkFault) →
    HasCauses d e (IsErrOf {T = U} (Err f) SourceFault) (IsErrOf {T = U} (Err f) SinkFault)
causes_as f d e h = named_as h (λ n. cc) (λ n. cc) (λ n. cc) (λ n. cc)

module _ (m : Machine) (d e : Devices) where
  abbrev call_does : List ℕ → Exchange
  call_does left = exchange_of_call (served m.regs m.bus m.heap left)

  abbrev line : List ℕ → List ℕ
  line left = told m.log m.regs (served m.regs m.bus m.heap left).answer

  abbrev step_does : List ℕ → Exchange
  step_does left = exchange_of (call_made m left)

  -- the call failed
  pub call_failed : {T U : Type 0} (f : CallFault) → Exchanged {T = T} call_does d e (Err f) → Exchanged {T = U} step_does d e (Err f)
  unfolding called
  call_failed {T} {U} f h = record {
    gave = h.gave;
    input = tt;
    output = tt;
    error = tt;
    output_prefix = h.output_prefix;
    error_prefix = λ left rest r. prefix_first d.error.held e.error.held (call_does left).error (line left) (h.error_prefix left rest r);
    failed_input = λ (n : IsErrOf {T = U} (Err f) SourceFault). let m : IsErrOf {T = T} (Err f) SourceFault = cc in h.failed_input m;
    failed_output = h.failed_output;
    failed_error = h.failed_error;
    unasked_output = h.unasked_output;
    unasked_error = λ left none. h.unasked_error left (none_first (call_does left).error (line left) none);
    causes = causes_as f (faults_of d) (faults_of e) h.causes;
  }

  -- it didn't, and its line, or a part of it, went to the errors
  module _ {T : Type 0} (v : T) (x : SinkState) (h : Exchanged call_does d e (Ok v)) (unasked : m.log ≡ false → x ≡ e.error) where
    line_unasked : (left : List ℕ) → (call_does left).error ++ line left ≡ [] → x ≡ d.error
    line_unasked left none =
        let first = h.unasked_error left (none_first (call_does left).error (line left) none) in
        let last = unasked (no_line m.log (request_of m.regs) (served m.regs m.bus m.heap left).answer (none_last (call_does left).error (line left) none)) in
        last ∙ first

    pub line_failed : {U V : Type 0} (t : Result V U) → is_err t ≡ true → ((left rest : List ℕ) → ReadFrom d.input e.input left rest → AppendsPrefix e.error.held x.held (line left)) →
        HasCause e.error.faults x.faults t → Exchanged {T = Unit {0}} step_does d (record e { error = x }) (Err SinkFault)
    unfolding called
    line_failed (Ok u) failed gained cause = cc
    line_failed (Err f) failed gained cause = record {
      gave = h.gave;
      input = tt;
      output = tt;
      error = tt;
      output_prefix = λ left rest told. prefix_whole d.output.held e.output.held (call_does left).output (h.output left rest told);
      error_prefix = λ left rest told. prefix_last d.error.held e.error.held x.held (call_does left).error (line left) (h.error left rest told) (gained left rest told);
      failed_input = λ other. let never : ⊥ = cc in absurd never;
      failed_output = λ rose. absurd (rose (ap (λ (f : Faults). f.output) (unmoved h.causes (λ e. cc) (λ e. cc))));
      failed_error = λ rose. h.output;
      unasked_output = h.unasked_output;
      unasked_error = line_unasked;
      causes = search rules;
    }

    pub line_told : x.faults ≡ e.error.faults → ((left rest : List ℕ) → ReadFrom d.input e.input left rest → Appends e.error.held x.held (line left)) →
        Exchanged {T = Unit {0}} step_does d (record e { error = x }) (Ok tt)
    unfolding called
    line_told same gained =
        let still : faults_of e ≡ faults_of d = unmoved h.causes (λ e. cc) (λ e. cc) in
        let told_only : faults_of (record e { error = x }) ≡ faults_of e = ap (λ (n : ℕ). let y : Faults = record { input = e.input.faults; output = e.output.faults; error = n } in y) same in
        record {
          gave = h.gave;
          input = h.input;
          output = h.output;
          error = λ left rest r. Appends-append d.error.held e.error.held x.held (call_does left).error (line left) (h.error left rest r) (gained left rest r);
          output_prefix = tt;
          error_prefix = tt;
          failed_input = λ other. let never : ⊥ = cc in absurd never;
          failed_output = tt;
          failed_error = tt;
          unasked_output = h.unasked_output;
          unasked_error = line_unasked;
          causes = ok_causes (told_only ∙ still);
        }
