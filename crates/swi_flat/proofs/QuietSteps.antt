-- Steps that ask for no device.
use Rattle.std.proofs.Common.{◌≡◌, ℕ, Bool, List, [], refl, sym, ap, ◌∙◌, Option, Some, None, Result, Ok, Err, OnOk, is_err}
use Rattle.std.specs.Io.KnownBytes.{Appends}
use Rattle.swi_outside.specs.Source.{SourceState, ForInput}
use Rattle.swi_outside.specs.Sink.{SinkState}
use Rattle.swi_outside.specs.Laws.{ok_causes, Appends-none}
use Rattle.swi_outside.proofs.SourceLemmas.{given_still, rest_is}
use Rattle.swi_isa.specs.declared.instr.Instr.{Instr}
use Rattle.swi_isa.specs.Decode.{decoded}
use Rattle.swi_memory.specs.Bus.{fetched}
use Rattle.swi_exec.specs.Execute.{executed}
use Rattle.swi_exec.specs.declared.done.Done.{Done}
use Rattle.swi_exec.specs.declared.done.Done.TheVariants as done
use Rattle.swi_exec.specs.declared.done.FaultKind.{FaultKind}
use Rattle.swi_calls.specs.declared.end.CallFault.{CallFault}
use Rattle.swi_calls.specs.declared.machine.Machine.{Machine}
use Rattle.swi_calls.specs.Exchange.{Exchanged}
use Rattle.swi_calls.specs.Flat.{Made, after, call_made, exchange_of, made}
use Rattle.swi_flat.specs.FlatData.{unfailed}

-- it takes no input and writes nothing
pub record TakesNone (m : Made) (left : List ℕ) : Type 0 where
  pub input : m.input ≡ left
  pub output : m.output ≡ []
  pub error : m.error ≡ []

pub no_word : (m : Machine) (found : Option ℕ) → found ≡ fetched m.bus m.pc → found ≡ None → (left : List ℕ) → TakesNone (made m left) left
unfolding made
no_word m found fetches none left = rw (← fetches, none) (record { input = refl; output = refl; error = refl })

pub no_instruction : (m : Machine) (word : ℕ) (found : Option ℕ) (read : Option Instr) → found ≡ fetched m.bus m.pc → found ≡ Some word → read ≡ decoded word → read ≡ None →
    (left : List ℕ) → TakesNone (made m left) left
unfolding made
no_instruction m word found read fetches stands decodes none left = rw (← fetches, stands, ← decodes, none) (record { input = refl; output = refl; error = refl })

after_none : (s : Machine) (d : Done) (left : List ℕ) → (d ≡ done.Call → ⊥) → TakesNone (after s d left) left
after_none s (done.Next pc) left not = record { input = refl; output = refl; error = refl }
after_none s done.Call left not = absurd (not refl)
after_none s done.Break left not = record { input = refl; output = refl; error = refl }
after_none s (done.Fault k a) left not = record { input = refl; output = refl; error = refl }

pub no_call : (m : Machine) (word : ℕ) (i : Instr) (found : Option ℕ) (read : Option Instr) (d : Done) → found ≡ fetched m.bus m.pc → found ≡ Some word → read ≡ decoded word → read ≡ Some i →
    d ≡ (executed i m.pc m.regs m.bus).done → (d ≡ done.Call → ⊥) → (left : List ℕ) → TakesNone (made m left) left
unfolding made
no_call m word i found read d fetches stands decodes reads does not left =
    let e = executed i m.pc m.regs m.bus in
    rw (← fetches, stands, ← decodes, reads) (after_none (record m { regs = e.regs; bus = e.bus }) e.done left (λ call. not (does ∙ call)))

pub not_next : (d : Done) (pc : ℕ) → d ≡ done.Next pc → d ≡ done.Call → ⊥
not_next d pc is call = let never : done.Next pc ≡ done.Call = sym is ∙ call in cc

pub not_break : (d : Done) → d ≡ done.Break → d ≡ done.Call → ⊥
not_break d is call = let never : done.Break ≡ done.Call = sym is ∙ call in cc

pub not_fault : (d : Done) (k : FaultKind) (a : ℕ) → d ≡ done.Fault k a → d ≡ done.Call → ⊥
not_fault d k a is call = let never : done.Fault k a ≡ done.Call = sym is ∙ call in cc

appends_none : (o : Option (List ℕ)) (x : List ℕ) → x ≡ [] → Appends o o x
appends_none o x none = rw none (Appends-none o)

pub quiet_step : (m : Machine) (s : SourceState) (o e : SinkState) → ((left : List ℕ) → TakesNone (made m left) left) →
    Exchanged {T = Unit {0}} (λ left. exchange_of (made m left)) (record { input = s; output = o; error = e }) (record { input = s; output = o; error = e }) (Ok tt)
quiet_step m s o e is = record {
  gave = given_still s;
  input = λ left rest r. (is left).input ∙ sym (rest_is r);
  output = λ left rest r. appends_none o.held (made m left).output (is left).output;
  error = λ left rest r. appends_none e.held (made m left).error (is left).error;
  output_prefix = tt;
  error_prefix = tt;
  failed_input = λ other. let never : ⊥ = cc in absurd never;
  failed_output = tt;
  failed_error = tt;
  unasked_output = λ left none. refl;
  unasked_error = λ left none. refl;
  causes = ok_causes refl;
}

-- a call's step, spelled in another way
pub made_by : (r : Result Unit CallFault) (failed : Bool) (new m m' : Machine) (s s' : SourceState) → failed ≡ is_err r → ((left : List ℕ) → call_made m' left ≡ made m left) →
    OnOk r (ForInput s s' (λ left rest. new ≡ (call_made m' left).machine)) → OnOk r (ForInput s s' (λ left rest. record { machine = new; failed = failed } ≡ unfailed (made m left).machine))
made_by (Ok v) failed new m m' s s' none same h = λ left rest r. rw none (ap (λ (x : Machine). unfailed x) (h left rest r ∙ ap (λ (x : Made). x.machine) (same left)))
made_by (Err e) failed new m m' s s' none same h = tt
