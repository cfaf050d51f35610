-- Over a source that tells what is left, the clauses say what is done with just that; and what is said of such sources carries over to every
-- source, for each input from which what it gave may have been read.
use Rattle.std.proofs.Common.{◌≡◌, ℕ, List, [], ◌++◌, Option, Some, None, refl, sym, ap, subst, ◌∙◌, Result, Ok, Err, OnOk, OnErr, IsErrOf}
use Rattle.std.specs.Option.{ForSome}
use Rattle.std.specs.Io.KnownBytes.{Appends}
use Rattle.swi_outside.specs.Sink.{AppendsPrefix}
use Rattle.swi_outside.specs.Source.{SourceState, HasGiven, MayBeLeft, ReadFrom, ForInput}
use Rattle.swi_outside.specs.Devices.{Devices, HasCauses, faults_of}
use Rattle.swi_outside.proofs.SourceLemmas.{bytes_are, read_told, read_first, read_last}
use Rattle.swi_calls.specs.declared.end.CallFault.{CallFault}
use Rattle.swi_calls.specs.declared.end.CallFault.TheVariants.{SourceFault, SinkFault}
use Rattle.swi_calls.specs.Exchange.{Exchange, Exchanged}
use Rattle.swi_outside.specs.Told.{AsTold, told_as}
use Rattle.swi_outside.proofs.ToldLemmas.{given_as, narrow}
use Rattle.swi_calls.specs.Told.{ExchangedTold, ReadsIntoTold}
use Rattle.swi_calls.specs.Moves.{ReadsInto}
use Rattle.swi_memory.specs.Bus.{AreaData}

-- ---- the relation of a step as it is said of sources that tell what is left

-- it follows
pub exchanged_told : {T : Type 0} (does : List ℕ → Exchange) (d e : Devices) (r : Result T CallFault) → Exchanged does d e r → ExchangedTold does d e r
exchanged_told does d e (Ok v) x = record {
  input = λ left told. let t = read_told x.gave told in t.1 ∙ ap (λ (l : List ℕ). Some l) (sym (x.input left t.0 t.2));
  output = λ left told. let t = read_told x.gave told in x.output left t.0 t.2;
  error = λ left told. let t = read_told x.gave told in x.error left t.0 t.2;
  output_prefix = tt;
  error_prefix = tt;
  failed_input = x.failed_input;
  failed_output = tt;
  failed_error = tt;
  unasked_output = x.unasked_output;
  unasked_error = x.unasked_error;
  causes = x.causes;
}
exchanged_told does d e (Err f) x = record {
  input = tt;
  output = tt;
  error = tt;
  output_prefix = λ left told. let t = read_told x.gave told in x.output_prefix left t.0 t.2;
  error_prefix = λ left told. let t = read_told x.gave told in x.error_prefix left t.0 t.2;
  failed_input = x.failed_input;
  failed_output = x.failed_output;
  failed_error = λ rose left told. let t = read_told x.gave told in x.failed_error rose left t.0 t.2;
  unasked_output = x.unasked_output;
  unasked_error = x.unasked_error;
  causes = x.causes;
}

-- ---- every source, as one that tells what is left

-- the devices, where this is left of the input
abbrev pub with_left : Devices → List ℕ → Devices
with_left d left = record d { input = told_as d.input left }

-- what is said of a step holds of it so
pub exchanged_at : {T : Type 0} (does : List ℕ → Exchange) (d e : Devices) (i k : List ℕ) (r : Result T CallFault) → ReadFrom d.input e.input i k → Exchanged does d e r →
    Exchanged does (with_left d i) (with_left e k) r
exchanged_at does d e i k (Ok v) r h = record {
  gave = given_as r;
  input = λ l q x. h.input l q (narrow r x);
  output = λ l q x. h.output l q (narrow r x);
  error = λ l q x. h.error l q (narrow r x);
  output_prefix = tt;
  error_prefix = tt;
  failed_input = h.failed_input;
  failed_output = tt;
  failed_error = tt;
  unasked_output = h.unasked_output;
  unasked_error = h.unasked_error;
  causes = h.causes;
}
exchanged_at does d e i k (Err f) r h = record {
  gave = given_as r;
  input = tt;
  output = tt;
  error = tt;
  output_prefix = λ l q x. h.output_prefix l q (narrow r x);
  error_prefix = λ l q x. h.error_prefix l q (narrow r x);
  failed_input = h.failed_input;
  failed_output = h.failed_output;
  failed_error = λ rose l q x. h.failed_error rose l q (narrow r x);
  unasked_output = h.unasked_output;
  unasked_error = h.unasked_error;
  causes = h.causes;
}

-- so the relation as it is said of sources that tell what is left holds of every source, for each such input
pub exchanged_as_told : {T : Type 0} (does : List ℕ → Exchange) (d e : Devices) (r : Result T CallFault) → Exchanged does d e r →
    AsTold d.input e.input (λ x y. ExchangedTold does (record d { input = x }) (record e { input = y }) r)
exchanged_as_told does d e r h = λ i k read. exchanged_told does (with_left d i) (with_left e k) r (exchanged_at does d e i k r read h)

pub reads_as_told : (bus bus' : List AreaData) (old new : SourceState) (a k : ℕ) (i r : List ℕ) → ReadFrom old new i r → ReadsInto bus bus' old new a k → ReadsIntoTold bus bus' (Some i) (Some r) a k
reads_as_told bus bus' old new a k i r read h = record { bytes = h.bytes; number = h.number; stored = h.stored; consumed = bytes_are h.gave read }
