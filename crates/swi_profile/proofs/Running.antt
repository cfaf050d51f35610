-- A run that counts its steps, step by step.
use Rattle.std.proofs.Common.{◌≡◌, ℕ, ◌+◌, ◌-◌, ◌^◌, ◌<◌, ◌≤◌, List, ◌++◌, length, slice_index, is_some, Ok, Err, false, sym, ap, ◌∙◌, subst, arith}
use Rattle.swi_outside.specs.Devices.{Devices}
use Rattle.swi_outside.specs.Source.{ForInput}
use Rattle.swi_outside.proofs.SourceLemmas.{read_first}
use Rattle.swi_memory.specs.declared.word_range.WordRange.{WordRange}
use Rattle.swi_memory.specs.WordRange.{IsWordRange}
use Rattle.swi_micro.specs.MicroOp.{index_at}
use Rattle.swi_calls.specs.declared.end.CallFault.{CallFault}
use Rattle.swi_calls.specs.Exchange.{Exchanged}
use Rattle.swi_calls.specs.Flat.{exchange_of, flat_run, made, started}
use Rattle.swi_calls.specs.State.{FlatState}
use Rattle.swi_flat.specs.FlatData.{FlatData, unfailed}
use Rattle.swi_flat.specs.Ran.{Ran}
use Rattle.swi_flat.proofs.Runs.{Going, SoFar, going_first, going_on}
use Rattle.swi_profile.specs.Executions.{AreCounts, executions}
use Rattle.swi_profile.specs.Laws.{executions_more, executions_none, one_at}
use Rattle.swi_profile.specs.Profiled.{Profiled, with_one}
use Rattle.swi_profile.proofs.Counting.{counted, counts_of, grown_few, with_one_long}

-- a run that goes on, and the counts of the steps made
pub record Counting (first : FlatData) (limit : ℕ) (f : FlatData) (range : WordRange) (counts : List ℕ) (d e : Devices) : Type 0 where
  pub going : Going first.machine limit f d e
  pub counts_are : ForInput d.input e.input (λ input rest. AreCounts range counts (executions (f.machine.steps - first.machine.steps) (started first.machine input)))
  pub long : length counts ≡ range.words
  pub few : (k : ℕ) → k < length counts → slice_index counts k ≤ f.machine.steps - first.machine.steps

pub counting_first : (f : FlatData) (limit : ℕ) (range : WordRange) (counts : List ℕ) (d : Devices) → f.machine.steps ≤ limit → f.failed ≡ false → AreCounts range counts (λ a. 0) →
    Counting f limit f range counts d d
counting_first f limit range counts d within none fresh =
    let no_steps : f.machine.steps - f.machine.steps ≡ 0 = omega arith in record {
      going = going_first f limit d within none;
      counts_are = λ input rest r. counts_of range counts (λ a. 0) (executions (f.machine.steps - f.machine.steps) (started f.machine input))
          (λ x. sym (ap (λ n. executions n (started f.machine input) x) no_steps ∙ executions_none (started f.machine input) x)) fresh;
      long = fresh.long;
      few = λ k within.
          let long = fresh.long in
          let none : slice_index counts k ≡ 0 = fresh.each k (omega (arith, within, long)) in
          omega (arith, none);
    }

module _ {first : FlatData} {limit : ℕ} {f : FlatData} {range : WordRange} {counts : List ℕ} {d e : Devices} (h : Counting first limit f range counts d e) where
  -- a step that was made is counted where it stood
  pub counting_on : (new : FlatData) (n : Devices) (more : List ℕ) → IsWordRange range → f.machine.pc < 2 ^ 32 → f.machine.steps < limit → is_some f.machine.ending ≡ false →
      ForInput e.input n.input (λ left rest. new ≡ unfailed (made f.machine left).machine) → new.machine.steps ≡ f.machine.steps + 1 → new.failed ≡ false →
      Exchanged {T = Unit {0}} (λ left. exchange_of (made f.machine left)) e n (Ok tt) → more ≡ with_one counts (index_at range f.machine.pc) → Counting first limit new range more d n
  counting_on new n more whole word fewer open_end machine stepped none_failed x is =
      let no_fewer = h.going.no_fewer in
      let made_steps : ℕ = f.machine.steps - first.machine.steps in
      let next : new.machine.steps - first.machine.steps ≡ made_steps + 1 = omega (arith, no_fewer, stepped) in
      let grown = with_one counts (index_at range f.machine.pc) in record {
        going = going_on h.going new n fewer open_end machine stepped none_failed x;
        counts_are = λ input rest r.
            let left : List ℕ = x.gave.0 ++ rest in
            let before = read_first h.going.gave x.gave r in
            let s : FlatState = started first.machine input in
            let so_far : SoFar first.machine f.machine input left d e = h.going.so_far input left before in
            let at : (flat_run made_steps s).machine.pc ≡ f.machine.pc = ap (λ (q : FlatState). q.machine.pc) so_far.run in
            let step : (y : ℕ) → executions made_steps s y + one_at f.machine.pc y ≡ executions (new.machine.steps - first.machine.steps) s y = λ y.
            ap (λ a. executions made_steps s y + one_at a y) (sym at) ∙ sym (executions_more made_steps s y) ∙ ap (λ k. executions k s y) (sym next) in
            subst (λ (l : List ℕ). AreCounts range l (executions (new.machine.steps - first.machine.steps) s)) (sym is)
            (counts_of range grown (λ y. executions made_steps s y + one_at f.machine.pc y) (executions (new.machine.steps - first.machine.steps) s) step
            (counted range counts (executions made_steps s) f.machine.pc whole word (h.counts_are input left before)));
        long = ap (λ (l : List ℕ). length l) is ∙ with_one_long counts (index_at range f.machine.pc) ∙ h.long;
        few = subst (λ (l : List ℕ). (k : ℕ) → k < length l → slice_index l k ≤ new.machine.steps - first.machine.steps) (sym is)
            (λ k within. let most = grown_few counts (index_at range f.machine.pc) made_steps h.few k within in omega (arith, most, next));
      }

  -- the run's end
  pub profiled_ok : Ran first.machine limit f d e (Ok tt) → Profiled first.machine limit f range counts d e (Ok tt)
  profiled_ok ran = record { ran = ran; long = h.long; counted = h.counts_are }

-- a step that failed
pub profiled_err : (first : FlatData) (limit : ℕ) (new : FlatData) (range : WordRange) (counts : List ℕ) (d n : Devices) (fault : CallFault) → Ran first.machine limit new d n (Err fault) → length counts ≡ range.words →
    Profiled first.machine limit new range counts d n (Err fault)
profiled_err first limit new range counts d n fault ran long = record { ran = ran; long = long; counted = tt }
