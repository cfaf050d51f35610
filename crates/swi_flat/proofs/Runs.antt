-- Runs of the flat machine, step by step.
use Rattle.std.proofs.Common.{◌≡◌, ℕ, ◌+◌, ◌-◌, ◌<◌, ◌≤◌, true, false, refl, sym, ap, subst, ◌∙◌, is_some, None, List, [], ◌++◌, take, Ok, Err, IsErrOf, arith, rules}
use Rattle.std.specs.Io.KnownBytes.{Appends}
use Rattle.swi_outside.specs.Sink.{SinkState, AppendsThenPrefix}
use Rattle.swi_outside.specs.Source.{ForInput, HasGiven, ReadFrom}
use Rattle.swi_outside.proofs.SourceLemmas.{bytes_are, given_still, given_more, read_first, read_last, rest_is}
use Rattle.swi_outside.specs.Devices.{Devices, Faults, HasCauses, faults_of}
use Rattle.swi_outside.specs.Laws.{unmoved}
use Rattle.swi_outside.specs.Laws.{Appends-none, Appends-append}
use Rattle.swi_calls.specs.Call.{room_of_call, second_argument}
use Rattle.swi_calls.specs.declared.end.CallFault.{CallFault}
use Rattle.swi_calls.specs.declared.end.CallFault.TheVariants.{SourceFault, SinkFault}
use Rattle.swi_calls.specs.declared.machine.Machine.{Machine}
use Rattle.swi_calls.specs.Exchange.{Exchanged}
use Rattle.swi_calls.specs.State.{FlatState}
use Rattle.swi_calls.specs.Flat.{made, exchange_of, flat_step, flat_run, started}
use Rattle.swi_calls.specs.Moves.{ReadsInto}
use Rattle.swi_calls.specs.Laws.{flat_run_none, flat_run_over, flat_run_more}
use Rattle.swi_flat.specs.Laws.{flat_run_sum}
use Rattle.swi_flat.specs.FlatData.{FlatData, unfailed, stopped, state_at, next_made, FillsFront}
use Rattle.swi_flat.specs.Advanced.{Advances}
use Rattle.swi_flat.specs.Ran.{Ran}

-- what was written so far, and that the definition's run of as many steps over this input comes to the machine now, with just that, and the rest
pub record SoFar (first now : Machine) (input rest : List ℕ) (d e : Devices) : Type 0 where
  pub output : List ℕ
  pub error : List ℕ
  pub out : Appends d.output.held e.output.held output
  pub err : Appends d.error.held e.error.held error
  pub run : state_at now.steps first input ≡ record { machine = now; input = rest; output = output; error = error }

-- a run that goes on
pub record Going (first : Machine) (limit : ℕ) (f : FlatData) (d e : Devices) : Type 0 where
  pub gave : HasGiven d.input e.input
  pub so_far : ForInput d.input e.input (λ input rest. SoFar first f.machine input rest d e)
  pub no_fewer : first.steps ≤ f.machine.steps
  pub within : f.machine.steps ≤ limit
  pub unfailed_is : f.failed ≡ false
  pub still : faults_of e ≡ faults_of d

pub going_first : (f : FlatData) (limit : ℕ) (d : Devices) → f.machine.steps ≤ limit → f.failed ≡ false → Going f.machine limit f d d
going_first f limit d within none_failed = record {
  gave = given_still d.input;
  so_far = λ input rest r. record {
    output = [];
    error = [];
    out = Appends-none d.output.held;
    err = Appends-none d.error.held;
    run =
        let none : f.machine.steps - f.machine.steps ≡ 0 = omega arith in
        ap (λ k. flat_run k (started f.machine input)) none ∙ flat_run_none (started f.machine input)
        ∙ ap (λ (l : List ℕ). started f.machine l) (sym (rest_is r));
  };
  no_fewer = omega arith;
  within = within;
  unfailed_is = none_failed;
  still = refl;
}

module _ {first : Machine} {limit : ℕ} {f : FlatData} {d e : Devices} (h : Going first limit f d e) where
  -- the state that the run has come to, and how it goes on
  module _ {input rest : List ℕ} (s : SoFar first f.machine input rest d e) where
    abbrev reached : FlatState
    reached = record { machine = f.machine; input = rest; output = s.output; error = s.error }

    further : (count more : ℕ) → count ≡ f.machine.steps + more → state_at count first input ≡ flat_run more reached
    further count more is =
        let no_fewer = h.no_fewer in
        let split : count - first.steps ≡ (f.machine.steps - first.steps) + more = omega arith in
        ap (λ k. flat_run k (started first input)) split ∙ flat_run_sum (f.machine.steps - first.steps) more (started first input) ∙ ap (flat_run more) s.run

  -- a step that was made
  pub going_on : (new : FlatData) (n : Devices) → f.machine.steps < limit → is_some f.machine.ending ≡ false →
      ForInput e.input n.input (λ left rest. new ≡ unfailed (made f.machine left).machine) → new.machine.steps ≡ f.machine.steps + 1 → new.failed ≡ false →
      Exchanged {T = Unit {0}} (λ left. exchange_of (made f.machine left)) e n (Ok tt) → Going first limit new d n
  going_on new n fewer open_end machine counted none_failed x = record {
    gave = given_more h.gave x.gave;
    so_far = λ input rest r.
        let left : List ℕ = x.gave.0 ++ rest in
        let last = read_last h.gave x.gave r in
        let s = h.so_far input left (read_first h.gave x.gave r) in
        let step = made f.machine left in
        let is : new.machine ≡ step.machine = ap (λ (q : FlatData). q.machine) (machine left rest last) in
        let after : Machine → FlatState = λ (q : Machine). record { machine = q; input = step.input; output = s.output ++ step.output; error = s.error ++ step.error } in
        let over : List ℕ → FlatState = λ (l : List ℕ). record { machine = new.machine; input = l; output = s.output ++ step.output; error = s.error ++ step.error } in
        record {
          output = s.output ++ step.output;
          error = s.error ++ step.error;
          out = Appends-append d.output.held e.output.held n.output.held s.output step.output s.out (x.output left rest last);
          err = Appends-append d.error.held e.error.held n.error.held s.error step.error s.err (x.error left rest last);
          run = further s new.machine.steps 1 counted ∙ flat_run_more 0 (reached s) open_end ∙ flat_run_none (flat_step (reached s)) ∙ ap after (sym is) ∙ ap over (x.input left rest last);
        };
    no_fewer = let no_fewer = h.no_fewer in omega arith;
    within = omega arith;
    unfailed_is = none_failed;
    still = unmoved x.causes (λ e. cc) (λ e. cc) ∙ h.still;
  }

  -- steps that asked for no device
  pub going_ahead : (old : FlatData) (new : Machine) → old ≡ f → Advances old.machine new → old.machine.steps ≤ new.steps → new.steps ≤ limit →
      Going first limit (record old { machine = new }) d e
  going_ahead old new same advanced no_fewer within =
      let moved : Advances f.machine new = subst (λ (q : FlatData). Advances q.machine new) same advanced in
      let later : f.machine.steps ≤ new.steps = subst (λ (q : FlatData). q.machine.steps ≤ new.steps) same no_fewer in
      record {
        gave = h.gave;
        so_far = λ input rest r.
            let s = h.so_far input rest r in
            record {
              output = s.output;
              error = s.error;
              out = s.out;
              err = s.err;
              run = further s new.steps (new.steps - f.machine.steps) (omega (arith, later)) ∙ moved rest s.output s.error;
            };
        no_fewer = let before = h.no_fewer in omega (arith, before, later);
        within = within;
        unfailed_is = ap (λ (q : FlatData). q.failed) same ∙ h.unfailed_is;
        still = h.still;
      }

  -- the run's end, after so many steps more of which none was made
  ended : (more : ℕ) → limit ≡ f.machine.steps + more → ((s : FlatState) → s.machine ≡ f.machine → flat_run more s ≡ s) →
      (f.machine.ending ≡ None → f.machine.steps ≡ limit) → Ran first limit f d e (Ok tt)
  ended more whole over stops = record {
    gave = h.gave;
    machine = λ input rest r. rw (at input rest r) (data_is (h.unfailed_is));
    input = λ input rest r. rw (at input rest r) refl;
    output = λ input rest r. rw (at input rest r) (h.so_far input rest r).out;
    error = λ input rest r. rw (at input rest r) (h.so_far input rest r).err;
    stops = stops;
    failed = h.unfailed_is;
    going = tt;
    uncounted = tt;
    no_fewer = tt;
    stays = tt;
    front = tt;
    output_part = tt;
    error_part = tt;
    failed_input = λ other. let never : ⊥ = cc in absurd never;
    failed_output = tt;
    failed_error = tt;
    unasked_output = tt;
    unasked_error = tt;
    causes = search (rules, h.still);
  }
    where
      at : (input rest : List ℕ) (r : ReadFrom d.input e.input input rest) → state_at limit first input ≡ reached (h.so_far input rest r)
      at input rest r = further (h.so_far input rest r) limit more whole ∙ over (reached (h.so_far input rest r)) refl

      data_is : f.failed ≡ false → f ≡ unfailed f.machine
      data_is none_failed = rw (← none_failed) refl

  pub ran_over : is_some f.machine.ending ≡ true → Ran first limit f d e (Ok tt)
  ran_over over =
      let within = h.within in
      ended (limit - f.machine.steps) (omega arith) (λ s same. flat_run_over (limit - f.machine.steps) s (ap (λ (m : Machine). is_some m.ending) same ∙ over))
      (λ none. absurd (let no_way : false ≡ true = ap (λ o. is_some o) (sym none) ∙ over in cc))

  pub ran_all : limit ≤ f.machine.steps → Ran first limit f d e (Ok tt)
  ran_all reached_it =
      let within = h.within in
      ended 0 (omega arith) (λ s same. flat_run_none s) (λ none. omega arith)

  -- a step that failed
  pub ran_broken : (new : FlatData) (n : Devices) (fault : CallFault) → f.machine.steps < limit → f.machine.ending ≡ None → new ≡ stopped f.machine new.machine.bus →
      (k : ℕ) × (k ≤ room_of_call f.machine.regs f.machine.bus) × ReadsInto f.machine.bus new.machine.bus e.input n.input (second_argument f.machine.regs) k →
      Exchanged {T = Unit {0}} (λ left. exchange_of (made f.machine left)) e n (Err fault) → Ran first limit new d n (Err fault)
  ran_broken new n fault fewer open_end is moved x = record {
    gave = given_more h.gave x.gave;
    machine = tt;
    input = tt;
    output = tt;
    error = tt;
    stops = tt;
    failed = ap (λ (q : FlatData). q.failed) is;
    going = ap (λ (q : FlatData). q.machine.ending) is ∙ open_end;
    uncounted = omega (arith, steps);
    no_fewer = let no_fewer = h.no_fewer in omega (arith, steps);
    stays = λ input rest r. at input rest r (λ s. new ≡ stopped s.machine new.machine.bus) is;
    front = λ input rest r. at input rest r (λ s. FillsFront s new.machine.bus rest) (
        let (k, within, reads) = moved in
        let number = reads.number in
        record { taken = reads.bytes; within = omega (arith, number, within); stored = reads.stored; left = bytes_are reads.gave (last input rest r) });
    output_part = λ input rest r.
        let s = so_far input rest r in
        let part = x.output_prefix (left rest) rest (last input rest r) in
        at input rest r (λ s. AppendsThenPrefix d.output.held n.output.held s.output (next_made s).output)
        (part.0, Appends-append d.output.held e.output.held n.output.held s.output (take part.0 (made f.machine (left rest)).output) s.out part.1);
    error_part = λ input rest r.
        let s = so_far input rest r in
        let part = x.error_prefix (left rest) rest (last input rest r) in
        at input rest r (λ s. AppendsThenPrefix d.error.held n.error.held s.error (next_made s).error)
        (part.0, Appends-append d.error.held e.error.held n.error.held s.error (take part.0 (made f.machine (left rest)).error) s.err part.1);
    failed_input = λ named input rest r. (
      at input rest r (λ s. Appends d.output.held n.output.held s.output) (subst (λ o. Appends d.output.held o (so_far input rest r).output) (ap (λ (s : SinkState). s.held) (sym (x.failed_input named).0)) (so_far input rest r).out),
      at input rest r (λ s. Appends d.error.held n.error.held s.error) (subst (λ o. Appends d.error.held o (so_far input rest r).error) (ap (λ (s : SinkState). s.held) (sym (x.failed_input named).1)) (so_far input rest r).err),
    );
    failed_output = λ rose input rest r. at input rest r (λ s. Appends d.error.held n.error.held s.error)
        (subst (λ o. Appends d.error.held o (so_far input rest r).error) (ap (λ (s : SinkState). s.held) (sym (x.failed_output (λ same. rose (same ∙ ap (λ (x : Faults). x.output) h.still))))) (so_far input rest r).err);
    failed_error = λ rose input rest r.
        let s = so_far input rest r in
        at input rest r (λ s. Appends d.output.held n.output.held (s.output ++ (next_made s).output))
        (Appends-append d.output.held e.output.held n.output.held s.output (made f.machine (left rest)).output s.out (x.failed_error (λ same. rose (same ∙ ap (λ (x : Faults). x.error) h.still)) (left rest) rest (last input rest r)));
    unasked_output = λ input rest r. at input rest r (λ s. (next_made s).output ≡ [] → n.output.faults ≡ d.output.faults)
        (λ none. ap (λ (s : SinkState). s.faults) (x.unasked_output (left rest) none) ∙ ap (λ (x : Faults). x.output) h.still);
    unasked_error = λ input rest r. at input rest r (λ s. (next_made s).error ≡ [] → n.error.faults ≡ d.error.faults)
        (λ none. ap (λ (s : SinkState). s.faults) (x.unasked_error (left rest) none) ∙ ap (λ (x : Faults). x.error) h.still);
    causes = subst (λ (y : Faults). HasCauses y (faults_of n) (IsErrOf {T = Unit {0}} (Err fault) SourceFault) (IsErrOf {T = Unit {0}} (Err fault) SinkFault)) h.still x.causes;
  }
    where
      steps : new.machine.steps ≡ f.machine.steps
      steps = ap (λ (q : FlatData). q.machine.steps) is

      -- what was left before the step
      left : List ℕ → List ℕ
      left rest = x.gave.0 ++ rest

      last : (input rest : List ℕ) → ReadFrom d.input n.input input rest → ReadFrom e.input n.input (left rest) rest
      last input rest r = read_last h.gave x.gave r

      so_far : (input rest : List ℕ) → ReadFrom d.input n.input input rest → SoFar first f.machine input (left rest) d e
      so_far input rest r = h.so_far input (left rest) (read_first h.gave x.gave r)

      at : (input rest : List ℕ) (r : ReadFrom d.input n.input input rest) (P : FlatState → Type 0) → P (reached (so_far input rest r)) → P (state_at new.machine.steps first input)
      at input rest r P p =
          let zero_more : new.machine.steps ≡ f.machine.steps + 0 = omega (arith, steps) in
          subst P (sym (further (so_far input rest r) new.machine.steps 0 zero_more ∙ flat_run_none (reached (so_far input rest r)))) p
