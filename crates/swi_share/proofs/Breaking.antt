-- What a device leaves that broke off an event, in the words of the event.
use Rattle.std.proofs.Common.{◌≡◌, ℕ, suc, ◌+◌, ◌-◌, ◌<◌, ◌≤◌, Bool, true, false, List, [], ◌++◌, length, reverse, take, Option, Some, None, is_some, nat_le, if◌then◌else◌, arith, refl, sym, ◌∙◌, ap, subst, inl, inr, append-nil}
use Rattle.std.proofs.lemmas.Bool.{cases_lt, le-leb, lt-leb}
use Rattle.std.proofs.lemmas.List.{length-append, length-reverse, reverse-append, reverse-reverse}
use Rattle.std.specs.Io.KnownBytes.{Appends}
use Rattle.swi_outside.specs.CacheRam.{Fetch, RamState, since}
use Rattle.swi_outside.specs.Causes.{risen}
use Rattle.swi_outside.specs.Devices.{Devices}
use Rattle.swi_outside.specs.Laws.{Appends-none}
use Rattle.swi_outside.specs.Sink.{SinkState}
use Rattle.swi_calls.specs.declared.end.End.{End}
use Rattle.swi_calls.specs.declared.machine.Machine.{Machine}
use Rattle.swi_calls.specs.Held.{held_run, held_step}
use Rattle.swi_calls.specs.State.{FlatState}
use Rattle.swi_image.specs.Format.{ImageData}
use Rattle.swi_image.specs.Place.{place_of}
use Rattle.swi_rom.specs.Record.{Record, writes}
use Rattle.swi_rom.specs.Service.{Setting}
use Rattle.swi_slots.specs.Fifo.{fifo}
use Rattle.swi_hart.specs.declared.fault.BoardFault.{BoardFault}
use Rattle.swi_hart.specs.declared.fault.BoardFault.TheVariants.{RamFault, SinkFault}
use Rattle.swi_board.specs.Fetching.{FetchedFront, words_run}
use Rattle.swi_board.specs.Moments.{Moment, Policy, events, written_in}
use Rattle.swi_board.specs.Ran.{next_of}
use Rattle.swi_board.specs.Transfers.{Here, at_fall, fetches, here_after, size, step_size}
use Rattle.swi_board.proofs.Fetching.{words_many}
use Rattle.swi_run_laws.specs.After.{IsAfter}
use Rattle.swi_run_laws.proofs.After.{goes_before, is_after}
use Rattle.swi_run_laws.proofs.RunLaws.{flat_at, most_fetched, words_front}
use Rattle.swi_share.specs.Shared.{Context, Event, enters, entered_if, begun_if, event_of, flat_of, step_event}
use Rattle.swi_share.specs.Cuts.{RamCut, SinkCut}
use Rattle.swi_share.specs.Event.{EntryBroke, EventBroke, EventDevices, StepBroke, instructions_from, moment_of}
use Rattle.swi_share.proofs.Few.{run_one}

pub flat_same : (t : Bool) (c : Context) → flat_of (begun_if t c) ≡ flat_of c
flat_same true c = refl
flat_same false c = refl

run_zero : (k : ℕ) (s : FlatState) → k ≡ 0 → held_run k s ≡ s
unfolding held_run
run_zero k s e = rw e refl

-- ---- the machine instructions of one step

module _ (by : Policy) (v : ImageData) (s : Moment) (going : s.flat.machine.ending ≡ None) (none : s.spent ≡ 0) where
  -- before the last one the flat machine stays
  pub unmoved : (j : ℕ) → j < instructions_from v s → (events by v j s).flat ≡ s.flat
  unmoved j lt =
      let on = goes_before by v 1 s s.here (λ on. refl) none j lt in
      let less = on.1 in
      let first : (events by v j s).flat.machine.steps - s.flat.machine.steps ≡ 0 = omega (arith, less) in
      flat_at by v j s on.0 ∙ run_zero ((events by v j s).flat.machine.steps - s.flat.machine.steps) s.flat first

  -- what they fetch is a front of the step's words
  pub front_at : (j : ℕ) → j ≤ instructions_from v s → (before after : RamState) → s.words ≡ [] → after.fetched_at ≡ since before.sets (events by v j s).words ++ before.fetched_at →
      FetchedFront (words_run by v 1 s.flat s.here (written_in s)) before after × (length (events by v j s).words ≤ fetches v 1 s.flat s.here)
  front_at j le before after fresh are =
      let more = words_front by v j (instructions_from v s) s le in
      let whole = is_after by v 1 s s.here (λ on. refl) none in
      let all : (events by v (instructions_from v s) s).words ≡ reverse (words_run by v 1 s.flat s.here (written_in s)) =
      whole.words ∙ ap (λ (l : List Fetch). reverse (words_run by v 1 s.flat s.here (written_in s)) ++ l) fresh ∙ append-nil (reverse (words_run by v 1 s.flat s.here (written_in s))) in
      let mine : more.0 ++ (events by v j s).words ≡ reverse (words_run by v 1 s.flat s.here (written_in s)) = sym more.1 ∙ all in
      let long = ap (λ (l : List Fetch). length l) mine in
      let parts = length-append more.0 (events by v j s).words in
      let many = length-reverse (words_run by v 1 s.flat s.here (written_in s)) in
      let number = words_many by v 1 s.flat s.here (written_in s) in (
        (
          reverse more.0,
          record {
            fetched = reverse (events by v j s).words;
            are = are ∙ ap (λ (l : List Fetch). since before.sets l ++ before.fetched_at) (sym (reverse-reverse (events by v j s).words));
            front = sym (reverse-append more.0 (events by v j s).words) ∙ ap (λ (l : List Fetch). reverse l) mine ∙ reverse-reverse (words_run by v 1 s.flat s.here (written_in s));
          },
        ),
        omega (arith, long, parts, many, number),
      )

-- a step from a text word's place fetches a word
fetches_some : (v : ImageData) (s : FlatState) (p : ℕ × ℕ) → s.machine.ending ≡ None → place_of v s.machine.pc ≡ Some p → 1 ≤ fetches v 1 s (Some p)
unfolding size
fetches_some v s p going place = at (is_some s.machine.ending) (ap (λ (e : Option End). is_some e) going) (at_fall v s.machine (Some p))
  where
    least : (t : Bool) (f : Machine) → 1 ≤ step_size 0 f (if t then Some p else Some p)
    least true f = omega arith
    least false f = omega arith

    rest : (t : Bool) (n k : ℕ) → n ≡ step_size 0 s.machine (if t then place_of v s.machine.pc else Some p) → 1 ≤ (if t then 1 else 0) + n + k
    rest t n k is = omega (arith, is, subst (λ (h : Here). 1 ≤ step_size 0 s.machine (if t then h else Some p)) (sym place) (least t s.machine))

    at : (t : Bool) → t ≡ false → (u : Bool) → 1 ≤ (if t then 0 else (if u then 1 else 0) + step_size 0 s.machine (if u then place_of v s.machine.pc else Some p)
        + size 0 v 0 (held_step s) (here_after v s.machine (if u then place_of v s.machine.pc else Some p) (held_step s).machine))
    at true is u = absurd (cc)
    at false is u = rest u _ _ refl

-- ---- the event

module _ (by : Setting) (r : Record) (c : Context) (going : c.machine.ending ≡ None) (before after : EventDevices) where
  abbrev e : Event
  e = event_of by r c

  abbrev start : Moment
  start = moment_of by r c

  abbrev done : FlatState
  done = held_run 1 start.flat

  flat_is : start.flat ≡ flat_of c
  flat_is = flat_same (enters r c) c

  on : start.flat.machine.ending ≡ None
  on = ap (λ (q : FlatState). q.machine.ending) flat_is ∙ going

  done_is : done ≡ held_step (flat_of c)
  done_is = ap (λ (q : FlatState). held_run 1 q) flat_is ∙ run_one c.machine c.input going

  -- the image of the event is the program's
  fetches_are : e.fetches ≡ fetches c.image 1 start.flat start.here
  fetches_are = over (enters r c)
    where
      over : (t : Bool) → (step_event by (writes (entered_if t by r c) - writes r) (entered_if t by r c) (begun_if t c)).fetches ≡ fetches c.image 1 (flat_of (begun_if t c)) (begun_if t c).place
      over true = refl
      over false = refl

  words_are : words_run (fifo by) c.image 1 start.flat start.here (written_in start) ≡ e.words
  words_are = over (enters r c)
    where
      over : (t : Bool) → words_run (fifo by) c.image 1 (flat_of (begun_if t c)) (begun_if t c).place (record { kept = entered_if t by r c; sets = writes (entered_if t by r c) - writes r }) ≡ (step_event by (writes (entered_if t by r c) - writes r) (entered_if t by r c) (begun_if t c)).words
      over true = refl
      over false = refl

  front_of : (j : ℕ) → j ≤ instructions_from c.image start → after.ram.fetched_at ≡ since before.ram.sets (events (fifo by) c.image j start).words ++ before.ram.fetched_at →
      FetchedFront e.words before.ram after.ram × (length (events (fifo by) c.image j start).words ≤ e.fetches)
  front_of j le are =
      let f = front_at (fifo by) c.image start on refl j le before.ram after.ram refl are in
      (subst (λ (l : List Fetch). FetchedFront l before.ram after.ram) words_are f.0, subst (λ (n : ℕ). length (events (fifo by) c.image j start).words ≤ n) (sym fetches_are) f.1)

  -- ---- a sink

  pub sink_cut : StepBroke by r c SinkFault before after → SinkCut e before after
  unfolding events
  sink_cut b =
      let t = events (fifo by) c.image b.made start in
      let is : t.flat ≡ flat_of c = unmoved (fifo by) c.image start on refl b.made b.few ∙ flat_is in
      let less = b.few in
      let unasked = b.unasked (λ x. let bad : ⊥ = cc in bad) in
      record {
        output_front = b.broke.output_front;
        output = subst (λ (l : List ℕ). Appends before.out.held after.out.held (take b.broke.output_front l)) (sym (ap (λ (q : FlatState). q.output) done_is))
            (subst (λ (q : FlatState). Appends before.out.held after.out.held (q.output ++ take b.broke.output_front (next_of q).output)) is b.broke.output);
        error_front = b.broke.error_front;
        error = subst (λ (l : List ℕ). Appends before.err.held after.err.held (take b.broke.error_front l)) (sym (ap (λ (q : FlatState). q.error) done_is))
            (subst (λ (q : FlatState). Appends before.err.held after.err.held (q.error ++ take b.broke.error_front (next_of q).error)) is b.broke.error);
        words = (front_of (suc b.made) (omega (arith, less)) b.broke.words).0;
        output_unasked = λ none. unasked.output (ap (λ (q : FlatState). (next_of q).output) is ∙ sym (ap (λ (q : FlatState). q.output) done_is) ∙ none);
        error_unasked = λ none. unasked.error (ap (λ (q : FlatState). (next_of q).error) is ∙ sym (ap (λ (q : FlatState). q.error) done_is) ∙ none);
      }

  -- ---- the ram

  -- behind so many machine instructions
  cut_at : (j : ℕ) → j ≤ instructions_from c.image start → ((events (fifo by) c.image j start).here ≡ None → ⊥) →
      after.ram.fetched_at ≡ since before.ram.sets (events (fifo by) c.image j start).words ++ before.ram.fetched_at → after.ram.fetches ≡ risen before.ram.fetches (length (events (fifo by) c.image j start).words) → after.ram.last_failed ≡ true →
      Appends before.out.held after.out.held (events (fifo by) c.image j start).flat.output → Appends before.err.held after.err.held (events (fifo by) c.image j start).flat.error → RamCut e before after
  cut_at j le inside are number last out err =
      let front = front_of j le are in
      record {
        fetched = length t.words;
        fetches = number;
        most = front.1;
        output = subst (λ (l : List ℕ). Appends before.out.held after.out.held l) bytes.0 out;
        error = subst (λ (l : List ℕ). Appends before.err.held after.err.held l) bytes.1 err;
        words = front.0;
        last_failed = last;
      }
    where
      t : Moment
      t = events (fifo by) c.image j start

      all : Bool
      all = nat_le e.fetches (length t.words)

      -- before the last one
      early : j < instructions_from c.image start → (t.flat.output ≡ (if all then e.output else [])) × (t.flat.error ≡ (if all then e.error else []))
      early less =
          let still = unmoved (fifo by) c.image start on refl j less ∙ flat_is in
          let most = most_fetched (fifo by) c.image 1 start refl j le (ap (λ (q : FlatState). q.machine.ending) still ∙ going) inside in
          let counted = most.steps_are in
          let steps = ap (λ (q : FlatState). q.machine.steps) (unmoved (fifo by) c.image start on refl j less) in
          let none : most.steps ≡ 0 = omega (arith, counted, steps) in
          let few : length t.words < 0 + fetches c.image 1 start.flat start.here = subst (λ (k : ℕ). length t.words < 0 + fetches c.image (k + 1) start.flat start.here) none (most.longest (omega (arith, none))) in
          let number = fetches_are in
          let test : all ≡ false = lt-leb e.fetches (length t.words) (omega (arith, few, number)) in (
            ap (λ (q : FlatState). q.output) still ∙ sym (ap (λ (x : Bool). if x then e.output else []) test),
            ap (λ (q : FlatState). q.error) still ∙ sym (ap (λ (x : Bool). if x then e.error else []) test),
          )

      -- behind it
      late : j ≡ instructions_from c.image start → (t.flat.output ≡ (if all then e.output else [])) × (t.flat.error ≡ (if all then e.error else []))
      late same =
          let whole : IsAfter (fifo by) c.image 1 start.here start t = subst (λ (k : ℕ). IsAfter (fifo by) c.image 1 start.here start (events (fifo by) c.image k start)) (sym same) (is_after (fifo by) c.image 1 start start.here (λ still. refl) refl) in
          let words = ap (λ (l : List Fetch). length l) (whole.words ∙ append-nil (reverse (words_run (fifo by) c.image 1 start.flat start.here (written_in start)))) in
          let long = length-reverse (words_run (fifo by) c.image 1 start.flat start.here (written_in start)) in
          let many = words_many (fifo by) c.image 1 start.flat start.here (written_in start) in
          let number = fetches_are in
          let test : all ≡ true = le-leb e.fetches (length t.words) (omega (arith, words, long, many, number)) in (
            ap (λ (q : FlatState). q.output) whole.flat ∙ sym (ap (λ (x : Bool). if x then e.output else []) test),
            ap (λ (q : FlatState). q.error) whole.flat ∙ sym (ap (λ (x : Bool). if x then e.error else []) test),
          )

      bytes : (t.flat.output ≡ (if all then e.output else [])) × (t.flat.error ≡ (if all then e.error else []))
      bytes = elim (cases_lt j (instructions_from c.image start)) [
        | inl less ↦ early less
        | inr least ↦ late (omega (arith, le, least))
      ]

  step_cut : StepBroke by r c RamFault before after → RamCut e before after
  unfolding events
  step_cut b =
      let less = b.few in
      let q = b.broke in
      elim q.is [
        | inl same ↦ cut_at b.made (omega (arith, less)) (subst (λ (m : Moment). m.here ≡ None → ⊥) same q.inside) (q.words ∙ ap (λ (m : Moment). since before.ram.sets m.words ++ before.ram.fetched_at) same)
            (q.fetches ∙ ap (λ (m : Moment). risen before.ram.fetches (length m.words)) same) q.last_failed
            (subst (λ (m : Moment). Appends before.out.held after.out.held m.flat.output) same q.output) (subst (λ (m : Moment). Appends before.err.held after.err.held m.flat.error) same q.error)
        | inr same ↦ cut_at (suc b.made) (omega (arith, less)) (subst (λ (m : Moment). m.here ≡ None → ⊥) same q.inside) (q.words ∙ ap (λ (m : Moment). since before.ram.sets m.words ++ before.ram.fetched_at) same)
            (q.fetches ∙ ap (λ (m : Moment). risen before.ram.fetches (length m.words)) same) q.last_failed
            (subst (λ (m : Moment). Appends before.out.held after.out.held m.flat.output) same q.output) (subst (λ (m : Moment). Appends before.err.held after.err.held m.flat.error) same q.error)
      ]

  -- in the entry
  entry_cut : {fault : BoardFault} → EntryBroke by r c fault before after → RamCut e before after
  entry_cut b =
      let some : 1 ≤ e.fetches = (let number = fetches_are in let one = fetched_one in omega (arith, number, one)) in
      let test : nat_le e.fetches 0 ≡ false = lt-leb e.fetches 0 (omega (arith, some)) in
      let out = ap (λ (d : Devices). d.output) b.devices in
      let err = ap (λ (d : Devices). d.error) b.devices in
      record {
        fetched = 0;
        fetches = b.ram.fetches_stay ∙ risen_none before.ram.fetches;
        most = omega arith;
        output = subst (λ (l : List ℕ). Appends before.out.held after.out.held l) (sym (ap (λ (x : Bool). if x then e.output else []) test))
            (subst (λ (k : SinkState). Appends before.out.held k.held []) (sym out) (Appends-none before.out.held));
        error = subst (λ (l : List ℕ). Appends before.err.held after.err.held l) (sym (ap (λ (x : Bool). if x then e.error else []) test))
            (subst (λ (k : SinkState). Appends before.err.held k.held []) (sym err) (Appends-none before.err.held));
        words = (e.words, record { fetched = []; are = b.ram.fetched_at_stays; front = refl });
        last_failed = b.ram.last_failed;
      }
    where
      risen_none : (n : ℕ) → n ≡ risen n 0
      risen_none n = grind arith

      by_place : (h : Here) → place_of c.image c.machine.pc ≡ h → 1 ≤ fetches c.image 1 (flat_of c) h
      by_place None is = absurd (b.inside is)
      by_place (Some p) is = fetches_some c.image (flat_of c) p going is

      fetched_one : 1 ≤ fetches c.image 1 start.flat start.here
      fetched_one = subst (λ (t : Bool). 1 ≤ fetches c.image 1 (flat_of (begun_if t c)) (begun_if t c).place) (sym b.anew) (by_place (place_of c.image c.machine.pc) refl)

  pub ram_cut : EventBroke by r c RamFault before after → RamCut e before after
  ram_cut b = elim b.at [ inl entry ↦ entry_cut entry | inr step ↦ step_cut step ]

  pub sink_broke : EventBroke by r c SinkFault before after → SinkCut e before after
  sink_broke b = elim b.at [ inl entry ↦ (let bad : ⊥ = (let clash : SinkFault ≡ RamFault = entry.fault_is in cc) in absurd bad) | inr step ↦ sink_cut step ]
