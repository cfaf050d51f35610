-- A run of the flat machine with caches beside it, step by step.
use Rattle.std.proofs.Common.{◌≡◌, ◌⊎◌, ℕ, suc, ◌+◌, ◌-◌, ◌*◌, ◌^◌, ◌<◌, ◌≤◌, Bool, true, false, not, ◌&&◌, List, [], ◌∷◌, ◌++◌, length, map, slice_index, Option, Some, None, is_some, Ok, Err, IsErrOf, if◌then◌else◌, arith, refl, sym, ◌∙◌, ap, subst, inl, inr}
use Rattle.std.proofs.lemmas.Bool.{cases_eq}
use Rattle.std.proofs.lemmas.List.{append-nil}
use Rattle.std.specs.Io.KnownBytes.{Appends}
use Rattle.swi_outside.specs.Source.{SourceState, ForInput, HasGiven, MayBeLeft, ReadFrom}
use Rattle.swi_outside.specs.Devices.{Devices}
use Rattle.swi_outside.specs.Laws.{named_as, ok_causes}
use Rattle.swi_outside.proofs.SourceLemmas.{read_first}
use Rattle.swi_memory.specs.Bus.{fetched}
use Rattle.swi_isa.specs.declared.instr.Instr.{Instr}
use Rattle.swi_calls.specs.Call.{room_of_call, second_argument}
use Rattle.swi_calls.specs.declared.end.End.{End}
use Rattle.swi_calls.specs.declared.end.End.TheVariants.{StoreText}
use Rattle.swi_calls.specs.declared.end.CallFault.{CallFault}
use Rattle.swi_calls.specs.declared.machine.Machine.{Machine}
use Rattle.swi_calls.specs.State.{FlatState}
use Rattle.swi_calls.specs.StoresText.{instruction_store, next_store, word_store}
use Rattle.swi_calls.specs.FirstStore.{StoresAt}
use Rattle.swi_calls.specs.Exchange.{Exchanged}
use Rattle.swi_calls.specs.Moves.{ReadsInto}
use Rattle.swi_calls.specs.Flat.{Made, exchange_of, flat_run, flat_step, joined, made, started}
use Rattle.swi_calls.specs.Laws.{flat_run_more, flat_run_none, held_run_more, held_run_none, held_run_over}
use Rattle.swi_calls.specs.Held.{held, held_made, held_run, held_step, stopped_at}
use Rattle.swi_flat.specs.FlatData.{FlatData, state_at, stopped, unfailed}
use Rattle.swi_flat.specs.Laws.{flat_run_sum}
use Rattle.swi_flat.proofs.Runs.{Going, going_first, going_on, ran_broken}
use Rattle.swi_image.specs.Format.{ImageData}
use Rattle.swi_program.specs.Text.{TextData}
use Rattle.swi_render.specs.Rendering.{Slot}
use Rattle.swi_rom.specs.Record.{Transfer}
use Rattle.swi_hart.specs.declared.hart.Control.TheVariants.{Outside}
use Rattle.swi_hart.specs.Hart.{original, slots}
use Rattle.swi_hart.proofs.Kept.{next_text}
use Rattle.swi_board.specs.Transfers.{Here as Place, at_fall, fall_transfers, here_after, jumps_as, leaves_by, settled, size, step_cost, step_size, step_transfers, transfers}
use Rattle.swi_board.proofs.Counting.{cost_more, cost_none, over_cost, over_transfers, transfers_more, transfers_none}
use Rattle.swi_tally.specs.Exits.{ExitsData}
use Rattle.swi_tally.specs.Tallies.{Row, TalliesData, row_at}
use Rattle.swi_survey.specs.declared.leaving.Leaving.{Leaving}
use Rattle.swi_survey.specs.declared.track.Here.{Here}
use Rattle.swi_survey.specs.declared.track.Here.TheVariants as here
use Rattle.swi_survey.specs.declared.track.Step.{Step}
use Rattle.swi_survey.specs.declared.track.Step.TheVariants as step
use Rattle.swi_survey.specs.declared.track.Track.{Track}
use Rattle.swi_survey.specs.declared.ways.Ways.{Ways}
use Rattle.swi_survey.specs.Ways.{AreAllWays, gate_of, instr_at, shut}
use Rattle.swi_survey.specs.Track.{Begun, BrokeOff, CameTo, Follows, HasText, IsReady, IsStep, Leaves, Moves, Settles, Stands, StandsAt, StepIs, StepsRan, Tracks, after_row, place_at, unfetched_at}
use Rattle.swi_survey.proofs.Places.{Ground, at_word, some_place}
use Rattle.swi_survey.proofs.Rows.{after_more, after_none, serving_more}
use Rattle.swi_survey.proofs.Stepping.{stores_alone, words_are, words_few}

-- With this input: what is still to come, from where the first n steps have brought the run, is what is asked of the whole.
pub record ToCome (t : TextData) (v : ImageData) (limit : ℕ) (first : Machine) (input : List ℕ) (k now : Track) (n : ℕ) : Type 0 where
  pub ends : held_run (limit - n) (state_at n first input) ≡ held_run limit (started first input)
  pub fetches : now.fetches + size 0 v (limit - n) (state_at n first input) (place_at t v now.here) ≡ size 0 v limit (started first input) (place_at t v k.here)
  pub instructions : now.fetches + now.outside + size 1 v (limit - n) (state_at n first input) (place_at t v now.here) ≡ size 1 v limit (started first input) (place_at t v k.here)
  pub rows : (j : ℕ) → after_row v (transfers v (limit - n) (state_at n first input) (place_at t v now.here)) (row_at now.caches j)
      ≡ after_row v (transfers v limit (started first input) (place_at t v k.here)) (row_at k.caches j)
  pub unstored : (j : ℕ) → j < n - first.steps → StoresAt (started first input) j → ⊥

and_off : (b : Bool) → (b && false) ≡ false
and_off true = refl
and_off false = refl

-- a run that goes on
pub record Running (t : TextData) (v : ImageData) (limit : ℕ) (first : FlatData) (k : Track) (f : FlatData) (now : Track) (d e : Devices) : Type 0 where
  pub going : Going first.machine limit f d e
  pub text : HasText t f.machine
  pub tracks : Tracks t v f.machine.steps now
  pub stands : f.machine.ending ≡ None → Stands t v f.machine.pc now.here
  pub come : ForInput d.input e.input (λ input rest. ToCome t v limit first.machine input k now f.machine.steps)

pub running_first : (t : TextData) (v : ImageData) (limit : ℕ) (f : FlatData) (k : Track) (d : Devices) → Begun t v f k → Running t v limit f k f k d d
running_first t v limit f k d b = record {
  going = going_first f limit d (omega (arith, b.none)) b.unfailed;
  text = b.text;
  tracks = subst (λ (n : ℕ). Tracks t v n k) (sym b.none) b.tracks;
  stands = λ on. b.stands;
  come = λ input rest r. (
      let whole : limit - f.machine.steps ≡ limit = omega (arith, b.none) in
      let none : f.machine.steps - f.machine.steps ≡ 0 = omega arith in
      let start : state_at f.machine.steps f.machine input ≡ started f.machine input = ap (λ (n : ℕ). flat_run n (started f.machine input)) none ∙ flat_run_none (started f.machine input) in
      let same = λ (o : ℕ). ap (λ (n : ℕ). size o v n (state_at f.machine.steps f.machine input) (place_at t v k.here)) whole ∙ ap (λ (s : FlatState). size o v limit s (place_at t v k.here)) start in
      record {
        ends = ap (λ (n : ℕ). held_run n (state_at f.machine.steps f.machine input)) whole ∙ ap (held_run limit) start;
        fetches = omega (arith, same 0, b.tracks.fetches_few);
        instructions = omega (arith, same 1, b.tracks.fetches_few, b.tracks.outside_few);
        rows = λ j. ap (λ (l : List Transfer). after_row v l (row_at k.caches j))
            (ap (λ (n : ℕ). transfers v n (state_at f.machine.steps f.machine input) (place_at t v k.here)) whole ∙ ap (λ (s : FlatState). transfers v limit s (place_at t v k.here)) start);
        unstored = λ j lt. absurd (omega (arith, lt));
      });
}

-- what its calls ask for
pub ready : (t : TextData) (v : ImageData) (steps : ℕ) (k : Track) → Tracks t v steps k → steps ≤ 2 ^ 48 → IsReady t v k
ready t v steps k h few = record {
  ways_are = h.ways_are;
  long = h.long;
  serving = serving_more v (2 * steps + 1) (2 ^ 50 - 1) k.caches (omega (arith, few)) h.serving;
  fetches_few = omega (arith, few, h.fetches_few);
  outside_few = omega (arith, few, h.outside_few);
}

one_at_most : (b : Bool) → (if b then 1 else 0) ≤ 1
one_at_most true = omega arith
one_at_most false = omega arith

one_outside : (h : Place) → unfetched_at h ≤ 1
one_outside None = omega arith
one_outside (Some p) = omega arith

same_ways : {t : TextData} {v : ImageData} {list : List Transfer} {place : Place} {fetches outside : ℕ} {old new : Track} → Moves t v list place fetches outside old new →
    AreAllWays t v old.caches.exits old.ways.items → AreAllWays t v new.caches.exits new.ways.items
same_ways {t = t} {v = v} {old = old} {new = new} m are =
    subst (λ (e : ExitsData). AreAllWays t v e new.ways.items) (sym m.exits) (subst (λ (w : List Ways). AreAllWays t v old.caches.exits w) (sym m.ways) are)

same_gates : {t : TextData} {v : ImageData} {list : List Transfer} {place : Place} {fetches outside : ℕ} {old new : Track} → Moves t v list place fetches outside old new →
    old.gates.items ≡ map (gate_of (length old.caches.exits.from)) old.ways.items ++ shut (length old.caches.exits.from) ∷ [] →
    new.gates.items ≡ map (gate_of (length new.caches.exits.from)) new.ways.items ++ shut (length new.caches.exits.from) ∷ []
same_gates {old = old} {new = new} m are =
    m.gates ∙ are ∙ ap (λ (l : List Ways). map (gate_of (length old.caches.exits.from)) l ++ shut (length old.caches.exits.from) ∷ []) (sym m.ways)
    ∙ ap (λ (x : ExitsData). map (gate_of (length x.from)) new.ways.items ++ shut (length x.from) ∷ []) (sym m.exits)

pub settled_ready : (t : TextData) (v : ImageData) (f : Machine) (steps : ℕ) (old new : Track) → Settles t v f old new → Tracks t v steps old → steps ≤ 2 ^ 48 → IsReady t v new
settled_ready t v f steps old new s h few = record {
  ways_are = same_ways s.moves h.ways_are;
  long = ap (λ (w : List Ways). length w) s.moves.ways ∙ h.long;
  serving = serving_more v (suc (2 * steps + 1)) (2 ^ 50 - 1) new.caches (omega (arith, few)) (s.moves.serving (2 * steps + 1) h.serving);
  fetches_few = omega (arith, few, h.fetches_few, s.moves.fetches_are, one_at_most (at_fall v f (place_at t v old.here)));
  outside_few = omega (arith, few, h.outside_few, s.moves.outside_is);
}

tracks_on : (t : TextData) (v : ImageData) (f next : Machine) (steps : ℕ) (old mid new : Track) → Settles t v f old mid → Follows t v f next mid new → Tracks t v steps old → Tracks t v (steps + 1) new
tracks_on t v f next steps old mid new s g h = record {
  ways_are = same_ways g.moves (same_ways s.moves h.ways_are);
  long = ap (λ (w : List Ways). length w) g.moves.ways ∙ ap (λ (w : List Ways). length w) s.moves.ways ∙ h.long;
  gates_are = same_gates g.moves (same_gates s.moves h.gates_are);
  serving = serving_more v (suc (suc (2 * steps + 1))) (2 * (steps + 1) + 1) new.caches (omega arith) (g.moves.serving (suc (2 * steps + 1)) (s.moves.serving (2 * steps + 1) h.serving));
  fetches_few = omega (arith, h.fetches_few, s.moves.fetches_are, one_at_most (at_fall v f (place_at t v old.here)), g.few);
  outside_few = omega (arith, h.outside_few, s.moves.outside_is, g.moves.outside_is, one_outside (place_at t v mid.here));
}

-- ---- one step of the definitions

sizes_differ : (f : Machine) (h : Place) → step_size 1 f h ≡ step_size 0 f h + unfetched_at h
sizes_differ f None = refl
sizes_differ f (Some p) = omega arith

record Turn (t : TextData) (v : ImageData) (f next : Machine) (q q' : FlatState) (old mid new : Track) : Type 0 where
  machine : q.machine ≡ f
  next_machine : q'.machine ≡ next
  steps : held_step q ≡ q'
  on : is_some q.machine.ending ≡ false
  settles : Settles t v f old mid
  follows : Follows t v f next mid new

module _ {t : TextData} {v : ImageData} {f next : Machine} {q q' : FlatState} {old mid new : Track} (u : Turn t v f next q q' old mid new) where
  abbrev before : Place
  before = place_at t v old.here

  abbrev between : Place
  between = place_at t v mid.here

  abbrev after : Place
  after = place_at t v new.here

  turn_size : (o r : ℕ) → size o v (suc r) q before ≡ (if at_fall v f before then 1 else 0) + step_size o f between + size o v r q' after
  turn_size o r =
      cost_more o v r q before u.on
      ∙ ap (λ (m : Machine). (if at_fall v m before then 1 else 0) + step_size o m (settled v m before) + size o v r (held_step q) (here_after v m (settled v m before) (held_step q).machine)) u.machine
      ∙ ap (λ (s : FlatState). (if at_fall v f before then 1 else 0) + step_size o f (settled v f before) + size o v r s (here_after v f (settled v f before) s.machine)) u.steps
      ∙ ap (λ (m : Machine). (if at_fall v f before then 1 else 0) + step_size o f (settled v f before) + size o v r q' (here_after v f (settled v f before) m)) u.next_machine
      ∙ ap (λ (h : Place). (if at_fall v f before then 1 else 0) + step_size o f h + size o v r q' (here_after v f h next)) (sym u.settles.moves.place_is)
      ∙ ap (λ (h : Place). (if at_fall v f before then 1 else 0) + step_size o f between + size o v r q' h) (sym u.follows.moves.place_is)

  turn_transfers : (r : ℕ) → transfers v (suc r) q before ≡ fall_transfers v f before ++ (step_transfers f between next ++ transfers v r q' after)
  turn_transfers r =
      transfers_more v r q before u.on
      ∙ ap (λ (m : Machine). fall_transfers v m before ++ (step_transfers m (settled v m before) (held_step q).machine ++ transfers v r (held_step q) (here_after v m (settled v m before) (held_step q).machine))) u.machine
      ∙ ap (λ (s : FlatState). fall_transfers v f before ++ (step_transfers f (settled v f before) s.machine ++ transfers v r s (here_after v f (settled v f before) s.machine))) u.steps
      ∙ ap (λ (m : Machine). fall_transfers v f before ++ (step_transfers f (settled v f before) m ++ transfers v r q' (here_after v f (settled v f before) m))) u.next_machine
      ∙ ap (λ (h : Place). fall_transfers v f before ++ (step_transfers f h next ++ transfers v r q' (here_after v f h next))) (sym u.settles.moves.place_is)
      ∙ ap (λ (h : Place). fall_transfers v f before ++ (step_transfers f between next ++ transfers v r q' h)) (sym u.follows.moves.place_is)

  turn_rows : (r j : ℕ) → after_row v (transfers v (suc r) q before) (row_at old.caches j) ≡ after_row v (transfers v r q' after) (row_at new.caches j)
  turn_rows r j =
      ap (λ (l : List Transfer). after_row v l (row_at old.caches j)) (turn_transfers r)
      ∙ after_more v (fall_transfers v f before) (step_transfers f between next ++ transfers v r q' after) (row_at old.caches j)
      ∙ ap (λ (o : Option Row). after_row v (step_transfers f between next ++ transfers v r q' after) o) (sym (u.settles.moves.rows j))
      ∙ after_more v (step_transfers f between next) (transfers v r q' after) (row_at mid.caches j)
      ∙ ap (λ (o : Option Row). after_row v (transfers v r q' after) o) (sym (u.follows.moves.rows j))

  turn_fetches : (r : ℕ) → old.fetches + size 0 v (suc r) q before ≡ new.fetches + size 0 v r q' after
  turn_fetches r = omega (arith, turn_size 0 r, u.settles.moves.fetches_are, u.follows.moves.fetches_are)

  turn_instructions : (r : ℕ) → old.fetches + old.outside + size 1 v (suc r) q before ≡ new.fetches + new.outside + size 1 v r q' after
  turn_instructions r =
      omega (arith, turn_size 1 r, sizes_differ f between, u.settles.moves.fetches_are, u.follows.moves.fetches_are, u.settles.moves.outside_is, u.follows.moves.outside_is)

-- ---- the next step

-- what may be left of an input
abbrev rest_of : Option (List ℕ) → List ℕ
rest_of None = []
rest_of (Some l) = l

may_be : (o : Option (List ℕ)) → MayBeLeft o (rest_of o)
may_be None = tt
may_be (Some l) = refl

pub some_read : (old new : SourceState) → HasGiven old new → (input : List ℕ) × (rest : List ℕ) × ReadFrom old new input rest
some_read old new gave = (gave.0 ++ rest_of new.left, rest_of new.left, record { bytes = gave.0; given = gave.1.given; is = refl; left = may_be new.left })

-- a step that would not store into the text
plain_made : (f : Machine) (input : List ℕ) → next_store f ≡ None → held_made f input ≡ made f input
plain_made f input none = ap (λ (o : Option ℕ). held f o (made f input) input) none

plain_step : (s : FlatState) → next_store s.machine ≡ None → held_step s ≡ flat_step s
plain_step s none = ap (λ (m : Made). joined s m) (plain_made s.machine s.input none)

pub next_plain : (t : TextData) (v : ImageData) (f : FlatData) (h : Here) (s : Step) → Ground t v → HasText t f.machine → StandsAt t f.machine.pc h → StepIs t f h s → ((a : ℕ) → s ≡ step.Store a → ⊥) → next_store f.machine ≡ None
next_plain t v f (here.At k) (step.From j l) g text at is other =
    ap (λ (o : Option ℕ). word_store f.machine o) (at_word t f.machine k g.sized text at.0 at.1).fetch ∙ is.2
next_plain t v f (here.At k) (step.Store a) g text at is other = absurd (other a refl)
next_plain t v f (here.At k) step.Outside g text at is other = absurd is
next_plain t v f (here.Behind k) s g text at is other = absurd is
next_plain t v f here.Outside s g text at is other = ap (λ (o : Option ℕ). word_store f.machine o) (text f.machine.pc ∙ at)

pub store_at : (t : TextData) (f : FlatData) (h : Here) (a : ℕ) → StepIs t f h (step.Store a) → (j : ℕ) × (h ≡ here.At j) × (instruction_store f.machine (instr_at t j) ≡ Some a)
store_at t f (here.At j) a is = (j, refl, is)
store_at t f (here.Behind j) a is = absurd is
store_at t f here.Outside a is = absurd (other is)
  where
    other : step.Store a ≡ step.Outside → ⊥
    other same = cc

pub leaves : (t : TextData) (f : FlatData) (h : Here) (s : Step) → StandsAt t f.machine.pc h → StepIs t f h s → ((a : ℕ) → s ≡ step.Store a → ⊥) → Leaves t h s
leaves t f (here.At k) (step.From j l) at is other = (is.0, at.0, subst (λ (m : Leaving). m.words ≤ 3) (sym is.1) (words_few f.machine (instr_at t k)))
leaves t f (here.At k) (step.Store a) at is other = absurd (other a refl)
leaves t f (here.At k) step.Outside at is other = absurd is
leaves t f (here.Behind k) s at is other = absurd is
leaves t f here.Outside s at is other = subst (λ (q : Step). Leaves t here.Outside q) (sym is) tt

module _ {t : TextData} {v : ImageData} {limit : ℕ} {first : FlatData} {k : Track} {f : FlatData} {now : Track} {d e : Devices} (h : Running t v limit first k f now d e) where
  -- the state to which the run has come with an input
  module _ (input rest : List ℕ) (r : ReadFrom d.input e.input input rest) where
    abbrev state : FlatState
    state = state_at f.machine.steps first.machine input

    state_is : state ≡ record { machine = f.machine; input = rest; output = (h.going.so_far input rest r).output; error = (h.going.so_far input rest r).error }
    state_is = (h.going.so_far input rest r).run

    machine_is : state.machine ≡ f.machine
    machine_is = ap (λ (s : FlatState). s.machine) state_is

    state_on : f.machine.ending ≡ None → is_some state.machine.ending ≡ false
    state_on on = ap (λ (s : FlatState). is_some s.machine.ending) state_is ∙ ap (λ (o : Option End). is_some o) on

  -- the flat machine's part of a step that is made
  module _ (new : FlatData) (mid after : Track) (s : Step) (n : Devices) (ground : Ground t v) (fewer : f.machine.steps < limit) (on : f.machine.ending ≡ None) (settles : Settles t v f.machine now mid)
      (is : StepIs t f mid.here s) (other : (a : ℕ) → s ≡ step.Store a → ⊥)
      (made_is : ForInput e.input n.input (λ left rest. new ≡ unfailed (made f.machine left).machine)) (counted : new.machine.steps ≡ f.machine.steps + 1) (unfailed_is : new.failed ≡ false)
      (x : Exchanged {T = Unit {0}} (λ left. exchange_of (made f.machine left)) e n (Ok tt)) where
    plain : next_store f.machine ≡ None
    plain = next_plain t v f mid.here s ground h.text settles.stands is other

    made_machine : (left rest : List ℕ) → ReadFrom e.input n.input left rest → new.machine ≡ (held_made f.machine left).machine
    made_machine left rest r = ap (λ (q : FlatData). q.machine) (made_is left rest r) ∙ ap (λ (m : Made). m.machine) (sym (plain_made f.machine left plain))

    pub is_step : IsStep t f.machine f.failed mid.here s new.machine
    is_step =
        let some = some_read e.input n.input x.gave in
        record { text = h.text; stands = settles.stands; step_is = is; input = some.0; next_is = made_machine some.0 some.1 some.2 }

    going : Going first.machine limit new d n
    going = going_on h.going new n fewer (ap (λ (o : Option End). is_some o) on) made_is counted unfailed_is x

    text_stays : HasText t new.machine
    text_stays a =
        let some = some_read e.input n.input x.gave in
        ap (λ (m : Machine). fetched m.bus a) (made_machine some.0 some.1 some.2) ∙ next_text a v f.machine Outside f.machine some.0 ∙ h.text a

    -- with an input
    module _ (input rest : List ℕ) (r : ReadFrom d.input n.input input rest) where
      abbrev left : List ℕ
      left = x.gave.0 ++ rest

      before_is : ReadFrom d.input e.input input left
      before_is = read_first h.going.gave x.gave r

      abbrev old_state : FlatState
      old_state = state_at f.machine.steps first.machine input

      abbrev new_state : FlatState
      new_state = state_at new.machine.steps first.machine input

      one_more : new_state ≡ flat_step old_state
      one_more =
          let no_fewer = h.going.no_fewer in
          let split : new.machine.steps - first.machine.steps ≡ (f.machine.steps - first.machine.steps) + 1 = omega (arith, counted, no_fewer) in
          ap (λ (m : ℕ). flat_run m (started first.machine input)) split ∙ flat_run_sum (f.machine.steps - first.machine.steps) 1 (started first.machine input)
          ∙ flat_run_more 0 old_state (state_on input left before_is on) ∙ flat_run_none (flat_step old_state)

      turn : Follows t v f.machine new.machine mid after → Turn t v f.machine new.machine old_state new_state now mid after
      turn follows = record {
        machine = machine_is input left before_is;
        next_machine = ap (λ (q : FlatState). q.machine) (going.so_far input rest r).run;
        steps = plain_step old_state (ap next_store (machine_is input left before_is) ∙ plain) ∙ sym one_more;
        on = state_on input left before_is on;
        settles = settles;
        follows = follows;
      }

      unstored_on : (j : ℕ) → j < new.machine.steps - first.machine.steps → StoresAt (started first.machine input) j → ⊥
      unstored_on j lt stores = elim (cases_eq j (f.machine.steps - first.machine.steps)) [
        | inl same ↦ no_store (subst (λ (i : ℕ). StoresAt (started first.machine input) i) same stores)
        | inr ne ↦ (h.come input left before_is).unstored j (earlier ne) stores
      ]
        where
          earlier : (j ≡ f.machine.steps - first.machine.steps → ⊥) → j < f.machine.steps - first.machine.steps
          earlier ne = let no_fewer = h.going.no_fewer in let below : j < f.machine.steps - first.machine.steps + 1 = omega (arith, lt, counted, no_fewer) in grind (arith)

          no_store : StoresAt (started first.machine input) (f.machine.steps - first.machine.steps) → ⊥
          no_store at = let never : true ≡ false = sym at.stores ∙ ap (λ (m : Machine). is_some (next_store m)) (machine_is input left before_is) ∙ ap (λ (o : Option ℕ). is_some o) plain in absurd cc

      come_on : Follows t v f.machine new.machine mid after → ToCome t v limit first.machine input k after new.machine.steps
      come_on follows =
          let u = turn follows in
          let c = h.come input left before_is in
          let more : limit - f.machine.steps ≡ suc (limit - new.machine.steps) = omega (arith, counted, fewer) in
          record {
            ends = ap (λ (q : FlatState). held_run (limit - new.machine.steps) q) (sym u.steps) ∙ sym (held_run_more (limit - new.machine.steps) old_state u.on)
                ∙ ap (λ (m : ℕ). held_run m old_state) (sym more) ∙ c.ends;
            fetches = sym (turn_fetches u (limit - new.machine.steps)) ∙ ap (λ (m : ℕ). now.fetches + size 0 v m old_state (place_at t v now.here)) (sym more) ∙ c.fetches;
            instructions = sym (turn_instructions u (limit - new.machine.steps)) ∙ ap (λ (m : ℕ). now.fetches + now.outside + size 1 v m old_state (place_at t v now.here)) (sym more) ∙ c.instructions;
            rows = λ j. sym (turn_rows u (limit - new.machine.steps) j) ∙ ap (λ (m : ℕ). after_row v (transfers v m old_state (place_at t v now.here)) (row_at now.caches j)) (sym more) ∙ c.rows j;
            unstored = unstored_on;
          }

    pub running_on : Follows t v f.machine new.machine mid after → Running t v limit first k new after d n
    running_on follows = record {
      going = going;
      text = text_stays;
      tracks = subst (λ (m : ℕ). Tracks t v m after) (sym counted) (tracks_on t v f.machine new.machine f.machine.steps now mid after settles follows h.tracks);
      stands = follows.stands;
      come = λ input rest r. come_on input rest r follows;
    }

  -- ---- the end

  -- nothing is left to come
  rest_none : (m : ℕ) (q : FlatState) → (is_some q.machine.ending ≡ true) ⊎ (m ≡ 0) → (held_run m q ≡ q) × ((o : ℕ) (p : Place) → size o v m q p ≡ 0) × ((p : Place) → transfers v m q p ≡ [])
  rest_none m q (inl over) = (held_run_over m q over, λ o p. over_cost o v m q p over, λ p. over_transfers v m q p over)
  rest_none m q (inr none) = (
    ap (λ (i : ℕ). held_run i q) none ∙ held_run_none q,
    λ o p. ap (λ (i : ℕ). size o v i q p) none ∙ cost_none o v q p,
    λ p. ap (λ (i : ℕ). transfers v i q p) none ∙ transfers_none v q p,
  )

  few_counted : now.fetches + now.outside ≤ 5 * f.machine.steps
  few_counted = omega (arith, h.tracks.fetches_few, h.tracks.outside_few)

  ends_so : (is_some f.machine.ending ≡ true) ⊎ (limit ≤ f.machine.steps) → (input rest : List ℕ) → (r : ReadFrom d.input e.input input rest) → (is_some (state input rest r).machine.ending ≡ true) ⊎ (limit - f.machine.steps ≡ 0)
  ends_so (inl over) input rest r = inl (ap (λ (m : Machine). is_some m.ending) (machine_is input rest r) ∙ over)
  ends_so (inr all) input rest r = inr (omega (arith, all))

  pub ran_end : limit ≤ 2 ^ 48 → (is_some f.machine.ending ≡ true) ⊎ (limit ≤ f.machine.steps) → StepsRan t v limit first f k now d e (Ok None)
  ran_end small over = record {
    gave = h.going.gave;
    came = λ input rest r. (
        let none = rest_none (limit - f.machine.steps) (state input rest r) (ends_so over input rest r) in
        let c = h.come input rest r in
        record {
          machine = ap (λ (s : FlatState). s.machine) (sym c.ends ∙ none.0) ∙ machine_is input rest r;
          fetches = omega (arith, c.fetches, none.1 0 (place_at t v now.here));
          instructions = omega (arith, c.instructions, none.1 1 (place_at t v now.here));
          rows = λ j. sym (after_none v (row_at now.caches j)) ∙ ap (λ (l : List Transfer). after_row v l (row_at now.caches j)) (sym (none.2 (place_at t v now.here))) ∙ c.rows j;
        });
    input = λ input rest r. ap (λ (s : FlatState). s.input) (whole input rest r);
    output = λ input rest r. subst (λ (l : List ℕ). Appends d.output.held e.output.held l) (sym (ap (λ (s : FlatState). s.output) (whole input rest r))) (h.going.so_far input rest r).out;
    error = λ input rest r. subst (λ (l : List ℕ). Appends d.error.held e.error.held l) (sym (ap (λ (s : FlatState). s.error) (whole input rest r))) (h.going.so_far input rest r).err;
    few = omega (arith, few_counted, h.going.within, small);
    failed = λ fault is. absurd (no_error is);
    causes = ok_causes h.going.still;
  }
    where
      no_error : {fault : CallFault} → IsErrOf {T = Option ℕ} (Ok None) fault → ⊥
      no_error is = cc

      whole : (input rest : List ℕ) (r : ReadFrom d.input e.input input rest) → held_run limit (started first.machine input) ≡ record { machine = f.machine; input = rest; output = (h.going.so_far input rest r).output; error = (h.going.so_far input rest r).error }
      whole input rest r = sym (h.come input rest r).ends ∙ (rest_none (limit - f.machine.steps) (state input rest r) (ends_so over input rest r)).0 ∙ state_is input rest r

  -- the next step would store into the text at an address: the run ends before it
  module _ (mid : Track) (a j : ℕ) (ground : Ground t v) (fewer : f.machine.steps < limit) (on : f.machine.ending ≡ None) (settles : Settles t v f.machine now mid)
      (at : mid.here ≡ here.At j) (stands : StandsAt t f.machine.pc (here.At j)) (is : instruction_store f.machine (instr_at t j) ≡ Some a) where
    stores : next_store f.machine ≡ Some a
    stores = ap (λ (o : Option ℕ). word_store f.machine o) (at_word t f.machine j ground.sized h.text stands.0 stands.1).fetch ∙ is

    abbrev here_before : Place
    here_before = place_at t v now.here

    abbrev here_then : Place
    here_then = place_at t v mid.here

    one_word : (o : ℕ) → step_size o f.machine here_then ≡ 1
    one_word o =
        let word = at_word t f.machine j ground.sized h.text stands.0 stands.1 in
        ap (λ (p : Place). step_size o f.machine p) (ap (place_at t v) at ∙ some_place t v j ground stands.0)
        ∙ ap (λ (y : Option Instr). step_cost f.machine y (slots f.machine)) word.original_is
        ∙ ap (λ (ss : List Slot). step_cost f.machine (instr_at t j) ss) word.slots_is
        ∙ words_are f.machine (slice_index t.words j) (instr_at t j) ∙ stores_alone f.machine (instr_at t j) a is

    module _ (input rest : List ℕ) (r : ReadFrom d.input e.input input rest) where
      abbrev there : FlatState
      there = state_at f.machine.steps first.machine input

      abbrev more : ℕ
      more = limit - f.machine.steps - 1

      more_is : limit - f.machine.steps ≡ suc more
      more_is = omega (arith, fewer)

      step_is : held_step there ≡ stopped_at there a
      step_is = ap (λ (o : Option ℕ). joined there (held there.machine o (made there.machine there.input) there.input)) (ap next_store (machine_is input rest r) ∙ stores)

      over : is_some (held_step there).machine.ending ≡ true
      over = ap (λ (s : FlatState). is_some s.machine.ending) step_is

      stop_whole : held_run limit (started first.machine input) ≡ stopped_at there a
      stop_whole =
          sym (h.come input rest r).ends ∙ ap (λ (m : ℕ). held_run m there) more_is ∙ held_run_more more there (state_on input rest r on)
          ∙ held_run_over more (held_step there) over ∙ step_is

      stop_size : (o : ℕ) → size o v (limit - f.machine.steps) there here_before ≡ (if at_fall v f.machine here_before then 1 else 0) + 1
      stop_size o =
          let none = over_cost o v more (held_step there) (here_after v there.machine (settled v there.machine here_before) (held_step there).machine) over in
          let first_part : (if at_fall v there.machine here_before then 1 else 0) + step_size o there.machine (settled v there.machine here_before) ≡ (if at_fall v f.machine here_before then 1 else 0) + 1 =
          ap (λ (m : Machine). (if at_fall v m here_before then 1 else 0) + step_size o m (settled v m here_before)) (machine_is input rest r)
          ∙ ap (λ (p : Place). (if at_fall v f.machine here_before then 1 else 0) + step_size o f.machine p) (sym settles.moves.place_is)
          ∙ ap (λ (m : ℕ). (if at_fall v f.machine here_before then 1 else 0) + m) (one_word o) in
          ap (λ (m : ℕ). size o v m there here_before) more_is ∙ cost_more o v more there here_before (state_on input rest r on)
          ∙ omega (arith, none, first_part)

      no_more : (m : Machine) (p : Place) (next : Machine) → is_some next.ending ≡ true → step_transfers m p next ≡ []
      no_more m None next done_so = refl
      no_more m (Some p) next done_so =
          ap (λ (b : Bool). if b then leaves_by m (original m) (slots m) p next.pc else []) (ap (λ (b : Bool). jumps_as m (original m) && not b) done_so ∙ and_off (jumps_as m (original m)))

      stop_transfers : transfers v (limit - f.machine.steps) there here_before ≡ fall_transfers v f.machine here_before
      stop_transfers =
          ap (λ (m : ℕ). transfers v m there here_before) more_is ∙ transfers_more v more there here_before (state_on input rest r on)
          ∙ ap (λ (l : List Transfer). fall_transfers v there.machine here_before ++ (l ++ transfers v more (held_step there) (here_after v there.machine (settled v there.machine here_before) (held_step there).machine)))
          (no_more there.machine (settled v there.machine here_before) (held_step there).machine over)
          ∙ ap (λ (l : List Transfer). fall_transfers v there.machine here_before ++ l) (over_transfers v more (held_step there) (here_after v there.machine (settled v there.machine here_before) (held_step there).machine) over)
          ∙ append-nil (fall_transfers v there.machine here_before)
          ∙ ap (λ (m : Machine). fall_transfers v m here_before) (machine_is input rest r)

      came_to : (new : Track) → new.caches ≡ mid.caches → new.fetches ≡ mid.fetches + 1 → new.outside ≡ mid.outside → CameTo t v limit first.machine input f k new (Some a)
      came_to new caches fetches outside =
          let c = h.come input rest r in
          record {
            machine = ap (λ (s : FlatState). s.machine) stop_whole ∙ ap (λ (m : Machine). let q : Machine = record m { ending = Some (StoreText a) } in q) (machine_is input rest r);
            fetches = omega (arith, c.fetches, stop_size 0, settles.moves.fetches_are, fetches);
            instructions = omega (arith, c.instructions, stop_size 1, settles.moves.fetches_are, fetches, settles.moves.outside_is, outside);
            rows = λ i. ap (λ (q : TalliesData). row_at q i) caches ∙ settles.moves.rows i ∙ ap (λ (l : List Transfer). after_row v l (row_at now.caches i)) (sym stop_transfers) ∙ c.rows i;
          }

    pub ran_stored : (new : Track) → limit ≤ 2 ^ 48 → new.caches ≡ mid.caches → new.fetches ≡ mid.fetches + 1 → new.outside ≡ mid.outside → StepsRan t v limit first f k new d e (Ok (Some a))
    ran_stored new small caches fetches outside = record {
      gave = h.going.gave;
      came = λ input rest r. came_to input rest r new caches fetches outside;
      input = λ input rest r. ap (λ (s : FlatState). s.input) (stop_whole input rest r ∙ ap (λ (s : FlatState). stopped_at s a) (state_is input rest r));
      output = λ input rest r. subst (λ (l : List ℕ). Appends d.output.held e.output.held l)
          (sym (ap (λ (s : FlatState). s.output) (stop_whole input rest r ∙ ap (λ (s : FlatState). stopped_at s a) (state_is input rest r)) ∙ append-nil (h.going.so_far input rest r).output)) (h.going.so_far input rest r).out;
      error = λ input rest r. subst (λ (l : List ℕ). Appends d.error.held e.error.held l)
          (sym (ap (λ (s : FlatState). s.error) (stop_whole input rest r ∙ ap (λ (s : FlatState). stopped_at s a) (state_is input rest r)) ∙ append-nil (h.going.so_far input rest r).error)) (h.going.so_far input rest r).err;
      few = omega (arith, few_counted, fewer, small, fetches, outside, settles.moves.fetches_are, settles.moves.outside_is, one_at_most (at_fall v f.machine here_before));
      failed = λ fault named. absurd (not_failed named);
      causes = ok_causes h.going.still;
    }
      where
        not_failed : {fault : CallFault} → IsErrOf {T = Option ℕ} (Ok (Some a)) fault → ⊥
        not_failed named = cc

  -- ---- a device failed

  module _ (new : FlatData) (mid : Track) (s : Step) (n : Devices) (fault : CallFault) (ground : Ground t v) (fewer : f.machine.steps < limit) (on : f.machine.ending ≡ None) (stands : StandsAt t f.machine.pc mid.here)
      (is : StepIs t f mid.here s) (other : (a : ℕ) → s ≡ step.Store a → ⊥) (stays : new ≡ stopped f.machine new.machine.bus)
      (moved : (i : ℕ) × (i ≤ room_of_call f.machine.regs f.machine.bus) × ReadsInto f.machine.bus new.machine.bus e.input n.input (second_argument f.machine.regs) i)
      (x : Exchanged {T = Unit {0}} (λ left. exchange_of (made f.machine left)) e n (Err fault)) where
    no_store_there : (input rest : List ℕ) → ReadFrom d.input e.input input rest → StoresAt (started first.machine input) (f.machine.steps - first.machine.steps) → ⊥
    no_store_there input rest r at =
        let never : true ≡ false = sym at.stores ∙ ap (λ (m : Machine). is_some (next_store m)) (machine_is input rest r) ∙ ap (λ (o : Option ℕ). is_some o) (next_plain t v f mid.here s ground h.text stands is other) in cc

    unstored_there : (input rest : List ℕ) → ReadFrom d.input n.input input rest → (i : ℕ) → i ≤ new.machine.steps - first.machine.steps → StoresAt (started first.machine input) i → ⊥
    unstored_there input rest r i le at =
        let before = read_first h.going.gave x.gave r in
        let steps : new.machine.steps ≡ f.machine.steps = ap (λ (q : FlatData). q.machine.steps) stays in
        elim (cases_eq i (f.machine.steps - first.machine.steps)) [
          | inl same ↦ no_store_there input (x.gave.0 ++ rest) before (subst (λ (m : ℕ). StoresAt (started first.machine input) m) same at)
          | inr ne ↦ (h.come input (x.gave.0 ++ rest) before).unstored i (let most : i ≤ f.machine.steps - first.machine.steps = omega (arith, le, steps) in grind (arith, ne, most)) at
        ]

    pub ran_failed : StepsRan t v limit first new k mid d n (Err fault)
    ran_failed =
        let broken = ran_broken h.going new n fault fewer on stays moved x in
        record {
          gave = broken.gave;
          came = tt;
          input = tt;
          output = tt;
          error = tt;
          few = tt;
          failed = λ f' named. subst (λ (g : CallFault). BrokeOff limit first.machine new d n g) (same_fault named) (record { ran = broken; unstored = unstored_there });
          causes = named_as broken.causes (λ named. cc) (λ named. cc) (λ named. cc) (λ named. cc);
        }
      where
        same_fault : {g : CallFault} → IsErrOf {T = Option ℕ} (Err fault) g → fault ≡ g
        same_fault named = cc
