-- A whole survey: what is kept before the first step, and what is told behind the last.
use Rattle.std.proofs.Common.{◌≡◌, ℕ, suc, ◌+◌, ◌^◌, ◌<◌, ◌≤◌, true, false, List, [], ◌∷◌, ◌++◌, All, length, map, slice_get, Option, Some, None, is_some, Result, Ok, Err, IsErrOf, arith, refl, sym, ◌∙◌, ap, subst}
use Rattle.swi_outside.specs.Devices.{Devices}
use Rattle.swi_outside.specs.Laws.{named_as, none_named}
use Rattle.swi_outside.proofs.SourceLemmas.{given_still}
use Rattle.swi_calls.specs.declared.end.CallFault.{CallFault}
use Rattle.swi_calls.specs.declared.machine.Machine.{Machine}
use Rattle.swi_calls.specs.Flat.{started}
use Rattle.swi_flat.specs.FlatData.{FlatData, unfailed}
use Rattle.swi_image.specs.Format.{ImageData}
use Rattle.swi_image.specs.Place.{place_of}
use Rattle.swi_image.specs.Sound.{IsImage}
use Rattle.swi_program.specs.Text.{TextData}
use Rattle.swi_rom.specs.Record.{Transfer, indirect}
use Rattle.swi_board.specs.Transfers.{Here as Place, size, transfers}
use Rattle.swi_tally.specs.declared.tallies.Frame.{Frame}
use Rattle.swi_tally.specs.Exits.{ExitsData, AreExits}
use Rattle.swi_tally.specs.declared.tallies.Seat.{Seat}
use Rattle.swi_tally.specs.Tallies.{Row, TalliesData, AllServed, AreServing, IsFrame, empty_tallies, row_at, row_if, served_if}
use Rattle.swi_survey.specs.declared.survey.Surveyed.{Surveyed}
use Rattle.swi_survey.specs.declared.survey.SurveyStop.{SurveyStop}
use Rattle.swi_survey.specs.declared.survey.SurveyStop.TheVariants as stop
use Rattle.swi_survey.specs.declared.track.Here.{Here}
use Rattle.swi_survey.specs.declared.track.Here.TheVariants as here
use Rattle.swi_survey.specs.declared.track.Track.{Track}
use Rattle.swi_survey.specs.Survey.{Survey, SurveyRan, Tells}
use Rattle.swi_survey.specs.Ways.{AreAllWays, gate_of, shut}
use Rattle.swi_survey.specs.Track.{Begun, CameTo, HasText, Stands, StandsAt, Starts, StepsRan, after_row, booted, place_at, told_of}
use Rattle.swi_survey.proofs.Emptying.{empty_rows, empty_serving, first_if}
use Rattle.swi_survey.proofs.Places.{Ground, place_here}
use Rattle.swi_survey.proofs.Running.{some_read}

-- ---- before the first step

booted_is : (v : ImageData) (pc : ℕ) (o : Option Frame) → served_if v (indirect pc) (first_if o) ≡ booted v pc o
booted_is v pc None = refl
booted_is v pc (Some f) = refl

pub first_serving : (v : ImageData) (e : ExitsData) (frames : List Frame) (c : TalliesData) (n : ℕ) → IsImage v → AreExits e → length v.starts ≡ e.blocks → length frames ≤ 64 → All (IsFrame v.block_words) frames → c ≡ empty_tallies e frames → AreServing v n c
first_serving v e frames c n image are blocks few all is = subst (λ (q : TalliesData). AreServing v n q) (sym is) (empty_serving v e frames n image are blocks few all)

pub starts : (t : TextData) (v : ImageData) (frames : List Frame) (pc : ℕ) (e : ExitsData) (c : TalliesData) (k : Track) → AreAllWays t v e k.ways.items → length k.ways.items ≡ length t.words → k.gates.items ≡ map (gate_of (length e.from)) k.ways.items ++ shut (length e.from) ∷ [] → c ≡ empty_tallies e frames →
    AllServed v (indirect pc) c k.caches → AreServing v 0 c → ((n : ℕ) → AreServing v n c → AreServing v (suc n) k.caches) → k.caches.exits ≡ c.exits → StandsAt t pc k.here → k.fetches ≡ 0 → k.outside ≡ 0 → Starts t v frames pc k
starts t v frames pc e c k ways long gates is served first serving exits stands fetches outside = record {
  tracks = record {
    ways_are = subst (λ (q : ExitsData). AreAllWays t v q k.ways.items) (sym (exits ∙ ap (λ (q : TalliesData). q.exits) is)) ways;
    long = long;
    gates_are = gates ∙ ap (λ (q : ExitsData). map (gate_of (length q.from)) k.ways.items ++ shut (length q.from) ∷ []) (sym (exits ∙ ap (λ (q : TalliesData). q.exits) is));
    serving = serving 0 first;
    fetches_few = omega (arith, fetches);
    outside_few = omega (arith, outside);
  };
  stands = stands;
  rows = λ j. served j ∙ ap (λ (q : TalliesData). served_if v (indirect pc) (row_at q j)) is ∙ ap (served_if v (indirect pc)) (empty_rows e frames j) ∙ booted_is v pc (slice_get frames j);
}

at_first : (t : TextData) (v : ImageData) (pc : ℕ) (h : Here) → StandsAt t pc h → Stands t v pc h
at_first t v pc (here.At k) at = at
at_first t v pc (here.Behind k) at = absurd at
at_first t v pc here.Outside at = at

pub begun : (t : TextData) (v : ImageData) (frames : List Frame) (f : FlatData) (pc : ℕ) (k : Track) → f.machine.ending ≡ None → f.failed ≡ false → f.machine.steps ≡ 0 → HasText t f.machine → f.machine.pc ≡ pc →
    Starts t v frames pc k → Begun t v f k
begun t v frames f pc k on unfailed none text at s = record {
  going = on;
  unfailed = unfailed;
  none = none;
  text = text;
  tracks = s.tracks;
  stands = subst (λ (n : ℕ). Stands t v n k.here) (sym at) (at_first t v pc k.here s.stands);
}

-- ---- behind the last

-- without memory
pub ran_memory : (s : Survey) (d : Devices) → SurveyRan s d d (Err stop.Memory)
ran_memory s d = record {
  gave = given_still d.input;
  told = tt;
  input = tt;
  output = tt;
  error = tt;
  caches = tt;
  memory = λ named. refl;
  failed = λ fault named. absurd (other named);
  causes = none_named refl (λ named. other named) (λ named. other named);
}
  where
    other : {fault : CallFault} → IsErrOf {T = Surveyed} (Err stop.Memory) (stop.Fault fault) → ⊥
    other named = cc

-- lists that have items at the same numbers
same_length : {A B : Type 0} (xs : List A) (ys : List B) → ((k : ℕ) → is_some (slice_get xs k) ≡ is_some (slice_get ys k)) → length xs ≡ length ys
same_length [] [] same = refl
same_length [] (y ∷ ys) same = absurd (let differs : false ≡ true = same 0 in cc)
same_length (x ∷ xs) [] same = absurd (let differs : true ≡ false = same 0 in cc)
same_length (x ∷ xs) (y ∷ ys) same = ap suc (same_length xs ys (λ k. same (suc k)))

some_row : (c : TalliesData) (k : ℕ) → is_some (row_at c k) ≡ is_some (slice_get c.caches k)
unfolding row_at
some_row c k = by (slice_get c.caches k)
  where
    by : (o : Option Seat) → is_some (row_if c k o) ≡ is_some o
    by None = refl
    by (Some s) = refl

some_after : (v : ImageData) (list : List Transfer) (pc : ℕ) (o : Option Frame) → is_some (after_row v list (booted v pc o)) ≡ is_some o
some_after v list pc None = refl
some_after v list pc (Some f) = refl

module _ (t : TextData) (v : ImageData) (frames : List Frame) (limit : ℕ) (f new : FlatData) (k l : Track) (d e : Devices) (g : Ground t v) (small : f.machine.pc < 2 ^ 32) (s : Starts t v frames f.machine.pc k) where
  abbrev survey : Survey
  survey = record { image = v; frames = frames; first = f.machine; limit = limit }

  here_first : place_at t v k.here ≡ place_of v f.machine.pc
  here_first = place_here t v f.machine.pc k.here g s.stands small

  module _ (stored : Option ℕ) (ran : StepsRan t v limit f new k l d e (Ok stored)) where
    tells : (input : List ℕ) → CameTo t v limit f.machine input new k l stored → Tells survey input (told_of new l stored)
    tells input c = record {
      ending = ap (λ (m : Machine). m.ending) (sym c.machine);
      pc = ap (λ (m : Machine). m.pc) (sym c.machine);
      steps = ap (λ (m : Machine). m.steps) (sym c.machine);
      instructions = let same : l.fetches + l.outside ≡ size 1 v limit (started f.machine input) (place_of v f.machine.pc) = c.instructions ∙ ap (size 1 v limit (started f.machine input)) here_first in omega (arith, same);
      fetches = c.fetches ∙ ap (size 0 v limit (started f.machine input)) here_first;
      rows = λ j frame at.
          c.rows j ∙ ap (λ (p : Place). after_row v (transfers v limit (started f.machine input) p) (row_at k.caches j)) here_first
          ∙ ap (after_row v (transfers v limit (started f.machine input) (place_of v f.machine.pc))) (s.rows j ∙ ap (booted v f.machine.pc) at);
    }

    as_many : length l.caches.caches ≡ length frames
    as_many =
        let some = some_read d.input e.input ran.gave in
        let c = ran.came some.0 some.1 some.2 in
        same_length l.caches.caches frames (λ j.
        sym (some_row l.caches j) ∙ ap (λ (o : Option Row). is_some o) (c.rows j ∙ ap (after_row v (transfers v limit (started f.machine some.0) (place_at t v k.here))) (s.rows j))
        ∙ some_after v (transfers v limit (started f.machine some.0) (place_at t v k.here)) f.machine.pc (slice_get frames j))

    pub ran_told : SurveyRan survey d e (Ok (told_of new l stored))
    ran_told = record {
      gave = ran.gave;
      told = λ input rest r. tells input (ran.came input rest r);
      input = ran.input;
      output = ran.output;
      error = ran.error;
      caches = as_many;
      memory = λ named. absurd (no_error named);
      failed = λ fault named. absurd (no_error named);
      causes = named_as ran.causes (λ named. absurd (none named)) (λ named. absurd (no_error named)) (λ named. absurd (none named)) (λ named. absurd (no_error named));
    }
      where
        no_error : {x : SurveyStop} → IsErrOf {T = Surveyed} (Ok (told_of new l stored)) x → ⊥
        no_error named = cc

        none : {x : CallFault} → IsErrOf {T = Option ℕ} (Ok stored) x → ⊥
        none named = cc

  pub ran_fault : (fault : CallFault) → StepsRan t v limit f new k l d e (Err fault) → SurveyRan survey d e (Err (stop.Fault fault))
  ran_fault fault ran = record {
    gave = ran.gave;
    told = tt;
    input = tt;
    output = tt;
    error = tt;
    caches = tt;
    memory = λ named. absurd (other named);
    failed = λ x named. let broke = ran.failed x (as_call named) in record { left = new; ran = broke.ran; unstored = broke.unstored };
    causes = named_as ran.causes (λ named. as_stop named) (λ named. as_call named) (λ named. as_stop named) (λ named. as_call named);
  }
    where
      other : IsErrOf {T = Surveyed} (Err (stop.Fault fault)) stop.Memory → ⊥
      other named = cc

      as_call : {x : CallFault} → IsErrOf {T = Surveyed} (Err (stop.Fault fault)) (stop.Fault x) → IsErrOf {T = Option ℕ} (Err fault) x
      as_call named = cc

      as_stop : {x : CallFault} → IsErrOf {T = Option ℕ} (Err fault) x → IsErrOf {T = Surveyed} (Err (stop.Fault fault)) (stop.Fault x)
      as_stop named = cc

-- ---- the answers, as the code gives them

module _ (t : TextData) (v : ImageData) (frames : List Frame) (limit : ℕ) (f new : FlatData) (k l : Track) (d e : Devices) (first : Machine) (is : f ≡ unfailed first) (g : Ground t v) (small : f.machine.pc < 2 ^ 32) (s : Starts t v frames f.machine.pc k) (q : Result (Option ℕ) CallFault)
    (ran : StepsRan t v limit f new k l d e q) where
  pub told_call : (r : Surveyed) (stored : Option ℕ) → r ≡ told_of new l stored → q ≡ Ok stored → SurveyRan (record { image = v; frames = frames; first = first; limit = limit }) d e (Ok r)
  told_call r stored told_is ok =
      subst (λ (m : Machine). SurveyRan (record { image = v; frames = frames; first = m; limit = limit }) d e (Ok r)) (ap (λ (x : FlatData). x.machine) is)
      (subst (λ (x : Surveyed). SurveyRan (record { image = v; frames = frames; first = f.machine; limit = limit }) d e (Ok x)) (sym told_is)
      (ran_told t v frames limit f new k l d e g small s stored (subst (λ (y : Result (Option ℕ) CallFault). StepsRan t v limit f new k l d e y) ok ran)))

  pub fault_call : (fault : CallFault) → q ≡ Err fault → SurveyRan (record { image = v; frames = frames; first = first; limit = limit }) d e (Err (stop.Fault fault))
  fault_call fault err =
      subst (λ (m : Machine). SurveyRan (record { image = v; frames = frames; first = m; limit = limit }) d e (Err (stop.Fault fault))) (ap (λ (x : FlatData). x.machine) is)
      (ran_fault t v frames limit f new k l d e g small s fault (subst (λ (y : Result (Option ℕ) CallFault). StepsRan t v limit f new k l d e y) err ran))
