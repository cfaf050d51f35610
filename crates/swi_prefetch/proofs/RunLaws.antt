-- Whole runs: their rounds come to where the program ends, and what stands where a device broke one off.
use Rattle.std.proofs.Common.{◌≡◌, ℕ, zero, suc, ◌+◌, ◌-◌, ◌<◌, ◌≤◌, not, ◌&&◌, nat_lt, if◌then◌else◌, Bool, true, false, List, [], ◌∷◌, replicate, Option, Some, None, is_some, Err, refl, sym, ap, subst, ◌∙◌, inl, inr, arith}
use Rattle.std.proofs.lemmas.Bool.{cases_Bool, false≢true, ltb-true}
use Rattle.std.proofs.lemmas.Bool.Decides.{nat_tests}
use Rattle.swi_outside.specs.CacheRam.{Fetch, RamState}
use Rattle.swi_outside.specs.Devices.{Devices, faults_of}
use Rattle.swi_calls.specs.declared.end.End.{End}
use Rattle.swi_calls.specs.declared.machine.Machine.{Machine}
use Rattle.swi_calls.specs.Flat.{started}
use Rattle.swi_calls.specs.Held.{held_run, held_step}
use Rattle.swi_calls.specs.Laws.{held_run_none, held_run_more, held_run_over}
use Rattle.swi_calls.specs.State.{FlatState}
use Rattle.swi_image.specs.Format.{ImageData}
use Rattle.swi_rom.specs.Coherent.{Coherent}
use Rattle.swi_rom.specs.Record.{Record}
use Rattle.swi_rom.specs.Served.{SameFrom}
use Rattle.swi_rom.specs.Service.{Setting}
use Rattle.swi_hart.specs.declared.fault.BoardFault.{BoardFault}
use Rattle.swi_hart.specs.Hart.{original, slots, unbooted}
use Rattle.swi_board.specs.Board.{BoardOf, Around, board_around}
use Rattle.swi_board.specs.Moments.{GoesOn, Moment, Policy, completed, counted, event as instruction, executed, fell, led, next_fetch, stepped_at}
use Rattle.swi_board.specs.Tracking.{Point}
use Rattle.swi_board.specs.Transfers.{at_fall, before_last}
use Rattle.swi_board.proofs.Along.{same_between}
use Rattle.swi_board.proofs.Held.{run_snoc, same_steps}
use Rattle.swi_run_laws.proofs.Between.{between_at, settled_most}
use Rattle.swi_run_laws.proofs.RunLaws.{steps_are}
use Rattle.swi_engine.specs.Engine.{Event, beside, event, extent_of, span_of}
use Rattle.swi_engine.specs.Laws.{engine_coherent}
use Rattle.swi_engine.specs.State.{EngineData, kept_by, setting_of}
use Rattle.swi_prefetch.specs.Events.{Turn, of_engine, booted, engine_event, round, rounds, turned_all, worked}
use Rattle.swi_prefetch.specs.Prefetching.{Booted, TakesTurns, empty_for}
use Rattle.swi_prefetch.specs.Running.{CameOn, FromHere, OfBoard, RanTo, RoundStopped, RunBroke, Whole, goes_below, whole}
use Rattle.swi_prefetch.specs.Scheduled.{AheadBroke, AheadEnded, AheadRun, moment_after, moment_of, setting_for}
use Rattle.swi_prefetch.specs.Tracking.{Begins, BoardTracks, Leads, point_around}
use Rattle.swi_prefetch.specs.Turns.{event_at}
use Rattle.swi_prefetch.proofs.Rounds.{rounds_suc, turned_more}

-- ---- the program, step by step

-- with an ending nothing more is made
run_over : (k n : ℕ) (s : FlatState) → is_some (held_run k s).machine.ending ≡ true → held_run (k + n) s ≡ held_run k s
run_over zero n s over =
    let all : 0 + n ≡ n = omega arith in
    let now : is_some s.machine.ending ≡ true = ap (λ (q : FlatState). is_some q.machine.ending) (sym (held_run_none s)) ∙ over in
    ap (λ (j : ℕ). held_run j s) all ∙ held_run_over n s now ∙ sym (held_run_none s)
run_over (suc k) n s over = elim (cases_Bool (is_some s.machine.ending)) [
  | inl ended ↦ held_run_over (suc k + n) s ended ∙ sym (held_run_over (suc k) s ended)
  | inr on ↦ (
      let one : suc k + n ≡ suc (k + n) = omega arith in
      let same = held_run_more k s on in
      ap (λ (j : ℕ). held_run j s) one ∙ held_run_more (k + n) s on
      ∙ run_over k n (held_step s) (ap (λ (q : FlatState). is_some q.machine.ending) (sym same) ∙ over) ∙ sym same)
]

-- ---- the rounds of a run

-- The flat machine stands at some of the run's steps, and where the run no longer goes on, between two of them.
record Comes (limit : ℕ) (start : FlatState) (s : Moment) : Type 0 where
  steps : ℕ
  few : steps ≤ limit
  flat : s.flat ≡ held_run steps start
  rests : (GoesOn limit s → ⊥) → s.spent ≡ 0

-- an event of the hart
module _ (by : Policy) (v : ImageData) (limit : ℕ) (start : FlatState) (none : start.machine.steps ≡ 0) (s : Moment) (on : GoesOn limit s) (at : Comes limit start s) where
  going : is_some s.flat.machine.ending ≡ false
  going = ap (λ (e : Option End). is_some e) on.0

  run_on : is_some (held_run at.steps start).machine.ending ≡ false
  run_on = ap (λ (q : FlatState). is_some q.machine.ending) (sym at.flat) ∙ going

  fewer : at.steps < limit
  fewer =
      let made = steps_are at.steps start run_on in
      let same = ap (λ (q : FlatState). q.machine.steps) at.flat in
      let below = on.1 in
      omega (arith, made, same, none, below)

  -- the word under control
  abbrev word : ℕ × ℕ → List Fetch
  word p = next_fetch v p s ∷ []

  whole_made : (h : Option (ℕ × ℕ)) (ws : List Fetch) → Comes limit start (counted ws (completed by v h s))
  whole_made h ws = let few = fewer in record {
    steps = suc at.steps;
    few = omega (arith, few);
    flat = ap (λ (q : FlatState). held_step q) at.flat ∙ sym (run_snoc at.steps start run_on);
    rests = λ _. refl;
  }

  same_flat : (t : Moment) → t.flat ≡ s.flat → Comes limit start t
  same_flat t is = record {
    steps = at.steps;
    few = at.few;
    flat = is ∙ at.flat;
    rests = λ over. absurd (over (subst (λ (q : FlatState). (q.machine.ending ≡ None) × (q.machine.steps < limit)) (sym is) on));
  }

  by_words : (p : ℕ × ℕ) (t : Bool) → Comes limit start (counted (word p) (if t then led s else completed by v (Some p) s))
  by_words p true = same_flat (counted (word p) (led s)) refl
  by_words p false = whole_made (Some p) (word p)

  by_fall : (p : ℕ × ℕ) (t : Bool) → Comes limit start (counted (word p) (if t then fell by v p s else executed by v p s))
  by_fall p true = same_flat (counted (word p) (fell by v p s)) refl
  by_fall p false = by_words p (nat_lt s.spent (before_last s.flat.machine (original s.flat.machine) (slots s.flat.machine)))

  by_here : (h : Option (ℕ × ℕ)) → Comes limit start (stepped_at by v h s)
  by_here None = whole_made None []
  by_here (Some p) = by_fall p (at_fall v s.flat.machine (Some p))

  hart_comes : Comes limit start (instruction by v s)
  hart_comes = by_ending s.flat.machine.ending going
    where
      by_ending : (e : Option End) → is_some e ≡ false → Comes limit start (if is_some e then s else stepped_at by v s.here s)
      by_ending None g = by_here s.here
      by_ending (Some x) g = absurd (false≢true (sym g))

-- and of the engine
worked_comes : (limit : ℕ) (start : FlatState) (s : Moment) (o : Option Event) → Comes limit start s → Comes limit start (worked o s)
worked_comes limit start s None at = at
worked_comes limit start s (Some e) at = record { steps = at.steps; few = at.few; flat = at.flat; rests = at.rests }

engine_comes : (by : Setting) (v : ImageData) (limit : ℕ) (start : FlatState) (s : Moment) → Comes limit start s → Comes limit start (engine_event by v s)
engine_comes by v limit start s at = by_ending s.flat.machine.ending
  where
    by_ending : (e : Option End) → Comes limit start (if is_some e then s else worked (event_at (event by) s.kept v s.here) s)
    by_ending None = worked_comes limit start s (event_at (event by) s.kept v s.here) at
    by_ending (Some x) = at

engines_come : (by : Setting) (v : ImageData) (limit : ℕ) (start : FlatState) (n : ℕ) (s : Moment) → Comes limit start s → Comes limit start (turned_all by v (replicate n of_engine) s)
unfolding turned_all
engines_come by v limit start zero s at = at
engines_come by v limit start (suc n) s at = engines_come by v limit start n (engine_event by v s) (engine_comes by v limit start s at)

round_comes : (by : Setting) (v : ImageData) (limit : ℕ) (start : FlatState) (rate : ℕ) (s : Moment) → start.machine.steps ≡ 0 → GoesOn limit s → Comes limit start s → Comes limit start (turned_all by v (round rate) s)
unfolding turned_all
round_comes by v limit start rate s none on at = engines_come by v limit start rate (instruction (beside by) v s) (hart_comes (beside by) v limit start none s on at)

rounds_come : (by : Setting) (v : ImageData) (limit : ℕ) (start : FlatState) (rate : ℕ) (s : Moment) (made : ℕ) → start.machine.steps ≡ 0 →
    ((j : ℕ) → j < made → GoesOn limit (turned_all by v (rounds rate j) s)) → Comes limit start s → Comes limit start (turned_all by v (rounds rate made) s)
unfolding rounds turned_all
rounds_come by v limit start rate s zero none going at = at
rounds_come by v limit start rate s (suc k) none going at =
    let before = rounds_come by v limit start rate s k none (λ j lt. going j (omega (arith, lt))) at in
    subst (λ (q : Moment). Comes limit start q) (sym (ap (λ (ts : List Turn). turned_all by v ts s) (rounds_suc rate k) ∙ turned_more by v (rounds rate k) (round rate) s))
    (round_comes by v limit start rate (turned_all by v (rounds rate k) s) none (going k (omega arith)) before)

full : (a b n : ℕ) → a ≤ b → n ≡ a → nat_lt n b ≡ false → a ≡ b
full a b n le is not_less = grind (arith, nat_tests)

-- where it no longer goes on the program has come to its end
comes_to_end : (limit : ℕ) (start : FlatState) (s : Moment) → start.machine.steps ≡ 0 → Comes limit start s → (GoesOn limit s → ⊥) → s.flat ≡ held_run limit start
comes_to_end limit start s none at over = by s.flat.machine.ending refl
  where
    by : (e : Option End) → s.flat.machine.ending ≡ e → s.flat ≡ held_run limit start
    by (Some x) ended =
        let is : is_some (held_run at.steps start).machine.ending ≡ true = ap (λ (q : FlatState). is_some q.machine.ending) (sym at.flat) ∙ ap (λ (e : Option End). is_some e) ended in
        let few = at.few in
        let all : at.steps + (limit - at.steps) ≡ limit = omega (arith, few) in
        at.flat ∙ sym (run_over at.steps (limit - at.steps) start is) ∙ ap (λ (j : ℕ). held_run j start) all
    by None on = elim (cases_Bool (nat_lt s.flat.machine.steps limit)) [
      | inl less ↦ absurd (over (on, ltb-true s.flat.machine.steps limit less))
      | inr not_less ↦ (
          let run_on : is_some (held_run at.steps start).machine.ending ≡ false = ap (λ (q : FlatState). is_some q.machine.ending) (sym at.flat) ∙ ap (λ (e : Option End). is_some e) on in
          let made = steps_are at.steps start run_on in
          let same = ap (λ (q : FlatState). q.machine.steps) at.flat in
          let is : s.flat.machine.steps ≡ at.steps = omega (arith, made, same, none) in
          at.flat ∙ ap (λ (j : ℕ). held_run j start) (full at.steps limit s.flat.machine.steps at.few is not_less))
    ]

-- ---- the board

goes_true : (limit : ℕ) (b : BoardOf EngineData) → b.hart.machine.ending ≡ None → b.hart.machine.steps < limit → goes_below limit (Some b) ≡ true
goes_true limit b on less = ap (λ (e : Option End). not (is_some e) && nat_lt b.hart.machine.steps limit) on ∙ test b.hart.machine.steps limit less
  where
    test : (x y : ℕ) → x < y → nat_lt x y ≡ true
    test x y lt = grind (arith, nat_tests)

not_going : (v : ImageData) (limit : ℕ) (s : Moment) (from : Point) (after : Around) (b : BoardOf EngineData) → goes_below limit (Some b) ≡ false → BoardTracks v s from (board_around b after) → GoesOn limit s → ⊥
not_going v limit s from after b done at on =
    let same = same_steps v (kept_by b.rom) s.flat.machine b.hart.machine b.hart.control at.matches in
    false≢true (sym done ∙ goes_true limit b (same.1 ∙ on.0) (subst (λ (n : ℕ). n < limit) (sym same.0) on.1))

-- ---- whole runs

-- A run that was booted, on the board `first` over the ram `middle`.
module _ (v : ImageData) (bytes : ℕ) (m : Machine) (left : List ℕ) (limit rate : ℕ) (before middle : RamState) (d : Devices) (first : Option (BoardOf EngineData))
    (input : d.input.left ≡ Some left) (boots : Booted v (unbooted m) (empty_for bytes v) before (record { board = first; ram = middle })) (begins : Begins v m bytes before first middle) where
  abbrev c : AheadRun
  c = record { image = v; bytes = bytes; start = started m left; limit = limit; rate = rate }

  abbrev was : Around
  was = record { ram = before; devices = d }

  abbrev begun : Around
  begun = record { ram = middle; devices = d }

  -- it has come to where its events lead, whatever board the point before it has
  abbrev StandsAt : List Turn → Around → BoardOf EngineData → Type 0
  StandsAt ts mid b = (setting_of b.rom ≡ setting_for c) × ((any : BoardOf EngineData) → BoardTracks v (moment_of c ts) (point_around any was) (board_around b mid))
      × SameFrom (extent_of (setting_for c) (kept_by b.rom)) before.words mid.ram.words

  comes_at : (ts : List Turn) (mid : Whole) → CameOn v ts (whole first begun) mid → OfBoard mid.board (λ b. StandsAt ts mid.around b)
  comes_at ts mid came = by first mid.board boots begins came.led
    where
      by : (o n : Option (BoardOf EngineData)) → Booted v (unbooted m) (empty_for bytes v) before (record { board = o; ram = middle }) → Begins v m bytes before o middle →
          Leads v ts o n begun mid.around → OfBoard n (λ b. StandsAt ts mid.around b)
      by None n boots begins led = absurd led
      by (Some a) None boots begins led = absurd led
      by (Some a) (Some b) boots begins led = (
        led.setting ∙ boots.entered.setting,
        λ any. subst (λ (s : Setting). BoardTracks v (turned_all s v ts (booted (setting_for c) v m left)) (point_around any was) (board_around b mid.around)) boots.entered.setting
            (led.tracks (booted (setting_for c) v m left) (point_around any was) (begins d any left input)),
        λ i le.
            let further = subst (λ (s : Setting). extent_of s (kept_by a.rom) ≤ extent_of s (kept_by b.rom)) boots.entered.setting led.grows in
            subst (λ (s : Setting). SameFrom (extent_of s (kept_by b.rom)) middle.words mid.around.ram.words) boots.entered.setting led.unused i le ∙ boots.entered.unused i (omega (arith, further, le)),
      )

  -- a round that began while the run went on
  goes_before : (j : ℕ) → FromHere v first begun (λ b s from. GoesOn limit (turned_all (setting_of b.rom) v (rounds rate j) s)) → GoesOn limit (moment_after c j)
  goes_before j going = by first boots begins going
    where
      by : (o : Option (BoardOf EngineData)) → Booted v (unbooted m) (empty_for bytes v) before (record { board = o; ram = middle }) → Begins v m bytes before o middle →
          FromHere v o begun (λ b s from. GoesOn limit (turned_all (setting_of b.rom) v (rounds rate j) s)) → GoesOn limit (moment_after c j)
      by None boots begins going = absurd boots
      by (Some a) boots begins going =
          subst (λ (s : Setting). GoesOn limit (turned_all s v (rounds rate j) (booted (setting_for c) v m left))) boots.entered.setting
          (going (booted (setting_for c) v m left) (point_around a was) (begins d a left input))

  -- it came to its limit, or its ending
  pub run_ends : (last : Whole) → m.steps ≡ 0 → RanTo v limit rate (whole first begun) last → OfBoard last.board (λ b. (made : ℕ) × AheadEnded c made b was last.around)
  run_ends last unmade ran = by last.board (comes_at (rounds rate ran.made) last ran.came) ran.came.turns ran.done
    where
      by : (n : Option (BoardOf EngineData)) → OfBoard n (λ b. StandsAt (rounds rate ran.made) last.around b) → TakesTurns v n last.around.ram →
          goes_below limit n ≡ false → OfBoard n (λ b. (made : ℕ) × AheadEnded c made b was last.around)
      by None at turns done = absurd at
      by (Some b) at turns done =
          let tracks = at.1 b in
          let on = λ (j : ℕ) (lt : j < ran.made). goes_before j (ran.going j lt) in
          let over = not_going v limit (moment_after c ran.made) (point_around b was) last.around b done tracks in
          let comes = rounds_come (setting_for c) v limit (started m left) rate (booted (setting_for c) v m left) ran.made unmade on
          (record { steps = 0; few = omega arith; flat = sym (held_run_none (started m left)); rests = λ _. refl }) in
          let flat = comes_to_end limit (started m left) (moment_after c ran.made) unmade comes over in
          let between = between_at v (kept_by b.rom) (moment_after c ran.made).flat.machine b.hart.machine b.hart.control tracks.matches (tracks.spent ∙ comes.rests over) in
          let bounds = settled_most v b.hart.machine b.hart.control b.hart.count turns.steps_few between in (
            ran.made,
            record {
              are = record { going = on; over = over };
              tracks = tracks;
              setting = at.0;
              coherent = subst (λ (q : Setting). Coherent v (kept_by b.rom) (span_of q) last.around.ram.words) at.0 (engine_coherent b.rom v last.around.ram.words turns.sound);
              unused = subst (λ (r : Record). SameFrom (extent_of (setting_for c) r) before.words last.around.ram.words) tracks.kept at.2;
              flat = flat;
              machine = same_between v (kept_by b.rom) (moment_after c ran.made).flat.machine b.hart.machine b.hart.control between tracks.matches ∙ ap (λ (q : FlatState). q.machine) flat;
              most = bounds.0;
              fewer = bounds.1;
            },
          )

  -- a device broke it off
  pub run_breaks : (fault : BoardFault) (last : Whole) → RunBroke v limit rate (whole first begun) last (Err fault) →
      OfBoard first (λ b. AheadBroke c fault (point_around b was) (point_around b last.around) (faults_of d) (faults_of last.around.devices))
  run_breaks fault last broke = by first boots begins broke.stopped
    where
      going : (j : ℕ) → j < broke.made + 1 → GoesOn limit (moment_after c j)
      going j lt = goes_before j (broke.going j lt)

      by : (o : Option (BoardOf EngineData)) → Booted v (unbooted m) (empty_for bytes v) before (record { board = o; ram = middle }) → Begins v m bytes before o middle →
          FromHere v o begun (λ b s from.
          RoundStopped (setting_of b.rom) v rate fault (turned_all (setting_of b.rom) v (rounds rate broke.made) s) from (point_around b last.around) (faults_of d) (faults_of last.around.devices)) →
          OfBoard o (λ b. AheadBroke c fault (point_around b was) (point_around b last.around) (faults_of d) (faults_of last.around.devices))
      by None boots begins stopped = absurd boots
      by (Some a) boots begins stopped = record {
        made = broke.made;
        going = going;
        stopped = subst (λ (s : Setting). RoundStopped s v rate fault (turned_all s v (rounds rate broke.made) (booted (setting_for c) v m left)) (point_around a was) (point_around a last.around) (faults_of d) (faults_of last.around.devices))
            boots.entered.setting (stopped (booted (setting_for c) v m left) (point_around a was) (begins d a left input));
      }
