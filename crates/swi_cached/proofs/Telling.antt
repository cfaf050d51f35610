-- A told run of a board, line by line and step by step.
use Rattle.std.proofs.Common.{◌≡◌, ◌⊎◌, ℕ, zero, suc, ◌+◌, ◌-◌, ◌*◌, ◌^◌, ◌<◌, ◌≤◌, Bool, true, false, List, [], ◌∷◌, ◌++◌, Option, Some, None, is_some, Ok, Err, refl, sym, ap, subst, ◌∙◌, inl, inr, arith, append-nil}
use Rattle.std.proofs.lemmas.Bool.{cases_lt, false≢true}
use Rattle.std.specs.Io.KnownBytes.{Appends}
use Rattle.swi_outside.specs.Causes.{Rose}
use Rattle.swi_outside.specs.Devices.{Faults}
use Rattle.swi_outside.specs.Sink.{AppendsPrefix, SinkState}
use Rattle.swi_calls.specs.declared.end.End.{End}
use Rattle.swi_calls.specs.declared.end.End.TheVariants as end
use Rattle.swi_calls.specs.declared.machine.Machine.{Machine}
use Rattle.swi_calls.specs.Held.{held_made, held_run, held_step}
use Rattle.swi_calls.specs.Laws.{held_run_none}
use Rattle.swi_calls.specs.State.{FlatState}
use Rattle.swi_image.specs.Format.{ImageData}
use Rattle.swi_rom.specs.Service.{ServiceOf, IsService}
use Rattle.swi_hart.specs.declared.hart.Control.{Control}
use Rattle.swi_hart.specs.declared.fault.BoardFault.{BoardFault}
use Rattle.swi_hart.specs.declared.fault.BoardFault.TheVariants.{SinkFault}
use Rattle.swi_hart.specs.Bounds.{most, most_by}
use Rattle.swi_hart.specs.MachineStep.{BoardStepped}
use Rattle.swi_hart.specs.Matching.{Fits}
use Rattle.swi_hart.proofs.Growing.{depth_most}
use Rattle.swi_board.specs.Board.{BoardWithDevices}
use Rattle.swi_board.specs.BoardRan.{Along, BoardRan, BoardStays, with_ram}
use Rattle.swi_board.specs.Moments.{GoesOn, Moment, Policy, event, events}
use Rattle.swi_board.specs.Tracking.{Point, Tracks, point_of}
use Rattle.swi_board.proofs.Along.{stays_start, stays_step}
use Rattle.swi_board.proofs.Held.{run_snoc, same_steps}
use Rattle.swi_board.proofs.Fetching.{holds_under}
use Rattle.swi_board.proofs.Tracks.{step_tracks}
use Rattle.swi_run_laws.proofs.RunLaws.{event_flat, flat_at}
use Rattle.swi_run_laws.proofs.Schedules.{told_tracks}
use Rattle.swi_line.specs.declared.trace.Trace.{Trace}
use Rattle.swi_line.specs.declared.trace.Trace.TheVariants as trace
use Rattle.swi_cached.specs.Told.{addresses, error_by, history_of, is_each, of_steps, told_line}
use Rattle.swi_cached.specs.Traced.{Before, Begun, BegunTo, Noted, Tells, ToldAlong, ToldRan, ToldTo, keeps_history, with_errors, with_sink}
use Rattle.swi_cached.proofs.Tells.{event_told, line_is, noted_as, run_over, same_at, step_tells, tells_as}

-- what a line says, by when it was told
pub record LineTold (each : Bool) (m : Machine) (lines : ℕ) (err : Option (List ℕ)) (sink : SinkState) (history history' : Option (List ℕ)) : Type 0 where
  pub wrote : lines ≡ m.steps → Appends err sink.held (told_line each m)
  pub noted : lines ≡ m.steps → (pushed : List ℕ) → Noted pushed history → Noted (pushed ++ m.pc ∷ []) history'
  pub rests : lines ≡ m.steps + 1 → (sink.held ≡ err) × (history' ≡ history)

error_none : (each : Bool) (s : FlatState) → error_by each 0 s ≡ s.error
unfolding of_steps
error_none false s = ap (λ (q : FlatState). q.error) (held_run_none s)
error_none true s = append-nil s.error

this_or_next : (a b : ℕ) → a ≤ b → b ≤ a + 1 → (b ≡ a) ⊎ (b ≡ suc a)
this_or_next a b low high = elim (cases_lt a b) [
  | inl less ↦ inr (omega (arith, less, high))
  | inr same ↦ inl (omega (arith, same, low))
]

most_at : (v : ImageData) (m : Machine) (c : Control) → most v m c ≤ 3 * m.steps + 3
most_at v m c = by m.ending
  where
    by : (e : Option End) → most_by e v m c ≤ 3 * m.steps + 3
    by None = omega (arith, depth_most v m c)
    by (Some (end.Exited code)) = omega arith
    by (Some (end.Faulted kind a)) = omega arith
    by (Some (end.StoreText a)) = omega arith

-- one machine instruction behind a line
module _ {by : Policy} {span : ℕ} {v : ImageData} {each : Bool} {n made k : ℕ} {s : Moment} {from mid next : Point} {history : Option (List ℕ)} (b : BegunTo by span v each made k s from mid history)
    (here : (events by v made s).flat ≡ held_run k s.flat) (counts : mid.hart.machine.steps ≡ k) (more : k < n) (running : mid.hart.machine.ending ≡ None)
    (going : (j : ℕ) → j < made → GoesOn n (events by v j s)) (there : Tracks span v (event by v (with_errors b.error (events by v made s))) from next) where
  abbrev now : Moment
  now = events by v made s

  stands : (mid.hart.machine.steps ≡ now.flat.machine.steps) × (mid.hart.machine.ending ≡ now.flat.machine.ending)
  stands = same_steps v mid.kept now.flat.machine mid.hart.machine mid.hart.control b.tracks.matches

  on : now.flat.machine.ending ≡ None
  on = sym stands.1 ∙ running

  going_on : (j : ℕ) → j < suc made → GoesOn n (events by v j s)
  going_on j lt = elim (cases_lt j made) [
    | inl less ↦ going j less
    | inr least ↦ (
        let same : made ≡ j = omega (arith, lt, least) in
        subst (λ (i : ℕ). GoesOn n (events by v i s)) same (on, (let steps = stands.0 in omega (arith, steps, counts, more))))
  ]

  pub told_next : ToldTo by span v each n (suc made) (k + 1) s from next history
  unfolding events
  told_next = elim (event_told by v b.error now) [
    | inl same ↦ (
        let tracks : Tracks span v (with_errors b.error (event by v now)) from next = subst (λ (q : Moment). Tracks span v q from next) same.0 there in
        let steps = same_steps v next.kept (event by v now).flat.machine next.hart.machine next.hart.control tracks.matches in
        let is : k ≡ next.hart.machine.steps = (let one = steps.0 in let two = ap (λ (q : FlatState). q.machine.steps) same.1 in let three = stands.0 in omega (arith, one, two, three, counts)) in
        record {
          error = b.error;
          tracks = tracks;
          tells = tells_as None next.hart.machine.ending each n s.flat next.hart.machine.steps (k + 1) b.error history
              (sym (steps.1 ∙ ap (λ (q : FlatState). q.machine.ending) same.1 ∙ on))
              (inr (ap (λ (j : ℕ). j + 1) is, subst (λ (j : ℕ). Begun each j s.flat b.error history) is b.begun));
          going = going_on;
        })
    | inr step ↦ (
        let error : List ℕ = b.error ++ (held_made (held_run k s.flat).machine (held_run k s.flat).input).error in
        let tracks : Tracks span v (with_errors error (event by v now)) from next =
        subst (λ (q : FlatState). Tracks span v (with_errors (b.error ++ (held_made q.machine q.input).error) (event by v now)) from next) here (subst (λ (q : Moment). Tracks span v q from next) step.0 there) in
        let steps = same_steps v next.kept (event by v now).flat.machine next.hart.machine next.hart.control tracks.matches in
        let flat : (event by v now).flat ≡ held_step (held_run k s.flat) = step.1 ∙ ap (λ (q : FlatState). held_step q) here in
        record {
          error = b.error ++ (held_made (held_run k s.flat).machine (held_run k s.flat).input).error;
          tracks = tracks;
          tells = step_tells each n s.flat k b.error history b.begun more (ap (λ (q : FlatState). q.machine.ending) (sym here) ∙ on) next.hart.machine.ending next.hart.machine.steps
              (ap (λ (q : FlatState). q.machine.ending) (sym flat) ∙ sym steps.1) (ap (λ (q : FlatState). q.machine.steps) (sym flat) ∙ sym steps.0)
              (ap (λ (q : FlatState). q.machine.steps) (sym here) ∙ sym stands.0 ∙ counts);
          going = going_on;
        })
  ]

-- ---- whole boards

module _ {S : Type 0} {k : ServiceOf S} {v : ImageData} {n : ℕ} {old : BoardWithDevices S} where
  -- a line on the error sink changes nothing else
  stays_told : {now : BoardWithDevices S} (sink : SinkState) → sink.faults ≡ now.devices.error.faults → BoardStays k v n old now → BoardStays k v n old (with_sink now sink)
  stays_told {now} sink same was = record {
    point = record {
      steps = was.point.steps;
      fits = was.point.fits;
      failed = was.point.failed;
      booted = was.point.booted;
      later = was.point.later;
      count = was.point.count;
      calls = was.point.calls;
      rises = was.point.rises;
      ram = was.point.ram;
    };
    setting = was.setting;
    sound = was.sound;
    keeps = was.keeps;
    unused = was.unused;
    quiet = ap {B = Faults} (λ (f : ℕ). record { input = now.devices.input.faults; output = now.devices.output.faults; error = f }) same ∙ was.quiet;
  }

module _ {S : Type 0} {k : ServiceOf S} {v : ImageData} {telling : Trace} {n : ℕ} {old : BoardWithDevices S} (first : old.hart.machine.steps ≡ 0) where
  -- where the flat machine stands
  here_at : {now : BoardWithDevices S} {lines : ℕ} {history : Option (List ℕ)} (was : ToldAlong k v telling n lines old now history) → now.hart.machine.ending ≡ None → (s : Moment) (from : Point) →
      Tracks (k.span (k.setting old.rom)) v s from (point_of k old) → (events (k.policy (k.setting old.rom)) v was.made s).flat ≡ held_run now.hart.machine.steps s.flat
  here_at {now} {lines} {history} was running s from at =
      let m : Moment = events (k.policy (k.setting old.rom)) v was.made s in
      let same = same_steps v (k.kept now.rom) m.flat.machine now.hart.machine now.hart.control (was.came s from at).tracks.matches in
      let start = same_steps v (k.kept old.rom) s.flat.machine old.hart.machine old.hart.control at.matches in
      let one = same.0 in
      let two = start.0 in
      let steps : m.flat.machine.steps - s.flat.machine.steps ≡ now.hart.machine.steps = omega (arith, one, two, first) in
      flat_at (k.policy (k.setting old.rom)) v was.made s (sym same.1 ∙ running) ∙ ap (λ (j : ℕ). held_run j s.flat) steps

  -- behind the line of the next step
  begun_to : {now : BoardWithDevices S} {lines : ℕ} {history history' : Option (List ℕ)} (was : ToldAlong k v telling n lines old now history) → now.hart.machine.ending ≡ None → (sink : SinkState) →
      LineTold (is_each telling) now.hart.machine lines now.devices.error.held sink history history' → (s : Moment) (from : Point) → Tracks (k.span (k.setting old.rom)) v s from (point_of k old) →
      BegunTo (k.policy (k.setting old.rom)) (k.span (k.setting old.rom)) v (is_each telling) was.made now.hart.machine.steps s from (point_of k (with_sink now sink)) history'
  begun_to {now} {lines} {history} {history'} was running sink line s from at = by (tells_as now.hart.machine.ending None each n s.flat now.hart.machine.steps lines to.error history running to.tells)
    where
      each : Bool
      each = is_each telling

      to : ToldTo (k.policy (k.setting old.rom)) (k.span (k.setting old.rom)) v (is_each telling) n was.made lines s from (point_of k now) history
      to = was.came s from at

      by : Tells None (is_each telling) n s.flat now.hart.machine.steps lines to.error history →
          BegunTo (k.policy (k.setting old.rom)) (k.span (k.setting old.rom)) v (is_each telling) was.made now.hart.machine.steps s from (point_of k (with_sink now sink)) history'
      by (inl (is, before)) =
          let m : Moment = events (k.policy (k.setting old.rom)) v was.made s in
          let here = here_at was running s from at in
          let place = same_at v (k.kept now.rom) m.flat.machine now.hart.machine now.hart.control running to.tracks.matches in
          let same = line_is (is_each telling) now.hart.machine m.flat.machine place.0 place.1 ∙ ap (λ (q : FlatState). told_line (is_each telling) q.machine) here in
          record {
            error = to.error ++ told_line (is_each telling) now.hart.machine;
            tracks = told_tracks (k.span (k.setting old.rom)) v (with_errors to.error m) from (point_of k now) (told_line (is_each telling) now.hart.machine) sink.held to.tracks (line.wrote is);
            begun = (
              ap (λ (l : List ℕ). l ++ told_line (is_each telling) now.hart.machine) before.0 ∙ ap (λ (l : List ℕ). error_by (is_each telling) now.hart.machine.steps s.flat ++ l) same,
              noted_as (addresses now.hart.machine.steps s.flat ++ now.hart.machine.pc ∷ []) (addresses now.hart.machine.steps s.flat ++ (held_run now.hart.machine.steps s.flat).machine.pc ∷ []) history'
                  (ap (λ (a : ℕ). addresses now.hart.machine.steps s.flat ++ a ∷ []) (place.0 ∙ ap (λ (q : FlatState). q.machine.pc) here)) (line.noted is (addresses now.hart.machine.steps s.flat) before.1),
            );
          }
      by (inr (is, begun)) =
          let same = line.rests is in
          record {
            error = to.error;
            tracks = subst (λ (o : Option (List ℕ)). Tracks (k.span (k.setting old.rom)) v (with_errors to.error (events (k.policy (k.setting old.rom)) v was.made s)) from (record (point_of k now) { err = o })) (sym same.0) to.tracks;
            begun = (begun.0, subst (λ (h : Option (List ℕ)). Noted (addresses now.hart.machine.steps s.flat ++ (held_run now.hart.machine.steps s.flat).machine.pc ∷ []) h) (sym same.1) begun.1);
          }

  pub told_start : Fits v (k.kept old.rom) old.hart → old.hart.machine.ending ≡ None → k.sound old.rom v old.ram.words → (history : List ℕ) → history ≡ [] → true ≡ keeps_history telling →
      ToldAlong k v telling n 0 old old (Some history)
  unfolding events of_steps
  told_start fits running sound history empty kept = record {
    made = 0;
    came = λ s from at. record {
      error = s.flat.error;
      tracks = at;
      tells = tells_as None old.hart.machine.ending (is_each telling) n s.flat old.hart.machine.steps 0 s.flat.error (Some history) (sym running)
          (inl (sym first, subst (λ (j : ℕ). Before (is_each telling) j s.flat s.flat.error (Some history)) (sym first) (sym (error_none (is_each telling) s.flat), empty)));
      going = λ j lt. absurd (omega (arith, lt));
    };
    stays = stays_start fits (let none = first in omega (arith, none)) sound;
    next = inl (sym first);
    kept = kept;
  }

  pub told_more : {now next : BoardWithDevices S} {u : Unit} {lines : ℕ} {history : Option (List ℕ)} {held : List ℕ} (sink : SinkState) → ToldAlong k v telling n lines old now history → IsService k →
      now.hart.machine.steps < n → now.hart.machine.ending ≡ None → now.hart.machine.pc < 2 ^ 32 → sink.faults ≡ now.devices.error.faults →
      LineTold (is_each telling) now.hart.machine lines now.devices.error.held sink history (Some held) → is_some history ≡ true →
      BoardStepped k v (with_ram now) (with_ram next) (with_sink now sink).devices next.devices (Ok u) → ToldAlong k v telling n (now.hart.machine.steps + 1) old next (Some held)
  told_more {now} {next} {u} {lines} {history} {held} sink was laws more running word same line some s =
      let moves = rw was.stays.setting at s.policy in
      let stepped = rw was.stays.setting at s.ram in
      let grown = s.grown was.stays.sound in
      record {
        made = suc was.made;
        came = λ q from at.
            let b = begun_to was running sink line q from at in
            told_next b (here_at was running q from at) refl more running (was.came q from at).going
            (step_tracks (k.policy (k.setting old.rom)) (k.span (k.setting old.rom)) v (with_errors b.error (events (k.policy (k.setting old.rom)) v was.made q)) from (point_of k (with_sink now sink)) (point_of k next) b.tracks running word
            (laws.coherent now.rom v now.ram.words was.stays.sound).once
            (holds_under v (k.kept now.rom) (k.span (k.setting now.rom)) now.ram.words now.hart (laws.coherent now.rom v now.ram.words was.stays.sound) was.stays.point.fits running word)
            moves (s.made was.stays.sound (events (k.policy (k.setting old.rom)) v was.made q).flat.input b.tracks.input) stepped);
        stays = stays_step (stays_told sink same was.stays) laws more running s;
        next = (
            let up = grown.one in
            let low = grown.most in
            let top = most_at v next.hart.machine next.hart.control in
            elim (this_or_next now.hart.machine.steps next.hart.machine.steps (omega (arith, low, top)) up) [
              | inl this ↦ inr (omega (arith, this), inl (omega (arith, this, more)))
              | inr one ↦ inl (omega (arith, one))
            ]
            );
        kept = sym some ∙ was.kept;
      }

  pub told_ended : {now : BoardWithDevices S} {lines : ℕ} {history : Option (List ℕ)} → ToldAlong k v telling n lines old now history → (n ≤ now.hart.machine.steps) ⊎ (is_some now.hart.machine.ending ≡ true) →
      ToldRan k v telling n old now (Ok history)
  told_ended {now} {lines} {history} was over = record { mid = now; lines = lines; history = history; along = was; ends = (refl, over, refl) }

  -- the step behind its line was broken off
  pub told_broken : {now next : BoardWithDevices S} {fault : BoardFault} {lines : ℕ} {history history' : Option (List ℕ)} (sink : SinkState) → ToldAlong k v telling n lines old now history →
      now.hart.machine.steps < n → now.hart.machine.ending ≡ None → now.hart.machine.pc < 2 ^ 32 → sink.faults ≡ now.devices.error.faults →
      LineTold (is_each telling) now.hart.machine lines now.devices.error.held sink history history' →
      BoardStepped k v (with_ram now) (with_ram next) (with_sink now sink).devices next.devices (Err fault) → ToldRan k v telling n old next (Err fault)
  told_broken {now} {next} {fault} {lines} {history} {history'} sink was more running word same line s = record {
    mid = now;
    lines = lines;
    history = history;
    along = was;
    ends = inr (record { sink = sink; quiet = same; history = history'; begun = λ q from at. begun_to was running sink line q from at; broke = record { running = running; more = more; short = word; broke = s } });
  }

  -- the line was
  pub line_broken : {now : BoardWithDevices S} {lines : ℕ} {history : Option (List ℕ)} (sink : SinkState) → ToldAlong k v telling n lines old now history → now.hart.machine.steps < n → now.hart.machine.ending ≡ None →
      is_each telling ≡ true → lines ≡ now.hart.machine.steps → AppendsPrefix now.devices.error.held sink.held (told_line (is_each telling) now.hart.machine) → now.devices.error.faults ≤ sink.faults → Rose now.devices.error.faults sink.faults →
      ToldRan k v telling n old (with_sink now sink) (Err SinkFault)
  line_broken {now} {lines} {history} sink was more running each lines_first front later rose = record {
    mid = now;
    lines = lines;
    history = history;
    along = was;
    ends = inl (record { is_each = each; first = lines_first; running = running; more = more; rest = refl; front = front; later = later; rose = rose; fault_is = refl });
  }

-- ---- a run of which nothing is told

-- however it ended, the flat machine has made no more steps than the limit
flat_within : (by : Policy) (v : ImageData) (n made : ℕ) (s : Moment) → s.flat.machine.steps ≡ 0 → ((j : ℕ) → j < made → GoesOn n (events by v j s)) → (j : ℕ) × ((events by v made s).flat ≡ held_run j s.flat) × (j ≤ n)
unfolding events
flat_within by v n zero s none going = (0, sym (held_run_none s.flat), omega arith)
flat_within by v n (suc i) s none going =
    let on = going i (omega arith) in
    let here = flat_at by v i s on.0 in
    let few = on.1 in
    elim (event_flat by v (events by v i s)) [
      | inl same ↦ ((events by v i s).flat.machine.steps - s.flat.machine.steps, same ∙ here, omega (arith, few))
      | inr step ↦ (
        suc ((events by v i s).flat.machine.steps - s.flat.machine.steps),
        step.0 ∙ ap (λ (q : FlatState). held_step q) here ∙ sym (run_snoc ((events by v i s).flat.machine.steps - s.flat.machine.steps) s.flat (ap (λ (q : FlatState). is_some q.machine.ending) (sym here) ∙ step.1)),
        omega (arith, few, none),
      )
    ]

module _ {S : Type 0} {k : ServiceOf S} {v : ImageData} {n : ℕ} {old : BoardWithDevices S} (first : old.hart.machine.steps ≡ 0) where
  quiet_here : {now : BoardWithDevices S} (was : Along k v n old now) → now.hart.machine.ending ≡ None → (s : Moment) (from : Point) → Tracks (k.span (k.setting old.rom)) v s from (point_of k old) →
      (events (k.policy (k.setting old.rom)) v was.made s).flat ≡ held_run now.hart.machine.steps s.flat
  quiet_here {now} was running s from at =
      let m : Moment = events (k.policy (k.setting old.rom)) v was.made s in
      let same = same_steps v (k.kept now.rom) m.flat.machine now.hart.machine now.hart.control (was.came.tracks s from at).matches in
      let start = same_steps v (k.kept old.rom) s.flat.machine old.hart.machine old.hart.control at.matches in
      let one = same.0 in
      let two = start.0 in
      let steps : m.flat.machine.steps - s.flat.machine.steps ≡ now.hart.machine.steps = omega (arith, one, two, first) in
      flat_at (k.policy (k.setting old.rom)) v was.made s (sym same.1 ∙ running) ∙ ap (λ (j : ℕ). held_run j s.flat) steps

  quiet_along : {now : BoardWithDevices S} → Along k v n old now → ToldAlong k v trace.Off n now.hart.machine.steps old now None
  quiet_along {now} was = record {
    made = was.made;
    came = λ s from at. record {
      error = (events (k.policy (k.setting old.rom)) v was.made s).flat.error;
      tracks = was.came.tracks s from at;
      tells = by s from at now.hart.machine.ending refl;
      going = was.came.going s from at;
    };
    stays = was.stays;
    next = inl refl;
    kept = refl;
  }
    where
      by : (s : Moment) (from : Point) → Tracks (k.span (k.setting old.rom)) v s from (point_of k old) → (e : Option End) → now.hart.machine.ending ≡ e →
          Tells e false n s.flat now.hart.machine.steps now.hart.machine.steps (events (k.policy (k.setting old.rom)) v was.made s).flat.error None
      by s from at None running = inl (refl, (ap (λ (q : FlatState). q.error) (quiet_here was running s from at), tt))
      by s from at (Some x) over =
          let m : Moment = events (k.policy (k.setting old.rom)) v was.made s in
          let same = same_steps v (k.kept now.rom) m.flat.machine now.hart.machine now.hart.control (was.came.tracks s from at).matches in
          let start = same_steps v (k.kept old.rom) s.flat.machine old.hart.machine old.hart.control at.matches in
          let w = flat_within (k.policy (k.setting old.rom)) v n was.made s (sym start.0 ∙ first) (was.came.going s from at) in
          let ended : is_some (held_run w.0 s.flat).machine.ending ≡ true = ap (λ (q : FlatState). is_some q.machine.ending) (sym w.1) ∙ ap (λ (e : Option End). is_some e) (sym same.1 ∙ over) in
          (ap (λ (q : FlatState). q.error) (w.1 ∙ sym (run_over w.0 n s.flat w.2 ended)), tt)

  pub quiet_ended : {new : BoardWithDevices S} {u : Unit} (telling : Trace) → telling ≡ trace.Off → BoardRan k v n old new (Ok u) → ToldRan k v telling n old new (Ok None)
  quiet_ended {new} {u} telling is ran = subst (λ (t : Trace). ToldRan k v t n old new (Ok None)) (sym is)
      (record { mid = ran.mid; lines = ran.mid.hart.machine.steps; history = None; along = quiet_along ran.along; ends = (ran.ends.0, ran.ends.1, refl) })

  pub quiet_broken : {new : BoardWithDevices S} {fault : BoardFault} (telling : Trace) → telling ≡ trace.Off → BoardRan k v n old new (Err fault) → ToldRan k v telling n old new (Err fault)
  unfolding events quiet_along
  quiet_broken {new} {fault} telling is ran = subst (λ (t : Trace). ToldRan k v t n old new (Err fault)) (sym is) (record {
    mid = ran.mid;
    lines = ran.mid.hart.machine.steps;
    history = None;
    along = quiet_along ran.along;
    ends = inr (record {
      sink = ran.mid.devices.error;
      quiet = refl;
      history = None;
      begun = λ s from at. record {
        error = (events (k.policy (k.setting old.rom)) v ran.along.made s).flat.error;
        tracks = ran.along.came.tracks s from at;
        begun = (ap (λ (q : FlatState). q.error) (quiet_here ran.along ran.ends.running s from at) ∙ sym (append-nil (held_run ran.mid.hart.machine.steps s.flat).error), tt);
      };
      broke = ran.ends;
    });
  })

-- ---- where nothing is told, and where a history is kept

pub nothing_told : (t : Trace) → None ≡ history_of t [] → t ≡ trace.Off
nothing_told trace.Off e = refl
nothing_told trace.Last e = absurd (let bad : ⊥ = cc in bad)
nothing_told trace.Each e = absurd (let bad : ⊥ = cc in bad)

pub first_empty : (t : Trace) (first : List ℕ) → Some first ≡ history_of t [] → first ≡ []
first_empty trace.Off first e = absurd (let bad : ⊥ = cc in bad)
first_empty trace.Last first e = cc
first_empty trace.Each first e = cc

pub first_kept : (t : Trace) (first : List ℕ) → Some first ≡ history_of t [] → true ≡ keeps_history t
first_kept trace.Off first e = absurd (let bad : ⊥ = cc in bad)
first_kept trace.Last first e = refl
first_kept trace.Each first e = refl

pub history_is : (t : Trace) (pushed : List ℕ) (history : Option (List ℕ)) → is_some history ≡ keeps_history t → Noted pushed history → history ≡ history_of t pushed
history_is trace.Off pushed None kept noted = refl
history_is trace.Off pushed (Some held) kept noted = absurd (false≢true (sym kept))
history_is trace.Last pushed None kept noted = absurd (false≢true kept)
history_is trace.Last pushed (Some held) kept noted = ap (λ (l : List ℕ). Some l) noted
history_is trace.Each pushed None kept noted = absurd (false≢true kept)
history_is trace.Each pushed (Some held) kept noted = ap (λ (l : List ℕ). Some l) noted
