-- A told run that a device broke off, in the words of its original steps.
use Rattle.std.proofs.Common.{◌≡◌, ◌⊎◌, ℕ, suc, ◌+◌, ◌-◌, ◌<◌, ◌≤◌, Bool, true, false, List, [], ◌++◌, length, reverse, take, if◌then◌else◌, Option, Some, None, is_some, Err, slice_index, refl, sym, ap, subst, ◌∙◌, inl, inr, arith, append-nil, append_assoc}
use Rattle.std.proofs.lemmas.List.{length-reverse, reverse-append, reverse-reverse}
use Rattle.std.proofs.Math.Seq.{take-append-add}
use Rattle.std.specs.Io.KnownBytes.{Appends, Consumes}
use Rattle.swi_outside.specs.CacheRam.{Fetch, RamState, since}
use Rattle.swi_outside.specs.Causes.{risen}
use Rattle.swi_outside.specs.Devices.{Faults, faults_of}
use Rattle.swi_outside.specs.Laws.{Appends-append}
use Rattle.swi_outside.specs.Sink.{SinkState}
use Rattle.swi_calls.specs.declared.end.End.{End}
use Rattle.swi_calls.specs.Held.{held_made, held_run, held_step}
use Rattle.swi_calls.specs.State.{FlatState}
use Rattle.swi_image.specs.Format.{ImageData}
use Rattle.swi_rom.specs.Coherent.{Coherent}
use Rattle.swi_rom.specs.Service.{ServiceOf, IsService, Setting}
use Rattle.swi_calls.specs.declared.machine.Machine.{Machine}
use Rattle.swi_hart.specs.declared.fault.BoardFault.{BoardFault}
use Rattle.swi_hart.specs.declared.fault.BoardFault.TheVariants.{RamFault, SourceFault, SinkFault}
use Rattle.swi_hart.specs.Calling.{OnDevice}
use Rattle.swi_board.specs.Board.{BoardWithDevices, Around}
use Rattle.swi_board.specs.Fetching.{FetchedFront}
use Rattle.swi_board.specs.Moments.{Moment, Policy, event, events}
use Rattle.swi_board.specs.Ran.{next_of}
use Rattle.swi_board.specs.Tracking.{Tracks, point_of}
use Rattle.swi_board.specs.Transfers.{cost}
use Rattle.swi_board.proofs.Held.{run_snoc, same_steps}
use Rattle.swi_run_laws.specs.Broken.{Broke, DeviceBroke, RamBroke}
use Rattle.swi_run_laws.proofs.After.{is_after}
use Rattle.swi_run_laws.proofs.Broken.{broke_off, off_in_order, off_unasked}
use Rattle.swi_run_laws.proofs.RunLaws.{flat_at, goes_short, most_fetched, steps_are, words_front}
use Rattle.swi_line.specs.declared.trace.Trace.{Trace}
use Rattle.swi_outcome.proofs.Fronts.{front_none, seam, to_nil}
use Rattle.swi_cached.specs.Answers.{Failed, RamFailed, RamWithin, StreamFailed}
use Rattle.swi_cached.specs.Cached.{CachedRun, IsFresh, fetches_after, program_after, words_after}
use Rattle.swi_cached.specs.CachedRan.{Booted, with_input}
use Rattle.swi_cached.specs.Told.{error_by, is_each, told_line}
use Rattle.swi_cached.specs.Traced.{BegunTo, LineBroke, StepBroke, Tells, ToldAlong, ToldTo, with_errors, with_sink}
use Rattle.swi_cached.proofs.Starting.{begins, coherent_run, first_moment, from_point, given_for, led_to, quiet_run, setting_is, unused_run, written_run}
use Rattle.swi_cached.proofs.Tells.{error_next, event_told, line_is, same_at, tells_as}
use Rattle.swi_cached.proofs.Unasked.{line_unasked, told_some, told_unasked}
use Rattle.swi_cached.proofs.Within.{Within, within, words_within}

device_is : (f : BoardFault) → (f ≡ RamFault → ⊥) → (f ≡ SourceFault) ⊎ (f ≡ SinkFault)
device_is RamFault other = absurd (other refl)
device_is SourceFault other = inl refl
device_is SinkFault other = inr refl

-- the words of so many machine instructions are a front of the run's
front_of : (by : Policy) (v : ImageData) (k : ℕ) (s : Moment) → s.spent ≡ 0 → s.words ≡ [] → (words : List Fetch) → (events by v (cost v k s.flat s.here) s).words ≡ reverse words → (j : ℕ) → j ≤ cost v k s.flat s.here → (before after : RamState) →
    after.fetched_at ≡ since before.sets (events by v j s).words ++ before.fetched_at → FetchedFront words before after
front_of by v k s none empty words whole j le before after fetched =
    let more = words_front by v j (cost v k s.flat s.here) s le in (
      reverse more.0,
      record {
        fetched = reverse (events by v j s).words;
        are = fetched ∙ ap (λ (l : List Fetch). since before.sets l ++ before.fetched_at) (sym (reverse-reverse (events by v j s).words));
        front = sym (reverse-append more.0 (events by v j s).words) ∙ ap (λ (l : List Fetch). reverse l) (sym more.1 ∙ whole) ∙ reverse-reverse words;
      },
    )

module _ {S : Type 0} {k : ServiceOf S} (laws : IsService k) {v : ImageData} {rom : S} {m : Machine} {n : ℕ} {telling : Trace} {before : Around} {b mid : BoardWithDevices S} {lines : ℕ} {history : Option (List ℕ)}
    (boot : Booted k (given_for k v rom m n telling) rom before b) (fresh : IsFresh (k.kept rom)) (none : m.steps ≡ 0) (along : ToldAlong k v telling n lines b mid history) (running : mid.hart.machine.ending ≡ None) (more : mid.hart.machine.steps < n)
    (left : List ℕ) (told : before.devices.input.left ≡ Some left) where
  abbrev by : Policy
  by = k.policy (k.setting rom)

  abbrev c : CachedRun
  c = with_input (given_for k v rom m n telling) left

  abbrev start : Moment
  start = first_moment k v rom m left

  abbrev last : Moment
  last = events by v along.made start

  abbrev steps : ℕ
  steps = mid.hart.machine.steps

  to : ToldTo by (k.span (k.setting rom)) v (is_each telling) n along.made lines start (from_point boot) (point_of k mid) history
  to = led_to boot along left told

  same : (mid.hart.machine.steps ≡ last.flat.machine.steps) × (mid.hart.machine.ending ≡ last.flat.machine.ending)
  same = same_steps v (k.kept mid.rom) last.flat.machine mid.hart.machine mid.hart.control to.tracks.matches

  on : last.flat.machine.ending ≡ None
  on = sym same.1 ∙ running

  here : last.flat ≡ held_run steps start.flat
  here =
      let one = same.0 in
      let many : last.flat.machine.steps - m.steps ≡ steps = omega (arith, one, none) in
      flat_at by v along.made start on ∙ ap (λ (j : ℕ). held_run j start.flat) many

  going : (program_after c steps).machine.ending ≡ None
  going = ap (λ (q : FlatState). q.machine.ending) (sym here) ∙ on

  short : along.made < cost v n start.flat start.here
  short =
      let all : n - m.steps ≡ n = omega (arith, none) in
      let one = same.0 in
      subst (λ (x : ℕ). along.made < cost v x start.flat start.here) all (goes_short by v n along.made start refl (omega (arith, none)) to.going (on, omega (arith, one, more)))

  words_of : (j : ℕ) → (events by v (cost v j start.flat start.here) start).words ≡ reverse (words_after c j)
  words_of j = (is_after by v j start start.here (λ on. refl) refl).words ∙ append-nil (reverse (words_after c j))

  fetched_front : (j : ℕ) → j ≤ suc along.made → (after : RamState) → after.fetched_at ≡ since before.ram.sets (events by v j start).words ++ before.ram.fetched_at → FetchedFront (words_after c n) before.ram after
  fetched_front j le after fetched = (let less = short in front_of by v n start refl refl (words_after c n) (words_of n) j (omega (arith, le, less)) before.ram after fetched)

  -- ---- what was asked of the ram

  within_step : Within by v steps start along.made
  within_step = within by v steps start refl along.made on (let one = same.0 in omega (arith, one, none))

  -- where that of the last machine instruction, or of the one that was broken off, was the last call
  ram_within : (j : ℕ) → along.made ≤ j → j ≤ suc along.made → (after : RamState) → after.fetched_at ≡ since before.ram.sets (events by v j start).words ++ before.ram.fetched_at →
      after.fetches ≡ risen before.ram.fetches (length (events by v j start).words) → after.sets ≡ mid.ram.sets → after.words ≡ mid.ram.words → RamWithin c steps before.ram after
  ram_within j least most after fetched_at fetches sets words =
      let low = within_step.least in
      let high = within_step.most in
      let w = words_within by v start (cost v steps start.flat start.here) j (cost v (suc steps) start.flat start.here) (omega (arith, low, least)) (omega (arith, high, most))
      (words_after c steps) (words_after c (suc steps)) (words_of steps) (words_of (suc steps)) in
      let one : suc steps ≡ steps + 1 = omega arith in
      record {
        more = w.more;
        ahead = w.ahead;
        next = w.next_are ∙ ap (λ (i : ℕ). words_after c i) one;
        fetched_at = fetched_at ∙ ap (λ (l : List Fetch). since before.ram.sets l ++ before.ram.fetched_at) w.are;
        fetches = fetches ∙ ap (λ (l : List Fetch). risen before.ram.fetches (length l)) w.are ∙ ap (λ (i : ℕ). risen before.ram.fetches i) (length-reverse (words_after c steps ++ w.more));
        kept = k.kept mid.rom;
        kept_is = elim within_step.kept [ inl made ↦ inl (to.tracks.kept ∙ made) | inr fell ↦ inr (to.tracks.kept ∙ fell) ];
        sets = sets ∙ to.tracks.ram.sets ∙ ap (λ (i : ℕ). risen before.ram.sets i) (written_run laws boot along fresh left told);
        coherent = subst (λ (l : List ℕ). Coherent v (k.kept mid.rom) (k.span (k.setting rom)) l) (sym words) (coherent_run laws boot along);
        unused = λ i least. ap (λ (l : List ℕ). slice_index l i) words ∙ unused_run laws boot along i least;
      }

  same_line : told_line (is_each telling) mid.hart.machine ≡ told_line (is_each telling) (program_after c steps).machine
  same_line =
      let place = same_at v (k.kept mid.rom) last.flat.machine mid.hart.machine mid.hart.control running to.tracks.matches in
      line_is (is_each telling) mid.hart.machine last.flat.machine place.0 place.1 ∙ ap (λ (q : FlatState). told_line (is_each telling) q.machine) here

  abbrev line : List ℕ
  line = told_line (is_each telling) (program_after c steps).machine

  abbrev written : List ℕ
  written = (next_of (program_after c steps)).error

  -- ---- the error sink failed at the line

  module _ {new : BoardWithDevices S} {fault : BoardFault} (broke : LineBroke (is_each telling) n lines mid new fault) where
    first_line : Tells None (is_each telling) n start.flat steps lines to.error history → to.error ≡ error_by (is_each telling) steps start.flat
    first_line (inl (is, told_all)) = told_all.0
    first_line (inr (is, begun)) = absurd (let one = broke.first in omega (arith, is, one))

    line_failed : (sink : SinkState) → sink ≡ new.devices.error → StreamFailed c SinkFault before (record { ram = mid.ram; devices = (with_sink mid sink).devices })
    line_failed sink is =
        let p = broke.front in
        let told_so = first_line (tells_as mid.hart.machine.ending None (is_each telling) n start.flat steps lines to.error history running to.tells) in
        let front = take p.0 (told_line (is_each telling) (program_after c steps).machine) in
        let piece : Appends mid.devices.error.held sink.held front =
        subst (λ (o : SinkState). Appends mid.devices.error.held o.held front) (sym is) (subst (λ (l : List ℕ). Appends mid.devices.error.held new.devices.error.held (take p.0 l)) same_line p.1) in
        let told_front : Appends before.devices.error.held sink.held ((error_by (is_each telling) steps start.flat ++ front) ++ []) =
        to_nil before.devices.error.held sink.held (error_by (is_each telling) steps start.flat ++ front)
        (subst (λ (l : List ℕ). Appends before.devices.error.held sink.held (l ++ front)) told_so
        (Appends-append before.devices.error.held mid.devices.error.held sink.held to.error front to.tracks.error piece)) in
        let output_is : Appends before.devices.output.held mid.devices.output.held (program_after c steps).output =
        subst (λ (q : FlatState). Appends before.devices.output.held mid.devices.output.held q.output) here to.tracks.output in
        record {
          failed = record {
            steps = steps;
            fewer = more;
            failed = record {
              fault = inr refl;
              going = going;
              output = (0, to_nil before.devices.output.held mid.devices.output.held (program_after c steps).output output_is);
              error_front = length front;
              error = subst (λ (l : List ℕ). Appends before.devices.error.held sink.held ((error_by (is_each telling) steps start.flat ++ l) ++ [])) (sym (seam p.0 line written)) told_front;
              source = λ e. let bad : ⊥ = cc in absurd bad;
              output_failed = λ rose. absurd (rose (ap (λ (f : Faults). f.output) (quiet_run boot along).0));
              error_failed = λ _. inl (line, refl, told_some (is_each telling) (program_after c steps).machine broke.is_each, output_is, (p.0, told_front));
              unasked = line_unasked (is_each telling) (program_after c steps) {first = faults_of before.devices} {after = faults_of (with_sink mid sink).devices} broke.is_each
                  (ap (λ (f : Faults). f.output) (quiet_run boot along).0);
              taken = [];
              no_more = omega arith;
              input = subst (λ (x : Option (List ℕ)). Consumes (Some (program_after c steps).input) x []) (sym (to.tracks.input ∙ ap (λ (q : FlatState). Some q.input) here)) refl;
            };
          };
          ram = ram_within along.made (omega arith) (omega arith) mid.ram to.tracks.words to.tracks.ram.fetches refl refl;
        }

    pub failed_at_line : Failed c fault before (record { ram = new.ram; devices = new.devices }) × FetchedFront (words_after c n) before.ram new.ram
    failed_at_line = (
      subst (λ (f : BoardFault). Failed c f before (record { ram = new.ram; devices = new.devices })) (sym broke.fault_is)
          (subst (λ (w : BoardWithDevices S). StreamFailed c SinkFault before (record { ram = w.ram; devices = w.devices })) (sym broke.rest)
          (line_failed new.devices.error refl)),
      fetched_front along.made (omega arith) new.ram (ap (λ (w : BoardWithDevices S). w.ram.fetched_at) broke.rest ∙ to.tracks.words),
    )

  -- ---- a device failed behind it

  module _ {new : BoardWithDevices S} {fault : BoardFault} (broke : StepBroke k v (is_each telling) n along.made b mid new fault) where
    begun : BegunTo by (k.span (k.setting rom)) v (is_each telling) along.made steps start (from_point boot) (point_of k (with_sink mid broke.sink)) broke.history
    begun =
        let starts = led_from in
        subst (λ (s : Setting). BegunTo (k.policy s) (k.span s) v (is_each telling) along.made steps start (from_point boot) (point_of k (with_sink mid broke.sink)) broke.history) (setting_is boot)
        (broke.begun start (from_point boot) starts)
      where
        led_from : Tracks (k.span (k.setting b.rom)) v start (from_point boot) (point_of k b)
        led_from = subst (λ (s : Setting). Tracks (k.span s) v start (from_point boot) (point_of k b)) (sym (setting_is boot)) (begins boot left told)

    setting_mid : k.setting mid.rom ≡ k.setting rom
    setting_mid = along.stays.setting ∙ setting_is boot

    tracks_mid : Tracks (k.span (k.setting mid.rom)) v (with_errors begun.error last) (from_point boot) (point_of k (with_sink mid broke.sink))
    tracks_mid = subst (λ (s : Setting). Tracks (k.span s) v (with_errors begun.error last) (from_point boot) (point_of k (with_sink mid broke.sink))) (sym setting_mid) begun.tracks

    what_broke : Broke by v fault (with_errors begun.error last) (from_point boot) (point_of k new)
    what_broke = subst (λ (s : Setting). Broke (k.policy s) v fault (with_errors begun.error last) (from_point boot) (point_of k new)) setting_mid
        (broke_off k laws v n (with_sink mid broke.sink) new fault along.stays.sound broke.broke (with_errors begun.error last) (from_point boot) tracks_mid)

    faults_so_far : faults_of (with_sink mid broke.sink).devices ≡ faults_of before.devices
    faults_so_far = ap {B = Faults} (λ (f : ℕ). record { input = mid.devices.input.faults; output = mid.devices.output.faults; error = f }) broke.quiet ∙ (quiet_run boot along).0

    next_words : (event by v (with_errors begun.error last)).words ≡ (events by v (suc along.made) start).words
    unfolding events
    next_words = elim (event_told by v begun.error last) [
      | inl same ↦ ap (λ (q : Moment). q.words) same.0
      | inr step ↦ ap (λ (q : Moment). q.words) step.0
    ]

    -- the input or a sink
    device_failed : (f : BoardFault) → fault ≡ f → (f ≡ RamFault → ⊥) → DeviceBroke by v f (with_errors begun.error last) (from_point boot) (point_of k new) →
        StreamFailed c f before (record { ram = new.ram; devices = new.devices })
    device_failed f is other d =
        let asked = off_unasked k v n (with_sink mid broke.sink) new fault (λ e. other (sym is ∙ e)) along.stays.sound broke.broke (with_errors begun.error last) (from_point boot) tracks_mid in
        let order = off_in_order k v n (with_sink mid broke.sink) new fault (λ e. other (sym is ∙ e)) along.stays.sound broke.broke (with_errors begun.error last) (from_point boot) tracks_mid in
        let output_is : Appends before.devices.output.held new.devices.output.held ((program_after c steps).output ++ take d.output_front (next_of (program_after c steps)).output) =
        subst (λ (q : FlatState). Appends before.devices.output.held new.devices.output.held (q.output ++ take d.output_front (next_of q).output)) here d.output in
        let begun_is : begun.error ≡ error_by (is_each telling) steps start.flat ++ line = begun.begun.0 in
        let as_begun : Appends before.devices.error.held new.devices.error.held begun.error → Appends before.devices.error.held new.devices.error.held ((error_by (is_each telling) steps start.flat ++ line) ++ []) =
        λ held. to_nil before.devices.error.held new.devices.error.held (error_by (is_each telling) steps start.flat ++ line)
        (subst (λ (l : List ℕ). Appends before.devices.error.held new.devices.error.held l) begun_is held) in
        record {
          failed = record {
            steps = steps;
            fewer = more;
            failed = record {
              fault = device_is f other;
              going = going;
              output = (d.output_front, output_is);
              error_front = length line + d.error_front;
              error = to_nil before.devices.error.held new.devices.error.held (error_by (is_each telling) steps start.flat ++ take (length line + d.error_front) (line ++ written))
                  (subst (λ (l : List ℕ). Appends before.devices.error.held new.devices.error.held l)
                  (ap (λ (l : List ℕ). l ++ take d.error_front (next_of last.flat).error) begun.begun.0
                  ∙ append_assoc (error_by (is_each telling) steps start.flat) line (take d.error_front (next_of last.flat).error)
                  ∙ ap (λ (q : FlatState). error_by (is_each telling) steps start.flat ++ (line ++ take d.error_front (next_of q).error)) here
                  ∙ ap (λ (l : List ℕ). error_by (is_each telling) steps start.flat ++ l) (sym (take-append-add line written d.error_front)))
                  d.error);
              source = λ e. let fronts = d.unwritten e in (
                front_none before.devices.output.held new.devices.output.held (program_after c steps).output (next_of (program_after c steps)).output d.output_front fronts.0 output_is,
                as_begun (front_none before.devices.error.held new.devices.error.held begun.error (next_of last.flat).error d.error_front fronts.1 d.error),
              );
              output_failed = λ rose. as_begun (order.output_failed (λ same. rose (same ∙ ap (λ (f : Faults). f.output) faults_so_far)));
              error_failed = λ rose. inr (subst (λ (q : FlatState). Appends before.devices.output.held new.devices.output.held (q.output ++ (next_of q).output)) here
                  (order.error_failed (λ same. rose (same ∙ ap (λ (f : Faults). f.error) faults_so_far))));
              taken = d.taken;
              input = subst (λ (q : FlatState). Consumes (Some q.input) new.devices.input.left d.taken) here d.input;
              no_more = let few = subst (λ (q : FlatState). length d.taken + length (next_of q).input ≤ length q.input) here d.few in omega (arith, few);
              unasked = told_unasked (is_each telling) {q = last.flat} {s = program_after c steps} {first = faults_of before.devices} {before = faults_of (with_sink mid broke.sink).devices} {after = faults_of new.devices} here asked
                  (ap (λ (f : Faults). f.output) faults_so_far) (ap (λ (f : Faults). f.error) faults_so_far);
            };
          };
          ram = ram_within (suc along.made) (omega arith) (omega arith) new.ram
              (d.words ∙ ap (λ (l : List Fetch). since before.ram.sets l ++ before.ram.fetched_at) next_words)
              (d.fetches ∙ ap (λ (l : List Fetch). risen before.ram.fetches (length l)) next_words)
              (d.sets ∙ sym to.tracks.ram.sets) (unserved fault (λ e. other (sym is ∙ e)) broke.broke.broke.unserved).2;
        }
      where
        unserved : {P : Type 0} (g : BoardFault) → (g ≡ RamFault → ⊥) → OnDevice {T = Unit} (Err g) P → P
        unserved {P} RamFault never p = absurd (never refl)
        unserved {P} SourceFault never p = p
        unserved {P} SinkFault never p = p

    -- the ram: where machine instructions have led whose words were fetched
    ram_failed_at : (r : RamBroke by v (with_errors begun.error last) (from_point boot) (point_of k new)) (j : ℕ) → j ≤ suc along.made → (error : List ℕ) → r.reached ≡ with_errors error (events by v j start) → (at : ℕ) → (events by v j start).flat ≡ held_run at start.flat →
        (lined : Bool) → error ≡ error_by (is_each telling) at start.flat ++ (if lined then told_line (is_each telling) (held_run at start.flat).machine else []) →
        RamFailed c before (record { ram = new.ram; devices = new.devices }) × FetchedFront (words_after c n) before.ram new.ram
    ram_failed_at r j le error is at flat lined error_is =
        let on : (events by v j start).flat.machine.ending ≡ None = ap (λ (q : Moment). q.flat.machine.ending) (sym is) ∙ r.running in
        let inside : (events by v j start).here ≡ None → ⊥ = λ empty. r.inside (ap (λ (q : Moment). q.here) is ∙ empty) in
        let less = short in
        let most = most_fetched by v n start refl j (omega (arith, le, less)) on inside in
        let count = ap (λ (q : FlatState). q.machine.steps) flat in
        let made = steps_are at start.flat (ap (λ (q : FlatState). is_some q.machine.ending) (sym flat) ∙ ap (λ (e : Option End). is_some e) on) in
        let mosts = most.steps_are in
        let same_at : most.steps ≡ at = omega (arith, count, made, mosts) in
        let words : new.ram.fetched_at ≡ since before.ram.sets (events by v j start).words ++ before.ram.fetched_at = r.words ∙ ap (λ (q : Moment). since before.ram.sets q.words ++ before.ram.fetched_at) is in (
          record {
            fetched = length (events by v j start).words;
            fetches = r.fetches ∙ ap (λ (q : Moment). risen before.ram.fetches (length q.words)) is;
            steps = at;
            within = (let few = most.within in omega (arith, few, same_at));
            enough = (let enough = most.enough in subst (λ (x : ℕ). fetches_after c x ≤ length (events by v j start).words) same_at (omega (arith, enough)));
            longest = λ fewer. (let longest = most.longest (let lt = fewer in omega (arith, lt, same_at)) in subst (λ (x : ℕ). length (events by v j start).words < fetches_after c (x + 1)) same_at (omega (arith, longest)));
            output = subst (λ (q : FlatState). Appends before.devices.output.held new.devices.output.held q.output) flat
                (subst (λ (q : Moment). Appends before.devices.output.held new.devices.output.held q.flat.output) is r.output);
            begun = lined;
            error = subst (λ (l : List ℕ). Appends before.devices.error.held new.devices.error.held l) error_is
                (subst (λ (q : Moment). Appends before.devices.error.held new.devices.error.held q.flat.error) is r.error);
            input = r.input ∙ ap (λ (q : Moment). Some q.flat.input) is ∙ ap (λ (q : FlatState). Some q.input) flat;
            last_failed = r.last_failed;
          },
          fetched_front j le new.ram words,
        )

    ram_failed : RamBroke by v (with_errors begun.error last) (from_point boot) (point_of k new) →
        RamFailed c before (record { ram = new.ram; devices = new.devices }) × FetchedFront (words_after c n) before.ram new.ram
    unfolding events
    ram_failed r = elim r.is [
      | inl is ↦ ram_failed_at r along.made (omega arith) begun.error is steps here true begun.begun.0
      | inr is ↦ elim (event_told by v begun.error last) [
        | inl same ↦ ram_failed_at r (suc along.made) (omega arith) begun.error (is ∙ same.0) steps (same.1 ∙ here) true begun.begun.0
        | inr step ↦
            ram_failed_at r (suc along.made) (omega arith) (begun.error ++ (held_made last.flat.machine last.flat.input).error) (is ∙ step.0) (suc steps)
            (step.1 ∙ ap (λ (q : FlatState). held_step q) here ∙ sym (run_snoc steps start.flat (ap (λ (e : Option End). is_some e) going))) false
            (ap (λ (l : List ℕ). l ++ (held_made last.flat.machine last.flat.input).error) begun.begun.0
            ∙ append_assoc (error_by (is_each telling) steps start.flat) line (held_made last.flat.machine last.flat.input).error
            ∙ ap (λ (q : FlatState). error_by (is_each telling) steps start.flat ++ (line ++ (held_made q.machine q.input).error)) here
            ∙ sym (error_next (is_each telling) steps start.flat going) ∙ sym (append-nil (error_by (is_each telling) (suc steps) start.flat)))
      ]
    ]

    pub failed_at_step : Failed c fault before (record { ram = new.ram; devices = new.devices }) × FetchedFront (words_after c n) before.ram new.ram
    failed_at_step = by_fault fault refl what_broke
      where
        by_fault : (f : BoardFault) → fault ≡ f → Broke by v f (with_errors begun.error last) (from_point boot) (point_of k new) →
            Failed c f before (record { ram = new.ram; devices = new.devices }) × FetchedFront (words_after c n) before.ram new.ram
        by_fault RamFault is r = ram_failed r
        by_fault SourceFault is d = (device_failed SourceFault is (λ e. let bad : ⊥ = cc in bad) d, fetched_front (suc along.made) (omega arith) new.ram (d.words ∙ ap (λ (l : List Fetch). since before.ram.sets l ++ before.ram.fetched_at) next_words))
        by_fault SinkFault is d = (device_failed SinkFault is (λ e. let bad : ⊥ = cc in bad) d, fetched_front (suc along.made) (omega arith) new.ram (d.words ∙ ap (λ (l : List Fetch). since before.ram.sets l ++ before.ram.fetched_at) next_words))
