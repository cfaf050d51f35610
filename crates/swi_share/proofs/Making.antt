-- A run of one step makes an event.
use Rattle.std.proofs.Common.{◌≡◌, ℕ, ◌+◌, ◌-◌, ◌*◌, ◌<◌, ◌≤◌, ◌^◌, Bool, true, false, not, List, [], Option, Some, None, is_some, if◌then◌else◌, Result, Ok, Err, IsErrOf, arith, refl, sym, ◌∙◌, ap, subst, inl, inr}
use Rattle.std.proofs.lemmas.Bool.{false≢true, and_from, eq-eqb}
use Rattle.std.proofs.lemmas.Option.{same_Some}
use Rattle.swi_calls.specs.declared.end.End.{End}
use Rattle.swi_calls.specs.declared.machine.Machine.{Machine}
use Rattle.swi_calls.specs.Flat.{started}
use Rattle.swi_calls.specs.Held.{held_run}
use Rattle.swi_calls.specs.State.{FlatState}
use Rattle.swi_image.specs.Format.{ImageData}
use Rattle.swi_image.specs.Place.{place_of}
use Rattle.swi_rom.specs.Record.{Record, writes}
use Rattle.swi_rom.specs.Coherent.{Coherent}
use Rattle.swi_rom.specs.Rams.{risen_more}
use Rattle.swi_rom.specs.Service.{Setting}
use Rattle.swi_rom.specs.Served.{Keeps, SameFrom}
use Rattle.swi_slots.specs.Coheres.{coheres}
use Rattle.swi_slots.specs.Fifo.{fifo, extent_of}
use Rattle.swi_slots.specs.Laws.{slots_laws}
use Rattle.swi_slots.specs.Service.{slots_service}
use Rattle.swi_slots.specs.Slots.{Slots, kept_by, setting_of, span_of}
use Rattle.swi_hart.specs.declared.hart.Stage.TheVariants.{Start, Low, Return, Leave}
use Rattle.swi_hart.specs.declared.hart.Control.{Control}
use Rattle.swi_hart.specs.declared.hart.Control.TheVariants.{At, Outside}
use Rattle.swi_hart.specs.Hart.{HartData, is_between, is_place, is_fall, place_under}
use Rattle.swi_hart.specs.Bounds.{depth, most, most_by}
use Rattle.swi_hart.specs.Leaving.{RamFailed, RamServed}
use Rattle.swi_hart.specs.Matching.{StandsBy, Fits}
use Rattle.swi_hart.specs.declared.fault.BoardFault.{BoardFault}
use Rattle.swi_hart.specs.declared.fault.BoardFault.TheVariants.{RamFault, SourceFault, SinkFault}
use Rattle.swi_board.specs.Board.{BoardOf, BoardWithDevices, entries}
use Rattle.swi_board.specs.BoardRan.{Along, BoardRan, BoardStays, BrokeOff}
use Rattle.swi_board.specs.Fetching.{HasFetched, words_run}
use Rattle.swi_board.specs.Moments.{GoesOn, Moment, events}
use Rattle.swi_board.specs.Ran.{RamRan, Unasked, next_of}
use Rattle.swi_board.specs.Tracking.{Came, Tracks, point_of}
use Rattle.swi_board.specs.Transfers.{Here, here_of, here_run, transfers, cost, fetches}
use Rattle.swi_board.proofs.Along.{same_between, with_source}
use Rattle.swi_board.proofs.Held.{same_steps}
use Rattle.swi_board.proofs.Tracks.{kept_both}
use Rattle.swi_run_laws.specs.Broken.{Broke}
use Rattle.swi_run_laws.specs.Runs.{RanSteps}
use Rattle.swi_run_laws.proofs.Broken.{broke_off, off_unasked}
use Rattle.swi_run_laws.proofs.RunLaws.{goes_short}
use Rattle.swi_run_laws.proofs.Runs.{ran_steps}
use Rattle.swi_outside.specs.CacheRam.{Fetch, KeepsBeyond, RamState}
use Rattle.swi_outside.specs.Causes.{Rose, risen}
use Rattle.swi_outside.specs.Devices.{Faults, HasCauses, faults_of}
use Rattle.swi_outside.specs.Laws.{Appends-none, cause_as, cause_from, causes_from, named_as}
use Rattle.swi_outside.specs.Source.{HasGiven}
use Rattle.swi_outside.specs.Told.{AsTold}
use Rattle.swi_outside.proofs.ToldLemmas.{as_told_said}
use Rattle.swi_share.specs.Waiting.{WaitsAt, Holds, Waits, most_steps}
use Rattle.swi_share.specs.Shared.{Context, Event, place_by, enters, begun_if, step_event}
use Rattle.swi_share.specs.Event.{Boarded, EventDevices, EventMade, HartEvent, StepBroke, board_with, context, devices_of, event_at, instructions_from, moment_by, moment_of, point_with}
use Rattle.swi_share.proofs.Few.{Counted, run_counted, bounded_after, entered_services, entered_writes, all_writes, all_extent}
use Rattle.swi_share.proofs.Later.{fetched_both, words_later}

place_told : (e : Option End) (v : ImageData) (m : Machine) (c : Control) (here : Here) → (e ≡ None → is_between c ≡ true) → (e ≡ None → here_of v m c ≡ here) → place_under e c ≡ place_by e here
place_told (Some e) v m c here between is = refl
place_told None v m (At i b o Start) here between is = is refl
place_told None v m (At i b o Low) here between is = absurd (false≢true (between refl))
place_told None v m (At i b o Return) here between is = absurd (false≢true (between refl))
place_told None v m (At i b o Leave) here between is = absurd (false≢true (between refl))
place_told None v m Outside here between is = is refl

-- ---- where control waits

waits_at : (v : ImageData) (r : Record) (m : Machine) (c : Control) → is_between c ≡ true → StandsBy None v r m c → WaitsAt v m.pc c
waits_at v r m (At i b o Start) t s = s.1
waits_at v r m (At i b o Low) t s = absurd (false≢true t)
waits_at v r m (At i b o Return) t s = absurd (false≢true t)
waits_at v r m (At i b o Leave) t s = absurd (false≢true t)
waits_at v r m Outside t s = s

holds_at : (v : ImageData) (r : Record) (span : ℕ) (words : List ℕ) (m : Machine) (c : Control) → Coherent v r span words → is_between c ≡ true → StandsBy None v r m c → Holds r c
holds_at v r span words m (At i b o Start) coherent t s = λ g h. s.0.2 ∙ ap (λ (x : ℕ). x + o) (coherent.once b s.0.0 g s.0.1 h)
holds_at v r span words m (At i b o Low) coherent t s = absurd (false≢true t)
holds_at v r span words m (At i b o Return) coherent t s = absurd (false≢true t)
holds_at v r span words m (At i b o Leave) coherent t s = absurd (false≢true t)
holds_at v r span words m Outside coherent t s = tt

going_on : (e : Option End) (v : ImageData) (r : Record) (m : Machine) (c : Control) → e ≡ None → StandsBy e v r m c → StandsBy None v r m c
going_on None v r m c is a = a
going_on (Some x) v r m c is a = absurd (cc)

-- a hart that fits its image waits for its next event
waits : (v : ImageData) (r : Record) (span : ℕ) (words : List ℕ) (h : HartData) → Coherent v r span words → (h.machine.ending ≡ None → is_between h.control ≡ true) → Fits v r h → h.failed ≡ false →
    h.booted ≡ true → h.count ≤ most_steps h.machine.ending h.machine.steps → Waits v r h
waits v r span words h coherent between fits unfailed booted bounded = record {
  image = fits.image;
  unfailed = unfailed;
  between = between;
  stands = λ _ going. waits_at v r h.machine h.control (between going) (going_on h.machine.ending v r h.machine h.control going fits.place);
  holds = λ _ going. holds_at v r span words h.machine h.control coherent (between going) (going_on h.machine.ending v r h.machine h.control going fits.place);
  bounded = bounded;
  unbooted = λ no. absurd (false≢true (sym no ∙ booted));
}

-- ---- machine instructions

shallow : (v : ImageData) (m : Machine) (c : Control) → is_between c ≡ true → depth v m c ≤ 1
shallow v m (At i b o Start) t = by (is_fall v m b o Start)
  where
    by : (t : Bool) → (if t then 0 else 1) ≤ 1
    by true = omega arith
    by false = omega arith
shallow v m (At i b o Low) t = absurd (false≢true t)
shallow v m (At i b o Return) t = absurd (false≢true t)
shallow v m (At i b o Leave) t = absurd (false≢true t)
shallow v m Outside t = omega arith

abbrev deep : Bool → ℕ
deep t = if not t then 0 else 1

-- control that has come to its address's place is at no exit behind a block's last text word
at_place : (v : ImageData) (m : Machine) (c : Control) → is_between c ≡ true → here_of v m c ≡ place_of v m.pc → depth v m c ≡ 1
at_place v m (At i b o Start) t is = ap (λ (p : Here). deep (is_place p b o)) (sym is) ∙ ap deep (and_from _ _ (eq-eqb b b refl) (eq-eqb o o refl))
at_place v m (At i b o Low) t is = absurd (false≢true t)
at_place v m (At i b o Return) t is = absurd (false≢true t)
at_place v m (At i b o Leave) t is = absurd (false≢true t)
at_place v m Outside t is = refl

entry_by : (t : Bool) (c : Context) (v : ImageData) (control : Control) (count : ℕ) → is_between control ≡ true → c.image ≡ v →
    begun_if t c ≡ record c { booted = true; place = here_of v c.machine control; count = count } → count ≤ c.count + depth v c.machine control
entry_by false c v control count between own is = omega (arith, ap (λ (x : Context). x.count) is)
entry_by true c v control count between own is =
    let counted : c.count + entries c.image c.machine.pc ≡ count = ap (λ (x : Context). x.count) is in
    let place : place_of c.image c.machine.pc ≡ here_of v c.machine control = ap (λ (x : Context). x.place) is in
    let one : depth v c.machine control ≡ 1 = at_place v c.machine control between (sym place ∙ ap (λ (x : ImageData). place_of x c.machine.pc) own) in
    let few : entries c.image c.machine.pc ≤ 1 = by (is_some (place_of c.image c.machine.pc)) in
    omega (arith, counted, one, few)
  where
    by : (t : Bool) → (if t then 1 else 0) ≤ 1
    by true = omega arith
    by false = omega arith

-- what entering anew raises
entry_few : (v : ImageData) (old b : BoardOf Slots) → Boarded v old b → b.hart.count ≤ old.hart.count + depth v old.hart.machine b.hart.control
entry_few v old b is = entry_by (enters (kept_by old.rom) (context old.hart v [])) (context old.hart v []) v b.hart.control b.hart.count is.between refl (is.begun [])

most_running : (e : Option End) (v : ImageData) (m : Machine) (c : Control) → e ≡ None → most_by e v m c ≡ 3 * m.steps + depth v m c
most_running None v m c is = refl
most_running (Some x) v m c is = absurd (cc)

-- the count that a run of one step leaves
bounded : (v : ImageData) (left : List ℕ) (old b : BoardOf Slots) (h : HartData) → Waits v (kept_by old.rom) old.hart → old.hart.machine.ending ≡ None → Boarded v old b →
    h.machine ≡ (held_run 1 (started old.hart.machine left)).machine → (h.machine.ending ≡ None → is_between h.control ≡ true) →
    h.count + most v b.hart.machine b.hart.control ≤ b.hart.count + most v h.machine h.control → h.count ≤ most_steps h.machine.ending h.machine.steps
bounded v left old b h waits going is machine between le =
    let same : b.hart.machine ≡ old.hart.machine = ap (λ (x : HartData). x.machine) is.hart in
    let first : most v b.hart.machine b.hart.control ≡ 3 * old.hart.machine.steps + depth v old.hart.machine b.hart.control =
    ap (λ (m : Machine). most v m b.hart.control) same ∙ most_running old.hart.machine.ending v old.hart.machine b.hart.control going in
    let at_first : old.hart.count ≤ 4 * old.hart.machine.steps = subst (λ (e : Option End). old.hart.count ≤ most_steps e old.hart.machine.steps) going waits.bounded in
    let counted : Counted old.hart.machine.steps h.machine = subst (λ (m : Machine). Counted old.hart.machine.steps m) (sym machine) (run_counted old.hart.machine left going) in
    bounded_after h.machine.ending v h.machine h.control old.hart.machine.steps h.count refl (λ none. shallow v h.machine h.control (between none))
    (omega (arith, le, first, at_first, entry_few v old b is)) counted

-- ---- the event

-- the event, from where the hart makes its step
pub event_is : (v : ImageData) (left : List ℕ) (old b : BoardOf Slots) → Boarded v old b →
    event_at old v left ≡ step_event (setting_of old.rom) (writes (kept_by b.rom) - writes (kept_by old.rom)) (kept_by b.rom) (record (context old.hart v left) { booted = true; place = here_of v old.hart.machine b.hart.control; count = b.hart.count })
event_is v left old b is =
    let c = context old.hart v left in
    ap (λ (r : Record). step_event (setting_of old.rom) (writes r - writes (kept_by old.rom)) r (begun_if (enters (kept_by old.rom) c) c)) (sym (is.kept left))
    ∙ ap (λ (x : Context). step_event (setting_of old.rom) (writes (kept_by b.rom) - writes (kept_by old.rom)) (kept_by b.rom) x) (is.begun left)

-- and where its machine instructions begin
abbrev pub begun_moment : ImageData → List ℕ → BoardOf Slots → BoardOf Slots → Moment
begun_moment v left old b =
    moment_by (kept_by old.rom) (kept_by b.rom) (record (context old.hart v left) { booted = true; place = here_of v old.hart.machine b.hart.control; count = b.hart.count })

pub moment_is : (v : ImageData) (left : List ℕ) (old b : BoardOf Slots) → Boarded v old b → moment_of (setting_of old.rom) (kept_by old.rom) (context old.hart v left) ≡ begun_moment v left old b
moment_is v left old b is =
    let c = context old.hart v left in
    ap (λ (r : Record). moment_by (kept_by old.rom) r (begun_if (enters (kept_by old.rom) c) c)) (sym (is.kept left))
    ∙ ap (λ (x : Context). moment_by (kept_by old.rom) (kept_by b.rom) x) (is.begun left)

-- ---- the run of one step

-- the hart has come to make its step, and its service has set so many words
pub record Entry (v : ImageData) (old b : BoardOf Slots) (before mid : RamState) : Type 0 where
  pub waited : Waits v (kept_by old.rom) old.hart
  pub going : old.hart.machine.ending ≡ None
  pub boarded : Boarded v old b
  pub setting : setting_of b.rom ≡ setting_of old.rom
  pub ram : RamServed (span_of (setting_of old.rom)) (writes (kept_by b.rom) - writes (kept_by old.rom)) before mid
  pub unused : SameFrom (extent_of (setting_of old.rom) (kept_by b.rom)) before.words mid.words
  pub keeps : Keeps slots_service v old.rom b.rom before.words mid.words

-- the board with the devices of an event, whose input gave these bytes before; and so before its run
abbrev pub board_on : BoardOf Slots → EventDevices → List ℕ → BoardWithDevices Slots
board_on b d given = record (board_with b d) { devices = record (devices_of d) { input = record { given = given; left = Some d.left; faults = 0 } } }

abbrev pub boarded_with : BoardOf Slots → EventDevices → List ℕ → RamState → BoardWithDevices Slots
boarded_with b before given mid = board_on b (record before { ram = mid }) given

risen_none : (n : ℕ) → n ≡ risen n 0
risen_none n = grind arith

module _ (v : ImageData) (old b : BoardOf Slots) (before : EventDevices) (given given' : List ℕ) (mid : RamState) (entry : Entry v old b before.ram mid) (n : ℕ) (one : n ≡ old.hart.machine.steps + 1) where
  abbrev by : Setting
  by = setting_of old.rom

  abbrev flat : FlatState
  flat = started old.hart.machine before.left

  abbrev here : Here
  here = here_of v old.hart.machine b.hart.control

  steps_same : b.hart.machine.steps ≡ old.hart.machine.steps
  steps_same = ap (λ (h : HartData). h.machine.steps) entry.boarded.hart

  -- the run came to its end, and left hart and service so
  module _ (new : BoardOf Slots) (after : EventDevices) {u : Unit} (ran : BoardRan slots_service v n (boarded_with b before given mid) (board_on new after given') (Ok u)) where
    abbrev done : FlatState
    done = held_run 1 flat

    stays : BoardStays slots_service v n (boarded_with b before given mid) (board_on new after given')
    stays = subst (λ (w : BoardWithDevices Slots). BoardStays slots_service v n (boarded_with b before given mid) w) (sym ran.ends.0) ran.along.stays

    made : RanSteps (fifo by) v 1 flat (point_of slots_service (boarded_with b before given mid)) (point_with new after)
    made =
        let same = steps_same in
        let all : n - b.hart.machine.steps ≡ 1 = omega (arith, one, same) in
        subst (λ (s : Setting). RanSteps (fifo s) v 1 flat (point_of slots_service (boarded_with b before given mid)) (point_with new after)) entry.setting
        (subst (λ (k : ℕ). RanSteps (fifo (setting_of b.rom)) v k flat (point_of slots_service (boarded_with b before given mid)) (point_with new after)) all
        (ran_steps slots_service v (boarded_with b before given mid) before.left refl old.hart.machine entry.waited.image entry.boarded.matches n (board_on new after given') u ran (omega (arith, one, same)) entry.boarded.spent))

    machine : new.hart.machine ≡ done.machine
    machine = same_between v (kept_by new.rom) done.machine new.hart.machine new.hart.control made.between made.matches

    ending : new.hart.machine.ending ≡ done.machine.ending
    ending = ap (λ (m : Machine). m.ending) machine

    place : place_under new.hart.machine.ending new.hart.control ≡ place_by done.machine.ending (here_run v 1 flat here)
    place =
        ap (λ (e : Option End). place_under e new.hart.control) ending
        ∙ place_told done.machine.ending v done.machine new.hart.control (here_run v 1 flat here) (λ on. made.between (ending ∙ on)) (λ on. made.here_is (ending ∙ on))

    booted : new.hart.booted ≡ true
    booted = stays.point.booted ∙ ap (λ (h : HartData). h.booted) entry.boarded.hart

    further : extent_of by (kept_by b.rom) ≤ extent_of by (kept_by new.rom)
    further = omega (arith, all_extent by v (kept_by b.rom) (transfers v 1 flat here), ap (λ (r : Record). extent_of by r) made.record_is)

    up : (writes (kept_by old.rom) ≤ writes (kept_by b.rom)) × (writes (kept_by b.rom) ≤ writes (kept_by new.rom))
    up = (
      omega (arith, entered_writes (enters (kept_by old.rom) (context old.hart v before.left)) by (kept_by old.rom) (context old.hart v before.left), ap (λ (r : Record). writes r) (entry.boarded.kept before.left)),
      omega (arith, all_writes by v (kept_by b.rom) (transfers v 1 flat here), ap (λ (r : Record). writes r) made.record_is),
    )

    ram : RamRan (span_of by) (fetches v 1 flat here) (writes (kept_by new.rom) - writes (kept_by old.rom)) before.ram after.ram
    ram =
        let more = up in
        let first = more.0 in
        let last = more.1 in
        record {
          quiet = stays.point.ram.quiet ∙ entry.ram.quiet;
          fetches = made.fetches_are ∙ ap (λ (x : ℕ). risen x (fetches v 1 flat here)) entry.ram.fetches_stay;
          sets = stays.point.ram.sets ∙ ap (λ (x : ℕ). risen x (writes (kept_by new.rom) - writes (kept_by b.rom))) entry.ram.sets_rise
              ∙ risen_more before.ram.sets (writes (kept_by b.rom) - writes (kept_by old.rom)) (writes (kept_by new.rom) - writes (kept_by b.rom)) ∙ ap (λ (x : ℕ). risen before.ram.sets x) (omega (arith, first, last));
          kept = kept_both (span_of by) before.ram mid after.ram entry.ram.kept (subst (λ (k : Setting). KeepsBeyond (span_of k) mid after.ram) entry.setting stays.point.ram.kept);
        }

    rests : Waits v (kept_by new.rom) new.hart
    rests = waits v (kept_by new.rom) (span_of (setting_of new.rom)) after.ram.words new.hart (coheres new.rom v after.ram.words stays.sound) made.between stays.point.fits
        (stays.point.failed ∙ ap (λ (h : HartData). h.failed) entry.boarded.hart ∙ entry.waited.unfailed) booted
        (bounded v before.left old b new.hart entry.waited entry.going entry.boarded machine made.between stays.point.count)

    told : (h : HartData) (input : List ℕ) (m : Machine) (place : Here) (count : ℕ) → h.machine ≡ m → h.booted ≡ true → place_under h.machine.ending h.control ≡ place → h.count ≡ count →
        let c : Context = record { image = v; machine = m; input = input; booted = true; place = place; count = count } in context h v input ≡ c
    told h input m place count machine booted is counted =
        ap (λ (p : Here). let x : Context = record { image = v; machine = h.machine; input = input; booted = h.booted; place = p; count = h.count } in x) is
        ∙ ap (λ (k : Machine). let x : Context = record { image = v; machine = k; input = input; booted = h.booted; place = place; count = h.count } in x) machine
        ∙ ap (λ (t : Bool). let x : Context = record { image = v; machine = m; input = input; booted = t; place = place; count = h.count } in x) booted
        ∙ ap (λ (n : ℕ). let x : Context = record { image = v; machine = m; input = input; booted = true; place = place; count = n } in x) counted

    -- the words of the event, which begins with the sets of the entry
    words : HasFetched (words_run (fifo by) v 1 flat here (record { kept = kept_by b.rom; sets = writes (kept_by b.rom) - writes (kept_by old.rom) })) before.ram after.ram
    words =
        let entered = writes (kept_by b.rom) - writes (kept_by old.rom) in
        let own = words_run (fifo by) v 1 flat here (record { kept = kept_by b.rom; sets = 0 }) in
        subst (λ (l : List Fetch). HasFetched l before.ram after.ram) (sym (words_later (fifo by) v 1 flat here (kept_by b.rom) entered))
        (fetched_both entered [] own before.ram mid after.ram entry.ram.sets_rise entry.ram.fetched_at_stays made.words)

    made_as : EventMade v (step_event by (writes (kept_by b.rom) - writes (kept_by old.rom)) (kept_by b.rom) (record (context old.hart v before.left) { booted = true; place = here; count = b.hart.count })) old new before after
    made_as =
        let unused = subst (λ (k : Setting). SameFrom (extent_of k (kept_by new.rom)) mid.words after.ram.words) entry.setting stays.unused in
        let extents = further in
        record {
          context = told new.hart done.input done.machine _ _ machine booted place made.cost_is;
          kept = made.record_is;
          input = same_Some after.left done.input made.input;
          output = made.output;
          error = made.error;
          ram = subst (λ (r : Record). RamRan (span_of by) (fetches v 1 flat here) (writes r - writes (kept_by old.rom)) before.ram after.ram) made.record_is ram;
          words = words;
          unused = subst (λ (r : Record). SameFrom (extent_of by r) before.ram.words after.ram.words) made.record_is (λ i le. unused i le ∙ entry.unused i (omega (arith, extents, le)));
          waits = subst (λ (r : Record). Waits v r new.hart) made.record_is rests;
          setting = stays.setting ∙ entry.setting;
          keeps = λ images serves. stays.keeps images (entry.keeps images serves);
          quiet = record { output = ap (λ (f : Faults). f.output) stays.quiet; error = ap (λ (f : Faults). f.error) stays.quiet };
        }

    pub made_event : EventMade v (event_at old v before.left) old new before after
    made_event = subst (λ (e : Event). EventMade v e old new before after) (sym (event_is v before.left old b entry.boarded)) made_as

  -- ---- a device broke it off

  module _ (now : BoardWithDevices Slots) (along : Along slots_service v n (boarded_with b before given mid) now) (fault : BoardFault) (new : BoardOf Slots) (after : EventDevices) (off : BrokeOff slots_service v n now (board_on new after given') fault) where
    abbrev start : Moment
    start = begun_moment v before.left old b

    abbrev reached : Moment
    reached = events (fifo by) v along.made start

    begins : Tracks (span_of by) v start (point_with new before) (point_of slots_service (boarded_with b before given mid))
    begins = record {
      image = entry.waited.image;
      matches = entry.boarded.matches;
      here = λ still. refl;
      spent = entry.boarded.spent;
      kept = refl;
      count = refl;
      input = refl;
      output = Appends-none before.out.held;
      error = Appends-none before.err.held;
      words = entry.ram.fetched_at_stays;
      ram = record {
        quiet = entry.ram.quiet;
        fetches = entry.ram.fetches_stay ∙ risen_none before.ram.fetches;
        sets = entry.ram.sets_rise;
        kept = entry.ram.kept;
      };
    }

    came : Came (fifo by) (span_of by) v n along.made (point_of slots_service (boarded_with b before given mid)) (point_of slots_service now)
    came = subst (λ (s : Setting). Came (fifo s) (span_of s) v n along.made (point_of slots_service (boarded_with b before given mid)) (point_of slots_service now)) entry.setting along.came

    tracks : Tracks (span_of by) v reached (point_with new before) (point_of slots_service now)
    tracks = came.tracks start (point_with new before) begins

    goes_on : GoesOn n reached
    goes_on =
        let same = same_steps v (kept_by now.rom) reached.flat.machine now.hart.machine now.hart.control tracks.matches in
        let steps = same.0 in
        let less = off.more in
        (sym same.1 ∙ off.running, omega (arith, steps, less))

    few : along.made < instructions_from v start
    few =
        let all : n - old.hart.machine.steps ≡ 1 = omega (arith, one) in
        subst (λ (k : ℕ). along.made < cost v k start.flat start.here) all (goes_short (fifo by) v n along.made start refl (omega (arith, one)) (came.going start (point_with new before) begins) goes_on)

    setting : setting_of now.rom ≡ by
    setting = along.stays.setting ∙ entry.setting

    tracks_now : Tracks (span_of (setting_of now.rom)) v reached (point_with new before) (point_of slots_service now)
    tracks_now = subst (λ (k : Setting). Tracks (span_of k) v reached (point_with new before) (point_of slots_service now)) (sym setting) tracks

    broke : Broke (fifo by) v fault reached (point_with new before) (point_with new after)
    broke = subst (λ (k : Setting). Broke (fifo k) v fault reached (point_with new before) (point_with new after)) setting
        (broke_off slots_service slots_laws v n now (board_on new after given') fault along.stays.sound off reached (point_with new before) tracks_now)

    unasked : (fault ≡ RamFault → ⊥) → Unasked (next_of reached.flat) (faults_of (devices_of before)) (faults_of (devices_of after))
    unasked other = subst (λ (f : Faults). Unasked (next_of reached.flat) f (faults_of (devices_of after))) along.stays.quiet
        (off_unasked slots_service v n now (board_on new after given') fault other along.stays.sound off reached (point_with new before) tracks_now)

    pub step_broke : StepBroke by (kept_by old.rom) (context old.hart v before.left) fault before after
    step_broke =
        let is : start ≡ moment_of by (kept_by old.rom) (context old.hart v before.left) = sym (moment_is v before.left old b entry.boarded) in
        record {
          made = along.made;
          few = subst (λ (s : Moment). along.made < instructions_from v s) is few;
          given_up = new;
          broke = subst (λ (s : Moment). Broke (fifo by) v fault (events (fifo by) v along.made s) (point_with new before) (point_with new after)) is broke;
          unasked = λ other. subst (λ (s : Moment). Unasked (next_of (events (fifo by) v along.made s).flat) (faults_of (devices_of before)) (faults_of (devices_of after))) is (unasked other);
        }

-- ---- what its answer names

abbrev fault_in : {T : Type 0} → BoardFault → Result T BoardFault → BoardFault
fault_in d (Ok x) = d
fault_in d (Err e) = e

fault_is : {T : Type 0} (fault d : BoardFault) → IsErrOf {T = T} (Err fault) d → fault ≡ d
fault_is {T} fault d e = ap (λ (r : Result T BoardFault). fault_in d r) e

fault_as : {T : Type 0} (fault d : BoardFault) → fault ≡ d → IsErrOf {T = T} (Err fault) d
fault_as {T} fault d e = ap (λ (k : BoardFault). Err k) e

named : {T : Type 0} (fault : BoardFault) {before after : Faults} → HasCauses before after (IsErrOf {T = T} (Err fault) SourceFault) (IsErrOf {T = T} (Err fault) SinkFault) →
    HasCauses before after (fault ≡ SourceFault) (fault ≡ SinkFault)
named {T} fault h = named_as h (fault_is {T = T} fault SourceFault) (fault_as {T = T} fault SourceFault) (fault_is {T = T} fault SinkFault) (fault_as {T = T} fault SinkFault)

-- a count of none that has not risen
never_rose : (n : ℕ) → n ≡ 0 → Rose n 0 → ⊥
never_rose n none rose = at (subst (λ (k : ℕ). Rose k 0) none rose)
  where
    at : Rose 0 0 → ⊥
    at le = grind arith

-- the entry failed
pub entry_broke : (v : ImageData) (old new : BoardOf Slots) (before : EventDevices) (ram : RamState) → ((left : List ℕ) → enters (kept_by old.rom) (context old.hart v left) ≡ true) → (place_of v old.hart.machine.pc ≡ None → ⊥) →
    RamFailed (span_of (setting_of old.rom)) before.ram ram → HartEvent v old new before (record before { ram = ram }) (Err RamFault)
entry_broke v old new before ram anew inside failed = record {
  made = tt;
  broke = record {
    at = inl (record { fault_is = refl; anew = anew before.left; inside = inside; ram = failed; devices = refl });
    fed = λ e. let bad : ⊥ = cc in bad;
    sinks = record { one_later = omega arith; other_later = omega arith; cause = λ e. let bad : ⊥ = cc in absurd bad; one_told = inl refl; other_told = inl refl };
    ram = record { later = failed.later; cause = λ e. failed.rose; told = inr refl };
  };
  kept = failed.kept;
}

module _ (v : ImageData) (old b : BoardOf Slots) (before : EventDevices) (given given' : List ℕ) (mid : RamState) (entry : Entry v old b before.ram mid) (n : ℕ) (one : n ≡ old.hart.machine.steps + 1) (new : BoardOf Slots) (after : EventDevices) where
  abbrev first : BoardWithDevices Slots
  first = boarded_with b before given mid

  abbrev last : BoardWithDevices Slots
  last = board_on new after given'

  -- the run of the board over an input that tells what is left
  abbrev RanOver : Result Unit BoardFault → Type 0
  RanOver result = HasGiven first.devices.input last.devices.input
      × AsTold first.devices.input last.devices.input (λ from to. BoardRan slots_service v n (with_source first from) (with_source last to) result)

  ran_over : (result : Result Unit BoardFault) → RanOver result → BoardRan slots_service v n first last result
  ran_over result (gave, ran) = as_told_said (λ from to. BoardRan slots_service v n (with_source first from) (with_source last to) result) gave refl ran

  -- the event was made, or a device broke it off
  pub hart_event : (result : Result Unit BoardFault) → RanOver result → HartEvent v old new before after result
  hart_event (Ok u) ran =
      let r = ran_over (Ok u) ran in
      let made = made_event v old b before given given' mid entry n one new after {u = u} r in
      record { made = made; broke = tt; kept = made.ram.kept }
  hart_event (Err fault) ran =
      let r = ran_over (Err fault) ran in
      let stays = r.along.stays in
      let setting : setting_of r.mid.rom ≡ setting_of old.rom = stays.setting ∙ entry.setting in
      let causes = named {T = Unit} fault (causes_from stays.quiet r.ends.broke.causes) in
      let ram = cause_from (stays.point.ram.quiet ∙ entry.ram.quiet) (cause_as r.ends.broke.ram_cause (fault_is {T = Unit} fault RamFault) (fault_as {T = Unit} fault RamFault)) in
      record {
        made = tt;
        broke = record {
          at = inr (step_broke v old b before given given' mid entry n one r.mid r.along fault new after r.ends);
          fed = λ e. never_rose 0 refl (causes.input.cause e);
          sinks = causes.sinks;
          ram = ram;
        };
        kept = kept_both (span_of (setting_of old.rom)) before.ram r.mid.ram after.ram
            (kept_both (span_of (setting_of old.rom)) before.ram mid r.mid.ram entry.ram.kept (subst (λ (k : Setting). KeepsBeyond (span_of k) mid r.mid.ram) entry.setting stays.point.ram.kept))
            (subst (λ (k : Setting). KeepsBeyond (span_of k) r.mid.ram after.ram) setting r.ends.broke.kept);
      }

-- ---- before the run

pub ready : (v : ImageData) (old b : BoardOf Slots) → Boarded v old b →
    (b.hart.machine ≡ old.hart.machine) × (b.hart.failed ≡ old.hart.failed) × (b.hart.count ≤ old.hart.count + 1) × ((kept_by b.rom).counts.services ≤ (kept_by old.rom).counts.services + 1)
ready v old b is = (
  ap (λ (h : HartData). h.machine) is.hart,
  ap (λ (h : HartData). h.failed) is.hart,
  omega (arith, entry_few v old b is, shallow v old.hart.machine b.hart.control is.between),
  omega (arith, ap (λ (r : Record). r.counts.services) (is.kept []), entered_services (enters (kept_by old.rom) (context old.hart v [])) (setting_of old.rom) (kept_by old.rom) (context old.hart v [])),
)

-- few machine instructions are made in few steps
pub count_few : (v : ImageData) (r : Record) (h : HartData) → Waits v r h → h.machine.ending ≡ None → h.machine.steps < 2 ^ 44 → h.count ≤ 2 ^ 46
count_few v r h waits going few = omega (arith, few, subst (λ (e : Option End). h.count ≤ most_steps e h.machine.steps) going waits.bounded)
