-- Each event leads the board to where the definition's does.
use Rattle.std.proofs.Common.{◌≡◌, ◌&&◌, if◌then◌else◌, ℕ, ◌+◌, ◌^◌, ◌<◌, Bool, List, ◌++◌, length, Option, Some, None, is_some, Ok, refl, sym, ap, subst, ◌∙◌, inl, inr, arith}
use Rattle.std.proofs.lemmas.List.{length-append}
use Rattle.swi_outside.specs.CacheRam.{Fetch, RamState, since}
use Rattle.swi_outside.specs.Devices.{Devices}
use Rattle.swi_outside.specs.Fetches.{since_length}
use Rattle.swi_calls.specs.declared.end.End.{End}
use Rattle.swi_calls.specs.declared.machine.Machine.{Machine}
use Rattle.swi_image.specs.Format.{ImageData}
use Rattle.swi_rom.specs.Record.{Record}
use Rattle.swi_rom.specs.Rams.{wrote_one}
use Rattle.swi_rom.specs.Service.{Setting}
use Rattle.swi_hart.specs.declared.hart.Stage.TheVariants.{Start, Low, Return, Leave}
use Rattle.swi_hart.specs.declared.hart.Control.{Control}
use Rattle.swi_hart.specs.declared.hart.Control.TheVariants.{At, Outside}
use Rattle.swi_hart.specs.Bounds.{is_outside}
use Rattle.swi_hart.specs.Hart.{HartData, place_under}
use Rattle.swi_hart.specs.Leaving.{RamServed, fetch_under}
use Rattle.swi_hart.specs.MachineStep.{BoardWithRam}
use Rattle.swi_hart.specs.Matching.{Agrees, Stands}
use Rattle.swi_board.specs.Board.{BoardWithDevices}
use Rattle.swi_board.specs.Moments.{Moment, event as instruction, stepped_at}
use Rattle.swi_board.specs.Runs.{unfetched}
use Rattle.swi_board.specs.Tracking.{Point, Tracks, point_of}
use Rattle.swi_board.specs.Transfers.{Here, here_of}
use Rattle.swi_board.proofs.Held.{same_steps}
use Rattle.swi_hart.proofs.Fitting.{matched_fits}
use Rattle.swi_board.proofs.Fetching.{holds_under}
use Rattle.swi_board.proofs.Tracks.{step_tracks}
use Rattle.swi_run_laws.specs.Schedules.{beside as with_set}
use Rattle.swi_run_laws.proofs.Schedules.{beside_tracks}
use Rattle.swi_engine.specs.Engine.{Event, beside, event, span_of}
use Rattle.swi_engine.specs.Laws.{engine_coherent}
use Rattle.swi_engine.specs.Moves.{OneSet}
use Rattle.swi_engine.specs.Service.{engine_service}
use Rattle.swi_engine.specs.State.{EngineData, kept_by, setting_of}
use Rattle.swi_engine.specs.Worked.{GoesTo}
use Rattle.swi_prefetch.specs.EngineLaws.{engine_of}
use Rattle.swi_prefetch.specs.Events.{engine_event, worked}
use Rattle.swi_prefetch.specs.Tracking.{BoardTracks}
use Rattle.swi_prefetch.specs.Turns.{Beside, EngineTurned, HartTurned, event_at}

abbrev pub with_devices : BoardWithRam EngineData → Devices → BoardWithDevices EngineData
with_devices b d = record { hart = b.hart; rom = b.rom; ram = b.ram; devices = d }

abbrev point : BoardWithRam EngineData → Devices → Point
point b d = point_of engine_service (with_devices b d)

-- ---- the hart

-- a machine instruction fetches a word, but for one outside the text
weighs : (c : Control) (n : ℕ) (held : List ℕ) (l : List Fetch) → length (fetch_under c n held ++ l) + (if is_outside c then 1 else 0) ≡ length l + 1
weighs (At i b o stage) n held l = omega arith
weighs Outside n held l = omega arith

module _ (v : ImageData) (a b : BoardWithRam EngineData) (d d' : Devices) (was : Beside engine_service v a) (word : a.hart.machine.pc < 2 ^ 32) (turn : HartTurned engine_service v a b d d' (Ok tt))
    (s : Moment) (from : Point) (at : BoardTracks v s from (with_devices a d)) where
  flat_is : a.hart.machine.ending ≡ s.flat.machine.ending
  flat_is = (same_steps v (kept_by a.rom) s.flat.machine a.hart.machine a.hart.control at.matches).1

  -- an event of the hart, which also may have nothing to do
  pub hart_tracks : BoardTracks v (instruction (beside (setting_of a.rom)) v s) from (with_devices b d')
  hart_tracks = by a.hart.machine.ending refl
    where
      by : (e : Option End) → a.hart.machine.ending ≡ e → BoardTracks v (instruction (beside (setting_of a.rom)) v s) from (with_devices b d')
      by None running =
          let step = turn.stepped running in
          subst (λ (q : Setting). Tracks (span_of q) v (instruction (beside (setting_of a.rom)) v s) from (point b d')) (sym step.setting)
          (step_tracks (beside (setting_of a.rom)) (span_of (setting_of a.rom)) v s from (point a d) (point b d') at running word (engine_coherent a.rom v a.ram.words was.sound).once
          (holds_under v (kept_by a.rom) _ a.ram.words a.hart (engine_coherent a.rom v a.ram.words was.sound) (matched_fits v (kept_by a.rom) s.flat.machine a.hart at.image at.matches) running word)
          step.policy (step.made was.sound s.flat.input at.input) step.ram)
      by (Some x) ended =
          let same = turn.ended x ended in
          let idle : instruction (beside (setting_of a.rom)) v s ≡ s = ap (λ (e : Option End). if is_some e then s else stepped_at (beside (setting_of a.rom)) v s.here s) (sym flat_is ∙ ended) in
          subst (λ (k : Moment). BoardTracks v k from (with_devices b d')) (sym idle)
          (subst (λ (k : BoardWithRam EngineData). BoardTracks v s from (with_devices k d')) (sym same.1)
          (subst (λ (k : Devices). BoardTracks v s from (with_devices a k)) (sym same.2) at))

  -- it fetches a word, but for one that ended the run outside the text
  pub hart_fetched : length (instruction (beside (setting_of a.rom)) v s).words + unfetched b.hart + s.count ≡ length s.words + unfetched a.hart + (instruction (beside (setting_of a.rom)) v s).count
  hart_fetched = by a.hart.machine.ending refl
    where
      held : (words all : List Fetch) → all ≡ since from.ram.sets words ++ from.ram.fetched_at → length all ≡ length words + length from.ram.fetched_at
      held words all are =
          ap (λ (l : List Fetch). length l) are
          ∙ length-append (since from.ram.sets words) from.ram.fetched_at
          ∙ ap (λ (n : ℕ). n + length from.ram.fetched_at) (since_length from.ram.sets words)

      by : (e : Option End) → a.hart.machine.ending ≡ e → length (instruction (beside (setting_of a.rom)) v s).words + unfetched b.hart + s.count ≡ length s.words + unfetched a.hart + (instruction (beside (setting_of a.rom)) v s).count
      by None running =
          let step = turn.stepped running in
          let grown = step.grown was.sound in
          let there = hart_tracks in
          let first = held s.words a.ram.fetched_at at.words in
          let last = held (instruction (beside (setting_of a.rom)) v s).words b.ram.fetched_at there.words in
          let more = ap (λ (l : List Fetch). length l) step.ram.fetched_at in
          let counts = there.count in
          let count = at.count in
          let up = grown.count in
          let none : unfetched a.hart ≡ 0 = ap {B = ℕ} (λ (e : Option End). if is_some e && is_outside a.hart.control then 1 else 0) running in
          let out : (if is_outside a.hart.control then 1 else 0) ≡ unfetched b.hart = ap {B = ℕ} (λ (t : Bool). if t then 1 else 0) (sym grown.outside) in
          let weight = weighs a.hart.control a.ram.sets a.ram.words a.ram.fetched_at in
          omega (arith, first, last, more, counts, count, up, none, out, weight)
      by (Some x) ended =
          let same = turn.ended x ended in
          let idle : instruction (beside (setting_of a.rom)) v s ≡ s = ap (λ (e : Option End). if is_some e then s else stepped_at (beside (setting_of a.rom)) v s.here s) (sym flat_is ∙ ended) in
          let hart = ap (λ (k : BoardWithRam EngineData). unfetched k.hart) same.1 in
          let words = ap (λ (k : Moment). length k.words) idle in
          let count = ap (λ (k : Moment). k.count) idle in
          omega (arith, hart, words, count)

-- ---- the engine

-- the block of the instruction is control's
same_block : (ev : Record → ImageData → ℕ → Option Event) (r : Record) (v : ImageData) (f m : Machine) (c : Control) → Stands v r f m c → event_at ev r v (place_under None c) ≡ event_at ev r v (here_of v f c)
same_block ev r v f m (At i b o Start) stands = refl
same_block ev r v f m (At i b o Low) stands = ap (λ (h : Here). event_at ev r v h) (sym stands.1.start)
same_block ev r v f m (At i b o Return) stands = ap (λ (h : Here). event_at ev r v h) (sym stands.1.start)
same_block ev r v f m (At i b o Leave) (at, inl a) = ap (λ (h : Here). event_at ev r v h) (sym a.start)
same_block ev r v f m (At i b o Leave) (at, inr a) = ap (λ (h : Here). event_at ev r v h) (sym a.start)
same_block ev r v f m Outside stands = refl

one_set : (span i w : ℕ) (a b : RamState) → i < span → OneSet i w a b → RamServed span 1 a b
one_set span i w a b lt is =
    let wrote = wrote_one span i w a b lt is in
    record {
      quiet = wrote.quiet;
      fetches_stay = wrote.spared.fetches_stay;
      fetched_at_stays = wrote.spared.fetched_at_stays;
      sets_rise = wrote.sets_rise;
      kept = record { same_length = wrote.spared.length_stays; beyond = wrote.spared.beyond; reached = wrote.spared.reached };
    }

module _ (v : ImageData) (a b : BoardWithRam EngineData) (d : Devices) (wrote : Bool) (turn : EngineTurned engine_service engine_of v a b wrote) (s : Moment) (from : Point) (at : BoardTracks v s from (with_devices a d)) where
  abbrev held_at : Here → Option Event
  held_at h = event_at (event (setting_of a.rom)) (kept_by a.rom) v h

  engine_flat : a.hart.machine.ending ≡ s.flat.machine.ending
  engine_flat = (same_steps v (kept_by a.rom) s.flat.machine a.hart.machine a.hart.control at.matches).1

  -- the same hart and slots, with another record and another ram
  on_board : (t : Moment) → Tracks (span_of (setting_of a.rom)) v t from (record (point a d) { kept = kept_by b.rom; ram = b.ram }) → BoardTracks v t from (with_devices b d)
  on_board t there =
      subst (λ (q : Setting). Tracks (span_of q) v t from (point b d)) (sym turn.setting)
      (subst (λ (h : HartData). Tracks (span_of (setting_of a.rom)) v t from (record (point b d) { hart = h })) (sym turn.hart) there)

  works : (o : Option Event) → GoesTo o wrote (span_of (setting_of a.rom)) (kept_by a.rom) (kept_by b.rom) a.ram b.ram → BoardTracks v (worked o s) from (with_devices b d)
  works None goes =
      on_board s
      (subst (λ (r : Record). Tracks (span_of (setting_of a.rom)) v s from (record (point a d) { kept = r; ram = b.ram })) (sym goes.1)
      (subst (λ (q : RamState). Tracks (span_of (setting_of a.rom)) v s from (record (point a d) { ram = q })) (sym goes.2) at))
  works (Some e) goes =
      on_board (worked (Some e) s)
      (subst (λ (r : Record). Tracks (span_of (setting_of a.rom)) v (with_set r 1 s) from (record (point a d) { kept = kept_by b.rom; ram = b.ram })) goes.1
      (beside_tracks (span_of (setting_of a.rom)) v s from (point a d) (kept_by b.rom) b.ram 1 at turn.stays (one_set (span_of (setting_of a.rom)) e.at e.word a.ram b.ram goes.2 goes.3)))

  by_ending : (e : Option End) → a.hart.machine.ending ≡ e → GoesTo (held_at (place_under e a.hart.control)) wrote (span_of (setting_of a.rom)) (kept_by a.rom) (kept_by b.rom) a.ram b.ram →
      BoardTracks v (engine_event (setting_of a.rom) v s) from (with_devices b d)
  by_ending (Some x) ended goes =
      let idle : engine_event (setting_of a.rom) v s ≡ s = ap (λ (e : Option End). if is_some e then s else worked (event_at (event (setting_of a.rom)) s.kept v s.here) s) (sym engine_flat ∙ ended) in
      subst (λ (k : Moment). BoardTracks v k from (with_devices b d)) (sym idle) (works None goes)
  by_ending None running goes =
      let stands = subst (λ (e : Option End). Agrees e v (kept_by a.rom) s.flat.machine a.hart.machine a.hart.control) running at.matches in
      let same : held_at (place_under None a.hart.control) ≡ event_at (event (setting_of a.rom)) s.kept v s.here =
      same_block (event (setting_of a.rom)) (kept_by a.rom) v s.flat.machine a.hart.machine a.hart.control stands
      ∙ ap (λ (h : Here). held_at h) (at.here running)
      ∙ ap (λ (r : Record). event_at (event (setting_of a.rom)) r v s.here) at.kept in
      let makes : engine_event (setting_of a.rom) v s ≡ worked (event_at (event (setting_of a.rom)) s.kept v s.here) s =
      ap (λ (e : Option End). if is_some e then s else worked (event_at (event (setting_of a.rom)) s.kept v s.here) s) (sym engine_flat ∙ running) in
      subst (λ (k : Moment). BoardTracks v k from (with_devices b d)) (sym makes)
      (works (event_at (event (setting_of a.rom)) s.kept v s.here)
      (subst (λ (o : Option Event). GoesTo o wrote (span_of (setting_of a.rom)) (kept_by a.rom) (kept_by b.rom) a.ram b.ram) same goes))

  pub engine_tracks : BoardTracks v (engine_event (setting_of a.rom) v s) from (with_devices b d)
  engine_tracks = by_ending a.hart.machine.ending refl turn.moves

  -- it fetches nothing
  pub engine_fetched : length (engine_event (setting_of a.rom) v s).words + unfetched b.hart + s.count ≡ length s.words + unfetched a.hart + (engine_event (setting_of a.rom) v s).count
  engine_fetched =
      let same = by_end s.flat.machine.ending in
      let hart = ap (λ (h : HartData). unfetched h) turn.hart in
      let words = ap (λ (l : List Fetch). length l) same.0 in
      let count = same.1 in
      omega (arith, hart, words, count)
    where
      by_event : (o : Option Event) → ((worked o s).words ≡ s.words) × ((worked o s).count ≡ s.count)
      by_event None = (refl, refl)
      by_event (Some e) = (refl, refl)

      by_end : (e : Option End) → ((if is_some e then s else worked (event_at (event (setting_of a.rom)) s.kept v s.here) s).words ≡ s.words)
          × ((if is_some e then s else worked (event_at (event (setting_of a.rom)) s.kept v s.here) s).count ≡ s.count)
      by_end None = by_event (event_at (event (setting_of a.rom)) s.kept v s.here)
      by_end (Some x) = (refl, refl)
