-- Events in a row, round by round.
use Rattle.std.proofs.Common.{◌≡◌, ◌⊎◌, ℕ, zero, suc, ◌+◌, ◌-◌, ◌*◌, ◌^◌, ◌<◌, ◌≤◌, not, ◌&&◌, nat_lt, Bool, true, false, List, [], ◌∷◌, ◌++◌, length, replicate, reverse, Option, Some, None, is_some, Result, Ok, Err, IsErrOf, refl, sym, ap, subst, ◌∙◌, inl, inr, append-nil, arith}
use Rattle.std.proofs.lemmas.List.{append_assoc, length-append, length-replicate, replicate_more, reverse-append, reverse-reverse}
use Rattle.std.specs.Io.KnownBytes.{Appends}
use Rattle.std.proofs.lemmas.Bool.{ltb-true, false≢true}
use Rattle.swi_outside.specs.Devices.{Devices, Faults, HasCauses, faults_of}
use Rattle.swi_outside.specs.Causes.{DeviceCause}
use Rattle.swi_outside.specs.CacheRam.{Fetch, KeepsBeyond, RamState, since}
use Rattle.swi_outside.specs.Fetches.{since_append}
use Rattle.swi_outside.specs.Laws.{cause_from, causes_from, no_cause, none_named, ok_causes, ok_unmoved}
use Rattle.swi_calls.specs.declared.end.End.{End}
use Rattle.swi_calls.specs.State.{FlatState}
use Rattle.swi_image.specs.Format.{ImageData}
use Rattle.swi_rom.specs.Record.{Record, Transfer}
use Rattle.swi_hart.specs.Bounds.{depth, most, most_by}
use Rattle.swi_hart.specs.Hart.{HartData}
use Rattle.swi_hart.specs.MachineStep.{BoardWithRam}
use Rattle.swi_hart.specs.Leaving.{moved, transfer_at}
use Rattle.swi_hart.specs.declared.fault.BoardFault.{BoardFault}
use Rattle.swi_hart.specs.declared.fault.BoardFault.TheVariants.{RamFault, SinkFault, SourceFault}
use Rattle.swi_board.specs.Board.{BoardOf, BoardWithDevices, Around, board_around}
use Rattle.swi_board.specs.BoardRan.{BrokeOff}
use Rattle.swi_board.specs.Fetching.{FrontSince}
use Rattle.swi_board.specs.Moments.{GoesOn, Moment, event as instruction}
use Rattle.swi_board.specs.Ran.{Unasked, next_of}
use Rattle.swi_board.specs.Runs.{unfetched}
use Rattle.swi_board.specs.Tracking.{Point}
use Rattle.swi_board.proofs.Held.{same_steps}
use Rattle.swi_board.proofs.Running.{kept_both}
use Rattle.swi_run_laws.specs.Broken.{Broke, InOrder}
use Rattle.swi_run_laws.proofs.Between.{most_any}
use Rattle.swi_run_laws.proofs.Broken.{broke_off, off_in_order, off_unasked}
use Rattle.swi_rom.specs.Rams.{wrote_one}
use Rattle.swi_rom.specs.Served.{SameFrom}
use Rattle.swi_rom.specs.Service.{Setting}
use Rattle.swi_engine.specs.Engine.{Event, beside, engine_words, event, extent_of, span_of}
use Rattle.swi_engine.specs.Laws.{engine_laws as service_laws}
use Rattle.swi_engine.specs.Service.{engine_service}
use Rattle.swi_engine.specs.State.{EngineData, kept_by, setting_of}
use Rattle.swi_engine.specs.Worked.{GoesTo}
use Rattle.swi_prefetch.specs.EngineLaws.{engine_laws}
use Rattle.swi_prefetch.specs.Events.{Turn, of_hart, of_engine, round, rounds, turned, turned_all}
use Rattle.swi_prefetch.specs.Prefetching.{EngineEvent, GivenUp, HartEvent, OfBoards, PcShort, PrefetchState, StepsFew, TakesTurns, WordsFew}
use Rattle.swi_prefetch.specs.Running.{AheadFailed, BrokeIn, CameOn, EngineBroke, EngineStopped, FromHere, GoesBefore, HartBroke, HartStopped, KeepsBehind, OfBoard, RanTo, Rises, RoundRises, RoundStopped, RunBroke, SameHart, StepsUpTo, Whole, WordsUpTo, goes_below, whole}
use Rattle.swi_prefetch.specs.Tracking.{BoardTracks, Led, Leads, point_around}
use Rattle.swi_prefetch.proofs.Writing.{keeps_fetched}

abbrev pub state_of : Whole → PrefetchState
state_of w = record { board = w.board; ram = w.around.ram }

-- ---- lists of events

-- one round more
pub rounds_suc : (rate k : ℕ) → rounds rate (suc k) ≡ rounds rate k ++ round rate
unfolding rounds
rounds_suc rate zero = append-nil (round rate)
rounds_suc rate (suc k) = ap (λ (l : List Turn). round rate ++ l) (rounds_suc rate k) ∙ sym (append_assoc (round rate) (rounds rate k) (round rate))

pub rounds_more : (rate k : ℕ) → rounds rate (k + 1) ≡ rounds rate k ++ round rate
rounds_more rate k = let next : k + 1 ≡ suc k = omega arith in ap (λ (n : ℕ). rounds rate n) next ∙ rounds_suc rate k

-- one schedule after the other
pub turned_more : (by : Setting) (v : ImageData) (ts us : List Turn) (s : Moment) → turned_all by v (ts ++ us) s ≡ turned_all by v us (turned_all by v ts s)
unfolding turned_all
turned_more by v [] us s = refl
turned_more by v (t ∷ ts) us s = turned_more by v ts us (turned by v t s)

-- ---- events in a row

led_none : (v : ImageData) (w : BoardWithDevices EngineData) → Led v [] w w
unfolding turned_all
led_none v w = record { setting = refl; tracks = λ s from at. at; unused = λ i le. refl; grows = omega arith; fetched = λ s from at. refl }

led_more : (v : ImageData) (ts us : List Turn) (old mid new : BoardWithDevices EngineData) → Led v ts old mid → Led v us mid new → Led v (ts ++ us) old new
led_more v ts us old mid new one two = record {
  setting = two.setting ∙ one.setting;
  tracks = λ s from at.
      subst (λ (k : Moment). BoardTracks v k from new) (sym (turned_more (setting_of old.rom) v ts us s))
      (subst (λ (by : Setting). BoardTracks v (turned_all by v us (turned_all (setting_of old.rom) v ts s)) from new) one.setting (two.tracks (turned_all (setting_of old.rom) v ts s) from (one.tracks s from at)));
  unused = λ i le.
      let further = subst (λ (by : Setting). extent_of by (kept_by mid.rom) ≤ extent_of by (kept_by new.rom)) one.setting two.grows in
      subst (λ (by : Setting). SameFrom (extent_of by (kept_by new.rom)) mid.ram.words new.ram.words) one.setting two.unused i le ∙ one.unused i (omega (arith, further, le));
  grows = let first = one.grows in let last = subst (λ (by : Setting). extent_of by (kept_by mid.rom) ≤ extent_of by (kept_by new.rom)) one.setting two.grows in omega (arith, first, last);
  fetched = λ s from at.
      let first = one.fetched s from at in
      let last = subst (λ (by : Setting). length (turned_all by v us (turned_all (setting_of old.rom) v ts s)).words + unfetched new.hart + (turned_all (setting_of old.rom) v ts s).count
      ≡ length (turned_all (setting_of old.rom) v ts s).words + unfetched mid.hart + (turned_all by v us (turned_all (setting_of old.rom) v ts s)).count) one.setting
      (two.fetched (turned_all (setting_of old.rom) v ts s) from (one.tracks s from at)) in
      let words = ap (λ (k : Moment). length k.words) (turned_more (setting_of old.rom) v ts us s) in
      let count = ap (λ (k : Moment). k.count) (turned_more (setting_of old.rom) v ts us s) in
      omega (arith, first, last, words, count);
}

keeps_all : (n : ℕ) (r : RamState) → KeepsBeyond n r r
keeps_all n r = record { same_length = refl; beyond = λ i h. refl; reached = omega arith }

pub came_none : (v : ImageData) (w : Whole) → TakesTurns v w.board w.around.ram → CameOn v [] w w
came_none v w turns = by w.board turns
  where
    by : (o : Option (BoardOf EngineData)) → TakesTurns v o w.around.ram → CameOn v [] (whole o w.around) (whole o w.around)
    by None t = absurd t
    by (Some b) t = record { led = led_none v (board_around b w.around); turns = t; words = omega arith; quiet = refl; ram_quiet = refl; kept = keeps_all (span_of (setting_of b.rom)) w.around.ram }

leads_more : (v : ImageData) (ts us : List Turn) (oa ob oc : Option (BoardOf EngineData)) (x y z : Around) → Leads v ts oa ob x y → Leads v us ob oc y z → Leads v (ts ++ us) oa oc x z
leads_more v ts us None ob oc x y z one two = absurd one
leads_more v ts us (Some a) None oc x y z one two = absurd one
leads_more v ts us (Some a) (Some b) None x y z one two = absurd two
leads_more v ts us (Some a) (Some b) (Some c) x y z one two = led_more v ts us (board_around a x) (board_around b y) (board_around c z) one two

words_more : (m n k : ℕ) (oa ob oc : Option (BoardOf EngineData)) → k ≡ m + n → OfBoards oa ob (λ a b. engine_words (kept_by b.rom) ≤ engine_words (kept_by a.rom) + m) →
    OfBoards ob oc (λ a b. engine_words (kept_by b.rom) ≤ engine_words (kept_by a.rom) + n) → OfBoards oa oc (λ a b. engine_words (kept_by b.rom) ≤ engine_words (kept_by a.rom) + k)
words_more m n k None ob oc sum one two = absurd one
words_more m n k (Some a) None oc sum one two = absurd one
words_more m n k (Some a) (Some b) None sum one two = absurd two
words_more m n k (Some a) (Some b) (Some c) sum one two = omega (arith, sum, one, two)

keeps_more : (v : ImageData) (ts : List Turn) (oa ob : Option (BoardOf EngineData)) (x y z : Around) → Leads v ts oa ob x y → KeepsBehind oa x.ram y.ram → KeepsBehind ob y.ram z.ram → KeepsBehind oa x.ram z.ram
keeps_more v ts None ob x y z led one two = absurd led
keeps_more v ts (Some a) None x y z led one two = absurd led
keeps_more v ts (Some a) (Some b) x y z led one two =
    kept_both (span_of (setting_of a.rom)) x.ram y.ram z.ram one (subst (λ (s : Setting). KeepsBeyond (span_of s) y.ram z.ram) led.setting two)

pub came_more : (v : ImageData) (ts us : List Turn) (a b c : Whole) → CameOn v ts a b → CameOn v us b c → CameOn v (ts ++ us) a c
came_more v ts us a b c one two = record {
  led = leads_more v ts us a.board b.board c.board a.around b.around c.around one.led two.led;
  turns = two.turns;
  words = words_more (length ts) (length us) (length (ts ++ us)) a.board b.board c.board (length-append ts us) one.words two.words;
  quiet = two.quiet ∙ one.quiet;
  ram_quiet = two.ram_quiet ∙ one.ram_quiet;
  kept = keeps_more v ts a.board b.board a.around b.around c.around one.led one.kept two.kept;
}

moved_words : (by : Setting) (v : ImageData) (r new : Record) (t : Option Transfer) → new ≡ moved (beside by) r v t → engine_words new ≡ engine_words r
moved_words by v r new None is = ap (λ (k : Record). engine_words k) is
moved_words by v r new (Some t) is = ap (λ (k : Record). engine_words k) is ∙ engine_laws.unwritten by r v t

-- an event of the hart
pub hart_came : (v : ImageData) (old new : Whole) (u : Unit {0}) → HartEvent v (state_of old) (state_of new) old.around.devices new.around.devices (Ok u) → Leads v (of_hart ∷ []) old.board new.board old.around new.around → CameOn v (of_hart ∷ []) old new
hart_came v old new u event leads = by old.board new.board event leads
  where
    by : (o n : Option (BoardOf EngineData)) → HartEvent v (record { board = o; ram = old.around.ram }) (record { board = n; ram = new.around.ram }) old.around.devices new.around.devices (Ok u) →
        Leads v (of_hart ∷ []) o n old.around new.around → CameOn v (of_hart ∷ []) (whole o old.around) (whole n new.around)
    by None n event leads = absurd event
    by (Some a) None event leads = absurd event
    by (Some a) (Some b) event leads = by_ending a.hart.machine.ending refl
      where
        by_ending : (e : Option End) → a.hart.machine.ending ≡ e → CameOn v (of_hart ∷ []) (whole (Some a) old.around) (whole (Some b) new.around)
        by_ending None running =
            let step = event.stepped running in
            let same = moved_words (setting_of a.rom) v (kept_by a.rom) (kept_by b.rom) (transfer_at v a.hart.machine a.hart.control) step.policy in
            record { led = leads; turns = event.beside; words = omega (arith, same); quiet = ok_unmoved step.causes; ram_quiet = step.ram.quiet; kept = step.kept }
        by_ending (Some x) ended =
            let stays = event.ended x ended in
            let same : engine_words (kept_by b.rom) ≡ engine_words (kept_by a.rom) = ap (λ (k : BoardWithRam EngineData). engine_words (kept_by k.rom)) stays.1 in
            record {
              led = leads;
              turns = event.beside;
              words = omega (arith, same);
              quiet = ap (λ (d : Devices). faults_of d) stays.2;
              ram_quiet = ap (λ (k : BoardWithRam EngineData). k.ram.faults) stays.1;
              kept = subst (λ (r : RamState). KeepsBeyond (span_of (setting_of a.rom)) old.around.ram r) (sym (ap (λ (k : BoardWithRam EngineData). k.ram) stays.1))
                  (keeps_all (span_of (setting_of a.rom)) old.around.ram);
            }

pub hart_rises : (v : ImageData) (old new : Whole) (u : Unit {0}) → TakesTurns v old.board old.around.ram → HartEvent v (state_of old) (state_of new) old.around.devices new.around.devices (Ok u) → RoundRises v old.board new.board
hart_rises v old new u was event = by old.board new.board was event
  where
    by : (o n : Option (BoardOf EngineData)) → TakesTurns v o old.around.ram → HartEvent v (record { board = o; ram = old.around.ram }) (record { board = n; ram = new.around.ram }) old.around.devices new.around.devices (Ok u) → RoundRises v o n
    by None n was event = absurd event
    by (Some a) None was event = absurd event
    by (Some a) (Some b) was event = λ running.
        let grown = (event.stepped running).grown was.sound in
        let now : most v a.hart.machine a.hart.control ≡ 3 * a.hart.machine.steps + depth v a.hart.machine a.hart.control = ap (λ (e : Option End). most_by e v a.hart.machine a.hart.control) running in
        let up = grown.most in
        let one = grown.one in
        record { most = omega (arith, now, up); steps = one }

-- an event of the engine
goes_quiet : (o : Option Event) (wrote : Bool) (span : ℕ) (r new : Record) (before after : RamState) → GoesTo o wrote span r new before after → after.faults ≡ before.faults
goes_quiet None wrote span r new before after goes = ap (λ (k : RamState). k.faults) goes.2
goes_quiet (Some e) wrote span r new before after goes = ap (λ (k : RamState). k.faults) goes.3

goes_kept : (o : Option Event) (wrote : Bool) (span : ℕ) (r new : Record) (before after : RamState) → GoesTo o wrote span r new before after → KeepsBeyond span before after
goes_kept None wrote span r new before after goes = subst (λ (k : RamState). KeepsBeyond span before k) (sym goes.2) (keeps_all span before)
goes_kept (Some e) wrote span r new before after goes =
    let wrote_it = wrote_one span e.at e.word before after goes.2 goes.3 in
    record { same_length = wrote_it.spared.length_stays; beyond = wrote_it.spared.beyond; reached = wrote_it.spared.reached }

pub engine_came : (v : ImageData) (old new : Whole) (wrote : Bool) → EngineEvent {E = BoardFault} v (state_of old) (state_of new) (Ok wrote) → new.around.devices ≡ old.around.devices → Leads v (of_engine ∷ []) old.board new.board old.around new.around →
    CameOn v (of_engine ∷ []) old new × SameHart old.board new.board
engine_came v old new wrote event same leads = by old.board new.board event leads
  where
    by : (o n : Option (BoardOf EngineData)) → EngineEvent {E = BoardFault} v (record { board = o; ram = old.around.ram }) (record { board = n; ram = new.around.ram }) (Ok wrote) →
        Leads v (of_engine ∷ []) o n old.around new.around → CameOn v (of_engine ∷ []) (whole o old.around) (whole n new.around) × SameHart o n
    by None n event leads = absurd event
    by (Some a) None event leads = absurd event
    by (Some a) (Some b) event leads = (
      record {
        led = leads;
        turns = event.beside;
        words = event.words_few;
        quiet = ap (λ (d : Devices). faults_of d) same;
        ram_quiet = goes_quiet _ wrote _ _ _ old.around.ram new.around.ram event.moves;
        kept = goes_kept _ wrote _ _ _ old.around.ram new.around.ram event.moves;
      },
      event.hart,
    )

-- ---- a run

-- the machine steps that the hart may have made
abbrev pub most_of : ImageData → Option (BoardOf EngineData) → ℕ
most_of v None = 0
most_of v (Some b) = most v b.hart.machine b.hart.control

-- and how many more it may make up to a limit of original steps
abbrev pub left_of : ImageData → ℕ → Option (BoardOf EngineData) → ℕ
left_of v limit o = 3 * limit + 4 - most_of v o

-- so many rounds were made
pub record RunsOn (v : ImageData) (limit rate : ℕ) (old new : Whole) : Type 0 where
  pub made : ℕ
  pub came : CameOn v (rounds rate made) old new
  pub going : GoesBefore v limit rate made old
  pub steps : OfBoard new.board (λ b. b.hart.machine.steps ≤ limit)
  pub words : OfBoards old.board new.board (λ a b. engine_words (kept_by b.rom) + 1025 * most v a.hart.machine a.hart.control ≤ engine_words (kept_by a.rom) + 1025 * most v b.hart.machine b.hart.control)

-- ---- the engine's events in a row

pub no_devices : Devices
no_devices = record {
  input = record { given = []; left = None; faults = 0 };
  output = record { held = None; faults = 0 };
  error = record { held = None; faults = 0 };
}

pub same_none : (v : ImageData) (ram : RamState) (o : Option (BoardOf EngineData)) → TakesTurns v o ram → SameHart o o
same_none v ram None turns = absurd turns
same_none v ram (Some b) turns = refl

pub same_more : (a b c : Option (BoardOf EngineData)) → SameHart a b → SameHart b c → SameHart a c
same_more None b c one two = absurd one
same_more (Some a) None c one two = absurd one
same_more (Some a) (Some b) None one two = absurd two
same_more (Some a) (Some b) (Some c) one two = two ∙ one

pub ahead_few : (k : ℕ) (o n : Option (BoardOf EngineData)) → k ≤ 1024 → OfBoards o n (λ a b. engine_words (kept_by b.rom) ≤ engine_words (kept_by a.rom) + length (replicate k of_engine)) → WordsUpTo (2 ^ 60 - 1025) o → WordsFew n
ahead_few k None n le few most = absurd most
ahead_few k (Some a) None le few most = absurd few
ahead_few k (Some a) (Some b) le few most = let long = length-replicate k of_engine in omega (arith, le, few, most, long)

pub ahead_more : (v : ImageData) (k : ℕ) (w0 w1 w2 : Whole) → CameOn v (replicate k of_engine) w0 w1 → CameOn v (of_engine ∷ []) w1 w2 → CameOn v (replicate (k + 1) of_engine) w0 w2
ahead_more v k w0 w1 w2 one two = subst (λ (ts : List Turn). CameOn v ts w0 w2) (replicate_more k of_engine) (came_more v (replicate k of_engine) (of_engine ∷ []) w0 w1 w2 one two)

-- ---- a round

pub hart_few : (v : ImageData) (old new : Whole) → CameOn v (of_hart ∷ []) old new → WordsUpTo (2 ^ 60 - 2048) old.board → WordsUpTo (2 ^ 60 - 1025) new.board
hart_few v old new came most = by old.board new.board came.words most
  where
    by : (o n : Option (BoardOf EngineData)) → OfBoards o n (λ a b. engine_words (kept_by b.rom) ≤ engine_words (kept_by a.rom) + 1) → WordsUpTo (2 ^ 60 - 2048) o → WordsUpTo (2 ^ 60 - 1025) n
    by None n few most = absurd most
    by (Some a) None few most = absurd few
    by (Some a) (Some b) few most = omega (arith, few, most)

pub hart_broke : (v : ImageData) (rate : ℕ) (old new : Whole) (result : Result Unit BoardFault) → TakesTurns v old.board old.around.ram → PcShort old.board → HartEvent v (state_of old) (state_of new) old.around.devices new.around.devices result → BrokeIn v [] rate old new result
hart_broke v rate old new result turns short event = inl (record { mid = old; came = came_none v old turns; short = short; broke = event })

pub engine_broke : (v : ImageData) (rate : ℕ) (w0 w1 w2 : Whole) → CameOn v (of_hart ∷ []) w0 w1 → AheadFailed v rate w1 w2 → BrokeIn v [] rate w0 w2 (Err RamFault)
engine_broke v rate w0 w1 w2 one ahead = inr (record {
  made = ahead.made;
  fewer = ahead.fewer;
  mid = ahead.mid;
  came = came_more v (of_hart ∷ []) (replicate ahead.made of_engine) w0 w1 ahead.mid one ahead.came;
  failed = ahead.failed;
  devices = ahead.devices;
  told = refl;
})

pub round_came : (v : ImageData) (rate : ℕ) (w0 w1 w2 : Whole) → CameOn v (of_hart ∷ []) w0 w1 → CameOn v (replicate rate of_engine) w1 w2 → CameOn v (round rate) w0 w2
round_came v rate w0 w1 w2 one two = came_more v (of_hart ∷ []) (replicate rate of_engine) w0 w1 w2 one two

pub round_rises : (v : ImageData) (a b c : Option (BoardOf EngineData)) → RoundRises v a b → SameHart b c → RoundRises v a c
round_rises v None b c one same = absurd one
round_rises v (Some a) None c one same = absurd one
round_rises v (Some a) (Some b) None one same = absurd same
round_rises v (Some a) (Some b) (Some c) one same = λ running. subst (λ (h : HartData). Rises v a.hart h) (sym same) (one running)

-- ---- the rounds of a run

pub runs_none : (v : ImageData) (limit rate : ℕ) (w : Whole) → TakesTurns v w.board w.around.ram → StepsUpTo limit w.board → RunsOn v limit rate w w
unfolding rounds
runs_none v limit rate w turns steps = record {
  made = 0;
  came = came_none v w turns;
  going = λ j lt. absurd (omega (arith, lt));
  steps = steps;
  words = words w.board turns;
}
  where
    words : (o : Option (BoardOf EngineData)) → TakesTurns v o w.around.ram → OfBoards o o (λ a b. engine_words (kept_by b.rom) + 1025 * most v a.hart.machine a.hart.control ≤ engine_words (kept_by a.rom) + 1025 * most v b.hart.machine b.hart.control)
    words None t = absurd t
    words (Some b) t = omega arith

going_parts : (t : Bool) (n : Bool) → (not t && n) ≡ true → (t ≡ false) × (n ≡ true)
going_parts true n e = absurd (false≢true e)
going_parts false n e = (refl, e)

ending_none : (e : Option End) → is_some e ≡ false → e ≡ None
ending_none None e = refl
ending_none (Some x) e = absurd (false≢true (sym e))

pub goes_is : (limit : ℕ) (b : BoardOf EngineData) → goes_below limit (Some b) ≡ true → (b.hart.machine.ending ≡ None) × (b.hart.machine.steps < limit)
goes_is limit b e = let p = going_parts (is_some b.hart.machine.ending) (nat_lt b.hart.machine.steps limit) e in (ending_none b.hart.machine.ending p.0, ltb-true b.hart.machine.steps limit p.1)

pub goes_at : (v : ImageData) (limit : ℕ) (s : Moment) (from : Point) (b : BoardOf EngineData) (around : Around) → goes_below limit (Some b) ≡ true → BoardTracks v s from (board_around b around) → GoesOn limit s
goes_at v limit s from b around goes at =
    let g = goes_is limit b goes in
    let same = same_steps v (kept_by b.rom) s.flat.machine b.hart.machine b.hart.control at.matches in
    (sym same.1 ∙ g.0, subst (λ (n : ℕ). n < limit) same.0 g.1)

module _ (v : ImageData) (limit rate : ℕ) (w0 w1 w2 : Whole) (on : RunsOn v limit rate w0 w1) (goes : goes_below limit w1.board ≡ true) where
  going_more : (o0 o1 : Option (BoardOf EngineData)) → goes_below limit o1 ≡ true → Leads v (rounds rate on.made) o0 o1 w0.around w1.around → (j : ℕ) → j ≡ on.made → FromHere v o0 w0.around (λ b s from.
      GoesOn limit (turned_all (setting_of b.rom) v (rounds rate j) s))
  going_more None o1 goes led j is = absurd led
  going_more (Some a) None goes led j is = absurd led
  going_more (Some a) (Some b) goes led j is = λ s from at.
      subst (λ (n : ℕ). GoesOn limit (turned_all (setting_of a.rom) v (rounds rate n) s)) (sym is)
      (goes_at v limit (turned_all (setting_of a.rom) v (rounds rate on.made) s) from b w1.around goes (led.tracks s from at))

  steps_more : (o1 o2 : Option (BoardOf EngineData)) → goes_below limit o1 ≡ true → RoundRises v o1 o2 → OfBoard o2 (λ b. b.hart.machine.steps ≤ limit)
  steps_more None o2 goes rises = absurd rises
  steps_more (Some a) None goes rises = absurd rises
  steps_more (Some a) (Some b) goes rises =
      let g = goes_is limit a goes in
      let one = (rises g.0).steps in
      omega (arith, one, g.1)

  words_on : (k : ℕ) (o0 o1 o2 : Option (BoardOf EngineData)) → k ≤ 1025 → goes_below limit o1 ≡ true → RoundRises v o1 o2 →
      OfBoards o0 o1 (λ a b. engine_words (kept_by b.rom) + 1025 * most v a.hart.machine a.hart.control ≤ engine_words (kept_by a.rom) + 1025 * most v b.hart.machine b.hart.control) →
      OfBoards o1 o2 (λ a b. engine_words (kept_by b.rom) ≤ engine_words (kept_by a.rom) + k) →
      OfBoards o0 o2 (λ a b. engine_words (kept_by b.rom) + 1025 * most v a.hart.machine a.hart.control ≤ engine_words (kept_by a.rom) + 1025 * most v b.hart.machine b.hart.control)
  words_on k None o1 o2 few goes rises one two = absurd one
  words_on k (Some a) None o2 few goes rises one two = absurd one
  words_on k (Some a) (Some b) None few goes rises one two = absurd two
  words_on k (Some a) (Some b) (Some c) few goes rises one two =
      let g = goes_is limit b goes in
      let up = (rises g.0).most in
      omega (arith, few, one, two, up)

  least : (j n : ℕ) → j < n + 1 → (j < n) ⊎ (j ≡ n)
  least j n lt = grind arith

  by_last : (j : ℕ) → (j < on.made) ⊎ (j ≡ on.made) → FromHere v w0.board w0.around (λ b s from.
      GoesOn limit (turned_all (setting_of b.rom) v (rounds rate j) s))
  by_last j (inl lt) = on.going j lt
  by_last j (inr is) = going_more w0.board w1.board goes on.came.led j is

  pub going_up : GoesBefore v limit rate (on.made + 1) w0
  going_up j lt = by_last j (least j on.made lt)

  pub runs_more : rate ≤ 1024 → CameOn v (round rate) w1 w2 → RoundRises v w1.board w2.board → RunsOn v limit rate w0 w2
  runs_more few came rises = record {
    made = on.made + 1;
    came = subst (λ (ts : List Turn). CameOn v ts w0 w2) (sym (rounds_more rate on.made)) (came_more v (rounds rate on.made) (round rate) w0 w1 w2 on.came came);
    going = going_up;
    steps = steps_more w1.board w2.board goes rises;
    words = words_on (length (round rate)) w0.board w1.board w2.board long goes rises on.words came.words;
  }
    where
      long : length (round rate) ≤ 1025
      long = let many = length-replicate rate of_engine in omega (arith, many, few)

  -- the measure falls
  pub runs_fall : RoundRises v w1.board w2.board → left_of v limit w2.board < left_of v limit w1.board
  runs_fall rises = by w1.board w2.board goes on.steps rises
    where
      by : (o1 o2 : Option (BoardOf EngineData)) → goes_below limit o1 ≡ true → OfBoard o1 (λ b. b.hart.machine.steps ≤ limit) → RoundRises v o1 o2 → left_of v limit o2 < left_of v limit o1
      by None o2 goes steps rises = absurd rises
      by (Some a) None goes steps rises = absurd rises
      by (Some a) (Some b) goes steps rises =
          let g = goes_is limit a goes in
          let up = (rises g.0).most in
          omega (arith, up, steps, most_any v a.hart.machine a.hart.control (most v a.hart.machine a.hart.control) (omega arith))

module _ (v : ImageData) (limit rate : ℕ) (w0 w1 : Whole) (on : RunsOn v limit rate w0 w1) (goes : goes_below limit w1.board ≡ true) where
  pub words_up_to : limit ≤ 2 ^ 48 → WordsUpTo (2 ^ 57) w0.board → WordsUpTo (2 ^ 60 - 2048) w1.board
  words_up_to small few = by w0.board w1.board on.steps on.words few
    where
      by : (o0 o1 : Option (BoardOf EngineData)) → OfBoard o1 (λ b. b.hart.machine.steps ≤ limit) →
          OfBoards o0 o1 (λ a b. engine_words (kept_by b.rom) + 1025 * most v a.hart.machine a.hart.control ≤ engine_words (kept_by a.rom) + 1025 * most v b.hart.machine b.hart.control) → WordsUpTo (2 ^ 57) o0 → WordsUpTo (2 ^ 60 - 2048) o1
      by None o1 steps words few = absurd few
      by (Some a) None steps words few = absurd words
      by (Some a) (Some b) steps words few = omega (arith, small, steps, words, few, most_any v b.hart.machine b.hart.control (most v b.hart.machine b.hart.control) (omega arith))

  pub steps_few : limit ≤ 2 ^ 48 → StepsFew w1.board
  steps_few small = by w1.board goes
    where
      by : (o : Option (BoardOf EngineData)) → goes_below limit o ≡ true → StepsFew o
      by None goes = absurd (false≢true goes)
      by (Some b) goes = let g = goes_is limit b goes in omega (arith, small, g.1)

pub runs_to : (v : ImageData) (limit rate : ℕ) (w0 w1 : Whole) → RunsOn v limit rate w0 w1 → goes_below limit w1.board ≡ false → RanTo v limit rate w0 w1
runs_to v limit rate w0 w1 on over = record { made = on.made; came = on.came; going = on.going; done = over }

-- ---- what stands where a device broke a round off

-- of a point only the ram, what is left to read and what the sinks hold count here
broke_around : (by : Setting) (v : ImageData) (fault : BoardFault) (s : Moment) (from : Point) (a c : BoardOf EngineData) (w : Around) → Broke (beside by) v fault s from (point_around c w) → Broke (beside by) v fault s from (point_around a w)
broke_around by v RamFault s from a c w h = record { reached = h.reached; is = h.is; running = h.running; inside = h.inside; input = h.input; output = h.output; error = h.error; words = h.words; fetches = h.fetches; last_failed = h.last_failed }
broke_around by v SourceFault s from a c w h =
    record { output_front = h.output_front; output = h.output; error_front = h.error_front; error = h.error; unwritten = h.unwritten; taken = h.taken; input = h.input; few = h.few; words = h.words; fetches = h.fetches; sets = h.sets }
broke_around by v SinkFault s from a c w h =
    record { output_front = h.output_front; output = h.output; error_front = h.error_front; error = h.error; unwritten = h.unwritten; taken = h.taken; input = h.input; few = h.few; words = h.words; fetches = h.fetches; sets = h.sets }

order_around : (s : FlatState) (from : Point) (a c : BoardOf EngineData) (w : Around) (before after : Faults) → InOrder s from (point_around c w) before after → InOrder s from (point_around a w) before after
order_around s from a c w before after h = record { output_failed = h.output_failed; error_failed = h.error_failed }

-- of the hart's event
hart_stopped : (v : ImageData) (rate made : ℕ) (w0 w2 : Whole) (fault : BoardFault) → HartBroke v (rounds rate made) w0 w2 (Err fault) →
    FromHere v w0.board w0.around (λ b s from.
    HartStopped (setting_of b.rom) v fault (turned_all (setting_of b.rom) v (rounds rate made) s) from (point_around b w2.around) (faults_of w0.around.devices) (faults_of w2.around.devices))
hart_stopped v rate made w0 w2 fault hart = by w0.board hart.mid.board w2.board hart.came.led hart.came.turns hart.short hart.broke
  where
    by : (o m n : Option (BoardOf EngineData)) → Leads v (rounds rate made) o m w0.around hart.mid.around → TakesTurns v m hart.mid.around.ram → PcShort m →
        HartEvent v (record { board = m; ram = hart.mid.around.ram }) (record { board = n; ram = w2.around.ram }) hart.mid.around.devices w2.around.devices (Err fault) →
        FromHere v o w0.around (λ b s from.
        HartStopped (setting_of b.rom) v fault (turned_all (setting_of b.rom) v (rounds rate made) s) from (point_around b w2.around) (faults_of w0.around.devices) (faults_of w2.around.devices))
    by None m n led turns short event = absurd led
    by (Some a) None n led turns short event = absurd led
    by (Some a) (Some b) None led turns short event = absurd event
    by (Some a) (Some b) (Some c) led turns short event = λ s from at. by_ending s from at b.hart.machine.ending refl
      where
        mid : BoardWithDevices EngineData
        mid = board_around b hart.mid.around

        last : BoardWithDevices EngineData
        last = board_around c w2.around

        off : b.hart.machine.ending ≡ None → BrokeOff engine_service v (suc b.hart.machine.steps) mid last fault
        off running = record { running = running; more = omega arith; short = short; broke = event.stepped running }

        by_ending : (s : Moment) (from : Point) → BoardTracks v s from (board_around a w0.around) → (e : Option End) → b.hart.machine.ending ≡ e →
            HartStopped (setting_of a.rom) v fault (turned_all (setting_of a.rom) v (rounds rate made) s) from (point_around a w2.around) (faults_of w0.around.devices) (faults_of w2.around.devices)
        by_ending s from at (Some x) ended = absurd (let same = (event.ended x ended).0 in let bad : ⊥ = cc in bad)
        by_ending s from at None running =
            let there = led.tracks s from at in
            let broke = broke_off engine_service service_laws v (suc b.hart.machine.steps) mid last fault turns.sound (off running) (turned_all (setting_of a.rom) v (rounds rate made) s) from there in
            record {
              broke = broke_around (setting_of a.rom) v fault (turned_all (setting_of a.rom) v (rounds rate made) s) from a c w2.around
                  (subst (λ (q : Setting). Broke (beside q) v fault (turned_all (setting_of a.rom) v (rounds rate made) s) from (point_around c w2.around)) led.setting broke);
              unasked = λ other. subst (λ (f : Faults). Unasked (next_of (turned_all (setting_of a.rom) v (rounds rate made) s).flat) f (faults_of w2.around.devices)) hart.came.quiet
                  (off_unasked engine_service v (suc b.hart.machine.steps) mid last fault other turns.sound (off running) (turned_all (setting_of a.rom) v (rounds rate made) s) from there);
              in_order = λ other. subst (λ (f : Faults). InOrder (turned_all (setting_of a.rom) v (rounds rate made) s).flat from (point_around a w2.around) f (faults_of w2.around.devices)) hart.came.quiet
                  (order_around (turned_all (setting_of a.rom) v (rounds rate made) s).flat from a c w2.around _ _
                  (off_in_order engine_service v (suc b.hart.machine.steps) mid last fault other turns.sound (off running) (turned_all (setting_of a.rom) v (rounds rate made) s) from there));
            }

-- and of one of the engine's
engine_stopped : (v : ImageData) (rate made : ℕ) (w0 w2 : Whole) (fault : BoardFault) → EngineBroke v (rounds rate made) rate w0 w2 (Err fault) →
    FromHere v w0.board w0.around (λ b s from.
    EngineStopped (setting_of b.rom) v rate fault (turned_all (setting_of b.rom) v (rounds rate made) s) from (point_around b w2.around))
engine_stopped v rate made w0 w2 fault engine = by w0.board engine.mid.board engine.came.led engine.failed
  where
    told : fault ≡ RamFault
    told = let is : IsErrOf {T = Unit {0}} (Err fault) RamFault = engine.told in cc

    by : (o m : Option (BoardOf EngineData)) → Leads v (rounds rate made ++ round engine.made) o m w0.around engine.mid.around → GivenUp m (state_of w2) engine.mid.around.ram →
        FromHere v o w0.around (λ b s from.
        EngineStopped (setting_of b.rom) v rate fault (turned_all (setting_of b.rom) v (rounds rate made) s) from (point_around b w2.around))
    by None m led failed = absurd led
    by (Some a) None led failed = absurd led
    by (Some a) (Some b) led failed = λ s from at.
        let there = subst (λ (k : Moment). BoardTracks v k from (board_around b engine.mid.around)) (turned_more (setting_of a.rom) v (rounds rate made) (round engine.made) s) (led.tracks s from at) in
        record {
          made = engine.made;
          fewer = engine.fewer;
          told = told;
          input = ap (λ (d : Devices). d.input.left) engine.devices ∙ there.input;
          output = subst (λ (d : Devices). Appends from.out d.output.held (turned_all (setting_of a.rom) v (round engine.made) (turned_all (setting_of a.rom) v (rounds rate made) s)).flat.output) (sym engine.devices) there.output;
          error = subst (λ (d : Devices). Appends from.err d.error.held (turned_all (setting_of a.rom) v (round engine.made) (turned_all (setting_of a.rom) v (rounds rate made) s)).flat.error) (sym engine.devices) there.error;
          words = failed.1.spared.fetched_at_stays ∙ there.words;
          fetches = failed.1.spared.fetches_stay ∙ there.ram.fetches;
          last_failed = failed.1.last_failed;
        }

round_stopped : (v : ImageData) (rate made : ℕ) (w0 w2 : Whole) (fault : BoardFault) → BrokeIn v (rounds rate made) rate w0 w2 (Err fault) →
    FromHere v w0.board w0.around (λ b s from.
    RoundStopped (setting_of b.rom) v rate fault (turned_all (setting_of b.rom) v (rounds rate made) s) from (point_around b w2.around) (faults_of w0.around.devices) (faults_of w2.around.devices))
round_stopped v rate made w0 w2 fault (inl hart) = by w0.board (hart_stopped v rate made w0 w2 fault hart)
  where
    by : (o : Option (BoardOf EngineData)) →
        FromHere v o w0.around (λ b s from.
        HartStopped (setting_of b.rom) v fault (turned_all (setting_of b.rom) v (rounds rate made) s) from (point_around b w2.around) (faults_of w0.around.devices) (faults_of w2.around.devices)) →
        FromHere v o w0.around (λ b s from.
        RoundStopped (setting_of b.rom) v rate fault (turned_all (setting_of b.rom) v (rounds rate made) s) from (point_around b w2.around) (faults_of w0.around.devices) (faults_of w2.around.devices))
    by None h = absurd h
    by (Some b) h = λ s from at. inl (h s from at)
round_stopped v rate made w0 w2 fault (inr engine) = by w0.board (engine_stopped v rate made w0 w2 fault engine)
  where
    by : (o : Option (BoardOf EngineData)) →
        FromHere v o w0.around (λ b s from.
        EngineStopped (setting_of b.rom) v rate fault (turned_all (setting_of b.rom) v (rounds rate made) s) from (point_around b w2.around)) →
        FromHere v o w0.around (λ b s from.
        RoundStopped (setting_of b.rom) v rate fault (turned_all (setting_of b.rom) v (rounds rate made) s) from (point_around b w2.around) (faults_of w0.around.devices) (faults_of w2.around.devices))
    by None h = absurd h
    by (Some b) h = λ s from at. inr (h s from at)

-- ---- the words of such a round

-- what a schedule has gained over a moment, as far as it was fetched, of a run that began where the ram had made so many sets
abbrev GainsFront : ℕ → List Fetch → List Fetch → RamState → RamState → Type 0
GainsFront sets first all before after = (more : List Fetch) × (all ≡ more ++ first) × FrontSince sets (reverse more) before after

-- the words fetched are those of a first part of a schedule
part_fetched : (by : Setting) (v : ImageData) (us rest ts : List Turn) (s : Moment) (from : Point) (before after : RamState) → ts ≡ us ++ rest →
    before.fetched_at ≡ since from.ram.sets s.words ++ from.ram.fetched_at → after.fetched_at ≡ since from.ram.sets (turned_all by v us s).words ++ from.ram.fetched_at →
    GainsFront from.ram.sets s.words (turned_all by v ts s).words before after
part_fetched by v us rest ts s from before after split was now =
    let made = keeps_fetched by v us s in
    let ahead = keeps_fetched by v rest (turned_all by v us s) in (
      ahead.0 ++ made.0,
      ap (λ (l : List Turn). (turned_all by v l s).words) split ∙ ap (λ (k : Moment). k.words) (turned_more by v us rest s) ∙ ahead.1 ∙ ap (λ (l : List Fetch). ahead.0 ++ l) made.1 ∙ sym (append_assoc ahead.0 made.0 s.words),
      (
        reverse ahead.0,
        record {
          fetched = reverse made.0;
          are = now ∙ ap (λ (l : List Fetch). since from.ram.sets l ++ from.ram.fetched_at) made.1
              ∙ ap (λ (l : List Fetch). l ++ from.ram.fetched_at) (since_append from.ram.sets made.0 s.words)
              ∙ append_assoc (since from.ram.sets made.0) (since from.ram.sets s.words) from.ram.fetched_at
              ∙ ap (λ (l : List Fetch). since from.ram.sets made.0 ++ l) (sym was)
              ∙ ap (λ (l : List Fetch). since from.ram.sets l ++ before.fetched_at) (sym (reverse-reverse made.0));
          front = sym (reverse-append ahead.0 made.0);
        },
      ),
    )

replicate_both : (k m : ℕ) → replicate (k + m) of_engine ≡ replicate k of_engine ++ replicate m of_engine
replicate_both zero m = let same : 0 + m ≡ m = omega arith in ap (λ (n : ℕ). replicate n of_engine) same
replicate_both (suc k) m = let one : suc k + m ≡ suc (k + m) = omega arith in ap (λ (n : ℕ). replicate n of_engine) one ∙ ap (λ (l : List Turn). of_engine ∷ l) (replicate_both k m)

-- the schedule of a round more, in two parts
none_split : (rate made : ℕ) → rounds rate (made + 1) ≡ rounds rate made ++ round rate
none_split rate made = rounds_more rate made

hart_split : (rate made : ℕ) → rounds rate (made + 1) ≡ (rounds rate made ++ of_hart ∷ []) ++ replicate rate of_engine
hart_split rate made = rounds_more rate made ∙ sym (append_assoc (rounds rate made) (of_hart ∷ []) (replicate rate of_engine))

engine_split : (rate made k : ℕ) → k < rate → rounds rate (made + 1) ≡ (rounds rate made ++ round k) ++ replicate (rate - k) of_engine
engine_split rate made k lt =
    let sum : rate ≡ k + (rate - k) = omega (arith, lt) in
    rounds_more rate made
    ∙ ap (λ (l : List Turn). rounds rate made ++ of_hart ∷ l) (ap (λ (n : ℕ). replicate n of_engine) sum ∙ replicate_both k (rate - k))
    ∙ sym (append_assoc (rounds rate made) (round k) (replicate (rate - k) of_engine))

module _ (by : Setting) (v : ImageData) (rate made : ℕ) (s : Moment) (from : Point) (before after : RamState) (was : before.fetched_at ≡ since from.ram.sets s.words ++ from.ram.fetched_at) where
  abbrev mid : Moment
  mid = turned_all by v (rounds rate made) s

  abbrev Gains : Type 0
  Gains = GainsFront from.ram.sets s.words (turned_all by v (rounds rate (made + 1)) s).words before after

  none_gains : after.fetched_at ≡ since from.ram.sets mid.words ++ from.ram.fetched_at → Gains
  none_gains now = part_fetched by v (rounds rate made) (round rate) (rounds rate (made + 1)) s from before after (none_split rate made) was now

  hart_gains : after.fetched_at ≡ since from.ram.sets (instruction (beside by) v mid).words ++ from.ram.fetched_at → Gains
  unfolding turned_all
  hart_gains now =
      part_fetched by v (rounds rate made ++ of_hart ∷ []) (replicate rate of_engine) (rounds rate (made + 1)) s from before after (hart_split rate made) was
      (now ∙ ap (λ (k : Moment). since from.ram.sets k.words ++ from.ram.fetched_at) (sym (turned_more by v (rounds rate made) (of_hart ∷ []) s)))

  engine_gains : (k : ℕ) → k < rate → after.fetched_at ≡ since from.ram.sets (turned_all by v (round k) mid).words ++ from.ram.fetched_at → Gains
  engine_gains k lt now =
      part_fetched by v (rounds rate made ++ round k) (replicate (rate - k) of_engine) (rounds rate (made + 1)) s from before after (engine_split rate made k lt) was
      (now ∙ ap (λ (q : Moment). since from.ram.sets q.words ++ from.ram.fetched_at) (sym (turned_more by v (rounds rate made) (round k) s)))

  broke_gains : (fault : BoardFault) (new : Point) → new.ram ≡ after → Broke (beside by) v fault mid from new → Gains
  broke_gains RamFault new same h = elim h.is [
    | inl is ↦ none_gains (ap (λ (r : RamState). r.fetched_at) (sym same) ∙ h.words ∙ ap (λ (k : Moment). since from.ram.sets k.words ++ from.ram.fetched_at) is)
    | inr is ↦ hart_gains (ap (λ (r : RamState). r.fetched_at) (sym same) ∙ h.words ∙ ap (λ (k : Moment). since from.ram.sets k.words ++ from.ram.fetched_at) is)
  ]
  broke_gains SourceFault new same h = hart_gains (ap (λ (r : RamState). r.fetched_at) (sym same) ∙ h.words)
  broke_gains SinkFault new same h = hart_gains (ap (λ (r : RamState). r.fetched_at) (sym same) ∙ h.words)

round_gains : (v : ImageData) (rate made : ℕ) (w0 w2 : Whole) (fault : BoardFault) (o : Option (BoardOf EngineData)) →
    FromHere v o w0.around (λ b s from.
    RoundStopped (setting_of b.rom) v rate fault (turned_all (setting_of b.rom) v (rounds rate made) s) from (point_around b w2.around) (faults_of w0.around.devices) (faults_of w2.around.devices)) →
    FromHere v o w0.around (λ b s from.
    GainsFront from.ram.sets s.words (turned_all (setting_of b.rom) v (rounds rate (made + 1)) s).words w0.around.ram w2.around.ram)
round_gains v rate made w0 w2 fault None stopped = absurd stopped
round_gains v rate made w0 w2 fault (Some b) stopped = λ s from at. elim (stopped s from at) [
  | inl hart ↦ broke_gains (setting_of b.rom) v rate made s from w0.around.ram w2.around.ram at.words fault (point_around b w2.around) refl hart.broke
  | inr engine ↦ engine_gains (setting_of b.rom) v rate made s from w0.around.ram w2.around.ram at.words engine.made engine.fewer engine.words
]

pub run_broke : (v : ImageData) (limit rate : ℕ) (w0 w1 w2 : Whole) (fault : BoardFault) → RunsOn v limit rate w0 w1 → goes_below limit w1.board ≡ true → BrokeIn v [] rate w1 w2 (Err fault) → RunBroke v limit rate w0 w2 (Err fault)
run_broke v limit rate w0 w1 w2 fault on goes broke = record {
  made = on.made;
  going = going_up v limit rate w0 w1 w2 on goes;
  broke = by broke;
  stopped = round_stopped v rate on.made w0 w2 fault (by broke);
  words = round_gains v rate on.made w0 w2 fault w0.board (round_stopped v rate on.made w0 w2 fault (by broke));
}
  where
    by : BrokeIn v [] rate w1 w2 (Err fault) → BrokeIn v (rounds rate on.made) rate w0 w2 (Err fault)
    by (inl hart) = inl (record {
      mid = hart.mid;
      came = subst (λ (ts : List Turn). CameOn v ts w0 hart.mid) (append-nil (rounds rate on.made)) (came_more v (rounds rate on.made) [] w0 w1 hart.mid on.came hart.came);
      short = hart.short;
      broke = hart.broke;
    })
    by (inr engine) = inr (record {
      made = engine.made;
      fewer = engine.fewer;
      mid = engine.mid;
      came = came_more v (rounds rate on.made) (of_hart ∷ replicate engine.made of_engine) w0 w1 engine.mid on.came engine.came;
      failed = engine.failed;
      devices = engine.devices;
      told = engine.told;
    })

-- ---- the faults of a run

pub came_causes : (v : ImageData) (ts : List Turn) (w0 w1 : Whole) (u : Unit {0}) (e f : BoardFault) → CameOn v ts w0 w1 →
    HasCauses (faults_of w0.around.devices) (faults_of w1.around.devices) (IsErrOf {T = Unit {0}} (Ok u) e) (IsErrOf {T = Unit {0}} (Ok u) f)
came_causes v ts w0 w1 u e f came = ok_causes came.quiet

pub came_ram_cause : (v : ImageData) (ts : List Turn) (w0 w1 : Whole) (u : Unit {0}) (e : BoardFault) → CameOn v ts w0 w1 → DeviceCause w0.around.ram.faults w1.around.ram.faults (IsErrOf {T = Unit {0}} (Ok u) e)
came_ram_cause v ts w0 w1 u e came = no_cause came.ram_quiet (λ is. cc)

hart_causes : (v : ImageData) (old new : Whole) (result : Result Unit BoardFault) → HartEvent v (state_of old) (state_of new) old.around.devices new.around.devices result →
    HasCauses (faults_of old.around.devices) (faults_of new.around.devices) (IsErrOf result SourceFault) (IsErrOf result SinkFault) × DeviceCause old.around.ram.faults new.around.ram.faults (IsErrOf result RamFault)
hart_causes v old new result event = by old.board new.board event
  where
    by : (o n : Option (BoardOf EngineData)) → HartEvent v (record { board = o; ram = old.around.ram }) (record { board = n; ram = new.around.ram }) old.around.devices new.around.devices result →
        HasCauses (faults_of old.around.devices) (faults_of new.around.devices) (IsErrOf result SourceFault) (IsErrOf result SinkFault) × DeviceCause old.around.ram.faults new.around.ram.faults (IsErrOf result RamFault)
    by None n event = absurd event
    by (Some a) None event = absurd event
    by (Some a) (Some b) event = by_ending a.hart.machine.ending refl
      where
        by_ending : (e : Option End) → a.hart.machine.ending ≡ e →
            HasCauses (faults_of old.around.devices) (faults_of new.around.devices) (IsErrOf result SourceFault) (IsErrOf result SinkFault) × DeviceCause old.around.ram.faults new.around.ram.faults (IsErrOf result RamFault)
        by_ending None running = let step = event.stepped running in (step.causes, step.ram_cause)
        by_ending (Some x) ended =
            let stays = event.ended x ended in
            let quiet : faults_of new.around.devices ≡ faults_of old.around.devices = ap (λ (d : Devices). faults_of d) stays.2 in
            let ram_quiet : new.around.ram.faults ≡ old.around.ram.faults = ap (λ (k : BoardWithRam EngineData). k.ram.faults) stays.1 in
            subst (λ (r : Result Unit BoardFault). HasCauses (faults_of old.around.devices) (faults_of new.around.devices) (IsErrOf r SourceFault) (IsErrOf r SinkFault) × DeviceCause old.around.ram.faults new.around.ram.faults (IsErrOf r RamFault)) (sym stays.0)
            (ok_causes quiet, no_cause ram_quiet (λ is. cc))

ram_alone : (result : Result Unit BoardFault) → IsErrOf result RamFault → (IsErrOf result SourceFault → ⊥) × (IsErrOf result SinkFault → ⊥)
ram_alone (Ok u) told = absurd (cc)
ram_alone (Err e) told = (λ is. cc, λ is. cc)

given_up_cause : (o : Option (BoardOf EngineData)) (next : PrefetchState) (before : RamState) (result : Result Unit BoardFault) → IsErrOf result RamFault → GivenUp o next before → DeviceCause before.faults next.ram.faults (IsErrOf result RamFault)
given_up_cause None next before result told failed = absurd failed
given_up_cause (Some b) next before result told failed = record { later = failed.1.spared.later; cause = λ is. failed.1.rose; told = inr told }

pub broke_causes : (v : ImageData) (ts : List Turn) (rate : ℕ) (w0 w2 : Whole) (result : Result Unit BoardFault) → BrokeIn v ts rate w0 w2 result →
    HasCauses (faults_of w0.around.devices) (faults_of w2.around.devices) (IsErrOf result SourceFault) (IsErrOf result SinkFault) × DeviceCause w0.around.ram.faults w2.around.ram.faults (IsErrOf result RamFault)
broke_causes v ts rate w0 w2 result (inl hart) =
    let last = hart_causes v hart.mid w2 result hart.broke in
    (causes_from hart.came.quiet last.0, cause_from hart.came.ram_quiet last.1)
broke_causes v ts rate w0 w2 result (inr engine) =
    let other = ram_alone result engine.told in (
      none_named (ap (λ (d : Devices). faults_of d) engine.devices ∙ engine.came.quiet) other.0 other.1,
      cause_from engine.came.ram_quiet (given_up_cause engine.mid.board (state_of w2) engine.mid.around.ram result engine.told engine.failed),
    )

-- ---- the words behind the slots

hart_kept : (v : ImageData) (old new : Whole) (result : Result Unit BoardFault) → HartEvent v (state_of old) (state_of new) old.around.devices new.around.devices result → KeepsBehind old.board old.around.ram new.around.ram
hart_kept v old new result event = by old.board new.board event
  where
    by : (o n : Option (BoardOf EngineData)) → HartEvent v (record { board = o; ram = old.around.ram }) (record { board = n; ram = new.around.ram }) old.around.devices new.around.devices result → KeepsBehind o old.around.ram new.around.ram
    by None n event = absurd event
    by (Some a) None event = absurd event
    by (Some a) (Some b) event = by_ending a.hart.machine.ending refl
      where
        by_ending : (e : Option End) → a.hart.machine.ending ≡ e → KeepsBeyond (span_of (setting_of a.rom)) old.around.ram new.around.ram
        by_ending None running = (event.stepped running).kept
        by_ending (Some x) ended =
            subst (λ (r : RamState). KeepsBeyond (span_of (setting_of a.rom)) old.around.ram r) (sym (ap (λ (k : BoardWithRam EngineData). k.ram) (event.ended x ended).1))
            (keeps_all (span_of (setting_of a.rom)) old.around.ram)

given_up_kept : (o : Option (BoardOf EngineData)) (next : PrefetchState) (before : RamState) → GivenUp o next before → KeepsBehind o before next.ram
given_up_kept None next before failed = absurd failed
given_up_kept (Some b) next before failed = let s = failed.1.spared in record { same_length = s.length_stays; beyond = s.beyond; reached = s.reached }

pub broke_kept : (v : ImageData) (ts : List Turn) (rate : ℕ) (w0 w2 : Whole) (result : Result Unit BoardFault) → BrokeIn v ts rate w0 w2 result → KeepsBehind w0.board w0.around.ram w2.around.ram
broke_kept v ts rate w0 w2 result (inl hart) =
    keeps_more v ts w0.board hart.mid.board w0.around hart.mid.around w2.around hart.came.led hart.came.kept (hart_kept v hart.mid w2 result hart.broke)
broke_kept v ts rate w0 w2 result (inr engine) =
    keeps_more v (ts ++ of_hart ∷ replicate engine.made of_engine) w0.board engine.mid.board w0.around engine.mid.around w2.around engine.came.led engine.came.kept
    (given_up_kept engine.mid.board (state_of w2) engine.mid.around.ram engine.failed)
