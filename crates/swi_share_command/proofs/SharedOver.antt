-- From the events of a schedule to what programs do over a cache.
use Rattle.std.proofs.Common.{◌≡◌, inl, inr, ℕ, zero, suc, ◌+◌, ◌-◌, ◌*◌, ◌/◌, ◌^◌, ◌<◌, ◌≤◌, nat_le, Bool, true, false, if◌then◌else◌, List, [], ◌∷◌, ◌++◌, length, map, slice_get, slice_index, slice_index_or, take, Option, Some, None, Ok, Err, refl, sym, ◌∙◌, ap, subst, append-nil, arith}
use Rattle.std.proofs.lemmas.Bool.Decides.{nat_tests}
use Rattle.std.proofs.lemmas.List.{length-append}
use Rattle.std.proofs.lemmas.Option.{same_Some}
use Rattle.std.proofs.Math.Nat.{div-mul-le_self}
use Rattle.std.proofs.Math.Seq.{take-append-add}
use Rattle.std.specs.Io.KnownBytes.{Appends}
use Rattle.swi_outside.specs.CacheRam.{Fetch, KeepsBeyond, RamState, later}
use Rattle.swi_outside.specs.Fetches.{later_append}
use Rattle.swi_outside.specs.Causes.{PairCause, Rose, risen}
use Rattle.swi_outside.specs.Devices.{Faults}
use Rattle.swi_outside.specs.Laws.{Appends-append, cause_from, no_cause}
use Rattle.swi_outside.specs.Sink.{SinkState, WasWritten}
use Rattle.swi_command.specs.declared.command.ShareOptions.{ShareOptions}
use Rattle.swi_calls.specs.declared.end.End.{End}
use Rattle.swi_calls.specs.declared.machine.Machine.{Machine}
use Rattle.swi_calls.specs.Flat.{machine_of}
use Rattle.swi_calls.specs.Held.{held_run}
use Rattle.swi_calls.specs.Laws.{held_is_flat, held_stops}
use Rattle.swi_calls.specs.State.{FlatState}
use Rattle.swi_rom.specs.Coherent.{Coherent}
use Rattle.swi_rom.specs.Rams.{risen_more}
use Rattle.swi_rom.specs.Record.{Record, writes}
use Rattle.swi_slots.specs.Coheres.{coheres}
use Rattle.swi_slots.specs.Slots.{Slots, kept_by, setting_of, span_of}
use Rattle.swi_slots.proofs.Turned.{turned_kept, turned_serves}
use Rattle.swi_image.specs.Format.{ImageData}
use Rattle.swi_board.specs.Ran.{RamRan}
use Rattle.swi_hart.specs.declared.fault.BoardFault.{BoardFault}
use Rattle.swi_hart.specs.declared.fault.BoardFault.TheVariants.{RamFault, SinkFault, SourceFault}
use Rattle.swi_share.specs.declared.process.Guest.{Guest}
use Rattle.swi_share.specs.declared.process.Process.{Process}
use Rattle.swi_share.specs.Cuts.{RamCut, SinkCut}
use Rattle.swi_share.specs.Event.{Quiet, context}
use Rattle.swi_share.specs.Laws.{counts_of, events_of, fetched_words, follows}
use Rattle.swi_share.specs.Run.{CanRun, RunDone, RunStopped, ScheduleRan}
use Rattle.swi_share.specs.Shared.{Context, Event, Shared, event_by, event_in, event_of, shared_event, shared_run, with_event}
use Rattle.swi_share.specs.Sharing.{Came, IsSharing, ShareData, ShareWith, devices_with, kept_in, seen, setting_in}
use Rattle.swi_share.specs.Starting.{first_context, most_words, shared_start}
use Rattle.swi_share.proofs.Bounds.{can_start, counted, process_at}
use Rattle.swi_share.proofs.Later.{fetched_both, front_then}
use Rattle.swi_share.proofs.Pieces.{in_pieces, writes_alone}
use Rattle.swi_share.proofs.Scheduling.{anew, run_next, sets_are}
use Rattle.swi_share.proofs.Stopped.{ram_stopped, sink_stopped}
use Rattle.swi_answer.specs.declared.answer.Ending.TheVariants as ending
use Rattle.swi_answer.specs.declared.answer.Refusal.TheVariants as refusal
use Rattle.swi_task.specs.Runs.{refusal_of}
use Rattle.swi_task.specs.Devices.{Devices}
use Rattle.swi_task.proofs.Refusals.{calm_causes, causes_of, out_causes, rose_cause, same_count}
use Rattle.swi_share_command.proofs.Sharing.{order_at, order_length, process_below, turn_below}
use Rattle.swi_share_command.specs.RunShared.{EndsAlone, EventBroken, EventCutOff, EventUnfetched, IsAsAlone, BlocksStand, RamShared, ReportBroken, Shares, SharesOver, order_of, share_report, shared_end, start_of_guest}

-- ---- each program as alone

alone : (start : FlatState) (n : ℕ) (m : Machine) → m ≡ (held_run n start).machine → EndsAlone start n m
alone start n m is = record {
  held = is;
  flat = λ never. is ∙ ap (λ (s : FlatState). s.machine) (held_is_flat n start never);
  stops = λ k lt never at.
      let all : n ≡ suc k + (n - suc k) = omega (arith, lt) in
      let h = held_stops k start never at (n - suc k) in
      (h.0, h.1, is ∙ ap (λ (i : ℕ). (held_run i start).machine) all ∙ ap (λ (s : FlatState). s.machine) h.2);
}

-- a program before its first event
abbrev begun : Guest → Context
begun x = record {
  image = x.image;
  machine = machine_of x.program x.layout false;
  input = x.input.items;
  booted = false;
  place = None;
  count = 0;
}

first_at : (xs : List Guest) (g : ℕ) (x : Guest) → slice_get xs g ≡ Some x → slice_index_or (map first_context xs) g None ≡ Some (begun x)
first_at [] g x is = absurd (cc)
first_at (y ∷ ys) zero x is = ap first_context (same_Some y x is)
first_at (y ∷ ys) (suc g) x is = first_at ys g x is

pub as_alone : (order : List ℕ) (bytes : ℕ) (guests : List Guest) (now : ShareWith) (g : ℕ) (x : Guest) → slice_get guests g ≡ Some x →
    seen now.share ≡ anew (shared_run order (shared_start bytes guests)) → IsSharing now.share now.ram.words → IsAsAlone order (shared_run order (shared_start bytes guests)) g x
as_alone order bytes guests now g x is at sharing =
    let f = follows order g (shared_start bytes guests) (begun x) (first_at guests g x is) in
    let c : Context = f.0 in
    let seen_is : slice_index_or (seen now.share).contexts g None ≡ Some c = ap (λ (s : Shared). slice_index_or s.contexts g None) at ∙ f.1 in
    let b = counted now.share now.ram.words g c sharing seen_is in
    record { context = c; is = f.1; image = f.2.image; ends = alone (start_of_guest x) (events_of g order) c.machine f.2.machine; most = b.0; unbooted = b.1 }

-- ---- the ram

counts_none : (xs : List Guest) → counts_of (map first_context xs) ≡ 0
unfolding counts_of
counts_none [] = refl
counts_none (x ∷ xs) = let rest = counts_none xs in omega (arith, rest)

-- the placed blocks stand in the ram
placed_at : (share : ShareData) (words : List ℕ) (g : ℕ) (c : Context) → IsSharing share words → slice_index_or (seen share).contexts g None ≡ Some c → BlocksStand (seen share) g c words
placed_at share words g c sharing is =
    let rom : Slots = sharing.rom in
    let at = process_at share.processes g c is in
    let p : Process = at.0 in
    let seat = sharing.seated g p at.1 in
    let same : context p.hart p.image p.input.left ≡ c = same_Some (context p.hart p.image p.input.left) c at.2 in
    let image : sharing.images g ≡ c.image = seat.image ∙ ap (λ (x : Context). x.image) same in
    let below : g < rom.programs = let few = process_below share.processes g p at.1 in let all = sharing.programs in omega (arith, few, all) in
    let turned_to : Slots = record rom { turn = g } in
    let serves = turned_serves rom rom g (sharing.images rom.turn) sharing.images words refl below (refl, sharing.serves) in
    let coherent = coheres turned_to (sharing.images g) words (sharing.images, serves) in
    subst (λ (o : Option Slots). Coherent c.image (record (kept_in o) { turn = g }) (span_of (setting_in o)) words) (sym sharing.is)
    (subst (λ (v : ImageData). Coherent v (record (kept_by rom) { turn = g }) (span_of (setting_of rom)) words) image
    (subst (λ (r : Record). Coherent (sharing.images g) r (span_of (setting_of rom)) words) (turned_kept rom rom g refl) coherent))

pub ram_shared : (order : List ℕ) (bytes : ℕ) (guests : List Guest) (first now : ShareWith) → seen first.share ≡ shared_start bytes guests → RunDone (shared_run order (seen first.share)) first now →
    RamShared order (shared_start bytes guests) (shared_run order (shared_start bytes guests)) first.ram now.ram
ram_shared order bytes guests first now start done =
    let s = shared_run order (shared_start bytes guests) in
    let c = subst (λ (q : Shared). RunDone (shared_run order q) first now) start done in
    let none : writes (seen first.share).kept ≡ 0 = ap (λ (q : Shared). writes q.kept) start in
    let less : writes s.kept - 0 ≡ writes s.kept = omega arith in
    let law = fetched_words order (shared_start bytes guests) in
    let counts = counts_none guests in
    record {
      ran = subst (λ (n : ℕ). RamRan (span_of s.setting) s.fetches n first.ram now.ram) less
          (subst (λ (n : ℕ). RamRan (span_of s.setting) s.fetches (writes s.kept - n) first.ram now.ram) none c.came.ram);
      words = c.came.words;
      coherent = λ g x is. subst (λ (q : Shared). BlocksStand q g x now.ram.words) c.came.share
          (placed_at now.share now.ram.words g x done.sharing (ap (λ (q : Shared). slice_index_or q.contexts g None) c.came.share ∙ is));
      unused = c.came.unused;
      fetched = omega (arith, law, counts);
    }

-- ---- the end

-- the devices of a run, before it and behind it
abbrev pub with_streams : Devices → ShareWith → Devices
with_streams d w = record d { output = w.out; error = w.err; ram = w.ram }

abbrev pub with_output : Devices → SinkState → Devices
with_output d out = record d { output = out }

pub shares_done : (o : ShareOptions) (bytes : ℕ) (guests : List Guest) (d : Devices) (first now : ShareWith) (out : SinkState) → seen first.share ≡ shared_start bytes guests →
    RunDone (shared_run (order_of (length guests) o.schedule) (seen first.share)) first now → Appends now.out.held out.held (share_report o (seen now.share)) →
    Shares o bytes guests (with_streams d first) (with_output (with_streams d now) out) ending.Done []
shares_done o bytes guests d first now out start done report =
    let order = order_of (length guests) o.schedule in
    let s = shared_end o bytes guests in
    let c = subst (λ (q : Shared). RunDone (shared_run order q) first now) start done in
    let told : share_report o (seen now.share) ≡ share_report o s = ap (λ (q : Shared). share_report o q) c.came.share in
    record {
      ending = refl;
      output = Appends-append first.out.held now.out.held out.held s.output (share_report o s) c.came.output (subst (λ (l : List ℕ). Appends now.out.held out.held l) told report);
      error = subst (λ (l : List ℕ). Appends first.err.held now.err.held l) (sym (append-nil s.error)) c.came.error;
      input = refl;
      ram = ram_shared order bytes guests first now start done;
      alone = λ g x is. as_alone order bytes guests now g x is c.came.share done.sharing;
      pieces = in_pieces order (shared_start bytes guests);
      wrote = λ g x is. writes_alone order g (shared_start bytes guests) (begun x) (first_at guests g x is);
    }

-- ---- a device broke off an event

next_is : (g : ℕ) (was : Shared) (c : Context) → slice_index_or was.contexts g None ≡ Some c → c.machine.ending ≡ None →
    shared_event g was ≡ with_event g was (event_of was.setting (record was.kept { turn = g }) c)
next_is g was c is going = ap (λ (o : Option Context). event_in g was o) is ∙ ap (λ (e : Option End). event_by g was c e) going

appends_to : (a b c : Option (List ℕ)) (x y whole : List ℕ) (k : ℕ) → whole ≡ x ++ y → Appends a b x → Appends b c (take k y) → Appends a c (take (length x + k) whole)
appends_to a b c x y whole k is one two =
    subst (λ (l : List ℕ). Appends a c l) (sym (ap (λ (l : List ℕ). take (length x + k) l) is ∙ take-append-add x y k)) (Appends-append a b c x (take k y) one two)

joined_if : (t t' : Bool) (x y whole : List ℕ) → t ≡ t' → whole ≡ x ++ y → x ++ (if t then y else []) ≡ (if t' then whole else x)
joined_if true true x y whole same is = sym is
joined_if false false x y whole same is = append-nil x
joined_if true false x y whole same is = absurd (cc)
joined_if false true x y whole same is = absurd (cc)

same_test : (a x y n : ℕ) → n ≡ a + x → nat_le x y ≡ nat_le n (a + y)
same_test a x y n is = grind (arith, nat_tests)

-- what an event adds to the state before it
pub record Adds (was next : Shared) (e : Event) : Type 0 where
  pub output : next.output ≡ was.output ++ e.output
  pub error : next.error ≡ was.error ++ e.error
  pub fetches : next.fetches ≡ was.fetches + e.fetches
  pub words : next.words ≡ was.words ++ later was.sets e.words

adds : (g : ℕ) (was : Shared) (c : Context) → slice_index_or was.contexts g None ≡ Some c → c.machine.ending ≡ None →
    Adds was (shared_event g was) (event_of was.setting (record was.kept { turn = g }) c)
adds g was c is going =
    let e = event_of was.setting (record was.kept { turn = g }) c in
    subst (λ (s : Shared). Adds was s e) (sym (next_is g was c is going)) (record { output = refl; error = refl; fetches = refl; words = refl })

-- the event after so many, of the program whose turn it is
pub next_adds : (order : List ℕ) (made : ℕ) (start : Shared) (mid : Shared) (c : Context) → made < length order → mid ≡ anew (shared_run (take made order) start) →
    slice_index_or mid.contexts (slice_index order made) None ≡ Some c → c.machine.ending ≡ None →
    Adds (shared_run (take made order) start) (shared_run (take (made + 1) order) start) (event_of mid.setting (record mid.kept { turn = slice_index order made }) c)
next_adds order made start mid c lt at is going =
    let was = shared_run (take made order) start in
    let g = slice_index order made in
    let here : slice_index_or was.contexts g None ≡ Some c = ap (λ (s : Shared). slice_index_or s.contexts g None) (sym at) ∙ is in
    let e : event_of mid.setting (record mid.kept { turn = g }) c ≡ event_of was.setting (record was.kept { turn = g }) c = ap (λ (s : Shared). event_of s.setting (record s.kept { turn = g }) c) at in
    subst (λ (s : Shared). Adds was s (event_of mid.setting (record mid.kept { turn = g }) c)) (sym (run_next order made start lt))
    (subst (λ (x : Event). Adds was (shared_event g was) x) (sym e) (adds g was c here going))

-- ---- and one that a device broke off

-- what adds nothing is nothing
none_added : (xs ys whole : List ℕ) → whole ≡ xs ++ ys → whole ≡ xs → ys ≡ []
none_added xs ys whole is same = by ys (let sum = ap (λ (l : List ℕ). length l) (sym same ∙ is) in let parts = length-append xs ys in omega (arith, sum, parts))
  where
    by : (l : List ℕ) → length l ≡ 0 → l ≡ []
    by [] none = refl
    by (y ∷ l) none = absurd (omega (arith, none))

pub cut_off : (was next : Shared) (e : Event) (d : Devices) (first mid after : ShareWith) (left left' : List ℕ) → Adds was next e → Came was first mid → Quiet first.out mid.out first.err mid.err →
    SinkCut e (devices_with mid left) (devices_with after left') → EventCutOff was next (with_streams d first) (with_streams d after) refusal.SinkFault []
cut_off was next e d first mid after left left' adds came quiet cut = record {
  fault = refl;
  output_front = length was.output + cut.output_front;
  output_least = omega arith;
  output = appends_to first.out.held mid.out.held after.out.held was.output e.output next.output cut.output_front adds.output came.output cut.output;
  error_front = length was.error + cut.error_front;
  error_least = omega arith;
  error = subst (λ (l : List ℕ). Appends first.err.held after.err.held l) (sym (append-nil (take (length was.error + cut.error_front) next.error)))
      (appends_to first.err.held mid.err.held after.err.held was.error e.error next.error cut.error_front adds.error came.error cut.error);
  output_unasked = λ same. cut.output_unasked (none_added was.output e.output next.output adds.output same) ∙ quiet.output;
  error_unasked = λ same. cut.error_unasked (none_added was.error e.error next.error adds.error same) ∙ quiet.error;
  more = later was.sets cut.words.1.fetched;
  ahead = later was.sets cut.words.0;
  next_words = ap (λ (l : List Fetch). was.words ++ l) (sym (later_append was.sets cut.words.1.fetched cut.words.0) ∙ ap (λ (l : List Fetch). later was.sets l) cut.words.1.front) ∙ sym adds.words;
  words = fetched_both was.sets was.words cut.words.1.fetched first.ram mid.ram after.ram (sets_are was first mid came) came.words cut.words.1.are;
}

pub unfetched_off : (was next : Shared) (e : Event) (d : Devices) (first mid after : ShareWith) (left left' : List ℕ) → Adds was next e → Came was first mid →
    RamCut e (devices_with mid left) (devices_with after left') → EventUnfetched was next (with_streams d first) (with_streams d after) refusal.RamFault []
unfetched_off was next e d first mid after left left' adds came cut =
    let k = cut.fetched in
    let sum = adds.fetches in
    let few = cut.most in
    let test : nat_le e.fetches k ≡ nat_le next.fetches (was.fetches + k) = same_test was.fetches e.fetches k next.fetches adds.fetches in
    let outs = joined_if (nat_le e.fetches k) (nat_le next.fetches (was.fetches + k)) was.output e.output next.output test adds.output in
    let errors = joined_if (nat_le e.fetches k) (nat_le next.fetches (was.fetches + k)) was.error e.error next.error test adds.error in
    record {
      fault = refl;
      fetched = was.fetches + k;
      fetches = cut.fetches ∙ ap (λ (n : ℕ). risen n k) came.ram.fetches ∙ risen_more first.ram.fetches was.fetches k;
      least = omega arith;
      most = omega (arith, sum, few);
      words = front_then was.sets first.ram mid.ram after.ram was.words e.words next.words (sets_are was first mid came) adds.words came.words cut.words;
      output = subst (λ (l : List ℕ). Appends first.out.held after.out.held l) outs (Appends-append first.out.held mid.out.held after.out.held was.output _ came.output cut.output);
      error = subst (λ (l : List ℕ). Appends first.err.held after.err.held l) (sym (append-nil (if nat_le next.fetches (was.fetches + k) then next.error else was.error)))
          (subst (λ (l : List ℕ). Appends first.err.held after.err.held l) errors (Appends-append first.err.held mid.err.held after.err.held was.error _ came.error cut.error));
      last_failed = cut.last_failed;
    }

-- ---- the output failed behind the events

pub report_broken : (o : ShareOptions) (bytes : ℕ) (guests : List Guest) (d : Devices) (first now : ShareWith) (out : SinkState) (k : ℕ) → seen first.share ≡ shared_start bytes guests →
    RunDone (shared_run (order_of (length guests) o.schedule) (seen first.share)) first now → Appends now.out.held out.held (take k (share_report o (seen now.share))) → Rose first.out.faults out.faults →
    ReportBroken o bytes guests (with_streams d first) (with_output (with_streams d now) out) refusal.SinkFault []
report_broken o bytes guests d first now out k start done report rose =
    let order = order_of (length guests) o.schedule in
    let s = shared_end o bytes guests in
    let c = subst (λ (q : Shared). RunDone (shared_run order q) first now) start done in
    let told : share_report o (seen now.share) ≡ share_report o s = ap (λ (q : Shared). share_report o q) c.came.share in
    record {
      fault = refl;
      output_front = k;
      output = Appends-append first.out.held now.out.held out.held s.output (take k (share_report o s)) c.came.output (subst (λ (l : List ℕ). Appends now.out.held out.held (take k l)) told report);
      error = subst (λ (l : List ℕ). Appends first.err.held now.err.held l) (sym (append-nil s.error)) c.came.error;
      ram = ram_shared order bytes guests first now start done;
      cause = rose;
    }

-- ---- counts of faults

abbrev faults_as : ℕ → ℕ → ℕ → Faults
faults_as input output error = record { input = input; output = output; error = error }

pair_from : {a b c d e f : ℕ} {named : Type 0} → b ≡ a → e ≡ d → PairCause b c e f named → PairCause a c d f named
pair_from {a} {b} {c} {d} {e} {f} {named} one other h = subst (λ (n : ℕ). PairCause a c n f named) other (subst (λ (n : ℕ). PairCause n c e f named) one h)

pair_none : {a b c d : ℕ} {named : Type 0} → b ≡ a → d ≡ c → (named → ⊥) → PairCause a b c d named
pair_none one other never = record {
  one_later = omega (arith, one);
  other_later = omega (arith, other);
  cause = λ n. absurd (never n);
  one_told = inl one;
  other_told = inl other;
}

-- ---- the whole answer

keeps_less : (a b : ℕ) (r s : RamState) → a ≤ b → KeepsBeyond a r s → KeepsBeyond b r s
keeps_less a b r s h k = record {
  same_length = k.same_length;
  beyond = λ i le. k.beyond i (omega (arith, h, le));
  reached = let top = k.reached in omega (arith, top, h);
}

-- the slots lie within the cache
within_cache : (n b : ℕ) → n / 4 / b * b ≤ n / 4
within_cache n b = div-mul-le_self (n / 4) b

abbrev span_in : ℕ → List Guest → ℕ
span_in bytes guests = span_of (shared_start bytes guests).setting

keeps_cache : (bytes : ℕ) (guests : List Guest) (before after : RamState) → KeepsBeyond (span_in bytes guests) before after → KeepsBeyond (bytes / 4) before after
keeps_cache bytes guests before after k = keeps_less (span_in bytes guests) (bytes / 4) before after (within_cache bytes (most_words guests)) k

pub keeps_slots : (bytes : ℕ) (guests : List Guest) (s : Shared) (before after : RamState) → s ≡ shared_start bytes guests → KeepsBeyond (span_of s.setting) before after → KeepsBeyond (span_in bytes guests) before after
keeps_slots bytes guests s before after is k = subst (λ (q : Shared). KeepsBeyond (span_of q.setting) before after) is k

-- want of memory
pub no_share : (o : ShareOptions) (bytes : ℕ) (guests : List Guest) (d : Devices) → SharesOver o bytes guests d d (Err refusal.Memory)
no_share o bytes guests d = record {
  ran = record {
    done = tt;
    refused = tt;
    quiet = λ _. refl;
    failed = λ f. absurd f;
    causes = calm_causes d d (Err refusal.Memory) tt refl refl refl;
  };
  beyond = record { same_length = refl; beyond = λ i le. refl; reached = omega arith };
}

-- ---- a device failed

module _ (o : ShareOptions) (bytes : ℕ) (guests : List Guest) (d : Devices) (first after : ShareWith) (start : seen first.share ≡ shared_start bytes guests) where
  abbrev order : List ℕ
  order = order_of (length guests) o.schedule

  few : {fault : BoardFault} (st : RunStopped fault order first after) → st.made < o.schedule.events
  few st = let n = order_length (length guests) o.schedule in let lt = st.fewer in omega (arith, n, lt)

  added : {fault : BoardFault} (st : RunStopped fault order first after) →
      Adds (shared_run (take st.made order) (seen first.share)) (shared_run (take (st.made + 1) order) (seen first.share))
      (event_of (seen st.mid.share).setting (record (seen st.mid.share).kept { turn = slice_index order st.made }) st.stopped.context)
  added st = next_adds order st.made (seen first.share) (seen st.mid.share) st.stopped.context st.fewer st.done.came.share st.stopped.context_is st.stopped.running

  cut_event : RunStopped SinkFault order first after → EventBroken o bytes guests (with_streams d first) (with_streams d after) refusal.SinkFault []
  cut_event st = record {
    made = st.made;
    fewer = few st;
    broke = inl (subst (λ (q : Shared). EventCutOff (shared_run (take st.made order) q) (shared_run (take (st.made + 1) order) q) (with_streams d first) (with_streams d after) refusal.SinkFault []) start
        (cut_off (shared_run (take st.made order) (seen first.share)) (shared_run (take (st.made + 1) order) (seen first.share)) _ d first st.mid after st.stopped.context.input st.stopped.process.input.left
        (added st) st.done.came st.done.quiet (sink_stopped (slice_index order st.made) st.mid after st.stopped)));
  }

  unfetched_event : RunStopped RamFault order first after → EventBroken o bytes guests (with_streams d first) (with_streams d after) refusal.RamFault []
  unfetched_event st = record {
    made = st.made;
    fewer = few st;
    broke = inr (subst (λ (q : Shared). EventUnfetched (shared_run (take st.made order) q) (shared_run (take (st.made + 1) order) q) (with_streams d first) (with_streams d after) refusal.RamFault []) start
        (unfetched_off (shared_run (take st.made order) (seen first.share)) (shared_run (take (st.made + 1) order) (seen first.share)) _ d first st.mid after st.stopped.context.input st.stopped.process.input.left
        (added st) st.done.came (ram_stopped (slice_index order st.made) st.mid after st.stopped)));
  }

  -- in an event
  pub over_broken : (fault : BoardFault) → ScheduleRan order first after (Err fault) → SharesOver o bytes guests (with_streams d first) (with_streams d after) (Err (refusal_of fault))
  over_broken SourceFault ran = absurd (ran.ends.stopped.broke.fed refl)
  over_broken SinkFault ran =
      let st = ran.ends in
      let beyond = keeps_slots bytes guests (seen first.share) first.ram after.ram start ran.kept in
      let ram = cause_from st.done.came.ram.quiet st.stopped.broke.ram in
      let sinks = pair_from st.done.quiet.output st.done.quiet.error st.stopped.broke.sinks in
      record {
        ran = record {
          done = tt;
          refused = tt;
          quiet = λ never. absurd (never tt);
          failed = λ _. record { broke = inl (cut_event st); input = refl; beyond = beyond };
          causes = causes_of (with_streams d first) (with_streams d after) (Err refusal.SinkFault) (no_cause refl (λ e. let bad : ⊥ = cc in bad))
              (no_cause (same_count ram (λ e. let bad : ⊥ = cc in bad)) (λ e. let bad : ⊥ = cc in bad))
              (record {
                input = no_cause refl (λ e. let bad : ⊥ = cc in bad);
                sinks = record { one_later = sinks.one_later; other_later = sinks.other_later; cause = λ _. sinks.cause refl; one_told = inr refl; other_told = inr refl };
                once = λ e. let bad : ⊥ = cc in absurd bad;
              });
        };
        beyond = keeps_cache bytes guests first.ram after.ram beyond;
      }
  over_broken RamFault ran =
      let st = ran.ends in
      let beyond = keeps_slots bytes guests (seen first.share) first.ram after.ram start ran.kept in
      let ram = cause_from st.done.came.ram.quiet st.stopped.broke.ram in
      let sinks = pair_from st.done.quiet.output st.done.quiet.error st.stopped.broke.sinks in
      record {
        ran = record {
          done = tt;
          refused = tt;
          quiet = λ never. absurd (never tt);
          failed = λ _. record { broke = inl (unfetched_event st); input = refl; beyond = beyond };
          causes = causes_of (with_streams d first) (with_streams d after) (Err refusal.RamFault) (no_cause refl (λ e. let bad : ⊥ = cc in bad))
              (rose_cause first.ram.faults after.ram.faults _ refl ram.later (ram.cause refl))
              (record {
                input = no_cause refl (λ e. let bad : ⊥ = cc in bad);
                sinks = pair_none (elim sinks.one_told [ inl e ↦ e | inr e ↦ absurd (let bad : ⊥ = cc in bad) ]) (elim sinks.other_told [ inl e ↦ e | inr e ↦ absurd (let bad : ⊥ = cc in bad) ]) (λ e. let bad : ⊥ = cc in bad);
                once = λ e. let bad : ⊥ = cc in absurd bad;
              });
        };
        beyond = keeps_cache bytes guests first.ram after.ram beyond;
      }

-- ---- behind the events

-- all events were made, and no device has failed
pub record EventsMade (o : ShareOptions) (bytes : ℕ) (guests : List Guest) (first now : ShareWith) : Type 0 where
  pub start : seen first.share ≡ shared_start bytes guests
  pub done : RunDone (shared_run (order_of (length guests) o.schedule) (seen first.share)) first now
  pub beyond : KeepsBeyond (span_in bytes guests) first.ram now.ram

-- the end of a schedule
pub events_made : (programs : ℕ) (o : ShareOptions) (bytes : ℕ) (guests : List Guest) (first now : ShareWith) {u : Unit} → programs ≡ length guests → seen first.share ≡ shared_start bytes guests →
    ScheduleRan (order_of programs o.schedule) first now (Ok u) → EventsMade o bytes guests first now
events_made programs o bytes guests first now {u} count start ran = record {
  start = start;
  done = subst (λ (n : ℕ). RunDone (shared_run (order_of n o.schedule) (seen first.share)) first now) count ran.ends;
  beyond = keeps_slots bytes guests (seen first.share) first.ram now.ram start ran.kept;
}

-- what is told of them was written
pub over_told : {E : Type 0} (o : ShareOptions) (bytes : ℕ) (guests : List Guest) (d : Devices) (first now : ShareWith) (out : SinkState) {u : Unit} → EventsMade o bytes guests first now →
    WasWritten {E = E} now.out out (Ok u) (share_report o (seen now.share)) → SharesOver o bytes guests (with_streams d first) (with_output (with_streams d now) out) (Ok ending.Done)
over_told o bytes guests d first now out h w = record {
  ran = record {
    done = shares_done o bytes guests d first now out h.start h.done w.bytes;
    refused = tt;
    quiet = tt;
    failed = tt;
    causes = calm_causes (with_streams d first) (with_output (with_streams d now) out) (Ok ending.Done) tt refl h.done.came.ram.quiet
        (let still : out.faults ≡ first.out.faults = w.cause.quiet ∙ h.done.quiet.output in
        let same : faults_as d.input.faults out.faults now.err.faults ≡ faults_as d.input.faults first.out.faults first.err.faults = rw (still, h.done.quiet.error) refl in same);
  };
  beyond = keeps_cache bytes guests first.ram now.ram h.beyond;
}

-- or the output failed there
pub over_untold : {E : Type 0} (o : ShareOptions) (bytes : ℕ) (guests : List Guest) (d : Devices) (first now : ShareWith) (out : SinkState) {e : E} → EventsMade o bytes guests first now →
    WasWritten {E = E} now.out out (Err e) (share_report o (seen now.share)) → SharesOver o bytes guests (with_streams d first) (with_output (with_streams d now) out) (Err refusal.SinkFault)
over_untold o bytes guests d first now out h w =
    let later : first.out.faults ≤ out.faults = let still = h.done.quiet.output in let up = w.cause.later in omega (arith, still, up) in
    let rose : Rose first.out.faults out.faults = subst (λ (n : ℕ). Rose n out.faults) h.done.quiet.output w.cause.failed in
    record {
      ran = record {
        done = tt;
        refused = tt;
        quiet = λ never. absurd (never tt);
        failed = λ _. record { broke = inr (report_broken o bytes guests d first now out w.bytes.0 h.start h.done w.bytes.1 rose); input = refl; beyond = h.beyond };
        causes = out_causes (with_streams d first) (with_output (with_streams d now) out) refl h.done.came.ram.quiet refl h.done.quiet.error later rose;
      };
      beyond = keeps_cache bytes guests first.ram now.ram h.beyond;
    }

-- ---- before the first event

pub room_start : (bytes : ℕ) (guests : List Guest) (o : ShareOptions) (s : Shared) → s ≡ shared_start bytes guests → 0 < length guests → o.schedule.events < 2 ^ 32 → CanRun (order_of (length guests) o.schedule) s
room_start bytes guests o s start some few =
    let n = order_length (length guests) o.schedule in
    subst (λ (q : Shared). CanRun (order_of (length guests) o.schedule) q) (sym start)
    (can_start bytes guests (order_of (length guests) o.schedule)
    (λ k below. let lt : k < o.schedule.events = omega (arith, below, n) in
    let at = order_at (length guests) o.schedule k lt in
    let turn = turn_below (length guests) o.schedule.seed k some in omega (arith, at, turn))
    (omega (arith, n, few)))
