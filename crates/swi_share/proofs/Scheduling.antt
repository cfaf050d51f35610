-- Events in order.
use Rattle.std.proofs.Common.{◌≡◌, ℕ, zero, suc, ◌+◌, ◌-◌, ◌<◌, ◌≤◌, List, [], ◌∷◌, ◌++◌, length, slice_index, slice_index_or, take, Option, Some, None, Ok, Err, arith, refl, sym, ◌∙◌, ap, subst, append-nil}
use Rattle.std.specs.Io.KnownBytes.{Appends}
use Rattle.swi_outside.specs.Causes.{risen}
use Rattle.swi_outside.specs.Laws.{Appends-append, Appends-none}
use Rattle.swi_outside.specs.CacheRam.{Fetch, RamState, KeepsBeyond, later}
use Rattle.swi_calls.specs.declared.end.End.{End}
use Rattle.swi_rom.specs.Record.{Record, writes}
use Rattle.swi_rom.specs.Rams.{risen_more}
use Rattle.swi_rom.specs.Service.{Setting}
use Rattle.swi_rom.specs.Served.{SameFrom}
use Rattle.swi_slots.specs.Fifo.{extent_of}
use Rattle.swi_slots.specs.Slots.{span_of}
use Rattle.swi_board.specs.Ran.{RamRan}
use Rattle.swi_board.specs.Fetching.{HasFetched}
use Rattle.swi_board.proofs.Tracks.{kept_both}
use Rattle.swi_share.specs.Event.{Quiet}
use Rattle.swi_share.specs.Shared.{Context, Shared, event_by, event_in, event_of, shared_event, shared_run}
use Rattle.swi_share.specs.Sharing.{ShareData, ShareWith, Came, EventRan, HasRoom, IsSharing, Stopped, context_of, seen}
use Rattle.swi_share.specs.Run.{CanRun, RunDone, ScheduleRan}
use Rattle.swi_hart.specs.declared.fault.BoardFault.{BoardFault}
use Rattle.std.proofs.lemmas.List.{length-map}
use Rattle.swi_share.proofs.Few.{event_writes, event_extent}
use Rattle.swi_share.proofs.Later.{fetched_both, later_none}

-- a state whose events have written and fetched nothing yet
abbrev pub anew : Shared → Shared
anew s = record s { output = []; error = []; sets = 0; fetches = 0; words = [] }

-- an event leaves the same over what was written and fetched before it
pub record Framed (s next own : Shared) : Type 0 where
  pub rest : anew next ≡ anew own
  pub output : next.output ≡ s.output ++ own.output
  pub error : next.error ≡ s.error ++ own.error
  pub sets : next.sets ≡ s.sets + own.sets
  pub fetches : next.fetches ≡ s.fetches + own.fetches
  pub words : next.words ≡ s.words ++ later s.sets own.words
  pub setting : next.setting ≡ s.setting
  pub writes_rise : writes s.kept ≤ writes next.kept
  pub extent_rises : extent_of s.setting s.kept ≤ extent_of s.setting next.kept

framed_none : (s : Shared) → Framed s s (anew s)
framed_none s = record {
  rest = refl;
  output = sym (append-nil s.output);
  error = sym (append-nil s.error);
  sets = omega arith;
  fetches = omega arith;
  words = sym (append-nil s.words);
  setting = refl;
  writes_rise = omega arith;
  extent_rises = omega arith;
}

framed_by : (g : ℕ) (s : Shared) (c : Context) (e : Option End) → Framed s (event_by g s c e) (event_by g (anew s) c e)
framed_by g s c (Some e) = framed_none s
framed_by g s c None = record {
  rest = refl;
  output = refl;
  error = refl;
  sets = omega arith;
  fetches = omega arith;
  words = ap (λ (l : List Fetch). s.words ++ later s.sets l) (sym (later_none (event_of s.setting (record s.kept { turn = g }) c).words));
  setting = refl;
  writes_rise = event_writes s.setting (record s.kept { turn = g }) c;
  extent_rises = event_extent s.setting (record s.kept { turn = g }) c;
}

framed_in : (g : ℕ) (s : Shared) (c : Option Context) → Framed s (event_in g s c) (event_in g (anew s) c)
framed_in g s None = framed_none s
framed_in g s (Some c) = framed_by g s c c.machine.ending

framed : (g : ℕ) (s : Shared) → Framed s (shared_event g s) (shared_event g (anew s))
framed g s = framed_in g s (slice_index_or s.contexts g None)

-- ---- a schedule and one more event

run_more : (gs : List ℕ) (g : ℕ) (s : Shared) → shared_run (gs ++ g ∷ []) s ≡ shared_event g (shared_run gs s)
unfolding shared_run
run_more [] g s = refl
run_more (x ∷ xs) g s = run_more xs g (shared_event x s)

take_suc : (gs : List ℕ) (i : ℕ) → i < length gs → take (suc i) gs ≡ take i gs ++ slice_index gs i ∷ []
take_suc [] i lt = absurd (omega (arith, lt))
take_suc (x ∷ xs) zero lt = refl
take_suc (x ∷ xs) (suc i) lt = ap (λ (ys : List ℕ). x ∷ ys) (take_suc xs i (omega (arith, lt)))

take_more : (gs : List ℕ) (i : ℕ) → i < length gs → take (i + 1) gs ≡ take i gs ++ slice_index gs i ∷ []
take_more gs i lt = let more : i + 1 ≡ suc i = omega arith in ap (λ (n : ℕ). take n gs) more ∙ take_suc gs i lt

pub run_next : (order : List ℕ) (i : ℕ) (s : Shared) → i < length order → shared_run (take (i + 1) order) s ≡ shared_event (slice_index order i) (shared_run (take i order) s)
run_next order i s lt = ap (λ (gs : List ℕ). shared_run gs s) (take_more order i lt) ∙ run_more (take i order) (slice_index order i) s

take_whole : (gs : List ℕ) (i : ℕ) → length gs ≤ i → take i gs ≡ gs
take_whole [] zero le = refl
take_whole [] (suc i) le = refl
take_whole (x ∷ xs) zero le = absurd (omega (arith, le))
take_whole (x ∷ xs) (suc i) le = ap (λ (ys : List ℕ). x ∷ ys) (take_whole xs i (omega (arith, le)))

pub run_whole : (order : List ℕ) (i : ℕ) (s : Shared) → length order ≤ i → shared_run (take i order) s ≡ shared_run order s
run_whole order i s le = ap (λ (gs : List ℕ). shared_run gs s) (take_whole order i le)

-- ---- what it leaves

-- events that have led to a state, and have written no less than stood before them
pub record CameOn (done : Shared) (before after : ShareWith) : Type 0 where
  pub came : Came done before after
  pub rises : writes (seen before.share).kept ≤ writes done.kept
  pub setting : done.setting ≡ (seen before.share).setting

pub came_none : (w : ShareWith) → CameOn (seen w.share) w w
came_none w = record {
  came = record {
    share = refl;
    output = Appends-none w.out.held;
    error = Appends-none w.err.held;
    ram = record {
      quiet = refl;
      fetches = risen_none w.ram.fetches;
      sets = none_risen w.ram.sets (writes (seen w.share).kept);
      kept = record { same_length = refl; beyond = λ i le. refl; reached = grind arith };
    };
    sets = none_left (writes (seen w.share).kept);
    words = refl;
    unused = λ i le. refl;
  };
  rises = omega arith;
  setting = refl;
}
  where
    risen_none : (n : ℕ) → n ≡ risen n 0
    risen_none n = grind arith

    none_risen : (n w : ℕ) → n ≡ risen n (w - w)
    none_risen n w = grind arith

    none_left : (w : ℕ) → 0 ≡ w - w
    none_left w = omega arith

ran_both : (span m n k w0 w1 w2 : ℕ) (a b d : RamState) → m + n ≡ k → w0 ≤ w1 → w1 ≤ w2 → RamRan span m (w1 - w0) a b → RamRan span n (w2 - w1) b d → RamRan span k (w2 - w0) a d
ran_both span m n k w0 w1 w2 a b d sum one_up two_up one two = record {
  quiet = two.quiet ∙ one.quiet;
  fetches = two.fetches ∙ ap (λ (x : ℕ). risen x n) one.fetches ∙ risen_more a.fetches m n ∙ ap (λ (x : ℕ). risen a.fetches x) sum;
  sets = two.sets ∙ ap (λ (x : ℕ). risen x (w2 - w1)) one.sets ∙ risen_more a.sets (w1 - w0) (w2 - w1) ∙ ap (λ (x : ℕ). risen a.sets x) (omega (arith, one_up, two_up));
  kept = kept_both span a b d one.kept two.kept;
}

-- the sets of both
sets_both : (w0 w1 w2 m n k : ℕ) → k ≡ m + n → w0 ≤ w1 → w1 ≤ w2 → m ≡ w1 - w0 → n ≡ w2 - w1 → k ≡ w2 - w0
sets_both w0 w1 w2 m n k sum one_up two_up one two = omega (arith, sum, one_up, two_up, one, two)

-- the sets of the ram behind events
pub sets_are : (done : Shared) (before mid : ShareWith) → Came done before mid → mid.ram.sets ≡ risen before.ram.sets done.sets
sets_are done before mid came = came.ram.sets ∙ ap (λ (n : ℕ). risen before.ram.sets n) (sym came.sets)

pub came_then : (done : Shared) (g : ℕ) (before mid after : ShareWith) → CameOn done before mid → Came (shared_event g (seen mid.share)) mid after → CameOn (shared_event g done) before after
came_then done g before mid after one two' =
    let f = framed g done in
    let own = shared_event g (anew done) in
    let at : seen mid.share ≡ anew done = one.came.share in
    let two : Came own mid after = subst (λ (s : Shared). Came (shared_event g s) mid after) at two' in
    let next = shared_event g done in
    let kept : own.kept ≡ next.kept = ap (λ (s : Shared). s.kept) (sym f.rest) in
    let setting : own.setting ≡ done.setting = ap (λ (s : Shared). s.setting) (sym f.rest) ∙ f.setting in
    let first : (seen mid.share).kept ≡ done.kept = ap (λ (s : Shared). s.kept) at in
    let ram = subst (λ (r : Record). RamRan (span_of done.setting) own.fetches (writes next.kept - writes r) mid.ram after.ram) first
    (subst (λ (r : Record). RamRan (span_of done.setting) own.fetches (writes r - writes (seen mid.share).kept) mid.ram after.ram) kept
    (subst (λ (b : Setting). RamRan (span_of b) own.fetches (writes own.kept - writes (seen mid.share).kept) mid.ram after.ram) setting two.ram)) in
    let unused = subst (λ (r : Record). SameFrom (extent_of done.setting r) mid.ram.words after.ram.words) kept
    (subst (λ (b : Setting). SameFrom (extent_of b own.kept) mid.ram.words after.ram.words) setting two.unused) in
    record {
      came = record {
        share = two.share ∙ sym f.rest;
        output = subst (λ (l : List ℕ). Appends before.out.held after.out.held l) (sym f.output) (Appends-append before.out.held mid.out.held after.out.held done.output own.output one.came.output two.output);
        error = subst (λ (l : List ℕ). Appends before.err.held after.err.held l) (sym f.error) (Appends-append before.err.held mid.err.held after.err.held done.error own.error one.came.error two.error);
        ram = subst (λ (b : Setting). RamRan (span_of b) next.fetches (writes next.kept - writes (seen before.share).kept) before.ram after.ram) (sym f.setting)
            (ran_both (span_of done.setting) done.fetches own.fetches next.fetches (writes (seen before.share).kept) (writes done.kept) (writes next.kept) before.ram mid.ram after.ram (sym f.fetches) one.rises f.writes_rise one.came.ram ram);
        sets = sets_both (writes (seen before.share).kept) (writes done.kept) (writes next.kept) done.sets own.sets next.sets f.sets one.rises f.writes_rise one.came.sets
            (two.sets ∙ ap (λ (r : Record). writes r - writes (seen mid.share).kept) kept ∙ ap (λ (r : Record). writes next.kept - writes r) first);
        words = subst (λ (l : List Fetch). HasFetched l before.ram after.ram) (sym f.words)
            (fetched_both done.sets done.words own.words before.ram mid.ram after.ram (sets_are done before mid one.came) one.came.words two.words);
        unused = subst (λ (b : Setting). SameFrom (extent_of b next.kept) before.ram.words after.ram.words) (sym f.setting)
            (λ i le. unused i le ∙ one.came.unused i (omega (arith, f.extent_rises, le)));
      };
      rises = omega (arith, one.rises, f.writes_rise);
      setting = f.setting ∙ one.setting;
    }

-- ---- the conditions of the next event

pub room_next : (done now : Shared) (g : ℕ) → now ≡ anew done → HasRoom done g → HasRoom now g
room_next done now g is room = subst (λ (s : Shared). HasRoom s g) (sym is) room

-- ---- the loop

-- so many events were made, and no device has failed
pub record Scheduled (done : Shared) (first now : ShareWith) : Type 0 where
  pub came : CameOn done first now
  pub quiet : Quiet first.out now.out first.err now.err
  pub sharing : IsSharing now.share now.ram.words
  pub programs : length now.share.processes ≡ length first.share.processes

-- ---- the first event, and the next one

run_start : (order : List ℕ) (s : Shared) → shared_run (take 0 order) s ≡ s
unfolding shared_run
run_start [] s = refl
run_start (x ∷ xs) s = refl

pub scheduled_none : (order : List ℕ) (w : ShareWith) → IsSharing w.share w.ram.words → Scheduled (shared_run (take 0 order) (seen w.share)) w w
scheduled_none order w sharing = subst (λ (s : Shared). Scheduled s w w) (sym (run_start order (seen w.share))) (record {
  came = came_none w;
  quiet = record { output = refl; error = refl };
  sharing = sharing;
  programs = refl;
})

pub scheduled_next : (order : List ℕ) (i g : ℕ) (first mid after : ShareWith) {u : Unit} → i < length order → slice_index order i ≡ g → Scheduled (shared_run (take i order) (seen first.share)) first mid →
    EventRan g mid after (Ok u) → Scheduled (shared_run (take (i + 1) order) (seen first.share)) first after
scheduled_next order i g first mid after {u} lt is was ran =
    let done = shared_run (take i order) (seen first.share) in
    let next : shared_run (take (i + 1) order) (seen first.share) ≡ shared_event g done = run_next order i (seen first.share) lt ∙ ap (λ (n : ℕ). shared_event n done) is in
    subst (λ (s : Shared). Scheduled s first after) (sym next) (record {
      came = came_then done g first mid after was.came ran.ends.came;
      quiet = record { output = ran.ends.quiet.output ∙ was.quiet.output; error = ran.ends.quiet.error ∙ was.quiet.error };
      sharing = ran.ends.sharing;
      programs = ran.programs ∙ was.programs;
    })

-- ---- the conditions of an event

pub guest_next : (order : List ℕ) (i g : ℕ) (first now : ShareData) → i < length order → slice_index order i ≡ g → CanRun order (seen first) → length now.processes ≡ length first.processes → g < length now.processes
guest_next order i g first now lt is can same =
    let below = (can i lt).0 in
    let contexts = length-map first.processes context_of in
    omega (arith, is, below, contexts, same)

pub room_at : (order : List ℕ) (i g : ℕ) (first now : ShareData) → i < length order → slice_index order i ≡ g → CanRun order (seen first) → seen now ≡ anew (shared_run (take i order) (seen first)) → HasRoom (seen now) g
room_at order i g first now lt is can at = room_next (shared_run (take i order) (seen first)) (seen now) g at (subst (λ (n : ℕ). HasRoom (shared_run (take i order) (seen first)) n) is (can i lt).1)

-- ---- the end, and a device that failed

kept_so_far : (done : Shared) (first now : ShareWith) → CameOn done first now → KeepsBeyond (span_of (seen first.share).setting) first.ram now.ram
kept_so_far done first now was = subst (λ (b : Setting). KeepsBeyond (span_of b) first.ram now.ram) was.setting was.came.ram.kept

run_done : (done : Shared) (first now : ShareWith) → Scheduled done first now → RunDone done first now
run_done done first now was = record { came = was.came.came; sharing = was.sharing; quiet = was.quiet }

-- events behind which no other changes anything
pub schedule_over : {u : Unit} (order : List ℕ) (i : ℕ) (first now : ShareWith) → shared_run (take i order) (seen first.share) ≡ shared_run order (seen first.share) →
    Scheduled (shared_run (take i order) (seen first.share)) first now → ScheduleRan order first now (Ok u)
schedule_over {u} order i first now whole was = record {
  programs = was.programs;
  kept = kept_so_far (shared_run (take i order) (seen first.share)) first now was.came;
  ends = subst (λ (s : Shared). RunDone s first now) whole (run_done (shared_run (take i order) (seen first.share)) first now was);
}

pub schedule_made : {u : Unit} (order : List ℕ) (i : ℕ) (first now : ShareWith) → length order ≤ i → Scheduled (shared_run (take i order) (seen first.share)) first now → ScheduleRan order first now (Ok u)
schedule_made {u} order i first now le was = schedule_over order i first now (run_whole order i (seen first.share) le) was

pub schedule_stopped : (order : List ℕ) (i g : ℕ) (first mid after : ShareWith) (fault : BoardFault) → i < length order → slice_index order i ≡ g → Scheduled (shared_run (take i order) (seen first.share)) first mid →
    EventRan g mid after (Err fault) → ScheduleRan order first after (Err fault)
schedule_stopped order i g first mid after fault lt is was ran =
    let done = shared_run (take i order) (seen first.share) in
    let now : (seen mid.share).setting ≡ (seen first.share).setting = ap (λ (s : Shared). s.setting) was.came.came.share ∙ was.came.setting in
    record {
      programs = ran.programs ∙ was.programs;
      kept = kept_both (span_of (seen first.share).setting) first.ram mid.ram after.ram (kept_so_far done first mid was.came)
          (subst (λ (b : Setting). KeepsBeyond (span_of b) mid.ram after.ram) now ran.kept);
      ends = record {
        made = i;
        fewer = lt;
        mid = mid;
        done = run_done done first mid was;
        stopped = subst (λ (n : ℕ). Stopped fault n mid after) (sym is) ran.ends;
      };
    }
