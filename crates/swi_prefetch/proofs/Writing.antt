-- Whatever the events are, each word that was set is told by the counts of the service or by the engine's, and no word fetched is taken back.
use Rattle.std.proofs.Common.{◌≡◌, ◌==◌, ◌&&◌, not, if◌then◌else◌, ℕ, ◌+◌, ◌*◌, ◌/◌, ◌≤◌, nat_lt, Bool, true, false, List, [], ◌∷◌, ◌++◌, length, filter, Option, Some, None, is_some, refl, sym, ap, ◌∙◌, arith}
use Rattle.std.proofs.lemmas.List.{append_assoc}
use Rattle.swi_outside.specs.CacheRam.{Fetch}
use Rattle.swi_calls.specs.declared.end.End.{End}
use Rattle.swi_calls.specs.declared.machine.Machine.{Machine}
use Rattle.swi_calls.specs.Flat.{started}
use Rattle.swi_calls.specs.Held.{held_step}
use Rattle.swi_image.specs.Format.{ImageData}
use Rattle.swi_image.specs.Place.{length_at, place_of}
use Rattle.swi_rom.specs.Policy.{evicted, is_placed, is_undone, served_writes}
use Rattle.swi_rom.specs.Record.{Link, Placement, Record, Transfer, direct, indirect, writes}
use Rattle.swi_rom.specs.Service.{Setting}
use Rattle.swi_hart.specs.Hart.{original, slots}
use Rattle.swi_board.specs.Moments.{Moment, completed, counted, event as instruction, events, executed, fell, led, next_fetch, served, stepped_at}
use Rattle.swi_board.specs.Transfers.{Here, after_all, at_fall, before_last, step_transfers}
use Rattle.swi_run_laws.proofs.RunLaws.{words_front}
use Rattle.swi_engine.specs.declared.copying.Copying.{Copying}
use Rattle.swi_engine.specs.Engine.{Event, ahead, arrived, beside, beside_arrival, copy_of, empty_beside, engine_copies, engine_words, event, event_by, free_slot, into_free, into_oldest, made_way, newest_first, newest_into, numbers, oldest_but, others, with_block, wrote_next}
use Rattle.swi_prefetch.specs.EngineLaws.{engine_laws}
use Rattle.swi_prefetch.specs.Events.{Turn, of_hart, of_engine, booted, engine_event, turned, turned_all, worked}
use Rattle.swi_prefetch.specs.Laws.{Written}
use Rattle.swi_prefetch.specs.Turns.{event_at}

-- ---- the words that are set

served_kept : (by : Setting) (v : ImageData) (ts : List Transfer) (r : Record) → (writes r ≤ writes (after_all (beside by) v r ts)) × (engine_words (after_all (beside by) v r ts) ≡ engine_words r)
served_kept by v [] r = (omega arith, refl)
served_kept by v (t ∷ ts) r =
    let rest = served_kept by v ts (beside by r v t) in
    let up = served_writes arrived newest_first by beside_arrival r v t in
    (omega (arith, rest.0, up), rest.1 ∙ engine_laws.unwritten by r v t)

served_written : (by : Setting) (v : ImageData) (ts : List Transfer) (s : Moment) → Written s → Written (served (beside by) v ts s)
served_written by v ts s is = let k = served_kept by v ts s.kept in omega (arith, is, k.0, k.1)

hart_written : (by : Setting) (v : ImageData) (s : Moment) → Written s → Written (instruction (beside by) v s)
hart_written by v s is = by_ending s.flat.machine.ending
  where
    word : ℕ × ℕ → List Fetch
    word p = next_fetch v p s ∷ []

    whole : (h : Here) (ws : List Fetch) → Written (counted ws (completed (beside by) v h s))
    whole h ws = served_written by v (step_transfers s.flat.machine h (held_step s.flat).machine) s is

    by_words : (p : ℕ × ℕ) (t : Bool) → Written (counted (word p) (if t then led s else completed (beside by) v (Some p) s))
    by_words p true = is
    by_words p false = whole (Some p) (word p)

    by_fall : (p : ℕ × ℕ) (t : Bool) → Written (counted (word p) (if t then fell (beside by) v p s else executed (beside by) v p s))
    by_fall p true = served_written by v (direct p.0 p.1 s.flat.machine.pc ∷ []) s is
    by_fall p false = by_words p (nat_lt s.spent (before_last s.flat.machine (original s.flat.machine) (slots s.flat.machine)))

    by_here : (h : Here) → Written (stepped_at (beside by) v h s)
    by_here None = whole None []
    by_here (Some p) = by_fall p (at_fall v s.flat.machine (Some p))

    by_ending : (e : Option End) → Written (if is_some e then s else stepped_at (beside by) v s.here s)
    by_ending None = by_here s.here
    by_ending (Some x) = is

-- what an event writes, if there is one
abbrev Adds : Record → Option Event → Type 0
Adds r None = Unit {0}
Adds r (Some e) = writes e.next + engine_words e.next ≡ writes r + engine_words r + 1

wrote_adds : (size : ℕ) (v : ImageData) (r : Record) (c : Copying) → writes (wrote_next size v r c) + engine_words (wrote_next size v r c) ≡ writes r + engine_words r + 1
wrote_adds size v r c = by (c.done + 1 == length_at v c.block)
  where
    done : Record
    done = record r { placed = with_block r c.block (c.slot * size); more = numbers (engine_words r + 1) (engine_copies r + 1) None }

    on : Record
    on = record r { more = numbers (engine_words r + 1) (engine_copies r) (Some (record c { done = c.done + 1 })) }

    by : (t : Bool) → writes (if t then done else on) + engine_words (if t then done else on) ≡ writes r + engine_words r + 1
    by true = omega arith
    by false = omega arith

none_undone : (e : Placement) (ls : List Link) → newest_into e ls ≡ None → length (filter (is_undone e) ls) ≡ 0
none_undone e [] none = refl
none_undone e (l ∷ ls) none = by (is_undone e l) refl (none_undone e ls)
  where
    by : (t : Bool) → is_undone e l ≡ t → (newest_into e ls ≡ None → length (filter (is_undone e) ls) ≡ 0) → length (filter (is_undone e) (l ∷ ls)) ≡ 0
    by true is rest = absurd (let some : (if is_undone e l then Some l else newest_into e ls) ≡ Some l = ap (λ (t : Bool). if t then Some l else newest_into e ls) is in let clash : None ≡ Some l = sym none ∙ some in cc)
    by false is rest = rw is (rest (sym (ap (λ (t : Bool). if t then Some l else newest_into e ls) is) ∙ none))

evicted_adds : (r : Record) (e : Placement) (es : List Placement) → newest_into e r.links ≡ None → (writes (evicted r (e ∷ es)) ≡ writes r) × (engine_words (evicted r (e ∷ es)) ≡ engine_words r)
unfolding evicted
evicted_adds r e es none = let gone = none_undone e r.links none in (omega (arith, gone), refl)

way_adds : (size : ℕ) (v : ImageData) (r : Record) (c : ℕ) (e : Placement) (l : Option Link) → newest_into e r.links ≡ l → writes (made_way size v r c e l).next + engine_words (made_way size v r c e l).next ≡ writes r + engine_words r + 1
way_adds size v r c e (Some l) is = omega arith
way_adds size v r c e None is =
    let left = evicted_adds r e (others e r.placed) is in
    let wrote = wrote_adds size v (evicted r (e ∷ others e r.placed)) (record { block = c; slot = e.first / size; done = 0 }) in
    omega (arith, left.0, left.1, wrote)

oldest_adds : (size : ℕ) (v : ImageData) (r : Record) (c : ℕ) (e : Option Placement) → Adds r (into_oldest size v r c e)
oldest_adds size v r c None = tt
oldest_adds size v r c (Some e) = way_adds size v r c e (newest_into e r.links) refl

free_adds : (size : ℕ) (v : ImageData) (r : Record) (h c : ℕ) (n : Option ℕ) → Adds r (into_free size v r h c n)
free_adds size v r h c (Some n) = wrote_adds size v r (record { block = c; slot = n; done = 0 })
free_adds size v r h c None = oldest_adds size v r c (oldest_but h r.placed)

ahead_adds : (by : Setting) (v : ImageData) (r : Record) (h c : ℕ) → Adds r (ahead by v r h c)
ahead_adds by v r h c = by_test (nat_lt c (length v.starts) && not (is_placed r c))
  where
    by_test : (t : Bool) → Adds r (if t then into_free by.slot_words v r h c (free_slot by r) else None)
    by_test true = free_adds by.slot_words v r h c (free_slot by r)
    by_test false = tt

event_adds : (by : Setting) (v : ImageData) (r : Record) (h : ℕ) (c : Option Copying) → Adds r (event_by by v r h c)
event_adds by v r h None = ahead_adds by v r h (h + 1)
event_adds by v r h (Some c) = wrote_adds by.slot_words v r c

at_adds : (by : Setting) (v : ImageData) (r : Record) (h : Here) → Adds r (event_at (event by) r v h)
unfolding event
at_adds by v r None = tt
at_adds by v r (Some p) = event_adds by v r p.0 (copy_of r)

worked_written : (s : Moment) (o : Option Event) → Adds s.kept o → Written s → Written (worked o s)
worked_written s None adds is = is
worked_written s (Some e) adds is = omega (arith, adds, is)

engine_written : (by : Setting) (v : ImageData) (s : Moment) → Written s → Written (engine_event by v s)
engine_written by v s is = by_ending s.flat.machine.ending
  where
    by_ending : (e : Option End) → Written (if is_some e then s else worked (event_at (event by) s.kept v s.here) s)
    by_ending None = worked_written s (event_at (event by) s.kept v s.here) (at_adds by v s.kept s.here) is
    by_ending (Some x) = is

turned_written : (by : Setting) (v : ImageData) (s : Moment) (t : Turn) → Written s → Written (turned by v t s)
turned_written by v s of_hart is = hart_written by v s is
turned_written by v s of_engine is = engine_written by v s is

-- Whatever the schedule is, each word that was set is told by the counts of the service, or by the engine's.
pub written : (by : Setting) (v : ImageData) (ts : List Turn) (s : Moment) → Written s → Written (turned_all by v ts s)
unfolding turned_all
written by v [] s is = is
written by v (t ∷ ts) s is = written by v ts (turned by v t s) (turned_written by v s t is)

pub booted_written : (by : Setting) (v : ImageData) (m : Machine) (left : List ℕ) → Written (booted by v m left)
booted_written by v m left = served_written by v (indirect m.pc ∷ []) (record {
  flat = started m left;
  here = place_of v m.pc;
  spent = 0;
  kept = empty_beside;
  count = 1;
  sets = 0;
  words = [];
}) refl

-- ---- the words that are fetched

hart_fetches : (by : Setting) (v : ImageData) (s : Moment) → (xs : List Fetch) × ((instruction (beside by) v s).words ≡ xs ++ s.words)
unfolding events
hart_fetches by v s = words_front (beside by) v 0 1 s (omega arith)

worked_fetches : (s : Moment) (o : Option Event) → (worked o s).words ≡ s.words
worked_fetches s None = refl
worked_fetches s (Some e) = refl

engine_fetches : (by : Setting) (v : ImageData) (s : Moment) → (engine_event by v s).words ≡ s.words
engine_fetches by v s = by_ending s.flat.machine.ending
  where
    by_ending : (e : Option End) → (if is_some e then s else worked (event_at (event by) s.kept v s.here) s).words ≡ s.words
    by_ending None = worked_fetches s (event_at (event by) s.kept v s.here)
    by_ending (Some x) = refl

turned_fetches : (by : Setting) (v : ImageData) (t : Turn) (s : Moment) → (xs : List Fetch) × ((turned by v t s).words ≡ xs ++ s.words)
turned_fetches by v of_hart s = hart_fetches by v s
turned_fetches by v of_engine s = ([], engine_fetches by v s)

-- Whatever the schedule is, no word is taken back.
pub keeps_fetched : (by : Setting) (v : ImageData) (ts : List Turn) (s : Moment) → (more : List Fetch) × ((turned_all by v ts s).words ≡ more ++ s.words)
unfolding turned_all
keeps_fetched by v [] s = ([], refl)
keeps_fetched by v (t ∷ ts) s =
    let one = turned_fetches by v t s in
    let rest = keeps_fetched by v ts (turned by v t s) in
    (rest.0 ++ one.0, rest.1 ∙ ap (λ (l : List Fetch). rest.0 ++ l) one.1 ∙ sym (append_assoc rest.0 one.0 s.words))
