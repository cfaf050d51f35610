-- Whatever the events are, no placed block stands in the slot that has a copy.
use Rattle.std.proofs.Common.{◌≡◌, ◌==◌, ◌&&◌, not, if◌then◌else◌, ℕ, zero, suc, ◌+◌, ◌-◌, ◌*◌, ◌/◌, nat_lt, cond, Bool, true, false, List, [], ◌∷◌, ◌++◌, map, filter, length, Option, Some, None, is_some, refl, sym, ap, subst, ◌∙◌, inl, inr, arith}
use Rattle.std.specs.Bool.{⊤}
use Rattle.std.proofs.lemmas.Bool.{cases_lt, eq-eqb, false≢true}
use Rattle.std.proofs.lemmas.List.{map-append}
use Rattle.std.proofs.lemmas.Nat.{same_from_place}
use Rattle.std.proofs.Math.Nat.{mul-div_cancel}
use Rattle.swi_outside.specs.CacheRam.{Fetch}
use Rattle.swi_calls.specs.declared.end.End.{End}
use Rattle.swi_calls.specs.declared.machine.Machine.{Machine}
use Rattle.swi_calls.specs.Held.{held_step}
use Rattle.swi_image.specs.Format.{ImageData}
use Rattle.swi_image.specs.Place.{length_at, place_of}
use Rattle.swi_rom.specs.Policy.{Putting, counted as with_service, evicted, is_over_link, is_placed, linked, linked_over, served_by, went}
use Rattle.swi_rom.specs.Record.{Has, Link, Placed, Placement, Record, Transfer, direct, indirect, target_of}
use Rattle.swi_rom.specs.Service.{Setting}
use Rattle.swi_hart.specs.Hart.{original, slots}
use Rattle.swi_hart.specs.MachineStep.{BoardWithRam}
use Rattle.swi_board.specs.Moments.{Moment, completed, counted, event as instruction, executed, fell, led, next_fetch, stepped_at}
use Rattle.swi_board.specs.Transfers.{Here, after_all, at_fall, before_last, step_transfers}
use Rattle.swi_engine.specs.declared.copying.Copying.{Copying}
use Rattle.swi_engine.specs.Engine.{Event, ahead, arrived, beside, brought, copy_of, dropped, empty_beside, engine_copies, engine_words, event, event_by, first_word, free_slot, into, into_free, into_oldest, is_taken, lowest, made_way, missed, newest_first, newest_into, numbers, oldest_but, others, undone, with_block, wrote_next}
use Rattle.swi_engine.specs.Seats.{has_map, map_has, placed_slot}
use Rattle.swi_engine.specs.Service.{engine_service}
use Rattle.swi_engine.specs.Sound.{CopyIs, Distinct}
use Rattle.swi_engine.specs.State.{EngineData, kept_by}
use Rattle.swi_engine.proofs.Eventing.{any_true}
use Rattle.swi_engine.proofs.Shapes.{distinct_append, filter_has, has_last}
use Rattle.swi_prefetch.specs.Events.{Turn, of_hart, of_engine, booted, engine_event, turned, turned_all, worked}
use Rattle.swi_prefetch.specs.Laws.{CopyApart, IsVacant}
use Rattle.swi_prefetch.specs.Turns.{Beside, event_at}

abbrev first_at : Placement → ℕ
first_at e = e.first

-- each placed block stands in a slot, and no two in the same one
record Seats (size : ℕ) (placed : List Placement) : Type 0 where
  slots : (e : Placement) → Has placed e → (n : ℕ) × (e.first ≡ n * size)
  once : Distinct (map first_at placed)

record Seated (size : ℕ) (r : Record) : Type 0 where
  seats : Seats size r.placed
  apart : CopyApart size r.placed (copy_of r)

-- it says nothing of the rest of a record
seated_as : (size : ℕ) (q r : Record) → q.placed ≡ r.placed → q.more ≡ r.more → Seated size r → Seated size q
seated_as size q r placed more is = record {
  seats = subst (λ (es : List Placement). Seats size es) (sym placed) is.seats;
  apart = subst (λ (es : List Placement). CopyApart size es (copy_of q)) (sym placed)
      (subst (λ (k : Option Copying). CopyApart size r.placed k) (sym (ap (λ (xs : List ℕ). copy_of (record r { more = xs })) more)) is.apart);
}

-- ---- a block that comes, and one that leaves

same_first : (es : List Placement) (e f : Placement) → Distinct (map first_at es) → Has es e → Has es f → e.first ≡ f.first → e ≡ f
same_first [] e f once he hf is = absurd he
same_first (x ∷ es) e f once (inl a) (inl b) is = sym a ∙ b
same_first (x ∷ es) e f once (inl a) (inr b) is = absurd (once.0 (subst (λ (n : ℕ). Has (map first_at es) n) (sym (ap (λ (p : Placement). p.first) a ∙ is)) (has_map first_at es f b)))
same_first (x ∷ es) e f once (inr a) (inl b) is = absurd (once.0 (subst (λ (n : ℕ). Has (map first_at es) n) (sym (ap (λ (p : Placement). p.first) b ∙ sym is)) (has_map first_at es e a)))
same_first (x ∷ es) e f once (inr a) (inr b) is = same_first es e f once.1 a b is

filter_once : (p : Placement → Bool) (es : List Placement) → Distinct (map first_at es) → Distinct (map first_at (filter p es))
filter_once p [] once = once
filter_once p (x ∷ es) once = one (p x) (filter_once p es once.1)
  where
    one : (t : Bool) → Distinct (map first_at (filter p es)) → Distinct (map first_at (cond t (x ∷ filter p es) (filter p es)))
    one false rest = rest
    one true rest = (
      λ h. let w = map_has first_at (filter p es) x.first h in
          once.0 (subst (λ (n : ℕ). Has (map first_at es) n) w.2 (has_map first_at es w.0 (filter_has p es w.0 w.1).0)),
      rest,
    )

filter_seats : (size : ℕ) (p : Placement → Bool) (es : List Placement) → Seats size es → Seats size (filter p es)
filter_seats size p es is = record { slots = λ e h. is.slots e (filter_has p es e h).0; once = filter_once p es is.once }

-- a block comes where none stands
more_seats : (size : ℕ) (es : List Placement) (x : Placement) (n : ℕ) → Seats size es → x.first ≡ n * size → ((e : Placement) → Has es e → e.first ≡ x.first → ⊥) → Seats size (es ++ x ∷ [])
more_seats size es x n is at apart = record {
  slots = λ e h. elim (has_last es x e h) [
    | inl old ↦ is.slots e old
    | inr new ↦ (n, ap (λ (p : Placement). p.first) (sym new) ∙ at)
  ];
  once = subst (λ (l : List ℕ). Distinct l) (sym (map-append first_at es (x ∷ [])))
      (distinct_append (map first_at es) x.first is.once (λ h. let w = map_has first_at es x.first h in apart w.0 w.1 w.2));
}

free_seats : (size : ℕ) (r : Record) (c n : ℕ) → Seats size r.placed → IsVacant size r.placed n → Seats size (with_block r c (n * size))
free_seats size r c n is free = more_seats size r.placed (record { program = r.turn; block = c; first = n * size }) n is refl free

tail_seats : (size : ℕ) (e : Placement) (es : List Placement) → Seats size (e ∷ es) → Seats size es
tail_seats size e es is = record { slots = λ f h. is.slots f (inr h); once = is.once.1 }

-- a slot in which none stands
taken_free : (size : ℕ) (es : List Placement) (n : ℕ) → is_taken size es n ≡ false → IsVacant size es n
taken_free size es n untaken = λ e h at. false≢true (sym untaken ∙ any_true (λ (p : Placement). p.first == n * size) es e h (eq-eqb e.first (n * size) at))

lowest_free : (size : ℕ) (es : List Placement) (n k m : ℕ) → lowest size es n k ≡ Some m → IsVacant size es m
unfolding lowest
lowest_free size es n zero m is = absurd (let bad : ⊥ = cc in bad)
lowest_free size es n (suc k) m is = by (lowest_free size es (n + 1) k m) (is_taken size es n) refl is
  where
    by : (lowest size es (n + 1) k ≡ Some m → IsVacant size es m) → (t : Bool) → is_taken size es n ≡ t → (if t then lowest size es (n + 1) k else Some n) ≡ Some m → IsVacant size es m
    by rest true taken at = rest at
    by rest false untaken at = let same : n ≡ m = cc in subst (λ (j : ℕ). IsVacant size es j) same (taken_free size es n untaken)

-- ---- a transfer

brought_seated : (size : ℕ) (r : Record) (c first words : ℕ) → copy_of r ≡ None → Seats size (with_block r c first) → Seated size (brought r c first words)
brought_seated size r c first words none is = record { seats = is; apart = subst (λ (k : Option Copying). CopyApart size (with_block r c first) k) (sym none) tt }

into_seated : (size : ℕ) (v : ImageData) (r : Record) (c : ℕ) (o : Option ℕ) → copy_of r ≡ None → Seats size r.placed → ((n : ℕ) → o ≡ Some n → IsVacant size r.placed n) → Seated size (into size v r c o)
unfolding evicted
into_seated size v r c (Some n) none is free = brought_seated size r c (n * size) (length_at v c) none (free_seats size r c n is (free n refl))
into_seated size v r c None none is free = by r.placed refl
  where
    by : (es : List Placement) → r.placed ≡ es → Seated size (brought (evicted r es) c (first_word es) (length_at v c))
    by [] empty = brought_seated size r c 0 (length_at v c) none
        (more_seats size r.placed (record { program = r.turn; block = c; first = 0 }) 0 is (omega arith) (λ e h. absurd (subst (λ (es : List Placement). Has es e) empty h)))
    by (e ∷ es) stand =
        let at = subst (λ (l : List Placement). Seats size l) stand is in
        let slot = at.slots e (inl refl) in
        brought_seated size (evicted r (e ∷ es)) c e.first (length_at v c) none
        (more_seats size es (record { program = r.turn; block = c; first = e.first }) slot.0 (tail_seats size e es at) slot.1
        (λ f h same. at.once.0 (subst (λ (n : ℕ). Has (map first_at es) n) same (has_map first_at es f h))))

missed_seated : (by : Setting) (v : ImageData) (r : Record) (c : ℕ) (o : Option Copying) → copy_of r ≡ o → Seated by.slot_words r → Seated by.slot_words (missed by v r c o)
missed_seated by v r c None none is = into_seated by.slot_words v r c (free_slot by r) none is.seats (λ n at. lowest_free by.slot_words r.placed 0 by.slots n at)
missed_seated by v r c (Some k) copies is = at (k.block == c)
  where
    at : (t : Bool) → Seated by.slot_words (if t then brought (dropped r) c (k.slot * by.slot_words) (length_at v c - k.done) else into by.slot_words v (dropped r) c (free_slot by r))
    at true = brought_seated by.slot_words (dropped r) c (k.slot * by.slot_words) (length_at v c - k.done) refl
        (free_seats by.slot_words r c k.slot is.seats (subst (λ (o : Option Copying). CopyApart by.slot_words r.placed o) copies is.apart))
    at false = into_seated by.slot_words v (dropped r) c (free_slot by r) refl is.seats (λ n at. lowest_free by.slot_words r.placed 0 by.slots n at)

arrived_seated : (by : Setting) (v : ImageData) (r : Record) (c : ℕ) → Seated by.slot_words r → Seated by.slot_words (arrived by v r c)
unfolding arrived
arrived_seated by v r c is = at (is_placed r c)
  where
    at : (t : Bool) → Seated by.slot_words (if t then r else missed by v r c (copy_of r))
    at true = is
    at false = missed_seated by v r c (copy_of r) refl is

linked_same : (put : Putting) (r : Record) (t : Transfer) (p : ℕ × ℕ) → ((linked_over put r t p).placed ≡ r.placed) × ((linked_over put r t p).more ≡ r.more)
unfolding linked
linked_same put r (direct b o t) p = (grind arith, grind arith)
linked_same put r (indirect t) p = (refl, refl)

went_seated : (by : Setting) (v : ImageData) (r : Record) (t : Transfer) (p : Option (ℕ × ℕ)) → Seated by.slot_words r → Seated by.slot_words (went arrived newest_first by v r t p)
unfolding went with_service
went_seated by v r t None is = is
went_seated by v r t (Some p) is =
    let same = linked_same newest_first (arrived by v (with_service r) p.0) t p in
    seated_as by.slot_words (linked_over newest_first (arrived by v (with_service r) p.0) t p) (arrived by v (with_service r) p.0) same.0 same.1
    (arrived_seated by v (with_service r) p.0 (seated_as by.slot_words (with_service r) r refl refl is))

beside_seated : (by : Setting) (v : ImageData) (r : Record) (t : Transfer) → Seated by.slot_words r → Seated by.slot_words (beside by r v t)
unfolding served_by
beside_seated by v r t is = at (is_over_link r t)
  where
    at : (over : Bool) → Seated by.slot_words (if over then r else went arrived newest_first by v r t (place_of v (target_of t)))
    at true = is
    at false = went_seated by v r t (place_of v (target_of t)) is

all_seated : (by : Setting) (v : ImageData) (ts : List Transfer) (r : Record) → Seated by.slot_words r → Seated by.slot_words (after_all (beside by) v r ts)
all_seated by v [] r is = is
all_seated by v (t ∷ ts) r is = all_seated by v ts (beside by r v t) (beside_seated by v r t is)

-- ---- an event of the engine

wrote_seated : (size : ℕ) (v : ImageData) (r : Record) (k : Copying) → Seats size r.placed → IsVacant size r.placed k.slot → Seated size (wrote_next size v r k)
wrote_seated size v r k is free = by (k.done + 1 == length_at v k.block)
  where
    done : Record
    done = record r { placed = with_block r k.block (k.slot * size); more = numbers (engine_words r + 1) (engine_copies r + 1) None }

    on : Record
    on = record r { more = numbers (engine_words r + 1) (engine_copies r) (Some (record k { done = k.done + 1 })) }

    by : (t : Bool) → Seated size (if t then done else on)
    by true = record { seats = free_seats size r k.block k.slot is free; apart = tt }
    by false = record { seats = is; apart = free }

oldest_has : (h : ℕ) (es : List Placement) (e : Placement) → oldest_but h es ≡ Some e → Has es e
oldest_has h [] e is = absurd (let bad : ⊥ = cc in bad)
oldest_has h (x ∷ es) e is = by (oldest_has h es e) (x.block == h) is
  where
    by : (oldest_but h es ≡ Some e → Has es e) → (t : Bool) → (if t then oldest_but h es else Some x) ≡ Some e → Has (x ∷ es) e
    by rest true at = inr (rest at)
    by rest false at = inl (let same : x ≡ e = cc in same)

slot_back : (size n : ℕ) → n * size / size * size ≡ n * size
slot_back size n = elim (cases_lt 0 size) [
  | inl some ↦ ap (λ (k : ℕ). k * size) (mul-div_cancel n some)
  | inr none ↦ (
      let zero_size : size ≡ 0 = omega arith in
      subst (λ (s : ℕ). n * s / s * s ≡ n * s) (sym zero_size) (omega arith))
]

-- the oldest block makes way: no other one stands in its slot
others_free : (size : ℕ) (es : List Placement) (e : Placement) → Seats size es → Has es e → IsVacant size (others e es) (e.first / size)
others_free size es e is has = λ f h at.
    let kept = filter_has (λ (f : Placement). not (f.block == e.block)) es f h in
    let slot = is.slots e has in
    let back : e.first / size * size ≡ e.first = ap (λ (n : ℕ). n / size * size) slot.1 ∙ slot_back size slot.0 ∙ sym slot.1 in
    let same : e ≡ f = same_first es e f is.once has kept.0 (sym (at ∙ back)) in
    let stands : (f.block == e.block) ≡ true = eq-eqb f.block e.block (ap (λ (p : Placement). p.block) (sym same)) in
    false≢true (sym (ap not stands) ∙ kept.1)

-- of what an event leaves, if there is one
abbrev AreSeated : ℕ → Option Event → Type 0
AreSeated size None = ⊤
AreSeated size (Some e) = Seated size e.next

way_seated : (size : ℕ) (v : ImageData) (r : Record) (c : ℕ) (e : Placement) (l : Option Link) → Seated size r → Has r.placed e → Seated size (made_way size v r c e l).next
unfolding evicted
way_seated size v r c e (Some l) is has = seated_as size (undone r l) r refl refl is
way_seated size v r c e None is has =
    wrote_seated size v (evicted r (e ∷ others e r.placed)) (record { block = c; slot = e.first / size; done = 0 }) (filter_seats size (λ (f : Placement). not (f.block == e.block)) r.placed is.seats) (others_free size r.placed e is.seats has)

oldest_seated : (size : ℕ) (v : ImageData) (r : Record) (c : ℕ) (o : Option Placement) → Seated size r → ((e : Placement) → o ≡ Some e → Has r.placed e) → AreSeated size (into_oldest size v r c o)
oldest_seated size v r c None is has = tt
oldest_seated size v r c (Some e) is has = way_seated size v r c e (newest_into e r.links) is (has e refl)

free_seated : (size : ℕ) (v : ImageData) (r : Record) (h c : ℕ) (o : Option ℕ) → Seated size r → ((n : ℕ) → o ≡ Some n → IsVacant size r.placed n) → AreSeated size (into_free size v r h c o)
free_seated size v r h c (Some n) is free = wrote_seated size v r (record { block = c; slot = n; done = 0 }) is.seats (free n refl)
free_seated size v r h c None is free = oldest_seated size v r c (oldest_but h r.placed) is (λ e at. oldest_has h r.placed e at)

ahead_seated : (by : Setting) (v : ImageData) (r : Record) (h c : ℕ) → Seated by.slot_words r → AreSeated by.slot_words (ahead by v r h c)
ahead_seated by v r h c is = at (nat_lt c (length v.starts) && not (is_placed r c))
  where
    at : (t : Bool) → AreSeated by.slot_words (if t then into_free by.slot_words v r h c (free_slot by r) else None)
    at true = free_seated by.slot_words v r h c (free_slot by r) is (λ n at. lowest_free by.slot_words r.placed 0 by.slots n at)
    at false = tt

event_seated : (by : Setting) (v : ImageData) (r : Record) (h : ℕ) (o : Option Copying) → copy_of r ≡ o → Seated by.slot_words r → AreSeated by.slot_words (event_by by v r h o)
event_seated by v r h None none is = ahead_seated by v r h (h + 1) is
event_seated by v r h (Some k) copies is = wrote_seated by.slot_words v r k is.seats (subst (λ (o : Option Copying). CopyApart by.slot_words r.placed o) copies is.apart)

at_seated : (by : Setting) (v : ImageData) (r : Record) (h : Here) → Seated by.slot_words r → AreSeated by.slot_words (event_at (event by) r v h)
unfolding event
at_seated by v r None is = tt
at_seated by v r (Some p) is = event_seated by v r p.0 (copy_of r) refl is

-- ---- events in order

worked_seated : (size : ℕ) (s : Moment) (o : Option Event) → Seated size s.kept → AreSeated size o → Seated size (worked o s).kept
worked_seated size s None is next = is
worked_seated size s (Some e) is next = next

engine_seated : (by : Setting) (v : ImageData) (s : Moment) → Seated by.slot_words s.kept → Seated by.slot_words (engine_event by v s).kept
engine_seated by v s is = by_ending s.flat.machine.ending
  where
    by_ending : (e : Option End) → Seated by.slot_words (if is_some e then s else worked (event_at (event by) s.kept v s.here) s).kept
    by_ending None = worked_seated by.slot_words s (event_at (event by) s.kept v s.here) is (at_seated by v s.kept s.here is)
    by_ending (Some x) = is

hart_seated : (by : Setting) (v : ImageData) (s : Moment) → Seated by.slot_words s.kept → Seated by.slot_words (instruction (beside by) v s).kept
hart_seated by v s is = by_ending s.flat.machine.ending
  where
    word : ℕ × ℕ → List Fetch
    word p = next_fetch v p s ∷ []

    whole : (h : Here) (ws : List Fetch) → Seated by.slot_words (counted ws (completed (beside by) v h s)).kept
    whole h ws = all_seated by v (step_transfers s.flat.machine h (held_step s.flat).machine) s.kept is

    by_words : (p : ℕ × ℕ) (t : Bool) → Seated by.slot_words (counted (word p) (if t then led s else completed (beside by) v (Some p) s)).kept
    by_words p true = is
    by_words p false = whole (Some p) (word p)

    by_fall : (p : ℕ × ℕ) (t : Bool) → Seated by.slot_words (counted (word p) (if t then fell (beside by) v p s else executed (beside by) v p s)).kept
    by_fall p true = all_seated by v (direct p.0 p.1 s.flat.machine.pc ∷ []) s.kept is
    by_fall p false = by_words p (nat_lt s.spent (before_last s.flat.machine (original s.flat.machine) (slots s.flat.machine)))

    by_here : (h : Here) → Seated by.slot_words (stepped_at (beside by) v h s).kept
    by_here None = whole None []
    by_here (Some p) = by_fall p (at_fall v s.flat.machine (Some p))

    by_ending : (e : Option End) → Seated by.slot_words (if is_some e then s else stepped_at (beside by) v s.here s).kept
    by_ending None = by_here s.here
    by_ending (Some x) = is

turned_seated : (by : Setting) (v : ImageData) (s : Moment) (t : Turn) → Seated by.slot_words s.kept → Seated by.slot_words (turned by v t s).kept
turned_seated by v s of_hart is = hart_seated by v s is
turned_seated by v s of_engine is = engine_seated by v s is

turns_seated : (by : Setting) (v : ImageData) (ts : List Turn) (s : Moment) → Seated by.slot_words s.kept → Seated by.slot_words (turned_all by v ts s).kept
unfolding turned_all
turns_seated by v [] s is = is
turns_seated by v (t ∷ ts) s is = turns_seated by v ts (turned by v t s) (turned_seated by v s t is)

booted_seated : (by : Setting) (v : ImageData) (m : Machine) (left : List ℕ) → Seated by.slot_words (booted by v m left).kept
booted_seated by v m left = beside_seated by v empty_beside (indirect m.pc) (record { seats = record { slots = λ e h. absurd h; once = tt }; apart = tt })

-- From the boot on, whatever the events are: no placed block stands in the slot that has a copy.
pub copy_stays_apart : (by : Setting) (v : ImageData) (m : Machine) (left : List ℕ) (ts : List Turn) →
    CopyApart by.slot_words (turned_all by v ts (booted by v m left)).kept.placed (copy_of (turned_all by v ts (booted by v m left)).kept)
copy_stays_apart by v m left ts = (turns_seated by v ts (booted by v m left) (booted_seated by v m left)).apart

-- ---- a board

-- No block stands in the slot that has a copy; control's block is one that stands.
pub copy_apart : (v : ImageData) (b : BoardWithRam EngineData) (k : Copying) (c first : ℕ) → Beside engine_service v b → b.rom.copy ≡ Some k → Placed (kept_by b.rom) c first → first ≡ k.slot * b.rom.size → ⊥
copy_apart v b k c first is copies placed same =
    let stands = is.sound.stands in
    let at = placed_slot b.rom c first placed in
    let two = stands.shape.size_least in
    let slot = same_from_place at.0 0 k.slot 0 b.rom.size (omega (arith, two)) (omega (arith, two)) (omega (arith, at.3, same)) in
    let copy = subst (λ (o : Option Copying). CopyIs o b.rom v b.ram.words) copies stands.copy_is in
    copy.slot_free (subst (λ (n : ℕ). Has b.rom.queue n) slot.0 at.1)
