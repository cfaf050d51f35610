-- An event of the engine, case by case.
use Rattle.std.proofs.Common.{◌≡◌, ℕ, ◌+◌, ◌-◌, ◌*◌, ◌/◌, ◌<◌, ◌≤◌, ◌==◌, ◌&&◌, ◌^◌, List, [], ◌∷◌, ◌++◌, remove, Bool, true, false, not, if◌then◌else◌, length, slice_index, slice_index_or, slice_get, slice_set, nat_lt, Some, None, Option, arith, refl, sym, ◌∙◌, ap, subst, inl, inr}
use Rattle.std.specs.List.{list_any, position_from}
use Rattle.std.proofs.lemmas.List.{length-set, length_push, get_or-set_other, get_or-set_same, get_or_read}
use Rattle.std.proofs.lemmas.List.Edits.{length-remove}
use Rattle.std.proofs.lemmas.Bool.{cases_eq, eq-eqb, eqb-true, ne_eqb, both_ways, lt-ltb, le-ltb}
use Rattle.std.proofs.lemmas.Nat.{same_from_place, div-mul-add}
use Rattle.swi_image.specs.Format.{ImageData}
use Rattle.swi_image.specs.Place.{word_at, length_at}
use Rattle.swi_outside.specs.CacheRam.{RamState}
use Rattle.swi_rom.specs.Record.{Record, Placement, Has, Placed, ebreak}
use Rattle.swi_rom.specs.Policy.{is_placed, evicted, first_of}
use Rattle.swi_rom.specs.Served.{SameFrom}
use Rattle.swi_engine.specs.declared.joints.Joint.{Joint}
use Rattle.swi_engine.specs.declared.copying.Copying.{Copying}
use Rattle.swi_engine.specs.Engine.{Event, extent_of, numbers, engine_words, engine_copies, event, event_by, wrote_next, with_block, goes_on, begins, into_free, into_oldest, made_way, free_slot, oldest_but, others, undone, newest_into}
use Rattle.swi_engine.specs.State.{EngineData, kept_by, setting_of, spot, link_of, used}
use Rattle.swi_engine.specs.Sound.{Standing, EngineSound, Few, CopyStands, CopyIs, InShape}
use Rattle.swi_engine.specs.Seats.{slot_within, placed_slot, joint_below, joint_inside}
use Rattle.swi_engine.specs.Moves.{leads_in, is_block_in, OneSet, undone_data, left_data, placed_data, wrote_data, IsAbsent}
use Rattle.swi_engine.specs.Joints.{NewestInto}
use Rattle.swi_engine.specs.Worked.{Worked, GoesTo}
use Rattle.swi_engine.specs.Taken.{event_extent}
use Rattle.swi_engine.proofs.Joining.{set_now}
use Rattle.swi_engine.proofs.Unused.{new_row, one_unused, taken_row}
use Rattle.swi_engine.proofs.Shapes.{has_left, has_index, has_get, has_filter, has_remove, remove_has, removed_distinct, get_index, length_filter}
use Rattle.swi_engine.proofs.Standing.{copy_short, undone_stands, begun_stands, left_stands, wrote_stands, placed_stands, recounted}
use Rattle.swi_engine.proofs.Eventing.{copy_kept, words_kept, joint_first, wrote_kept, placed_is, found, missing, any_true, any_false, free_is, free_none, oldest_is, oldest_none, newest_is, newest_none, undone_kept, left_kept}

-- a word of the copy is written, and where it is the last one the block is placed
pub wrote_any : (e : EngineData) (v : ImageData) (words : List ℕ) (c : Copying) → Standing e v words → e.copy ≡ Some c →
    Standing (wrote_data e c (length_at v c.block)) v (slice_set words (c.slot * e.size + c.done) (word_at v c.block c.done))
wrote_any e v words c stands is = by_test (c.done + 1 == length_at v c.block) refl
  where
    by_test : (t : Bool) → (c.done + 1 == length_at v c.block) ≡ t →
        Standing (if t then record (placed_data e c.block c.slot (length_at v c.block)) { words = e.words + 1; copies = e.copies + 1 } else record e { copy = Some (record c { done = c.done + 1 }); words = e.words + 1 }) v
        (slice_set words (c.slot * e.size + c.done) (word_at v c.block c.done))
    by_test true t =
        let was : CopyStands e v words c = subst (λ (o : Option Copying). CopyIs o e v words) is stands.copy_is in
        let last : c.done + 1 ≡ length_at v c.block = eqb-true _ _ t in
        let short = copy_short e v words c stands was in
        let within : c.slot * e.size + e.size ≤ e.slots * e.size = slot_within e c.slot stands.shape (omega (arith, was.slot_used, stands.shape.used_most)) in
        recounted _ v _ e.counts (e.words + 1) (e.copies + 1)
        (placed_stands e v words (slice_set words (c.slot * e.size + c.done) (word_at v c.block c.done)) c stands is (length-set words (c.slot * e.size + c.done) (word_at v c.block c.done))
        (λ k lt. elim (cases_eq k c.done) [
          | inl s ↦ (ap (λ (i : ℕ). slice_index (slice_set words (c.slot * e.size + c.done) (word_at v c.block c.done)) (c.slot * e.size + i)) s
              ∙ get_or-set_same words (c.slot * e.size + c.done) (word_at v c.block c.done) 0 (omega (arith, within, stands.fits, last, short)) ∙ ap (λ (i : ℕ). word_at v c.block i) (sym s))
          | inr ne ↦ (get_or-set_other words (c.slot * e.size + c.done) (c.slot * e.size + k) (word_at v c.block c.done) 0 (λ (s : c.slot * e.size + k ≡ c.slot * e.size + c.done). ne (omega (arith, s)))
              ∙ was.stands k (below k c.done (omega (arith, lt, last)) ne))
        ])
        (λ n o ne lt. get_or-set_other words (c.slot * e.size + c.done) (n * e.size + o) (word_at v c.block c.done) 0
        (λ (s : n * e.size + o ≡ c.slot * e.size + c.done). ne (same_from_place n o c.slot c.done e.size lt (omega (arith, last, short)) s).0)))
      where
        below : (k d : ℕ) → k < d + 1 → (k ≡ d → ⊥) → k < d
        below k d lt ne = grind (arith)
    by_test false t =
        let was : CopyStands e v words c = subst (λ (o : Option Copying). CopyIs o e v words) is stands.copy_is in
        recounted _ v _ e.counts (e.words + 1) e.copies (wrote_stands e v words c stands is (next c.done (length_at v c.block) was.more (λ s. both_ways _ t (eq-eqb _ _ s))))
      where
        next : (d n : ℕ) → d < n → (d + 1 ≡ n → ⊥) → d + 1 < n
        next d n lt ne = grind (arith)

-- the counts after a word of a copy
few_wrote : (e : EngineData) (c : Copying) (n : ℕ) → Few e → e.words < 2 ^ 60 → Few (wrote_data e c n)
few_wrote e c n few lt = by_test (c.done + 1 == n)
  where
    no_end : {X : Type 0} (xs : List X) (x : X) → xs ++ x ∷ [] ≡ [] → ⊥
    no_end [] x s = cc
    no_end (y ∷ ys) x s = cc

    by_test : (t : Bool) → Few (if t then record (placed_data e c.block c.slot n) { words = e.words + 1; copies = e.copies + 1 } else record e { copy = Some (record c { done = c.done + 1 }); words = e.words + 1 })
    by_test true = record {
      misses_few = few.misses_few;
      unbooted = λ s. absurd (no_end e.queue c.slot s);
      copied_few = few.copied_few;
      evictions_few = omega (arith, few.evictions_few);
      links_few = few.links_few;
      unlinks_few = few.unlinks_few;
      copies_few = omega (arith, few.copies_few);
      queue_few = omega (arith, few.queue_few, length_push e.queue c.slot);
      words_few = omega (arith, lt);
      services_few = few.services_few;
    }
    by_test false = record {
      misses_few = few.misses_few;
      unbooted = few.unbooted;
      copied_few = few.copied_few;
      evictions_few = omega (arith, few.evictions_few);
      links_few = few.links_few;
      unlinks_few = few.unlinks_few;
      copies_few = omega (arith, few.copies_few);
      queue_few = few.queue_few;
      words_few = omega (arith, lt);
      services_few = few.services_few;
    }

wrote_slots : (e : EngineData) (c : Copying) (n : ℕ) → (setting_of (wrote_data e c n) ≡ setting_of e) × ((wrote_data e c n).words ≡ e.words + 1)
wrote_slots e c n = by_test (c.done + 1 == n)
  where
    by_test : (t : Bool) → let f : EngineData = if t then record (placed_data e c.block c.slot n) { words = e.words + 1; copies = e.copies + 1 } else record e { copy = Some (record c { done = c.done + 1 }); words = e.words + 1 } in
        (setting_of f ≡ setting_of e) × (f.words ≡ e.words + 1)
    by_test true = (refl, refl)
    by_test false = (refl, refl)

wrote_keeps : (size : ℕ) (v : ImageData) (r : Record) (c : Copying) (h f : ℕ) → Placed r h f → Placed (wrote_next size v r c) h f
unfolding Placed
wrote_keeps size v r c h f p = by_test (c.done + 1 == length_at v c.block)
  where
    by_test : (t : Bool) → Has (if t then record r { placed = with_block r c.block (c.slot * size); more = numbers (engine_words r + 1) (engine_copies r + 1) None } else record r { more = numbers (engine_words r + 1) (engine_copies r) (Some (record c { done = c.done + 1 })) }).placed
        (record { program = (if t then record r { placed = with_block r c.block (c.slot * size); more = numbers (engine_words r + 1) (engine_copies r + 1) None } else record r { more = numbers (engine_words r + 1) (engine_copies r) (Some (record c { done = c.done + 1 })) }).turn; block = h; first = f })
    by_test true = has_left r.placed _ _ p
    by_test false = p

-- the event, by the copy that has begun
event_is : (e : EngineData) (v : ImageData) (h : ℕ) → event (setting_of e) (kept_by e) v h ≡ event_by (setting_of e) v (kept_by e) h e.copy
unfolding event
event_is e v h = ap (λ (o : Option Copying). event_by (setting_of e) v (kept_by e) h o) (copy_kept e)

goes_to : (o : Option Event) (x : Event) (span : ℕ) (old new : Record) (a b : RamState) → o ≡ Some x → new ≡ x.next → x.at < span → OneSet x.at x.word a b → GoesTo o true span old new a b
goes_to None x span old new a b is same lt set = absurd cc
goes_to (Some y) x span old new a b is same lt set =
    let s : x ≡ y = cc in subst (λ (z : Event). GoesTo (Some z) true span old new a b) s (refl, same, lt, set)

goes_nowhere : (o : Option Event) (span : ℕ) (old : Record) (a : RamState) → o ≡ None → GoesTo o false span old old a a
goes_nowhere None span old a is = (refl, refl, refl)
goes_nowhere (Some x) span old a is = absurd cc

more_words : (e f : EngineData) → f.words ≡ e.words + 1 → engine_words (kept_by f) ≤ engine_words (kept_by e) + 1
more_words e f is = omega (arith, is, words_kept e, words_kept f)

-- a word of a slot that was taken before the event is set
unused_by : (e f : EngineData) (v : ImageData) (h n o : ℕ) (x : Event) (a b : RamState) → EngineSound e v a.words → event (setting_of e) (kept_by e) v h ≡ Some x → kept_by f ≡ x.next → n < used e → o < e.size → n * e.size + o ≡ x.at →
    OneSet x.at x.word a b → SameFrom (extent_of (setting_of e) (kept_by f)) a.words b.words
unused_by e f v h n o x a b sound is kept lt inside at set =
    let before = taken_row e v a.words n o sound lt inside in
    let further = subst (λ (r : Record). extent_of (setting_of e) (kept_by e) ≤ extent_of (setting_of e) r) (sym kept) (event_extent (setting_of e) (kept_by e) v h x is) in
    one_unused x.at x.word (extent_of (setting_of e) (kept_by f)) a b (omega (arith, before, further, at)) set

-- the copy that has begun goes on
pub copy_worked : (e f : EngineData) (v : ImageData) (h : ℕ) (c : Copying) (a b : RamState) → EngineSound e v a.words → e.copy ≡ Some c → e.words < 2 ^ 60 → f ≡ wrote_data e c (length_at v c.block) → OneSet (c.slot * e.size + c.done) (word_at v c.block c.done) a b → Worked v h e f true a b
copy_worked e f v h c a b sound is lt f_is set =
    let stands = sound.stands in
    let was : CopyStands e v a.words c = subst (λ (o : Option Copying). CopyIs o e v a.words) is stands.copy_is in
    let slot : c.slot < e.slots = omega (arith, was.slot_used, stands.shape.used_most) in
    let kept = wrote_kept e v c was.slot_free (omega (arith, slot, stands.shape.blocks_long)) in
    let words : b.words ≡ slice_set a.words (c.slot * e.size + c.done) (word_at v c.block c.done) = ap (λ (r : RamState). r.words) set in
    let sizes = wrote_slots e c (length_at v c.block) in
    let made : event (setting_of e) (kept_by e) v h ≡ Some (goes_on e.size v (kept_by e) c) = event_is e v h ∙ ap (λ (o : Option Copying). event_by (setting_of e) v (kept_by e) h o) is in
    let inside : c.done < e.size = omega (arith, was.more, copy_short e v a.words c stands was) in
    rw f_is (record {
      moves = goes_to _ (goes_on e.size v (kept_by e) c) _ _ _ a b made kept
          (omega (arith, slot_within e c.slot stands.shape slot, was.more, copy_short e v a.words c stands was)) set;
      stays = λ f p. subst (λ (r : Record). Placed r h f) (sym kept) (wrote_keeps e.size v (kept_by e) c h f p);
      unused = unused_by e (wrote_data e c (length_at v c.block)) v h c.slot c.done (goes_on e.size v (kept_by e) c) a b sound made kept was.slot_used inside refl set;
      sound = record { stands = subst (λ (ws : List ℕ). Standing (wrote_data e c (length_at v c.block)) v ws) (sym words) (wrote_any e v a.words c stands is); few = few_wrote e c (length_at v c.block) sound.few lt };
      setting_stays = sizes.0;
      words_few = more_words e (wrote_data e c (length_at v c.block)) sizes.1;
    })

-- there is nothing to do
pub idle_worked : (e : EngineData) (v : ImageData) (h : ℕ) (a : RamState) → EngineSound e v a.words → event (setting_of e) (kept_by e) v h ≡ None → Worked v h e e false a a
idle_worked e v h a sound none = record { moves = goes_nowhere _ _ _ a none; stays = λ f p. p; unused = λ i le. refl; sound = sound; setting_stays = refl; words_few = omega arith }

abbrev pub next_block : EngineData → ImageData → ℕ → Option Event
next_block e v h = into_free e.size v (kept_by e) h (h + 1) (free_slot (setting_of e) (kept_by e))

no_block : (e : EngineData) (v : ImageData) (h : ℕ) → e.copy ≡ None → event (setting_of e) (kept_by e) v h ≡ (if nat_lt (h + 1) (length v.starts) && not (is_placed (kept_by e) (h + 1)) then next_block e v h else None)
no_block e v h none = event_is e v h ∙ ap (λ (o : Option Copying). event_by (setting_of e) v (kept_by e) h o) none

pub behind_last : (e : EngineData) (v : ImageData) (h : ℕ) → e.copy ≡ None → length v.starts ≤ h + 1 → event (setting_of e) (kept_by e) v h ≡ None
behind_last e v h none past = no_block e v h none ∙ (rw (le-ltb (h + 1) (length v.starts) past) refl)

is_placed_is : (e : EngineData) (b : ℕ) → is_placed (kept_by e) b ≡ list_any (λ n. is_block_in e.blocks b n) e.queue
unfolding is_placed
is_placed_is e b = placed_is e.size e.blocks b e.queue

pub stands_already : (e : EngineData) (v : ImageData) (h n : ℕ) → e.copy ≡ None → Has e.queue n → slice_index e.blocks n ≡ h + 1 → event (setting_of e) (kept_by e) v h ≡ None
stands_already e v h n none has is =
    no_block e v h none ∙ (rw (is_placed_is e (h + 1), any_true (λ n. is_block_in e.blocks (h + 1) n) e.queue n has (eq-eqb _ _ is)) (both (nat_lt (h + 1) (length v.starts)) (next_block e v h)))
  where
    both : (t : Bool) (o : Option Event) → (if t && false then o else None) ≡ None
    both true o = refl
    both false o = refl

pub absent_any : (e : EngineData) (b : ℕ) → IsAbsent e b → list_any (λ n. is_block_in e.blocks b n) e.queue ≡ false
absent_any e b absent = any_false (λ n. is_block_in e.blocks b n) e.queue (λ n h. ne_eqb _ _ (absent n h))

can_begin : (e : EngineData) (v : ImageData) (h : ℕ) → e.copy ≡ None → h + 1 < length v.starts → IsAbsent e (h + 1) → event (setting_of e) (kept_by e) v h ≡ next_block e v h
can_begin e v h none lt absent =
    no_block e v h none ∙ (rw (lt-ltb (h + 1) (length v.starts) lt, is_placed_is e (h + 1), absent_any e (h + 1) absent) refl)

-- a block that stands nowhere begins in the lowest free slot
pub free_worked : (e f : EngineData) (v : ImageData) (h : ℕ) (a b : RamState) → EngineSound e v a.words → e.copy ≡ None → e.words < 2 ^ 60 → h + 1 < length v.starts → IsAbsent e (h + 1) →
    length e.queue < e.slots → f ≡ wrote_data e (record { block = h + 1; slot = length e.queue; done = 0 }) (length_at v (h + 1)) → OneSet (length e.queue * e.size + 0) (word_at v (h + 1) 0) a b → Worked v h e f true a b
free_worked e f v h a b sound none lt known absent room f_is set =
    let stands = sound.stands in
    let some : 0 < length_at v (h + 1) = omega (arith, (stands.image.lengths (h + 1) known).0) in
    let begun = begun_stands e v a.words (h + 1) stands none room (omega (arith, known, stands.image.blocks)) some absent in
    let c : Copying = record { block = h + 1; slot = length e.queue; done = 0 } in
    let unqueued : Has e.queue (length e.queue) → ⊥ = λ has. (begun.copy_is).slot_free has in
    let kept = wrote_kept e v (record { block = h + 1; slot = length e.queue; done = 0 }) unqueued (omega (arith, room, stands.shape.blocks_long)) in
    let words : b.words ≡ slice_set a.words (length e.queue * e.size + 0) (word_at v (h + 1) 0) = ap (λ (r : RamState). r.words) set in
    let sizes = wrote_slots e (record { block = h + 1; slot = length e.queue; done = 0 }) (length_at v (h + 1)) in
    rw f_is (record {
      moves = goes_to _ (begins e.size v (kept_by e) (h + 1) (length e.queue)) _ _ _ a b
          (can_begin e v h none known absent ∙ ap (λ (o : Option ℕ). into_free e.size v (kept_by e) h (h + 1) o) (free_is e v a.words stands none room)) kept
          (omega (arith, slot_within e (length e.queue) stands.shape room, stands.shape.size_least)) set;
      stays = λ f p. subst (λ (r : Record). Placed r h f) (sym kept) (wrote_keeps e.size v (kept_by e) (record { block = h + 1; slot = length e.queue; done = 0 }) h f p);
      unused = subst (λ (r : Record). SameFrom (extent_of (setting_of e) r) a.words b.words) (sym kept)
          (one_unused (length e.queue * e.size + 0) (word_at v (h + 1) 0) _ a b (new_row e v a.words (record { block = h + 1; slot = length e.queue; done = 0 }) (length e.queue) 0 sound room (omega arith) (omega (arith, stands.shape.size_least))) set);
      sound = record {
        stands = subst (λ (ws : List ℕ). Standing (wrote_data e (record { block = h + 1; slot = length e.queue; done = 0 }) (length_at v (h + 1))) v ws) (sym words)
            (wrote_any (record e { copy = Some (record { block = h + 1; slot = length e.queue; done = 0 }) }) v a.words (record { block = h + 1; slot = length e.queue; done = 0 }) begun refl);
        few = few_wrote e (record { block = h + 1; slot = length e.queue; done = 0 }) (length_at v (h + 1)) sound.few lt;
      };
      setting_stays = sizes.0;
      words_few = more_words e (wrote_data e (record { block = h + 1; slot = length e.queue; done = 0 }) (length_at v (h + 1))) sizes.1;
    })

-- where no slot is free, the event is about the oldest block but control's
full_event : (e : EngineData) (v : ImageData) (words : List ℕ) (h : ℕ) → Standing e v words → e.copy ≡ None → h + 1 < length v.starts → IsAbsent e (h + 1) → e.slots ≤ length e.queue →
    event (setting_of e) (kept_by e) v h ≡ into_oldest e.size v (kept_by e) (h + 1) (oldest_but h (kept_by e).placed)
full_event e v words h stands none known absent full = can_begin e v h none known absent ∙ ap (λ (o : Option ℕ). into_free e.size v (kept_by e) h (h + 1) o) (free_none e v words stands none full)

pub none_other : (e : EngineData) (v : ImageData) (words : List ℕ) (h : ℕ) → Standing e v words → e.copy ≡ None → h + 1 < length v.starts → IsAbsent e (h + 1) → e.slots ≤ length e.queue →
    position_from (λ n. not (is_block_in e.blocks h n)) 0 e.queue ≡ None → event (setting_of e) (kept_by e) v h ≡ None
none_other e v words h stands none known absent full only =
    full_event e v words h stands none known absent full ∙ ap (λ (o : Option Placement). into_oldest e.size v (kept_by e) (h + 1) o) (oldest_none e.size e.blocks h 0 e.queue only)

less_none : (k : ℕ) → k - 0 ≡ k
less_none k = omega arith

oldest_event : (e : EngineData) (v : ImageData) (words : List ℕ) (h k : ℕ) → Standing e v words → e.copy ≡ None → h + 1 < length v.starts → IsAbsent e (h + 1) → e.slots ≤ length e.queue →
    position_from (λ n. not (is_block_in e.blocks h n)) 0 e.queue ≡ Some k →
    event (setting_of e) (kept_by e) v h ≡ Some (made_way e.size v (kept_by e) (h + 1) (spot e.size e.blocks (slice_index e.queue k)) (newest_into (spot e.size e.blocks (slice_index e.queue k)) (kept_by e).links))
oldest_event e v words h k stands none known absent full at =
    let is : oldest_but h (kept_by e).placed ≡ Some (spot e.size e.blocks (slice_index e.queue k)) =
    subst (λ (x : ℕ). oldest_but h (kept_by e).placed ≡ Some (spot e.size e.blocks (slice_index e.queue x))) (less_none k) (oldest_is e.size e.blocks h 0 k e.queue at) in
    full_event e v words h stands none known absent full ∙ ap (λ (o : Option Placement). into_oldest e.size v (kept_by e) (h + 1) o) is

same_words : (e : EngineData) (k : ℕ) → engine_words (kept_by (undone_data e k)) ≤ engine_words (kept_by e) + 1
same_words e k = omega (arith, words_kept e, words_kept (undone_data e k))

few_undone : (e : EngineData) (k : ℕ) → Few e → k < length e.joints → Few (undone_data e k)
few_undone e k few lt = record {
  misses_few = few.misses_few;
  unbooted = few.unbooted;
  copied_few = few.copied_few;
  evictions_few = few.evictions_few;
  links_few = few.links_few;
  unlinks_few = omega (arith, few.unlinks_few, length-remove e.joints k lt);
  copies_few = few.copies_few;
  queue_few = few.queue_few;
  words_few = few.words_few;
  services_few = few.services_few;
}

-- a link into it is undone
undone_worked : (e f : EngineData) (v : ImageData) (h k i : ℕ) (a b : RamState) → EngineSound e v a.words → e.copy ≡ None → h + 1 < length v.starts → IsAbsent e (h + 1) → e.slots ≤ length e.queue →
    position_from (λ n. not (is_block_in e.blocks h n)) 0 e.queue ≡ Some k → position_from (λ j. leads_in j (slice_index e.blocks (slice_index e.queue k))) 0 e.joints ≡ Some i →
    f ≡ undone_data e i → ((j : Joint) → slice_get e.joints i ≡ Some j → OneSet j.at ebreak a b) → Worked v h e f true a b
unfolding Placed
undone_worked e f v h k i a b sound none known absent full at into f_is set =
    let stands = sound.stands in
    let w = newest_is (slice_index e.blocks (slice_index e.queue k)) (slice_index e.queue k * e.size) 0 i e.joints into in
    let j : Joint = w.0 in
    let get : slice_get e.joints i ≡ Some w.0 = subst (λ (x : ℕ). slice_get e.joints x ≡ Some w.0) (less_none i) w.1 in
    let below : i < length e.joints = omega (arith, (found (λ j. leads_in j (slice_index e.blocks (slice_index e.queue k))) 0 i e.joints into).1) in
    let kept = undone_kept e v a.words i w.0 stands get in
    let one = set w.0 get in
    let has = has_get e.joints i w.0 get in
    let at_is = joint_first e v a.words w.0 stands has in
    let words : b.words ≡ slice_set a.words w.0.at ebreak = ap (λ (r : RamState). r.words) one in
    let made : event (setting_of e) (kept_by e) v h ≡ Some (record { next = undone (kept_by e) (link_of w.0); at = first_of (kept_by e) w.0.block + w.0.offset; word = ebreak }) =
    oldest_event e v a.words h k stands none known absent full at ∙ ap (λ o. Some (made_way e.size v (kept_by e) (h + 1) (spot e.size e.blocks (slice_index e.queue k)) o)) w.2 in
    rw f_is (record {
      moves = goes_to _ (record { next = undone (kept_by e) (link_of w.0); at = first_of (kept_by e) w.0.block + w.0.offset; word = ebreak }) _ _ _ a b
          made kept
          (omega (arith, at_is, joint_below e v a.words w.0 stands (stands.linked w.0 has))) (subst (λ (x : ℕ). OneSet x ebreak a b) (sym at_is) one);
      stays = λ f p. p;
      unused = one_unused w.0.at ebreak (extent_of (setting_of e) (kept_by (undone_data e i))) a b
          (let s = stands.linked w.0 has in omega (
            arith,
            s.index,
            taken_row e v a.words s.home w.0.offset sound (stands.low s.home s.home_queued) (joint_inside e v a.words w.0 stands s),
            subst (λ (r : Record). extent_of (setting_of e) (kept_by e) ≤ extent_of (setting_of e) r) (sym kept) (event_extent (setting_of e) (kept_by e) v h (record { next = undone (kept_by e) (link_of w.0); at = first_of (kept_by e) w.0.block + w.0.offset; word = ebreak }) made),
          )) one;
      sound = record { stands = subst (λ (ws : List ℕ). Standing (undone_data e i) v ws) (sym words) (undone_stands e v a.words i w.0 stands get); few = few_undone e i sound.few below };
      setting_stays = refl;
      words_few = same_words e i;
    })

few_left : (e : EngineData) (k n : ℕ) (c : Copying) (m : ℕ) → Few e → e.words < 2 ^ 60 → k < length e.queue → Has (remove e.queue k) m → Few (wrote_data (left_data e k) c n)
few_left e k n c m few lt below has = by_test (c.done + 1 == n)
  where
    no_end : {X : Type 0} (xs : List X) (x : X) → xs ++ x ∷ [] ≡ [] → ⊥
    no_end [] x s = cc
    no_end (y ∷ ys) x s = cc

    not_empty : (xs : List ℕ) (x : ℕ) → Has xs x → xs ≡ [] → ⊥
    not_empty [] x h s = h
    not_empty (y ∷ ys) x h s = cc

    by_test : (t : Bool) → Few (if t then record (placed_data (left_data e k) c.block c.slot n) { words = e.words + 1; copies = e.copies + 1 } else record (left_data e k) { copy = Some (record c { done = c.done + 1 }); words = e.words + 1 })
    by_test true = record {
      misses_few = few.misses_few;
      unbooted = λ s. absurd (no_end (remove e.queue k) c.slot s);
      copied_few = few.copied_few;
      evictions_few = omega (arith, few.evictions_few);
      links_few = few.links_few;
      unlinks_few = omega (arith, few.unlinks_few, length_filter (λ (j : Joint). not (j.block == slice_index e.blocks (slice_index e.queue k))) e.joints);
      copies_few = omega (arith, few.copies_few);
      queue_few = omega (arith, few.queue_few, length_push (remove e.queue k) c.slot, length-remove e.queue k below);
      words_few = omega (arith, lt);
      services_few = few.services_few;
    }
    by_test false = record {
      misses_few = few.misses_few;
      unbooted = λ s. absurd (not_empty (remove e.queue k) m has s);
      copied_few = few.copied_few;
      evictions_few = omega (arith, few.evictions_few);
      links_few = few.links_few;
      unlinks_few = omega (arith, few.unlinks_few, length_filter (λ (j : Joint). not (j.block == slice_index e.blocks (slice_index e.queue k))) e.joints);
      copies_few = omega (arith, few.copies_few);
      queue_few = omega (arith, few.queue_few, length-remove e.queue k below);
      words_few = omega (arith, lt);
      services_few = few.services_few;
    }

others_keep : (h : ℕ) (e : Placement) (ps : List Placement) (f : ℕ) → (h ≡ e.block → ⊥) → Has ps (record { program = 0; block = h; first = f }) → Has (others e ps) (record { program = 0; block = h; first = f })
others_keep h e ps f ne p = has_filter (λ (x : Placement). not (x.block == e.block)) ps (record { program = 0; block = h; first = f }) p (ap (λ (t : Bool). not t) (ne_eqb h e.block ne))

evicted_keeps : (r : Record) (h f : ℕ) (e : Placement) → r.turn ≡ 0 → (h ≡ e.block → ⊥) → Placed r h f → Placed (evicted r (e ∷ others e r.placed)) h f
unfolding Placed evicted
evicted_keeps r h f e turn ne p =
    subst (λ (n : ℕ). Has (others e r.placed) (record { program = n; block = h; first = f })) (sym turn) (others_keep h e r.placed f ne (subst (λ (n : ℕ). Has r.placed (record { program = n; block = h; first = f })) turn p))

-- it leaves, and the block begins in its slot
pub left_worked : (e f : EngineData) (v : ImageData) (h first k : ℕ) (a b : RamState) → EngineSound e v a.words → e.copy ≡ None → e.words < 2 ^ 60 → Placed (kept_by e) h first → h + 1 < length v.starts → IsAbsent e (h + 1) → e.slots ≤ length e.queue →
    position_from (λ n. not (is_block_in e.blocks h n)) 0 e.queue ≡ Some k → position_from (λ j. leads_in j (slice_index e.blocks (slice_index e.queue k))) 0 e.joints ≡ None →
    f ≡ wrote_data (left_data e k) (record { block = h + 1; slot = slice_index e.queue k; done = 0 }) (length_at v (h + 1)) → OneSet (slice_index e.queue k * e.size + 0) (word_at v (h + 1) 0) a b → Worked v h e f true a b
left_worked e f v h first k a b sound none lt here known absent full at into f_is set =
    let stands = sound.stands in
    let w = found (λ n. not (is_block_in e.blocks h n)) 0 k e.queue at in
    let below : k < length e.queue = omega (arith, w.1) in
    let slot : slice_index e.queue k < e.slots = stands.shape.below (slice_index e.queue k) (has_index e.queue k below) in
    let get : slice_index e.queue k ≡ w.2.0 = same_get e.queue k w.2.0 below w.2.1 in
    let other : h ≡ slice_index e.blocks (slice_index e.queue k) → ⊥ = λ s. not_both (is_block_in e.blocks h w.2.0) w.2.2 (eq-eqb _ _ (ap (λ (n : ℕ). slice_index e.blocks n) (sym get) ∙ sym s)) in
    let unlinked : (j : Joint) → Has e.joints j → leads_in j (slice_index e.blocks (slice_index e.queue k)) ≡ false = missing (λ j. leads_in j (slice_index e.blocks (slice_index e.queue k))) 0 e.joints into in
    let some : 0 < length_at v (h + 1) = omega (arith, (stands.image.lengths (h + 1) known).0) in
    let begun = left_stands e v a.words k (h + 1) stands none below (omega (arith, known, stands.image.blocks)) some absent unlinked in
    let unqueued : Has (remove e.queue k) (slice_index e.queue k) → ⊥ = λ has. (begun.copy_is).slot_free has in
    let left = left_kept e v a.words k stands below unlinked in
    let kept = wrote_kept (left_data e k) v (record { block = h + 1; slot = slice_index e.queue k; done = 0 }) unqueued (omega (arith, slot, stands.shape.blocks_long)) ∙ ap (λ (r : Record). wrote_next e.size v r (record { block = h + 1; slot = slice_index e.queue k; done = 0 })) left in
    let words : b.words ≡ slice_set a.words (slice_index e.queue k * e.size + 0) (word_at v (h + 1) 0) = ap (λ (r : RamState). r.words) set in
    let sizes = wrote_slots (left_data e k) (record { block = h + 1; slot = slice_index e.queue k; done = 0 }) (length_at v (h + 1)) in
    let row : slice_index e.queue k * e.size / e.size ≡ slice_index e.queue k = ap (λ (x : ℕ). x / e.size) (omega arith) ∙ div-mul-add (slice_index e.queue k) e.size 0 (omega (arith, stands.shape.size_least)) in
    let home = placed_slot e h first here in
    let made : event (setting_of e) (kept_by e) v h ≡ Some (begins e.size v (evicted (kept_by e) (spot e.size e.blocks (slice_index e.queue k) ∷ others (spot e.size e.blocks (slice_index e.queue k)) (kept_by e).placed)) (h + 1) (slice_index e.queue k)) =
    oldest_event e v a.words h k stands none known absent full at
    ∙ ap (λ o. Some (made_way e.size v (kept_by e) (h + 1) (spot e.size e.blocks (slice_index e.queue k)) o)) (newest_none (slice_index e.blocks (slice_index e.queue k)) (slice_index e.queue k * e.size) 0 e.joints into)
    ∙ ap (λ (n : ℕ). Some (begins e.size v (evicted (kept_by e) (spot e.size e.blocks (slice_index e.queue k) ∷ others (spot e.size e.blocks (slice_index e.queue k)) (kept_by e).placed)) (h + 1) n)) row in
    let stay : Has (remove e.queue k) home.0 = elim (has_remove e.queue k home.0 (slice_index e.queue k) (get_index e.queue k below) home.1) [ inl r ↦ r | inr s ↦ absurd (other (sym home.2 ∙ ap (λ (n : ℕ). slice_index e.blocks n) (sym s))) ] in
    rw f_is (record {
      moves = goes_to _ (begins e.size v (evicted (kept_by e) (spot e.size e.blocks (slice_index e.queue k) ∷ others (spot e.size e.blocks (slice_index e.queue k)) (kept_by e).placed)) (h + 1) (slice_index e.queue k)) _ _ _ a b
          made kept
          (omega (arith, slot_within e (slice_index e.queue k) stands.shape slot, stands.shape.size_least)) set;
      stays = λ f p. subst (λ (r : Record). Placed r h f) (sym kept)
          (wrote_keeps e.size v _ (record { block = h + 1; slot = slice_index e.queue k; done = 0 }) h f (evicted_keeps (kept_by e) h f (spot e.size e.blocks (slice_index e.queue k)) refl other p));
      unused = unused_by e (wrote_data (left_data e k) (record { block = h + 1; slot = slice_index e.queue k; done = 0 }) (length_at v (h + 1))) v h (slice_index e.queue k) 0
          (begins e.size v (evicted (kept_by e) (spot e.size e.blocks (slice_index e.queue k) ∷ others (spot e.size e.blocks (slice_index e.queue k)) (kept_by e).placed)) (h + 1) (slice_index e.queue k)) a b
          sound made kept (stands.low (slice_index e.queue k) (has_index e.queue k below)) (omega (arith, stands.shape.size_least)) refl set;
      sound = record {
        stands = subst (λ (ws : List ℕ). Standing (wrote_data (left_data e k) (record { block = h + 1; slot = slice_index e.queue k; done = 0 }) (length_at v (h + 1))) v ws) (sym words)
            (wrote_any (record (left_data e k) { copy = Some (record { block = h + 1; slot = slice_index e.queue k; done = 0 }) }) v a.words (record { block = h + 1; slot = slice_index e.queue k; done = 0 }) begun refl);
        few = few_left e k (length_at v (h + 1)) (record { block = h + 1; slot = slice_index e.queue k; done = 0 }) home.0 sound.few lt below stay;
      };
      setting_stays = sizes.0;
      words_few = more_words e (wrote_data (left_data e k) (record { block = h + 1; slot = slice_index e.queue k; done = 0 }) (length_at v (h + 1))) sizes.1;
    })
  where
    not_both : (t : Bool) → not t ≡ true → t ≡ true → ⊥
    not_both true e f = cc
    not_both false e f = cc

    same_get : (xs : List ℕ) (k x : ℕ) → k < length xs → slice_get xs (k - 0) ≡ Some x → slice_index xs k ≡ x
    same_get xs k x lt e = let w : slice_get xs k ≡ Some x = subst (λ (i : ℕ). slice_get xs i ≡ Some x) (less_none k) e in let g = get_index xs k lt in cc

-- the calls, as their code meets them: e is what the fields hold, now what they show
pub queue_below : (e : EngineData) (b : List ℕ) → InShape e → b ≡ e.blocks → (k : ℕ) → k < length e.queue → slice_index e.queue k < length b
queue_below e b shape bs k lt =
    let below : slice_index e.queue k < length e.blocks = omega (arith, shape.below (slice_index e.queue k) (has_index e.queue k lt), shape.blocks_long) in
    subst (λ (xs : List ℕ). slice_index e.queue k < length xs) (sym bs) below

pub oldest_now : (e now : EngineData) (b : List ℕ) (x : ℕ) (r s : Option ℕ) → e ≡ now → b ≡ e.blocks → r ≡ position_from (λ n. not (is_block_in b x n)) 0 e.queue → r ≡ s → position_from (λ n. not (is_block_in now.blocks x n)) 0 now.queue ≡ s
oldest_now e now b x r s same bs is rs =
    subst (λ (t : EngineData). position_from (λ n. not (is_block_in t.blocks x n)) 0 t.queue ≡ s) same
    (subst (λ (ns : List ℕ). position_from (λ n. not (is_block_in ns x n)) 0 e.queue ≡ s) bs (sym is ∙ rs))

-- the block that is read
pub victim_now : (e now : EngineData) (k n b : ℕ) → e ≡ now → InShape e → k < length e.queue → n ≡ slice_index_or e.queue k n → b ≡ slice_index_or e.blocks n b → (n < length e.blocks) × (n ≡ slice_index now.queue k) × (b ≡ slice_index now.blocks (slice_index now.queue k))
victim_now e now k n b same shape lt n_is b_is =
    let at : n ≡ slice_index e.queue k = get_or_read e.queue k n lt n_is 0 in
    let below : n < length e.blocks = omega (arith, at, shape.below (slice_index e.queue k) (has_index e.queue k lt), shape.blocks_long) in
    let block : b ≡ slice_index e.blocks n = get_or_read e.blocks n b below b_is 0 in
    (below, subst (λ (t : EngineData). n ≡ slice_index t.queue k) same at, subst (λ (t : EngineData). b ≡ slice_index t.blocks (slice_index t.queue k)) same (block ∙ ap (λ (m : ℕ). slice_index e.blocks m) at))

pub free_call : (e f : EngineData) (v : ImageData) (h n : ℕ) (a b : RamState) → EngineSound e v a.words → e.copy ≡ None → e.words < 2 ^ 60 → h + 1 < length v.starts → IsAbsent e (h + 1) →
    length e.queue < e.slots → n ≡ length e.queue → f ≡ wrote_data e (record { block = h + 1; slot = n; done = 0 }) (length_at v (h + 1)) → OneSet (n * e.size + 0) (word_at v (h + 1) 0) a b → Worked v h e f true a b
free_call e f v h n a b sound none lt known absent room is f_is set =
    free_worked e f v h a b sound none lt known absent room (subst (λ (m : ℕ). f ≡ wrote_data e (record { block = h + 1; slot = m; done = 0 }) (length_at v (h + 1))) is f_is) (subst (λ (m : ℕ). OneSet (m * e.size + 0) (word_at v (h + 1) 0) a b) is set)

pub left_call : (e f g : EngineData) (v : ImageData) (h first k n : ℕ) (a b : RamState) → EngineSound e v a.words → e.copy ≡ None → e.words < 2 ^ 60 → Placed (kept_by e) h first → h + 1 < length v.starts → IsAbsent e (h + 1) → e.slots ≤ length e.queue →
    position_from (λ n. not (is_block_in e.blocks h n)) 0 e.queue ≡ Some k → position_from (λ j. leads_in j (slice_index e.blocks (slice_index e.queue k))) 0 e.joints ≡ None →
    g ≡ left_data e k → n ≡ slice_index e.queue k → f ≡ wrote_data g (record { block = h + 1; slot = n; done = 0 }) (length_at v (h + 1)) → OneSet (n * g.size + 0) (word_at v (h + 1) 0) a b → Worked v h e f true a b
left_call e f g v h first k n a b sound none lt here known absent full at into g_is is f_is set =
    left_worked e f v h first k a b sound none lt here known absent full at into
    (subst (λ (m : ℕ). f ≡ wrote_data (left_data e k) (record { block = h + 1; slot = m; done = 0 }) (length_at v (h + 1))) is (subst (λ (x : EngineData). f ≡ wrote_data x (record { block = h + 1; slot = n; done = 0 }) (length_at v (h + 1))) g_is f_is))
    (subst (λ (m : ℕ). OneSet (m * e.size + 0) (word_at v (h + 1) 0) a b) is (subst (λ (x : EngineData). OneSet (n * x.size + 0) (word_at v (h + 1) 0) a b) g_is set))

pub undone_call : (e f : EngineData) (v : ImageData) (h k at : ℕ) (a b : RamState) → EngineSound e v a.words → e.copy ≡ None → h + 1 < length v.starts → IsAbsent e (h + 1) → e.slots ≤ length e.queue →
    position_from (λ n. not (is_block_in e.blocks h n)) 0 e.queue ≡ Some k → (w : NewestInto e.joints (slice_index e.blocks (slice_index e.queue k)) at) → f ≡ undone_data e w.0 → OneSet at ebreak a b → Worked v h e f true a b
undone_call e f v h k at a b sound none known absent full oldest w f_is set =
    undone_worked e f v h k w.0 a b sound none known absent full oldest w.1 f_is (set_now e.joints w.0 at a b w.2 set)

-- what the call needs of its parts
pub joint_bound : (e : EngineData) (v : ImageData) (words : List ℕ) (i : ℕ) (j : Joint) → Standing e v words → slice_get e.joints i ≡ Some j → j.at < e.slots * e.size
joint_bound e v words i j stands get = joint_below e v words j stands (stands.linked j (has_get e.joints i j get))

pub room_after : (e g : EngineData) (v : ImageData) (words : List ℕ) (k n : ℕ) → Standing e v words → k < length e.queue → g ≡ left_data e k → n ≡ slice_index e.queue k → (n < g.slots) × (length g.queue < g.slots) × (Has g.queue n → ⊥)
room_after e g v words k n stands lt g_is is =
    subst (λ (x : EngineData). (n < x.slots) × (length x.queue < x.slots) × (Has x.queue n → ⊥)) (sym g_is)
    (omega (arith, is, stands.shape.below (slice_index e.queue k) (has_index e.queue k lt)), omega (arith, length-remove e.queue k lt, stands.shape.used_most), λ h. removed_distinct e.queue k stands.once lt (subst (λ (m : ℕ). Has (remove e.queue k) m) is h))

-- a block that stood nowhere stands nowhere after another has left
pub absent_after : (e g : EngineData) (k b : ℕ) → g ≡ left_data e k → IsAbsent e b → IsAbsent g b
absent_after e g k b g_is absent = subst (λ (x : EngineData). IsAbsent x b) (sym g_is) (λ n h. absent n (remove_has e.queue k n h))

pub here_small : (e : EngineData) (v : ImageData) (words : List ℕ) (h : ℕ) → Standing e v words → (f : ℕ) × Placed (kept_by e) h f → h < 2 ^ 19
here_small e v words h stands here =
    let w = placed_slot e h here.0 here.1 in
    omega (arith, subst (λ (b : ℕ). b < length v.blocks) w.2 (stands.known w.0 w.1), stands.image.blocks, stands.image.fewer, stands.image.few)

pub slot_now : (e : EngineData) (k n : ℕ) → InShape e → k < length e.queue → n ≡ slice_index_or e.queue k n → n < length e.blocks
slot_now e k n shape lt n_is =
    let at : n ≡ slice_index e.queue k = get_or_read e.queue k n lt n_is 0 in
    omega (arith, at, shape.below (slice_index e.queue k) (has_index e.queue k lt), shape.blocks_long)

pub found_oldest : (e : EngineData) (h k : ℕ) → position_from (λ n. not (is_block_in e.blocks h n)) 0 e.queue ≡ Some k → k < length e.queue
found_oldest e h k at = omega (arith, (found (λ n. not (is_block_in e.blocks h n)) 0 k e.queue at).1)

pub found_link : (e : EngineData) (b i : ℕ) → position_from (λ j. leads_in j b) 0 e.joints ≡ Some i → i < length e.joints
found_link e b i at = omega (arith, (found (λ j. leads_in j b) 0 i e.joints at).1)
