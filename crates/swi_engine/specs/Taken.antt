-- No transfer and no event gives back a slot that was taken.
use Rattle.std.proofs.Common.{◌≡◌, ◌≤◌, ℕ, ◌+◌, ◌-◌, ◌*◌, ◌/◌, ◌==◌, ◌&&◌, Bool, true, false, not, List, [], ◌∷◌, Option, Some, None, if◌then◌else◌, length, min, nat_lt, slice_index, arith, refl, ap, subst}
use Rattle.std.proofs.lemmas.Nat.{mul-le}
use Rattle.swi_image.specs.Format.{ImageData}
use Rattle.swi_image.specs.Place.{length_at}
use Rattle.swi_rom.specs.Record.{Record, Placement, Link, Transfer, direct, indirect}
use Rattle.swi_rom.specs.Service.{Setting}
use Rattle.swi_rom.specs.Policy.{Putting, Rises, counted, evicted, evicted_misses, is_placed, linked, linked_misses, linked_over, served_rises}
use Rattle.swi_engine.specs.declared.copying.Copying.{Copying}
use Rattle.swi_engine.specs.Engine.{Event, ahead, arrived, beside, brought, copies_begun, copy_in, copy_of, dropped, engine_copies, engine_words, event, event_by, extent_of, free_slot, into, into_free, into_oldest, made_way, missed, newest_first, newest_into, numbers, oldest_but, others, span_of, taken, with_block, wrote_next}

-- ---- what keeps the further numbers

pub evicted_more : (r : Record) (es : List Placement) → (evicted r es).more ≡ r.more
unfolding evicted
evicted_more r [] = refl
evicted_more r (e ∷ es) = refl

linked_keeps : (put : Putting) (r : Record) (b o : ℕ) (p : ℕ × ℕ) → (linked put r b o p).more ≡ r.more
unfolding linked
linked_keeps put r b o p = grind arith

pub linked_more : (put : Putting) (r : Record) (t : Transfer) (p : ℕ × ℕ) → (linked_over put r t p).more ≡ r.more
linked_more put r (direct b o t) p = linked_keeps put r b o p
linked_more put r (indirect t) p = refl

same_taken : (r s : Record) → s.counts.misses ≡ r.counts.misses → s.more ≡ r.more → taken s ≡ taken r
same_taken r s misses more =
    let copies = ap (λ (xs : List ℕ). slice_index xs 1) more in
    let begun = ap (λ (xs : List ℕ). copies_begun (copy_in xs)) more in
    omega (arith, misses, copies, begun)

evicted_taken : (r : Record) (es : List Placement) → taken (evicted r es) ≡ taken r
evicted_taken r es = same_taken r (evicted r es) (evicted_misses r es) (evicted_more r es)

-- one copy is in work, or none
begun_few : (k : Option Copying) → copies_begun k ≤ 1
begun_few None = omega arith
begun_few (Some k) = omega arith

-- ---- transfers

into_taken : (size : ℕ) (v : ImageData) (r : Record) (c : ℕ) (o : Option ℕ) → taken (into size v r c o) ≡ taken r + 1
into_taken size v r c (Some n) = omega arith
into_taken size v r c None = let same = evicted_taken r r.placed in omega (arith, same)

missed_taken : (by : Setting) (v : ImageData) (r : Record) (c : ℕ) (k : Option Copying) → taken r ≤ taken (missed by v r c k)
missed_taken by v r c None = let more = into_taken by.slot_words v r c (free_slot by r) in omega (arith, more)
missed_taken by v r c (Some k) = at (k.block == c)
  where
    at : (same : Bool) → taken r ≤ taken (if same then brought (dropped r) c (k.slot * by.slot_words) (length_at v c - k.done) else into by.slot_words v (dropped r) c (free_slot by r))
    at true = let few = begun_few (copy_of r) in omega (arith, few)
    at false = let few = begun_few (copy_of r) in let more = into_taken by.slot_words v (dropped r) c (free_slot by r) in omega (arith, few, more)

arrived_taken : (by : Setting) (v : ImageData) (r : Record) (c : ℕ) → taken r ≤ taken (arrived by v r c)
unfolding arrived
arrived_taken by v r c = at (is_placed r c)
  where
    at : (placed : Bool) → taken r ≤ taken (if placed then r else missed by v r c (copy_of r))
    at true = omega arith
    at false = missed_taken by v r c (copy_of r)

counted_taken : (r : Record) → taken (counted r) ≡ taken r
unfolding counted
counted_taken r = refl

linked_taken : (r : Record) (b o : ℕ) (p : ℕ × ℕ) → taken (linked newest_first r b o p) ≡ taken r
linked_taken r b o p = same_taken r (linked newest_first r b o p) (linked_misses newest_first r b o p) (linked_keeps newest_first r b o p)

beside_taken : (by : Setting) → Rises arrived newest_first by taken
beside_taken by = record { counting = counted_taken; linking = linked_taken; arriving = arrived_taken by }

extent_more : (by : Setting) (r s : Record) → taken r ≤ taken s → extent_of by r ≤ extent_of by s
extent_more by r s le = mul-le _ _ _ _ (fewer (taken r) (taken s) by.slots le) (omega arith)
  where
    fewer : (m n k : ℕ) → m ≤ n → min m k ≤ min n k
    fewer m n k le = grind arith

pub beside_extent : (by : Setting) (r : Record) (v : ImageData) (t : Transfer) → extent_of by r ≤ extent_of by (beside by r v t)
beside_extent by r v t = extent_more by r (beside by r v t) (served_rises arrived newest_first by taken (beside_taken by) r v t)

pub extent_within : (by : Setting) (r : Record) → extent_of by r ≤ span_of by
extent_within by r = mul-le _ _ _ _ (least (taken r) by.slots) (omega arith)
  where
    least : (m k : ℕ) → min m k ≤ k
    least m k = grind arith

-- ---- events

-- a copy that goes on, or has come to its end, has taken a slot
pub wrote_taken : (size : ℕ) (v : ImageData) (r : Record) (c : Copying) → taken (wrote_next size v r c) ≡ r.counts.misses + engine_copies r + 1
wrote_taken size v r c = at (c.done + 1 == length_at v c.block)
  where
    at : (last : Bool) → taken (if last then record r { placed = with_block r c.block (c.slot * size); more = numbers (engine_words r + 1) (engine_copies r + 1) None } else record r { more = numbers (engine_words r + 1) (engine_copies r) (Some (record c { done = c.done + 1 })) })
        ≡ r.counts.misses + engine_copies r + 1
    at true = omega arith
    at false = omega arith

wrote_rises : (size : ℕ) (v : ImageData) (r : Record) (c : Copying) → taken r ≤ taken (wrote_next size v r c)
wrote_rises size v r c = let is = wrote_taken size v r c in let few = begun_few (copy_of r) in omega (arith, is, few)

-- what holds of the next record, if there is one
abbrev Takes : Record → Option Event → Type 0
Takes r None = Unit {0}
Takes r (Some x) = taken r ≤ taken x.next

way_taken : (size : ℕ) (v : ImageData) (r : Record) (c : ℕ) (e : Placement) (l : Option Link) → taken r ≤ taken (made_way size v r c e l).next
way_taken size v r c e (Some l) = omega arith
way_taken size v r c e None =
    let same = evicted_taken r (e ∷ others e r.placed) in
    let more = wrote_rises size v (evicted r (e ∷ others e r.placed)) (record { block = c; slot = e.first / size; done = 0 }) in
    omega (arith, same, more)

oldest_taken : (size : ℕ) (v : ImageData) (r : Record) (c : ℕ) (e : Option Placement) → Takes r (into_oldest size v r c e)
oldest_taken size v r c None = tt
oldest_taken size v r c (Some e) = way_taken size v r c e (newest_into e r.links)

free_taken : (size : ℕ) (v : ImageData) (r : Record) (h c : ℕ) (n : Option ℕ) → Takes r (into_free size v r h c n)
free_taken size v r h c (Some n) = wrote_rises size v r (record { block = c; slot = n; done = 0 })
free_taken size v r h c None = oldest_taken size v r c (oldest_but h r.placed)

ahead_taken : (by : Setting) (v : ImageData) (r : Record) (h c : ℕ) → Takes r (ahead by v r h c)
ahead_taken by v r h c = at (nat_lt c (length v.starts) && not (is_placed r c)) (free_taken by.slot_words v r h c (free_slot by r))
  where
    at : (t : Bool) → Takes r (into_free by.slot_words v r h c (free_slot by r)) → Takes r (if t then into_free by.slot_words v r h c (free_slot by r) else None)
    at true w = w
    at false w = tt

event_takes : (by : Setting) (v : ImageData) (r : Record) (h : ℕ) (k : Option Copying) → Takes r (event_by by v r h k)
event_takes by v r h None = ahead_taken by v r h (h + 1)
event_takes by v r h (Some k) = wrote_rises by.slot_words v r k

pub event_extent : (by : Setting) (r : Record) (v : ImageData) (h : ℕ) (x : Event) → event by r v h ≡ Some x → extent_of by r ≤ extent_of by x.next
unfolding event
event_extent by r v h x is = extent_more by r x.next (subst (λ (o : Option Event). Takes r o) is (event_takes by v r h (copy_of r)))
