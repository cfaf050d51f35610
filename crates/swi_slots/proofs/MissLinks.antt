-- The links after a miss are those that the policy keeps.
use Rattle.std.proofs.Common.{◌≡◌, ℕ, suc, zero, ◌+◌, ◌*◌, ◌/◌, ◌%◌, ◌<◌, ◌≤◌, ◌==◌, ◌&&◌, ◌||◌, Bool, true, false, not, List, filter, length, Option, Some, None, slice_index, nat_lt, if◌then◌else◌, arith, refl, sym, ◌∙◌, ap, subst, inl, inr}
use Rattle.std.proofs.lemmas.Bool.{cases_eq, ltb-true, ltb-false, both_ways, and_parts, and_from, eq-eqb, ne_eqb, eqb-true, eqb-false}
use Rattle.std.proofs.lemmas.Bool.Decides.{nat_tests}
use Rattle.swi_slots.specs.Keys.{Images, key_of, owner_of, number_of, key_parts}
use Rattle.swi_outside.specs.CacheRam.{RamState}
use Rattle.swi_rom.specs.Record.{Placement, Link, has_link}
use Rattle.swi_rom.specs.Policy.{is_from, leads_to, is_undone, is_kept}
use Rattle.swi_slots.specs.Slots.{Slots, InShape, links_of, link_at}
use Rattle.swi_slots.specs.Sound.{SlotsServe, LinkStands}
use Rattle.swi_slots.specs.Steps.{is_dropped, leads_in, leading_in, IsAbsent}
use Rattle.swi_rom.specs.declared.rom.Counts.{Counts}
use Rattle.swi_slots.specs.Queue.{spot, next_free}
use Rattle.swi_rom.specs.Links.{same_ascending, same_tests}
use Rattle.swi_rom.specs.Collected.{has_filter, filter_ascending, length_collected, passing, passes}
use Rattle.swi_slots.specs.SlotLinks.{link_of, link_here, here_of_word, linked_word, word_linked, word_slot, word_is, word_below, links_ascending}
use Rattle.swi_slots.specs.Coheres.{tidy_of, target_owner}
use Rattle.swi_slots.proofs.Missing.{Roomy, CountsMove, filled_slots, target_left, other_block, moved_tidy}

-- a link that was and is neither from the slot nor to it
abbrev pub Elsewhere : Slots → Link → Type 0
Elsewhere s k = (m : ℕ) × (o : ℕ) × (m < s.filled) × (o < s.size) × (link_of s m o ≡ k) × (slice_index s.targets (m * s.size + o) < s.slots)
    × (m ≡ s.next → ⊥) × (slice_index s.targets (m * s.size + o) ≡ s.next → ⊥)

pub link_moved : (s : Slots) (targets : List ℕ) (counts : Counts) (b n m o : ℕ) → (m ≡ s.next → ⊥) → (slice_index s.targets (m * s.size + o) ≡ s.next → ⊥) →
    slice_index targets (m * s.size + o) ≡ slice_index s.targets (m * s.size + o) → link_of (filled_slots s targets counts b n) m o ≡ link_of s m o
link_moved s targets counts b n m o ne elsewhere same =
    rw (same, other_block s b m ne, other_block s b (slice_index s.targets (m * s.size + o)) elsewhere) refl

pub found_elsewhere : (s : Slots) (targets : List ℕ) (counts : Counts) (vs : Images) (b n r : ℕ) (k : Link) (before between : RamState) → SlotsServe s vs before.words → Roomy s targets r before between → CountsMove s counts r → IsAbsent s b →
    has_link (links_of (filled_slots s targets counts b n)) k ≡ true → Elsewhere s k
found_elsewhere s targets counts vs b n r k before between sound roomy move absent h =
    let w = linked_word (filled_slots s targets counts b n) k (moved_tidy s targets counts vs b n r before between sound roomy move absent) h in
    let left = target_left s targets r w.0 w.1 before between sound.shape roomy w.2 w.3 w.5 in
    (w.0, w.1, left.filled, w.3, sym (link_moved s targets counts b n w.0 w.1 left.other left.elsewhere left.same) ∙ w.4, omega (arith, left.same, w.5), left.other, left.elsewhere)

pub elsewhere_found : (s : Slots) (targets : List ℕ) (counts : Counts) (vs : Images) (b n r : ℕ) (k : Link) (before between : RamState) → SlotsServe s vs before.words → Roomy s targets r before between → CountsMove s counts r → IsAbsent s b →
    Elsewhere s k → has_link (links_of (filled_slots s targets counts b n)) k ≡ true
elsewhere_found s targets counts vs b n r k before between sound roomy move absent w =
    let tidy = moved_tidy s targets counts vs b n r before between sound roomy move absent in
    let below : w.0 * s.size + w.1 < s.slots * s.size = word_below s w.0 w.1 sound.shape (omega (arith, w.2, sound.shape.filled_most)) w.3 in
    let row : (w.0 * s.size + w.1) / s.size ≡ w.0 = (word_slot s w.0 w.1 w.3).0 in
    let ne = w.6 in
    let ne' = w.7 in
    let kept : is_dropped s.size s.next s.targets (w.0 * s.size + w.1) ≡ false = grind (arith, nat_tests) in
    subst (λ (l : Link). has_link (links_of (filled_slots s targets counts b n)) l ≡ true) (link_moved s targets counts b n w.0 w.1 w.6 w.7 (roomy.rest (w.0 * s.size + w.1) below kept) ∙ w.4)
    (word_linked (filled_slots s targets counts b n) w.0 w.1 tidy.shape (omega (arith, w.2, sound.shape.filled_most)) w.3 (omega (arith, roomy.rest (w.0 * s.size + w.1) below kept, w.5)))

elsewhere_linked : (s : Slots) (k : Link) → InShape s → Elsewhere s k → has_link (links_of s) k ≡ true
elsewhere_linked s k shape w =
    subst (λ (l : Link). has_link (links_of s) l ≡ true) w.4 (word_linked s w.0 w.1 shape (omega (arith, w.2, shape.filled_most)) w.3 w.5)

-- the block of a slot, as the queue has it
abbrev pub entry : Slots → ℕ → Placement
entry s n = spot s.size n (slice_index s.blocks n)

-- two keys are one where program and number are
pub keys_same : (j k : ℕ) → (owner_of j == owner_of k && number_of j == number_of k) ≡ (j == k)
keys_same j k = same_tests _ _
    (λ (e : (owner_of j == owner_of k && number_of j == number_of k) ≡ true). let both = and_parts (owner_of j == owner_of k) (number_of j == number_of k) e in
    eq-eqb j k (sym (key_parts j) ∙ ap (λ (x : ℕ). key_of x (number_of j)) (eqb-true _ _ both.0) ∙ ap (λ (x : ℕ). key_of (owner_of k) x) (eqb-true _ _ both.1) ∙ key_parts k))
    (λ (e : (j == k) ≡ true). let same = eqb-true j k e in
    and_from (owner_of j == owner_of k) (number_of j == number_of k) (eq-eqb _ _ (ap owner_of same)) (eq-eqb _ _ (ap number_of same)))

-- from which block a link is, and to which it leads
pub from_at : (s : Slots) (m o e : ℕ) → is_from (entry s e) (link_of s m o) ≡ (slice_index s.blocks m == slice_index s.blocks e)
from_at s m o e = keys_same (slice_index s.blocks m) (slice_index s.blocks e)

pub leads_at : (s : Slots) (vs : Images) (words : List ℕ) (m o e : ℕ) → SlotsServe s vs words → LinkStands s vs words m o →
    leads_to (entry s e) (link_of s m o) ≡ (slice_index s.blocks (slice_index s.targets (m * s.size + o)) == slice_index s.blocks e)
leads_at s vs words m o e sound link =
    ap (λ (p : ℕ). p == owner_of (slice_index s.blocks e) && number_of (slice_index s.blocks (slice_index s.targets (m * s.size + o))) == number_of (slice_index s.blocks e)) (sym (target_owner s vs words m o sound link))
    ∙ keys_same (slice_index s.blocks (slice_index s.targets (m * s.size + o))) (slice_index s.blocks e)

kept_in : (x y : Bool) → x ≡ false → y ≡ false → not (x || y) ≡ true
kept_in x y p q = rw (p, q) refl

kept_out : (x y : Bool) → not (x || y) ≡ true → (x ≡ false) × (y ≡ false)
kept_out true y e = absurd (both_ways false refl (e))
kept_out false true e = absurd (both_ways false refl (e))
kept_out false false e = (refl, refl)

elsewhere_kept : (s : Slots) (vs : Images) (words : List ℕ) (k : Link) → SlotsServe s vs words → s.slots ≤ s.filled → Elsewhere s k → is_kept (entry s s.next) k ≡ true
unfolding is_kept
elsewhere_kept s vs words k sound full w =
    let here : s.next < s.filled = omega (arith, sound.shape.next_below) in
    let link = sound.linked w.0 w.1 w.2 w.3 w.5 in
    subst (λ (l : Link). is_kept (entry s s.next) l ≡ true) w.4
    (kept_in (is_from (entry s s.next) (link_of s w.0 w.1)) (leads_to (entry s s.next) (link_of s w.0 w.1))
    (from_at s w.0 w.1 s.next ∙ ne_eqb (slice_index s.blocks w.0) (slice_index s.blocks s.next) (λ (e : slice_index s.blocks w.0 ≡ slice_index s.blocks s.next). w.6 (sound.distinct w.0 s.next w.2 here e)))
    (leads_at s vs words w.0 w.1 s.next sound link
    ∙ ne_eqb _ _ (λ (e : slice_index s.blocks (slice_index s.targets (w.0 * s.size + w.1)) ≡ slice_index s.blocks s.next). w.7 (sound.distinct _ s.next link.target here e))))

kept_elsewhere : (s : Slots) (vs : Images) (words : List ℕ) (k : Link) → SlotsServe s vs words → s.slots ≤ s.filled → has_link (links_of s) k ≡ true → is_kept (entry s s.next) k ≡ true → Elsewhere s k
unfolding is_kept
kept_elsewhere s vs words k sound full h kept =
    let w = linked_word s k (tidy_of s vs words sound) h in
    let link = sound.linked w.0 w.1 w.2 w.3 w.5 in
    let kept' = subst (λ (l : Link). is_kept (entry s s.next) l ≡ true) (sym w.4) kept in
    let out = kept_out (is_from (entry s s.next) (link_of s w.0 w.1)) (leads_to (entry s s.next) (link_of s w.0 w.1)) kept' in (
      w.0,
      w.1,
      w.2,
      w.3,
      w.4,
      w.5,
      λ (e : w.0 ≡ s.next). eqb-false _ _ (sym (from_at s w.0 w.1 s.next) ∙ out.0) (ap (λ (x : ℕ). slice_index s.blocks x) e),
      λ (e : slice_index s.targets (w.0 * s.size + w.1) ≡ s.next). eqb-false _ _ (sym (leads_at s vs words w.0 w.1 s.next sound link) ∙ out.1) (ap (λ (x : ℕ). slice_index s.blocks x) e),
    )

-- the next slot's block is evicted
pub links_full : (s : Slots) (targets : List ℕ) (counts : Counts) (vs : Images) (b n r : ℕ) (before between : RamState) → SlotsServe s vs before.words → Roomy s targets r before between → CountsMove s counts r → IsAbsent s b → s.slots ≤ s.filled →
    links_of (filled_slots s targets counts b n) ≡ filter (is_kept (entry s s.next)) (links_of s)
links_full s targets counts vs b n r before between sound roomy move absent full =
    same_ascending _ _ (links_ascending _ (moved_tidy s targets counts vs b n r before between sound roomy move absent))
    (filter_ascending (is_kept (entry s s.next)) (links_of s) (links_ascending s (tidy_of s vs before.words sound)))
    (λ k. same_tests (has_link (links_of (filled_slots s targets counts b n)) k) (has_link (filter (is_kept (entry s s.next)) (links_of s)) k)
    (λ h. let w = found_elsewhere s targets counts vs b n r k before between sound roomy move absent h in
    has_filter (is_kept (entry s s.next)) (links_of s) k ∙ and_from _ _ (elsewhere_linked s k sound.shape w) (elsewhere_kept s vs before.words k sound full w))
    (λ h. let p = and_parts _ _ (sym (has_filter (is_kept (entry s s.next)) (links_of s) k) ∙ h) in
    elsewhere_found s targets counts vs b n r k before between sound roomy move absent (kept_elsewhere s vs before.words k sound full p.0 p.1)))

-- the next slot was free
pub links_free : (s : Slots) (targets : List ℕ) (counts : Counts) (vs : Images) (b n r : ℕ) (before between : RamState) → SlotsServe s vs before.words → Roomy s targets r before between → CountsMove s counts r → IsAbsent s b → s.filled < s.slots →
    links_of (filled_slots s targets counts b n) ≡ links_of s
links_free s targets counts vs b n r before between sound roomy move absent free =
    let next : s.next ≡ s.filled = next_free s sound.shape free in
    same_ascending _ _ (links_ascending _ (moved_tidy s targets counts vs b n r before between sound roomy move absent)) (links_ascending s (tidy_of s vs before.words sound))
    (λ k. same_tests (has_link (links_of (filled_slots s targets counts b n)) k) (has_link (links_of s) k)
    (λ h. elsewhere_linked s k sound.shape (found_elsewhere s targets counts vs b n r k before between sound roomy move absent h))
    (λ h. let w = linked_word s k (tidy_of s vs before.words sound) h in
    let link = sound.linked w.0 w.1 w.2 w.3 w.5 in
    elsewhere_found s targets counts vs b n r k before between sound roomy move absent
    (w.0, w.1, w.2, w.3, w.4, w.5, λ (e : w.0 ≡ s.next). omega (arith, w.2), λ (e : slice_index s.targets (w.0 * s.size + w.1) ≡ s.next). omega (arith, link.target))))

undone_both : (a b c d : Bool) → a ≡ d → b ≡ c → (not a && b) ≡ (c && not d)
undone_both a b c d p q = rw (p, q) (swap c d)
  where
    swap : (c d : Bool) → (not d && c) ≡ (c && not d)
    swap true true = refl
    swap true false = refl
    swap false true = refl
    swap false false = refl

by_slot : (s : Slots) (vs : Images) (words : List ℕ) (m n : ℕ) → SlotsServe s vs words → m < s.filled → n < s.filled → (slice_index s.blocks m == slice_index s.blocks n) ≡ (m == n)
by_slot s vs words m n sound lt lt' = elim (cases_eq m n) [
  | inl e ↦ eq-eqb _ _ (ap (λ (x : ℕ). slice_index s.blocks x) e) ∙ sym (eq-eqb m n e)
  | inr ne ↦ ne_eqb _ _ (λ (e : slice_index s.blocks m ≡ slice_index s.blocks n). ne (sound.distinct m n lt lt' e)) ∙ sym (ne_eqb m n ne)
]

and_no : (x y : Bool) → x ≡ false → (x && y) ≡ false
and_no x y e = rw e refl

-- whether a word is a link that is undone
undone_at : (s : Slots) (vs : Images) (words : List ℕ) (i : ℕ) → SlotsServe s vs words → s.slots ≤ s.filled → i < s.slots * s.size →
    passes (is_undone (entry s s.next)) (link_at s i) ≡ leads_in s.size s.next s.targets i
unfolding link_at is_undone
undone_at s vs words i sound full below = ways (nat_lt (slice_index s.targets i) s.slots) refl
  where
    ways : (t : Bool) → nat_lt (slice_index s.targets i) s.slots ≡ t →
        passes (is_undone (entry s s.next)) (if t then Some (link_here s i) else None) ≡ leads_in s.size s.next s.targets i
    ways true t =
        let small : slice_index s.targets i < s.slots = ltb-true _ _ t in
        let here : s.next < s.filled = omega (arith, sound.shape.next_below) in
        let p = word_is s i sound.shape in
        let row : i / s.size < s.filled = sound.stands i below small in
        let link = sound.linked (i / s.size) (i % s.size) row p.1 (subst (λ (j : ℕ). slice_index s.targets j < s.slots) (sym p.0) small) in
        let is : link_here s i ≡ link_of s (i / s.size) (i % s.size) = here_of_word s i sound.shape in
        undone_both (is_from (entry s s.next) (link_here s i)) (leads_to (entry s s.next) (link_here s i))
        (slice_index s.targets i == s.next) (i / s.size == s.next)
        (ap (λ (l : Link). is_from (entry s s.next) l) is ∙ from_at s (i / s.size) (i % s.size) s.next ∙ by_slot s vs words (i / s.size) s.next sound row here)
        (ap (λ (l : Link). leads_to (entry s s.next) l) is ∙ leads_at s vs words (i / s.size) (i % s.size) s.next sound link
        ∙ ap (λ (j : ℕ). slice_index s.blocks (slice_index s.targets j) == slice_index s.blocks s.next) p.0
        ∙ by_slot s vs words (slice_index s.targets i) s.next sound (subst (λ (j : ℕ). slice_index s.targets j < s.filled) p.0 link.target) here)
    ways false t = (let le : s.slots ≤ slice_index s.targets i = ltb-false _ _ t in sym (and_no (slice_index s.targets i == s.next) (not (i / s.size == s.next)) (ne_eqb _ _ (λ (e : slice_index s.targets i ≡ s.next). omega (arith, sound.shape.next_below)))))

passing_leading : (p : Link → Bool) (f : ℕ → Option Link) (size slot : ℕ) (targets : List ℕ) (n : ℕ) → ((i : ℕ) → i < n → passes p (f i) ≡ leads_in size slot targets i) → passing p f n ≡ leading_in size slot targets n
unfolding leading_in
passing_leading p f size slot targets zero same = refl
passing_leading p f size slot targets (suc n) same =
    rw (same n (omega arith), passing_leading p f size slot targets n (λ i lt. same i (omega arith))) refl

pub undone_count : (s : Slots) (vs : Images) (words : List ℕ) → SlotsServe s vs words → s.slots ≤ s.filled →
    leading_in s.size s.next s.targets (s.slots * s.size) ≡ length (filter (is_undone (entry s s.next)) (links_of s))
unfolding links_of
undone_count s vs words sound full =
    sym (length_collected (is_undone (entry s s.next)) (link_at s) (s.slots * s.size)
    ∙ passing_leading _ (link_at s) s.size s.next s.targets (s.slots * s.size) (λ i below. undone_at s vs words i sound full below))
