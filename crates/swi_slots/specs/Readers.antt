-- What the readers show.
use Rattle.std.proofs.Common.{◌≡◌, ℕ, suc, zero, ◌+◌, ◌-◌, ◌*◌, ◌/◌, ◌%◌, ◌<◌, ◌≤◌, ◌==◌, ◌&&◌, Bool, true, false, List, [], ◌∷◌, filter, drop, Option, Some, None, slice_index, slice_index_or, slice_get, nat_lt, if◌then◌else◌, arith, refl, sym, ◌∙◌, ap, subst, inl, inr}
use Rattle.std.proofs.lemmas.Bool.{cases_lt, ltb-true, lt-ltb, both_ways, and_parts, and_from, eq-eqb, eqb-true, ne_eqb}
use Rattle.std.proofs.lemmas.List.{drop_more, drop_all, get_or_read}
use Rattle.swi_image.specs.Format.{ImageData}
use Rattle.swi_image.specs.Place.{length_at}
use Rattle.swi_rom.specs.Record.{Placement}
use Rattle.swi_rom.specs.Coherent.{StandsAt, resident_of, pair_of}
use Rattle.swi_slots.specs.Slots.{Slots, InShape, queue_of, kept_by, shown_by}
use Rattle.swi_slots.specs.Keys.{Images, key_of, owner_of, number_of, key_owner, key_parts, number_below, words_in}
use Rattle.swi_slots.specs.Sound.{SlotsServe, SlotsSound}
use Rattle.swi_slots.specs.Queue.{spot, placed_slot, slot_placed, length_queue}
use Rattle.swi_slots.specs.SlotLinks.{word_is, word_slot}
use Rattle.swi_slots.specs.Order.{slot_at, slot_at_filled, queue_at}
use Rattle.swi_slots.specs.Coheres.{placed_most, key_words}

own_at : (s : Slots) (vs : Images) (words : List ℕ) (n : ℕ) → SlotsServe s vs words → n < s.filled → (owner_of (slice_index s.blocks n) == s.turn) ≡ true →
    slice_index s.blocks n ≡ key_of s.turn (number_of (slice_index s.blocks n))
own_at s vs words n sound lt e = sym (key_parts (slice_index s.blocks n)) ∙ ap (λ (x : ℕ). key_of x (number_of (slice_index s.blocks n))) (eqb-true _ _ e)

shown_in : (s : Slots) (vs : Images) (words : List ℕ) (i : ℕ) (t : Bool) → SlotsServe s vs words →
    (nat_lt (i / s.size) s.filled && (owner_of (slice_index s.blocks (i / s.size)) == s.turn && nat_lt (i % s.size) (slice_index s.lengths (i / s.size)))) ≡ t →
    StandsAt (vs s.turn) (kept_by s) i (if t then Some (number_of (slice_index s.blocks (i / s.size)), i % s.size) else None)
shown_in s vs words i true sound e =
    let parts = and_parts (nat_lt (i / s.size) s.filled) _ e in
    let more = and_parts (owner_of (slice_index s.blocks (i / s.size)) == s.turn) _ parts.1 in
    let row : i / s.size < s.filled = ltb-true _ _ parts.0 in
    let key : slice_index s.blocks (i / s.size) ≡ key_of s.turn (number_of (slice_index s.blocks (i / s.size))) = own_at s vs words (i / s.size) sound row more.0 in
    let small = number_below (slice_index s.blocks (i / s.size)) in
    let long : words_in vs (slice_index s.blocks (i / s.size)) ≡ length_at (vs s.turn) (number_of (slice_index s.blocks (i / s.size))) =
    ap (λ (x : ℕ). length_at (vs x) (number_of (slice_index s.blocks (i / s.size)))) (eqb-true _ _ more.0) in (
      i / s.size * s.size,
      slot_placed s (i / s.size) (number_of (slice_index s.blocks (i / s.size))) sound.shape row small key,
      subst (λ (x : ℕ). i % s.size < x) (sound.lengths_are (i / s.size) row ∙ long) (ltb-true _ _ more.1),
      sym (word_is s i sound.shape).0,
    )
shown_in s vs words i false sound e = λ b f h le. elim (cases_lt i (f + length_at (vs s.turn) b)) [
  | inl lt ↦ absurd (
      let p = placed_slot s b f sound.shape h in
      let most : length_at (vs s.turn) b ≤ s.size = placed_most s vs words p.0 b sound p.1 p.2 p.4 in
      let at : i ≡ p.0 * s.size + (i - f) = omega (arith, p.3) in
      let w = word_slot s p.0 (i - f) (omega arith) in
      let row : i / s.size ≡ p.0 = ap (λ (x : ℕ). x / s.size) at ∙ w.0 in
      let column : i % s.size ≡ i - f = ap (λ (x : ℕ). x % s.size) at ∙ w.1 in
      let key : slice_index s.blocks (i / s.size) ≡ key_of s.turn b = ap (λ (x : ℕ). slice_index s.blocks x) row ∙ p.2 in
      let own : owner_of (slice_index s.blocks (i / s.size)) ≡ s.turn = ap owner_of key ∙ key_owner s.turn b p.4 in
      let long : slice_index s.lengths (i / s.size) ≡ length_at (vs s.turn) b = ap (λ (x : ℕ). slice_index s.lengths x) row ∙ sound.lengths_are p.0 p.1 ∙ ap (λ (k : ℕ). words_in vs k) p.2 ∙ key_words vs s.turn b p.4 in
      both_ways _ e (and_from (nat_lt (i / s.size) s.filled) _ (lt-ltb _ _ (omega (arith, p.1, row)))
      (and_from (owner_of (slice_index s.blocks (i / s.size)) == s.turn) (nat_lt (i % s.size) (slice_index s.lengths (i / s.size))) (eq-eqb _ _ own) (lt-ltb _ _ (omega (arith, column, long, lt))))))
  | inr past ↦ past
]

pub shown_stands : (s : Slots) (v : ImageData) (words : List ℕ) → SlotsSound s v words → (i : ℕ) → StandsAt v (kept_by s) i (shown_by s i)
unfolding shown_by
shown_stands s v words sound i =
    subst (λ (w : ImageData). StandsAt w (kept_by s) i (shown_by s i)) sound.1.0
    (shown_in s sound.0 words i (nat_lt (i / s.size) s.filled && (owner_of (slice_index s.blocks (i / s.size)) == s.turn && nat_lt (i % s.size) (slice_index s.lengths (i / s.size)))) sound.1.1 refl)

-- the program's own among the placed blocks from the n-th oldest on
abbrev pub own_from : Slots → ℕ → List Placement
own_from s n = filter (λ (e : Placement). e.program == s.turn) (drop n (queue_of s))

from_next : (s : Slots) (n : ℕ) → InShape s → n < s.filled → drop n (queue_of s) ≡ spot s.size (slot_at s n) (slice_index s.blocks (slot_at s n)) ∷ drop (n + 1) (queue_of s)
from_next s n shape lt =
    let d : Placement = spot 0 0 0 in
    drop_more (queue_of s) n d (omega (arith, length_queue s shape)) ∙ ap (λ (e : Placement). e ∷ drop (n + 1) (queue_of s)) (queue_at s n d shape lt)

pub own_next : (s : Slots) (n : ℕ) → InShape s → n < s.filled → owner_of (slice_index s.blocks (slot_at s n)) ≡ s.turn →
    own_from s n ≡ spot s.size (slot_at s n) (slice_index s.blocks (slot_at s n)) ∷ own_from s (n + 1)
own_next s n shape lt own =
    ap (λ (es : List Placement). filter (λ (e : Placement). e.program == s.turn) es) (from_next s n shape lt)
    ∙ rw (eq-eqb _ _ own) refl

pub other_next : (s : Slots) (n : ℕ) → InShape s → n < s.filled → (owner_of (slice_index s.blocks (slot_at s n)) ≡ s.turn → ⊥) → own_from s n ≡ own_from s (n + 1)
other_next s n shape lt other =
    ap (λ (es : List Placement). filter (λ (e : Placement). e.program == s.turn) es) (from_next s n shape lt)
    ∙ rw (ne_eqb _ _ other) refl

pub own_past : (s : Slots) (n : ℕ) → InShape s → s.filled ≤ n → own_from s n ≡ []
own_past s n shape le = ap (λ (es : List Placement). filter (λ (e : Placement). e.program == s.turn) es) (drop_all n (queue_of s) (omega (arith, length_queue s shape)))

pub resident_is : (s : Slots) (k : ℕ) → resident_of (kept_by s) k ≡ pair_of (slice_get (own_from s 0) k)
unfolding resident_of
resident_is s k = refl

-- as the code meets them
pub resident_here : (s t : Slots) (n k m b f : ℕ) → s ≡ t → InShape s → n < s.filled → slice_get (own_from t n) 0 ≡ slice_get (own_from t 0) k → m ≡ slot_at s n → b ≡ slice_index_or s.blocks m b → owner_of b ≡ s.turn → f ≡ m * s.size →
    Some (number_of b, f) ≡ resident_of (kept_by t) k
resident_here s t n k m b f e shape lt left m_is b_is own f_is =
    let below : m < s.filled = subst (λ (x : ℕ). x < s.filled) (sym m_is) (slot_at_filled s n shape lt) in
    let here : b ≡ slice_index s.blocks (slot_at s n) = get_or_read s.blocks m b (omega (arith, shape.filled_most, shape.blocks_long)) b_is 0 ∙ ap (λ (x : ℕ). slice_index s.blocks x) m_is in
    let next = own_next s n shape lt (ap owner_of (sym here) ∙ own) in
    let at : slice_get (own_from s n) 0 ≡ slice_get (own_from s 0) k = subst (λ (x : Slots). slice_get (own_from x n) 0 ≡ slice_get (own_from x 0) k) (sym e) left in
    subst (λ (x : Slots). Some (number_of b, f) ≡ resident_of (kept_by x) k) e
    (here_pair b (slice_index s.blocks (slot_at s n)) f (slot_at s n * s.size) here (f_is ∙ ap (λ (x : ℕ). x * s.size) m_is)
    ∙ ap pair_of (sym (ap (λ (es : List Placement). slice_get es 0) next)) ∙ ap pair_of at ∙ sym (resident_is s k))
  where
    here_pair : (b c f g : ℕ) → b ≡ c → f ≡ g → let x : Option (ℕ × ℕ) = Some (number_of b, f) in let y : Option (ℕ × ℕ) = Some (number_of c, g) in x ≡ y
    here_pair b c f g e h = rw (e, h) refl

pub own_step : (s t : Slots) (n k m b left : ℕ) → s ≡ t → InShape s → n < s.filled → slice_get (own_from t n) left ≡ slice_get (own_from t 0) k → m ≡ slot_at s n → b ≡ slice_index_or s.blocks m b → owner_of b ≡ s.turn → (left ≡ 0 → ⊥) →
    slice_get (own_from t (n + 1)) (left - 1) ≡ slice_get (own_from t 0) k
own_step s t n k m b left e shape lt was m_is b_is own some =
    let below : m < s.filled = subst (λ (x : ℕ). x < s.filled) (sym m_is) (slot_at_filled s n shape lt) in
    let here : b ≡ slice_index s.blocks (slot_at s n) = get_or_read s.blocks m b (omega (arith, shape.filled_most, shape.blocks_long)) b_is 0 ∙ ap (λ (x : ℕ). slice_index s.blocks x) m_is in
    let next = own_next s n shape lt (ap owner_of (sym here) ∙ own) in
    let next' = subst (λ (x : Slots). own_from x n ≡ spot s.size (slot_at s n) (slice_index s.blocks (slot_at s n)) ∷ own_from x (n + 1)) e next in
    rest_get left (own_from t (n + 1)) _ some ∙ sym (ap (λ (es : List Placement). slice_get es left) next') ∙ was
  where
    rest_get : (k : ℕ) (es : List Placement) (x : Placement) → (k ≡ 0 → ⊥) → slice_get es (k - 1) ≡ slice_get (x ∷ es) k
    rest_get zero es x some = absurd (some refl)
    rest_get (suc k) es x some = let e : suc k - 1 ≡ k = omega arith in rw e refl

pub other_step : (s t : Slots) (n k m b left : ℕ) → s ≡ t → InShape s → n < s.filled → slice_get (own_from t n) left ≡ slice_get (own_from t 0) k → m ≡ slot_at s n → b ≡ slice_index_or s.blocks m b → (owner_of b ≡ s.turn → ⊥) →
    slice_get (own_from t (n + 1)) left ≡ slice_get (own_from t 0) k
other_step s t n k m b left e shape lt was m_is b_is other =
    let below : m < s.filled = subst (λ (x : ℕ). x < s.filled) (sym m_is) (slot_at_filled s n shape lt) in
    let here : b ≡ slice_index s.blocks (slot_at s n) = get_or_read s.blocks m b (omega (arith, shape.filled_most, shape.blocks_long)) b_is 0 ∙ ap (λ (x : ℕ). slice_index s.blocks x) m_is in
    let next = other_next s n shape lt (λ (o : owner_of (slice_index s.blocks (slot_at s n)) ≡ s.turn). other (ap owner_of here ∙ o)) in
    let next' = subst (λ (x : Slots). own_from x n ≡ own_from x (n + 1)) e next in
    sym (ap (λ (es : List Placement). slice_get es left) next') ∙ was

pub resident_none : (s t : Slots) (n k left : ℕ) → s ≡ t → InShape s → s.filled ≤ n → slice_get (own_from t n) left ≡ slice_get (own_from t 0) k → None ≡ resident_of (kept_by t) k
resident_none s t n k left e shape le was =
    let past = subst (λ (x : Slots). own_from x n ≡ []) e (own_past s n shape le) in
    ap pair_of (sym (ap (λ (es : List Placement). slice_get es left) past)) ∙ ap pair_of was ∙ sym (resident_is t k)
