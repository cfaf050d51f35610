-- The order of the queue: in which slot the k-th oldest block stands.
use Rattle.std.proofs.Common.{◌≡◌, ℕ, suc, zero, ◌+◌, ◌-◌, ◌<◌, ◌≤◌, List, [], ◌∷◌, take, drop, length, Some, None, slice_index, slice_index_or, slice_get, nat_lt, if◌then◌else◌, arith, refl, sym, ◌∙◌, ap, inl, inr}
use Rattle.std.proofs.lemmas.Bool.{cases_lt, lt-ltb, le-ltb}
use Rattle.std.proofs.lemmas.Bool.Decides.{nat_tests}
use Rattle.std.proofs.lemmas.List.{length-drop, length-take-le, get_or_append_left, get_or-append_right, get_or-drop, get_or-take}
use Rattle.swi_rom.specs.Record.{Placement}
use Rattle.swi_slots.specs.Keys.{key_of, number_of, key_parts}
use Rattle.swi_slots.specs.Slots.{Slots, InShape, queue_of, numbered, rotated}
use Rattle.swi_slots.specs.Queue.{spot, next_free, length_numbered, length_queue, get_numbered}

pub slice_get_here : (xs : List Placement) (k : ℕ) (d : Placement) → k < length xs → slice_get xs k ≡ Some (slice_index_or xs k d)
slice_get_here [] k d lt = absurd (omega arith)
slice_get_here (x ∷ xs) zero d lt = refl
slice_get_here (x ∷ xs) (suc k) d lt = slice_get_here xs k d (omega arith)

pub slice_get_past : (xs : List Placement) (k : ℕ) → length xs ≤ k → slice_get xs k ≡ None
slice_get_past [] k le = refl
slice_get_past (x ∷ xs) zero le = absurd (omega arith)
slice_get_past (x ∷ xs) (suc k) le = slice_get_past xs k (omega arith)

-- in which slot the k-th oldest block stands
abbrev pub slot_at : Slots → ℕ → ℕ
slot_at s k = if nat_lt (s.next + k) s.filled then s.next + k else s.next + k - s.filled

pub next_within : (s : Slots) → InShape s → s.next ≤ s.filled
next_within s shape = elim (cases_lt s.filled s.slots) [
  | inl free ↦ (let next : s.next ≡ s.filled = next_free s shape free in omega arith)
  | inr full ↦ omega (arith, shape.next_below)
]

rotated_at : (n k f : ℕ) (E : List Placement) (d : Placement) → length E ≡ f → n ≤ f → k < f → slice_index_or (rotated n E) k d ≡ slice_index_or E (if nat_lt (n + k) f then n + k else n + k - f) d
rotated_at n k f E d long le lt = elim (cases_lt (n + k) f) [
  | inl below ↦ rw (lt-ltb (n + k) f below) (get_or_append_left (drop n E) (take n E) d k (omega (arith, length-drop n E)) ∙ get_or-drop n E k d)
  | inr past ↦ rw (le-ltb (n + k) f past) (get_or-append_right (drop n E) (take n E) (f - n) k d (omega (arith, length-drop n E)) (omega arith)
      ∙ get_or-take n E (k - (f - n)) d (omega arith) ∙ ap (λ (m : ℕ). slice_index_or E m d) (omega arith))
]

slot_at_below : (n k f : ℕ) → n ≤ f → k < f → (if nat_lt (n + k) f then n + k else n + k - f) < f
slot_at_below n k f le lt = grind (arith, nat_tests)

pub slot_at_filled : (s : Slots) (k : ℕ) → InShape s → k < s.filled → slot_at s k < s.filled
slot_at_filled s k shape lt = slot_at_below s.next k s.filled (next_within s shape) lt

pub queue_at : (s : Slots) (k : ℕ) (d : Placement) → InShape s → k < s.filled → slice_index_or (queue_of s) k d ≡ spot s.size (slot_at s k) (slice_index s.blocks (slot_at s k))
unfolding queue_of
queue_at s k d shape lt =
    let le : s.filled ≤ length s.blocks = omega (arith, shape.filled_most, shape.blocks_long) in
    let long : length (take s.filled s.blocks) ≡ s.filled = length-take-le s.filled s.blocks le in
    let m : ℕ = slot_at s k in
    let below : slot_at s k < s.filled = slot_at_filled s k shape lt in
    rotated_at s.next k s.filled (numbered s.size 0 (take s.filled s.blocks)) d (length_numbered s.size 0 (take s.filled s.blocks) ∙ long) (next_within s shape) lt
    ∙ get_numbered s.size 0 (take s.filled s.blocks) (slot_at s k) d (omega arith)
    ∙ ap (λ (x : ℕ). spot s.size x (slice_index (take s.filled s.blocks) (slot_at s k))) (omega arith)
    ∙ ap (λ (x : ℕ). spot s.size (slot_at s k) x) (get_or-take s.filled s.blocks (slot_at s k) 0 below)

slot_at_apart : (n j k f : ℕ) → n ≤ f → j < f → k < f → (if nat_lt (n + j) f then n + j else n + j - f) ≡ (if nat_lt (n + k) f then n + k else n + k - f) → j ≡ k
slot_at_apart n j k f le lt lt' e = grind (arith, nat_tests)

some_place : (e f : Placement) → Some e ≡ Some f → e ≡ f
some_place e f s = cc

-- an entry of the queue, by its place
get_within : (s : Slots) (k : ℕ) (e : Placement) → InShape s → slice_get (queue_of s) k ≡ Some e → (k < s.filled) × (spot s.size (slot_at s k) (slice_index s.blocks (slot_at s k)) ≡ e)
get_within s k e shape is = elim (cases_lt k s.filled) [
  | inl lt ↦ (lt, sym (queue_at s k e shape lt) ∙ some_place _ e (sym (slice_get_here (queue_of s) k e (omega (arith, length_queue s shape))) ∙ is))
  | inr past ↦ absurd (let none = slice_get_past (queue_of s) k (omega (arith, length_queue s shape)) in let both : None ≡ Some e = sym none ∙ is in cc)
]

-- no two entries have the same block
pub queue_distinct : (s : Slots) → InShape s → ((n m : ℕ) → n < s.filled → m < s.filled → slice_index s.blocks n ≡ slice_index s.blocks m → n ≡ m) →
    (j k : ℕ) (e f : Placement) → slice_get (queue_of s) j ≡ Some e → slice_get (queue_of s) k ≡ Some f → e.program ≡ f.program → e.block ≡ f.block → j ≡ k
queue_distinct s shape distinct j k e f at at' own same =
    let w = get_within s j e shape at in
    let w' = get_within s k f shape at' in
    slot_at_apart s.next j k s.filled (next_within s shape) w.0 w'.0
    (distinct (slot_at s j) (slot_at s k) (slot_at_filled s j shape w.0) (slot_at_filled s k shape w'.0)
    (key_from s e (slot_at s j) w.1 ∙ ap (λ (x : ℕ). key_of x e.block) own ∙ ap (λ (x : ℕ). key_of f.program x) same ∙ sym (key_from s f (slot_at s k) w'.1)))
  where
    key_from : (s : Slots) (e : Placement) (n : ℕ) → spot s.size n (slice_index s.blocks n) ≡ e → slice_index s.blocks n ≡ key_of e.program e.block
    key_from s e n is =
        sym (key_parts (slice_index s.blocks n)) ∙ ap (λ (x : ℕ). key_of x (number_of (slice_index s.blocks n))) (ap (λ (x : Placement). x.program) is) ∙ ap (λ (x : ℕ). key_of e.program x) (ap (λ (x : Placement). x.block) is)
