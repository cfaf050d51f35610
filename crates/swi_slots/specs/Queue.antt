-- The queue of the placed blocks, by the slots in which they stand.
use Rattle.std.proofs.Common.{◌≡◌, ◌⊎◌, ℕ, suc, zero, ◌+◌, ◌*◌, ◌%◌, ◌<◌, ◌≤◌, ◌^◌, min, List, [], ◌∷◌, ◌++◌, take, drop, length, slice_index, slice_set, slice_index_or, arith, refl, sym, ◌∙◌, ap, subst, inl, inr}
use Rattle.std.proofs.lemmas.List.{length-set, length-drop, length-append, length-take, length-take-le, get_or-take, take_all, drop_all, take_more_set, drop_more, drop-set-lt, append-nil, append_assoc, take-append-drop}
use Rattle.std.proofs.lemmas.Bool.Decides.{nat_tests}
use Rattle.std.proofs.lemmas.Bool.{cases_eq}
use Rattle.std.proofs.lemmas.Nat.{mod-mul-add}
use Rattle.swi_rom.specs.Record.{Placement, Has, Placed}
use Rattle.swi_slots.specs.Keys.{key_of, owner_of, number_of, key_owner, key_number, key_parts, number_below}
use Rattle.swi_slots.specs.Slots.{Slots, InShape, numbered, rotated, queue_of, kept_by}
use Rattle.swi_slots.specs.Steps.{settled, wrapped}

abbrev pub spot : ℕ → ℕ → ℕ → Placement
spot size n k = record { program = owner_of k; block = number_of k; first = n * size }

has_append_left : {X : Type 0} (xs ys : List X) (x : X) → Has xs x → Has (xs ++ ys) x
has_append_left [] ys x h = absurd h
has_append_left (z ∷ xs) ys x (inl e) = inl e
has_append_left (z ∷ xs) ys x (inr h) = inr (has_append_left xs ys x h)

has_append_right : {X : Type 0} (xs ys : List X) (x : X) → Has ys x → Has (xs ++ ys) x
has_append_right [] ys x h = h
has_append_right (z ∷ xs) ys x h = inr (has_append_right xs ys x h)

has_append : {X : Type 0} (xs ys : List X) (x : X) → Has (xs ++ ys) x → Has xs x ⊎ Has ys x
has_append [] ys x h = inr h
has_append (z ∷ xs) ys x (inl e) = inl (inl e)
has_append (z ∷ xs) ys x (inr h) = elim (has_append xs ys x h) [ inl a ↦ inl (inr a) | inr b ↦ inr b ]

pub rotated_has : (n : ℕ) (es : List Placement) (x : Placement) → Has (rotated n es) x → Has es x
rotated_has n es x h =
    subst (λ (zs : List Placement). Has zs x) (take-append-drop n es)
    (elim (has_append (drop n es) (take n es) x h) [ inl a ↦ has_append_right (take n es) (drop n es) x a | inr b ↦ has_append_left (take n es) (drop n es) x b ])

has_rotated : (n : ℕ) (es : List Placement) (x : Placement) → Has es x → Has (rotated n es) x
has_rotated n es x h =
    elim (has_append (take n es) (drop n es) x (subst (λ (zs : List Placement). Has zs x) (sym (take-append-drop n es)) h)) [
      | inl a ↦ has_append_right (drop n es) (take n es) x a
      | inr b ↦ has_append_left (drop n es) (take n es) x b
    ]

pub numbered_has : (size k : ℕ) (bs : List ℕ) (x : Placement) → Has (numbered size k bs) x → (n : ℕ) × (n < length bs) × (spot size (k + n) (slice_index bs n) ≡ x)
unfolding numbered
numbered_has size k [] x h = absurd h
numbered_has size k (b ∷ bs) x (inl e) = (0, omega arith, ap (λ (m : ℕ). spot size m b) (omega arith) ∙ e)
numbered_has size k (b ∷ bs) x (inr h) =
    let w = numbered_has size (k + 1) bs x h in
    (suc w.0, omega (arith, w.1), ap (λ (m : ℕ). spot size m (slice_index bs w.0)) (omega arith) ∙ w.2)

has_numbered : (size k : ℕ) (bs : List ℕ) (n : ℕ) → n < length bs → Has (numbered size k bs) (spot size (k + n) (slice_index bs n))
unfolding numbered
has_numbered size k [] n lt = absurd (omega arith)
has_numbered size k (b ∷ bs) zero lt = inl (ap (λ (m : ℕ). spot size m b) (omega arith))
has_numbered size k (b ∷ bs) (suc n) lt =
    inr (subst (λ (m : ℕ). Has (numbered size (k + 1) bs) (spot size m (slice_index bs n))) (omega arith) (has_numbered size (k + 1) bs n (omega arith)))

pub length_numbered : (size k : ℕ) (bs : List ℕ) → length (numbered size k bs) ≡ length bs
unfolding numbered
length_numbered size k [] = refl
length_numbered size k (b ∷ bs) = ap suc (length_numbered size (k + 1) bs)

pub get_numbered : (size k : ℕ) (bs : List ℕ) (n : ℕ) (d : Placement) → n < length bs → slice_index_or (numbered size k bs) n d ≡ spot size (k + n) (slice_index bs n)
unfolding numbered
get_numbered size k [] n d lt = absurd (omega arith)
get_numbered size k (b ∷ bs) zero d lt = ap (λ (m : ℕ). spot size m b) (omega arith)
get_numbered size k (b ∷ bs) (suc n) d lt = get_numbered size (k + 1) bs n d (omega arith) ∙ ap (λ (m : ℕ). spot size m (slice_index bs n)) (omega arith)

numbered_push : (size k : ℕ) (bs : List ℕ) (c : ℕ) → numbered size k (bs ++ c ∷ []) ≡ numbered size k bs ++ spot size (k + length bs) c ∷ []
unfolding numbered
numbered_push size k [] c = ap (λ (m : ℕ). spot size m c ∷ []) (omega arith)
numbered_push size k (b ∷ bs) c =
    ap (λ (zs : List Placement). spot size k b ∷ zs) (numbered_push size (k + 1) bs c ∙ ap (λ (m : ℕ). numbered size (k + 1) bs ++ spot size m c ∷ []) (omega arith))

numbered_set : (size k : ℕ) (bs : List ℕ) (i c : ℕ) → numbered size k (slice_set bs i c) ≡ slice_set (numbered size k bs) i (spot size (k + i) c)
unfolding numbered
numbered_set size k [] i c = refl
numbered_set size k (b ∷ bs) zero c = ap (λ (m : ℕ). spot size m c ∷ numbered size (k + 1) bs) (omega arith)
numbered_set size k (b ∷ bs) (suc i) c =
    ap (λ (zs : List Placement). spot size k b ∷ zs) (numbered_set size (k + 1) bs i c ∙ ap (λ (m : ℕ). slice_set (numbered size (k + 1) bs) i (spot size m c)) (omega arith))

-- a placed block stands in a filled slot, and the other way round
pub has_slot : (s : Slots) (p b f : ℕ) → InShape s → Has (queue_of s) (record { program = p; block = b; first = f }) → (n : ℕ) × (n < s.filled) × (slice_index s.blocks n ≡ key_of p b) × (n * s.size ≡ f) × (b < 2 ^ 19)
unfolding queue_of
has_slot s p b f shape h =
    let w = numbered_has s.size 0 (take s.filled s.blocks) (record { program = p; block = b; first = f }) (rotated_has s.next _ _ h) in
    let lt : w.0 < s.filled = omega (arith, w.1, length-take s.filled s.blocks) in
    let owner : owner_of (slice_index (take s.filled s.blocks) w.0) ≡ p = ap (λ (e : Placement). e.program) w.2 in
    let number : number_of (slice_index (take s.filled s.blocks) w.0) ≡ b = ap (λ (e : Placement). e.block) w.2 in (
      w.0,
      lt,
      sym (get_or-take s.filled s.blocks w.0 0 lt) ∙ sym (key_parts (slice_index (take s.filled s.blocks) w.0)) ∙ ap (λ (x : ℕ). key_of x (number_of (slice_index (take s.filled s.blocks) w.0))) owner ∙ ap (λ (x : ℕ). key_of p x) number,
      ap (λ (m : ℕ). m * s.size) (omega arith) ∙ ap (λ (e : Placement). e.first) w.2,
      subst (λ (x : ℕ). x < 2 ^ 19) number (number_below (slice_index (take s.filled s.blocks) w.0)),
    )

pub slot_has : (s : Slots) (n : ℕ) → InShape s → n < s.filled → Has (queue_of s) (spot s.size n (slice_index s.blocks n))
unfolding queue_of
slot_has s n shape lt =
    has_rotated s.next _ _
    (subst (λ (b : ℕ). Has (numbered s.size 0 (take s.filled s.blocks)) (spot s.size n b)) (get_or-take s.filled s.blocks n 0 lt)
    (subst (λ (m : ℕ). Has (numbered s.size 0 (take s.filled s.blocks)) (spot s.size m (slice_index (take s.filled s.blocks) n))) (omega arith)
    (has_numbered s.size 0 (take s.filled s.blocks) n (omega (arith, length-take-le s.filled s.blocks (omega (arith, shape.filled_most, shape.blocks_long)))))))

-- of the program in turn
pub placed_slot : (s : Slots) (b f : ℕ) → InShape s → Placed (kept_by s) b f → (n : ℕ) × (n < s.filled) × (slice_index s.blocks n ≡ key_of s.turn b) × (n * s.size ≡ f) × (b < 2 ^ 19)
unfolding Placed
placed_slot s b f shape h = has_slot s s.turn b f shape h

pub slot_placed : (s : Slots) (n b : ℕ) → InShape s → n < s.filled → b < 2 ^ 19 → slice_index s.blocks n ≡ key_of s.turn b → Placed (kept_by s) b (n * s.size)
unfolding Placed
slot_placed s n b shape lt small e =
    subst (λ (x : ℕ). Has (queue_of s) (record { program = s.turn; block = x; first = n * s.size })) (ap number_of e ∙ key_number s.turn b small)
    (subst (λ (x : ℕ). Has (queue_of s) (record { program = x; block = number_of (slice_index s.blocks n); first = n * s.size })) (ap owner_of e ∙ key_owner s.turn b small)
    (slot_has s n shape lt))

pub length_rotated : (n : ℕ) (es : List Placement) → length (rotated n es) ≡ length es
length_rotated n es = simp (length-drop, length-append) (omega (arith, length-take n es))

pub length_queue : (s : Slots) → InShape s → length (queue_of s) ≡ s.filled
unfolding queue_of
length_queue s shape =
    length_rotated s.next _ ∙ length_numbered s.size 0 (take s.filled s.blocks) ∙ length-take-le s.filled s.blocks (omega (arith, shape.filled_most, shape.blocks_long))

-- before all slots are filled, they are filled in order
pub next_free : (s : Slots) → InShape s → s.filled < s.slots → s.next ≡ s.filled
next_free s shape lt =
    let m : s.counts.misses < s.slots = omega (arith, shape.filled_is) in
    let e : s.counts.misses % s.slots ≡ s.counts.misses = grind (arith, mod-mul-add 0 s.slots s.counts.misses m) in
    omega (arith, shape.filled_is, shape.next_is)

rotated_all : (n : ℕ) (es : List Placement) → (n ≡ 0) ⊎ (length es ≤ n) → rotated n es ≡ es
rotated_all n es (inl e) = rw e (append-nil es)
rotated_all n es (inr le) = rw (drop_all n es le, take_all n es le) refl

pub queue_free : (s : Slots) (c n : ℕ) → InShape s → s.filled < s.slots → queue_of (settled s c n) ≡ queue_of s ++ spot s.size s.next c ∷ []
unfolding queue_of
queue_free s c n shape lt =
    let next : s.next ≡ s.filled = next_free s shape lt in
    let more : min (s.filled + 1) s.slots ≡ s.filled + 1 = omega arith in
    let long : s.filled < length s.blocks = omega (arith, shape.blocks_long) in
    let longs : length (take s.filled s.blocks) ≡ s.filled = length-take-le s.filled s.blocks (omega arith) in
    let old : rotated s.next (numbered s.size 0 (take s.filled s.blocks)) ≡ numbered s.size 0 (take s.filled s.blocks) =
    rotated_all s.next _ (inr (omega (arith, length_numbered s.size 0 (take s.filled s.blocks)))) in
    let now : numbered s.size 0 (take (s.filled + 1) (slice_set s.blocks s.filled c)) ≡ numbered s.size 0 (take s.filled s.blocks) ++ spot s.size s.filled c ∷ [] =
    ap (λ (bs : List ℕ). numbered s.size 0 bs) (take_more_set s.blocks s.filled c long) ∙ numbered_push s.size 0 (take s.filled s.blocks) c
    ∙ ap (λ (m : ℕ). numbered s.size 0 (take s.filled s.blocks) ++ spot s.size m c ∷ []) (omega arith) in
    rw (more, old, next)
    (rotated_all (wrapped (s.filled + 1) s.slots) (numbered s.size 0 (take (s.filled + 1) (slice_set s.blocks s.filled c)))
    (wraps (s.filled + 1) s.slots _ (omega (arith, length_numbered s.size 0 (take (s.filled + 1) (slice_set s.blocks s.filled c)), length-take (s.filled + 1) (slice_set s.blocks s.filled c))))
    ∙ now)
  where
    wraps : (k m l : ℕ) → l ≤ k → (wrapped k m ≡ 0) ⊎ (l ≤ wrapped k m)
    wraps k m l le = grind (arith, nat_tests)

full_in : (next slots : ℕ) (E : List Placement) (x : Placement) → length E ≡ slots → next < slots → (next + 1 ≡ slots) ⊎ (next + 1 ≡ slots → ⊥) →
    rotated (wrapped (next + 1) slots) (slice_set E next x) ≡ (drop (next + 1) E ++ take next E) ++ x ∷ []
full_in next slots E x long lt (inl e) =
    let none : wrapped (next + 1) slots ≡ 0 = grind (arith, nat_tests) in
    let rest : drop (next + 1) E ≡ [] = drop_all (next + 1) E (omega arith) in
    rw (none, rest) (append-nil (slice_set E next x) ∙ sym (take_all (next + 1) (slice_set E next x) (omega (arith, length-set E next x))) ∙ take_more_set E next x (omega arith))
full_in next slots E x long lt (inr ne) =
    let here : wrapped (next + 1) slots ≡ next + 1 = grind (arith, nat_tests) in
    rw (here) (ap (λ (zs : List Placement). zs ++ take (next + 1) (slice_set E next x)) (drop-set-lt (next + 1) E next x (omega arith))
    ∙ ap (λ (zs : List Placement). drop (next + 1) E ++ zs) (take_more_set E next x (omega arith)) ∙ sym (append_assoc (drop (next + 1) E) (take next E) (x ∷ [])))

abbrev pub Oldest : Slots → ℕ → ℕ → Type 0
Oldest s c n = (es : List Placement) × (queue_of s ≡ spot s.size s.next (slice_index s.blocks s.next) ∷ es) × (queue_of (settled s c n) ≡ es ++ spot s.size s.next c ∷ [])

pub queue_full : (s : Slots) (c n : ℕ) → InShape s → s.slots ≤ s.filled → Oldest s c n
unfolding queue_of
queue_full s c n shape le =
    let full : s.filled ≡ s.slots = omega (arith, shape.filled_most) in
    let more : min (s.filled + 1) s.slots ≡ s.slots = omega arith in
    let all : take s.filled s.blocks ≡ s.blocks = take_all s.filled s.blocks (omega (arith, shape.blocks_long)) in
    let all' : take s.slots (slice_set s.blocks s.next c) ≡ slice_set s.blocks s.next c = take_all s.slots (slice_set s.blocks s.next c) (omega (arith, shape.blocks_long, length-set s.blocks s.next c)) in
    let E : List Placement = numbered s.size 0 s.blocks in
    let long : length E ≡ s.slots = length_numbered s.size 0 s.blocks ∙ shape.blocks_long in
    let x : Placement = spot s.size s.next (slice_index s.blocks s.next) in
    let head : drop s.next E ≡ x ∷ drop (s.next + 1) E =
    drop_more E s.next x (omega (arith, shape.next_below)) ∙ ap (λ (z : Placement). z ∷ drop (s.next + 1) E) (get_numbered s.size 0 s.blocks s.next x (omega (arith, shape.next_below, shape.blocks_long)) ∙ ap (λ (m : ℕ). spot s.size m (slice_index s.blocks s.next)) (omega arith)) in
    let put : numbered s.size 0 (slice_set s.blocks s.next c) ≡ slice_set E s.next (spot s.size s.next c) =
    numbered_set s.size 0 s.blocks s.next c ∙ ap (λ (m : ℕ). slice_set E s.next (spot s.size m c)) (omega arith) in (
      drop (s.next + 1) E ++ take s.next E,
      rw (all, head) refl,
      rw (more, all', put) (full_in s.next s.slots E (spot s.size s.next c) long shape.next_below (cases_eq (s.next + 1) s.slots)),
    )
