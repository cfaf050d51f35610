-- The queue of a cache: which blocks it has, and where they stand.
use Rattle.std.proofs.Common.{◌≡◌, ◌⊎◌, ℕ, ◌+◌, ◌<◌, ◌≤◌, ◌==◌, ◌++◌, false, not, List, [], ◌∷◌, length, slice_index, slice_set, slice_index_or, IsTrue, arith, refl, sym, ◌∙◌, ap, subst, inl, inr, ◌↔◌}
use Rattle.std.proofs.lemmas.Bool.{cases_eq, eq-eqb, ne_eqb, both_ways}
use Rattle.std.proofs.lemmas.List.{length-set, length-map, get_or-set_same, get_or-set_other, get_or_read}
use Rattle.swi_rom.specs.Record.{Placement}
use Rattle.swi_links.specs.Chains.{Has, Distinct}
use Rattle.swi_links.proofs.Numbers.{append_distinct, append_has, append_here, distinct_fewer, has_append}
use Rattle.swi_tally.specs.Tally.{TallyData, InShape, span, without_oldest, settled}
use Rattle.swi_slots.specs.Homes.{nowhere}
use Rattle.swi_ring.specs.Ring.{spot, queue_of}

pub oldest_has : (s : TallyData) (b : ℕ) (rest : List ℕ) → s.queue ≡ b ∷ rest → Has s.queue b
oldest_has s b rest is = subst (λ (xs : List ℕ). Has xs b) (sym is) (inl refl)

pub rest_has : (s : TallyData) (b : ℕ) (rest : List ℕ) → s.queue ≡ b ∷ rest → (x : ℕ) → Has rest x → Has s.queue x
rest_has s b rest is x h = subst (λ (xs : List ℕ). Has xs x) (sym is) (inr h)

rest_distinct : (s : TallyData) (b : ℕ) (rest : List ℕ) → InShape s → s.queue ≡ b ∷ rest → Distinct (b ∷ rest)
rest_distinct s b rest shape is = subst (λ (xs : List ℕ). Distinct xs) is shape.distinct

pub rest_other : (s : TallyData) (b : ℕ) (rest : List ℕ) → InShape s → s.queue ≡ b ∷ rest → (x : ℕ) → Has rest x → x ≡ b → ⊥
rest_other s b rest shape is x h same = (rest_distinct s b rest shape is).0 (subst (λ (y : ℕ). Has rest y) same h)

pub other_rest : (s : TallyData) (b : ℕ) (rest : List ℕ) → s.queue ≡ b ∷ rest → (x : ℕ) → Has s.queue x → (x ≡ b → ⊥) → Has rest x
other_rest s b rest is x h ne = ways (subst (λ (xs : List ℕ). Has xs x) is h)
  where
    ways : Has (b ∷ rest) x → Has rest x
    ways (inl same) = absurd (ne (sym same))
    ways (inr h) = h

pub queue_same : (homes homes' : List ℕ) (queue : List ℕ) → ((x : ℕ) → Has queue x → slice_index homes' x ≡ slice_index homes x) → queue_of homes' queue ≡ queue_of homes queue
unfolding queue_of
queue_same homes homes' [] same = refl
queue_same homes homes' (x ∷ xs) same = rw (same x (inl refl), queue_same homes homes' xs (λ y h. same y (inr h))) refl

pub queue_next : (homes : List ℕ) (b : ℕ) (rest : List ℕ) → queue_of homes (b ∷ rest) ≡ spot homes b ∷ queue_of homes rest
unfolding queue_of
queue_next homes b rest = refl

pub queue_none : (homes : List ℕ) → queue_of homes [] ≡ []
unfolding queue_of
queue_none homes = refl

pub queue_long : (homes queue : List ℕ) → length (queue_of homes queue) ≡ length queue
unfolding queue_of
queue_long homes queue = length-map queue (spot homes)

pub queue_more : (homes xs : List ℕ) (b : ℕ) → queue_of homes (xs ++ b ∷ []) ≡ queue_of homes xs ++ spot homes b ∷ []
unfolding queue_of
queue_more homes [] b = refl
queue_more homes (x ∷ xs) b = ap (λ (ps : List Placement). spot homes x ∷ ps) (queue_more homes xs b)

-- the shape without the oldest
pub without_shape : (s : TallyData) (b : ℕ) (rest : List ℕ) → InShape s → s.queue ≡ b ∷ rest → InShape (without_oldest s b rest)
without_shape s b rest shape is =
    let within : b < length s.homes = shape.known b (oldest_has s b rest is) in
    record {
      some_slot = shape.some_slot;
      words_few = shape.words_few;
      words_most = shape.words_most;
      next_most = shape.next_most;
      few = omega (arith, shape.few, length-set s.homes b nowhere);
      led_long = shape.led_long ∙ sym (length-set s.homes b nowhere);
      room_is = shape.room_is ∙ sym (length-set s.homes b nowhere);
      distinct = (rest_distinct s b rest shape is).1;
      known = λ x h. omega (arith, shape.known x (rest_has s b rest is x h), length-set s.homes b nowhere);
      placed = λ x h. omega (arith, get_or-set_other s.homes b x nowhere 0 (rest_other s b rest shape is x h), shape.placed x (rest_has s b rest is x h));
      absent = λ x lt none. elim (cases_eq x b) [
        | inl same ↦ rw same (get_or-set_same s.homes b nowhere 0 within)
        | inr ne ↦
            get_or-set_other s.homes b x nowhere 0 ne
            ∙ shape.absent x (omega (arith, lt, length-set s.homes b nowhere)) (λ h. none (other_rest s b rest is x h ne))
      ];
    }

pub without_queue : (s : TallyData) (b : ℕ) (rest : List ℕ) → InShape s → s.queue ≡ b ∷ rest → queue_of (slice_set s.homes b nowhere) rest ≡ queue_of s.homes rest
without_queue s b rest shape is =
    queue_same s.homes (slice_set s.homes b nowhere) rest (λ x h. get_or-set_other s.homes b x nowhere 0 (rest_other s b rest shape is x h))

-- a block behind all others
pub settled_shape : (s : TallyData) (b first n : ℕ) → InShape s → b < length s.homes → (Has s.queue b → ⊥) → 1 ≤ n → first + n ≤ span s → InShape (settled s b first n)
settled_shape s b first n shape within none some fits = record {
  some_slot = shape.some_slot;
  words_few = shape.words_few;
  words_most = shape.words_most;
  next_most = fits;
  few = omega (arith, shape.few, length-set s.homes b first);
  led_long = length-set s.led b false ∙ shape.led_long ∙ sym (length-set s.homes b first);
  room_is = shape.room_is ∙ sym (length-set s.homes b first);
  distinct = append_distinct s.queue b shape.distinct none;
  known = λ x h. omega (arith, length-set s.homes b first, known x (has_append s.queue b x h));
  placed = λ x h. placed x (has_append s.queue b x h);
  absent = λ x lt away.
      get_or-set_other s.homes b x first 0 (λ (same : x ≡ b). away (subst (λ (y : ℕ). Has (s.queue ++ b ∷ []) y) (sym same) (append_here s.queue b)))
      ∙ shape.absent x (omega (arith, lt, length-set s.homes b first)) (λ h. away (append_has s.queue b x h));
}
  where
    known : (x : ℕ) → Has s.queue x ⊎ (b ≡ x) → x < length s.homes
    known x (inl h) = shape.known x h
    known x (inr same) = omega (arith, same, within)

    placed : (x : ℕ) → Has s.queue x ⊎ (b ≡ x) → slice_index (slice_set s.homes b first) x < span s
    placed x (inl h) = omega (arith, get_or-set_other s.homes b x first 0 (λ (same : x ≡ b). none (subst (λ (y : ℕ). Has s.queue y) same h)), shape.placed x h)
    placed x (inr same) = subst (λ (y : ℕ). slice_index (slice_set s.homes b first) y < span s) same (omega (arith, get_or-set_same s.homes b first 0 within, fits, some))

pub settled_queue : (s : TallyData) (b first : ℕ) → b < length s.homes → (Has s.queue b → ⊥) →
    let here : Placement = record { program = 0; block = b; first = first } in queue_of (slice_set s.homes b first) (s.queue ++ b ∷ []) ≡ queue_of s.homes s.queue ++ here ∷ []
settled_queue s b first within none =
    queue_more (slice_set s.homes b first) s.queue b
    ∙ ap (λ (ps : List Placement). ps ++ spot (slice_set s.homes b first) b ∷ [])
    (queue_same s.homes (slice_set s.homes b first) s.queue (λ x h. get_or-set_other s.homes b x first 0 (λ (same : x ≡ b). none (subst (λ (y : ℕ). Has s.queue y) same h))))
    ∙ ap (λ (f : ℕ). queue_of s.homes s.queue ++ record { program = 0; block = b; first = f } ∷ []) (get_or-set_same s.homes b first 0 within)

-- there is room for a block that doesn't stand
pub absent_short : (s : TallyData) (b : ℕ) → InShape s → b < length s.homes → (Has s.queue b → ⊥) → length s.queue < length s.homes
absent_short s b shape lt none = distinct_fewer s.queue (length s.homes) b shape.distinct shape.known lt none

-- whether a block stands, by the number that is kept of it, and by the record
in_queue : (xs : List ℕ) (b : ℕ) → Has xs b ⊎ (Has xs b → ⊥)
in_queue [] b = inr (λ h. h)
in_queue (x ∷ xs) b = elim (cases_eq x b) [
  | inl same ↦ inl (inl same)
  | inr ne ↦ elim (in_queue xs b) [
    | inl h ↦ inl (inr h)
    | inr none ↦ inr (λ (h : Has (x ∷ xs) b). later x xs b h ne none)
  ]
]
  where
    later : (x : ℕ) (xs : List ℕ) (b : ℕ) → Has (x ∷ xs) b → (x ≡ b → ⊥) → (Has xs b → ⊥) → ⊥
    later x xs b (inl same) ne none = ne same
    later x xs b (inr h) ne none = none h

pub home_tells : (s : TallyData) (b : ℕ) → InShape s → b < length s.homes → IsTrue (not (slice_index s.homes b == nowhere)) ↔ Has s.queue b
home_tells s b shape lt = elim (in_queue s.queue b) [
  | inl h ↦ ((λ t. h), (λ i. ap not (ne_eqb (slice_index s.homes b) nowhere (below h))))
  | inr none ↦ ((λ t. absurd (both_ways _ (ap not (eq-eqb (slice_index s.homes b) nowhere (shape.absent b lt none))) t)), (λ i. absurd (none i)))
]
  where
    below : Has s.queue b → slice_index s.homes b ≡ nowhere → ⊥
    below h same = omega (arith, same, shape.placed b h, shape.words_few)

-- the calls, as their code meets them
pub placed_call : (s : TallyData) (homes : List ℕ) (b home : ℕ) → InShape s → b < length s.homes → homes ≡ s.homes → home ≡ slice_index_or homes b home → IsTrue (not (home == nowhere)) ↔ Has s.queue b
placed_call s homes b home shape lt same read =
    let here : home ≡ slice_index s.homes b = get_or_read homes b home (omega (arith, lt, ap (λ (xs : List ℕ). length xs) same)) read 0 ∙ ap (λ (xs : List ℕ). slice_index xs b) same in
    subst (λ (n : ℕ). IsTrue (not (n == nowhere)) ↔ Has s.queue b) (sym here) (home_tells s b shape lt)

pub oldest_known : (s : TallyData) (b : ℕ) (rest : List ℕ) → InShape s → s.queue ≡ b ∷ rest → b < length s.homes
oldest_known s b rest shape is = shape.known b (oldest_has s b rest is)
