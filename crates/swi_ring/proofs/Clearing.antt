-- The oldest blocks leave, until none is in the way.
use Rattle.std.proofs.Common.{◌≡◌, ◌⊎◌, ℕ, ◌+◌, ◌-◌, ◌<◌, ◌≤◌, ◌&&◌, Bool, true, false, List, [], ◌∷◌, map, length, slice_index, nat_lt, arith, refl, sym, ◌∙◌, ap, subst, inl, inr}
use Rattle.std.proofs.lemmas.Bool.{cases_lt, lt-ltb, both_ways, and_from, or_left, or_right}
use Rattle.std.proofs.lemmas.Bool.Decides.{nat_tests}
use Rattle.std.specs.List.{list_any}
use Rattle.swi_image.specs.Format.{ImageData}
use Rattle.swi_image.specs.Place.{length_at}
use Rattle.swi_outside.specs.CacheRam.{RamState}
use Rattle.swi_links.specs.Chains.{Has}
use Rattle.swi_rom.specs.Record.{Record, Placement}
use Rattle.swi_rom.specs.Record.{Has as HasPlacement}
use Rattle.swi_rom.specs.Policy.{evicted}
use Rattle.swi_rom.specs.Rams.{wrote_none, failed_more}
use Rattle.swi_rom.specs.Writing.{FailedBelow}
use Rattle.swi_ring.specs.Fifo.{meets, cleared}
use Rattle.swi_ring.specs.Ring.{Ring, first_at, spot, queue_of, kept_by, stands_at}
use Rattle.swi_ring.specs.Sound.{RingSound, IsOwned}
use Rattle.swi_ring.specs.Steps.{Left, Receded, MadeRoom}
use Rattle.swi_ring.specs.Coheres.{spots_have, have_spots, shown_placed, unshown_free}
use Rattle.swi_ring.proofs.Receding.{left_call, receded_none, receded_both}

any_true : (p : Placement → Bool) (es : List Placement) (e : Placement) → HasPlacement es e → p e ≡ true → list_any p es ≡ true
any_true p [] e h t = absurd h
any_true p (x ∷ xs) e (inl same) t = or_left (p x) (list_any p xs) (ap p same ∙ t)
any_true p (x ∷ xs) e (inr h) t = or_right (p x) (list_any p xs) (any_true p xs e h t)

any_false : (p : Placement → Bool) (es : List Placement) → ((e : Placement) → HasPlacement es e → p e ≡ false) → list_any p es ≡ false
any_false p [] f = refl
any_false p (x ∷ xs) f = rw (f x (inl refl)) (any_false p xs (λ e h. f e (inr h)))

-- the policy of one eviction more
pub cleared_more : (v : ImageData) (first n : ℕ) (es : List Placement) (r : Record) → list_any (meets v first n) es ≡ true → r.placed ≡ es → cleared v first n es r ≡ cleared v first n (evicted r es).placed (evicted r es)
unfolding cleared evicted
cleared_more v first n [] r t e = absurd (both_ways false refl t)
cleared_more v first n (x ∷ xs) r t e = rw t refl

cleared_done : (v : ImageData) (first n : ℕ) (es : List Placement) (r : Record) → list_any (meets v first n) es ≡ false → cleared v first n es r ≡ r
unfolding cleared
cleared_done v first n [] r t = refl
cleared_done v first n (x ∷ xs) r t = rw t refl

-- no placed block has one of the words so far
abbrev pub Free : ImageData → Ring → ℕ → ℕ → Type 0
Free v t first at = (b i : ℕ) → Has t.queue b → first ≤ i → i < at → first_at t b ≤ i → first_at t b + length_at v b ≤ i

pub record Going (v : ImageData) (first n at : ℕ) (s t : Ring) (a b : RamState) : Type 0 where
  pub from : first ≤ at
  pub to : at ≤ first + n
  pub receded : Receded v s t a b
  pub same : cleared v first n (queue_of t.firsts t.queue) (kept_by t) ≡ cleared v first n (queue_of s.firsts s.queue) (kept_by s)
  pub free : Free v t first at

pub going_start : (v : ImageData) (first n : ℕ) (s : Ring) (a : RamState) → RingSound s v a.words → Going v first n first s s a a
going_start v first n s a sound = record {
  from = omega arith;
  to = omega arith;
  receded = receded_none s v a sound (wrote_none s.words a);
  same = refl;
  free = λ b i h le lt. absurd (omega arith);
}

-- the word is in use: the oldest leaves
pub going_evict : (v : ImageData) (first n at e : ℕ) (s t u : Ring) (a b c : RamState) → Going v first n at s t a b → s.counts.misses ≤ s.counts.services → first + n ≤ s.words → at < first + n → stands_at t at (slice_index t.owners at) ≡ true →
    Left e t u b c → Going v first n at s u a c
unfolding queue_of
going_evict v first n at e s t u a b c g few fits lt used left =
    let sound = g.receded.sound in
    let own : IsOwned t at = shown_placed t at sound.shape (omega (arith, lt, fits, g.receded.words_stay)) used in
    let step = left_call t u v e b c sound (omega (arith, few, g.receded.misses_stay, g.receded.services_stay)) left in
    let o : ℕ = slice_index t.owners at in
    let hit : meets v first n (spot t.firsts o) ≡ true =
    meet (first_at t o) first n (length_at v o) (omega (arith, own.from, lt)) (omega (arith, own.to, g.from, sound.lengths_are o own.placed)) in
    let some : list_any (meets v first n) (map (spot t.firsts) t.queue) ≡ true = any_true (meets v first n) (map (spot t.firsts) t.queue) (spot t.firsts o) (spots_have t.firsts t.queue o own.placed) hit in
    record {
      from = g.from;
      to = g.to;
      receded = receded_both v s t u a b c g.receded step.0;
      same = ap (λ (r : Record). cleared v first n r.placed r) step.1 ∙ sym (cleared_more v first n (map (spot t.firsts) t.queue) (kept_by t) some refl) ∙ g.same;
      free = λ x i h le below here. (let w = step.0.fewer x h in omega (arith, w.1, g.free x i w.0 le below (omega (arith, w.1, here))));
    }
  where
    meet : (f first n m : ℕ) → f < first + n → first < f + m → (nat_lt f (first + n) && nat_lt first (f + m)) ≡ true
    meet f first n m lt lt' = and_from _ _ (lt-ltb f (first + n) lt) (lt-ltb first (f + m) lt')

-- it is free: the next word
pub going_next : (v : ImageData) (first n at : ℕ) (s t : Ring) (a b : RamState) → Going v first n at s t a b → first + n ≤ s.words → at < first + n → stands_at t at (slice_index t.owners at) ≡ false → Going v first n (at + 1) s t a b
going_next v first n at s t a b g fits lt unused = record {
  from = omega (arith, g.from);
  to = omega (arith, lt);
  receded = g.receded;
  same = g.same;
  free = λ x i h le below here. elim (cases_lt i at) [
    | inl before ↦ g.free x i h le before here
    | inr from ↦ (
        let is : i ≡ at = omega (arith, from, below) in
        omega (arith, is, unshown_free t v b.words at x g.receded.sound (omega (arith, lt, fits, g.receded.words_stay)) unused h (omega (arith, is, here))))
  ];
}

-- no block is in the way
free_range : (v : ImageData) (first n : ℕ) (t : Ring) (words : List ℕ) → 1 ≤ n → RingSound t v words → Free v t first (first + n) → (b : ℕ) → Has t.queue b → (first_at t b + length_at v b ≤ first) ⊎ (first + n ≤ first_at t b)
free_range v first n t words pos sound free b h = elim (cases_lt (first_at t b) (first + n)) [
  | inr past ↦ inr past
  | inl before ↦ elim (cases_lt first (first_at t b + length_at v b)) [
    | inr behind ↦ inl behind
    | inl met ↦ elim (cases_lt first (first_at t b)) [
      | inl later ↦ absurd (omega (arith, free b (first_at t b) h (omega (arith, later)) before (omega arith), sound.lengths_are b h, sound.shape.some b h))
      | inr within ↦ absurd (omega (arith, free b first h (omega arith) (omega (arith, pos)) within, met))
    ]
  ]
]

none_meets : (v : ImageData) (first n : ℕ) (t : Ring) → ((b : ℕ) → Has t.queue b → (first_at t b + length_at v b ≤ first) ⊎ (first + n ≤ first_at t b)) → list_any (meets v first n) (queue_of t.firsts t.queue) ≡ false
unfolding queue_of
none_meets v first n t free = any_false (meets v first n) (map (spot t.firsts) t.queue) (λ e h.
    let w = have_spots t.firsts t.queue e h in
    ap (λ (p : Placement). meets v first n p) w.1 ∙ apart (first_at t e.block) first n (length_at v e.block) (free e.block w.0))
  where
    apart : (f first n m : ℕ) → (f + m ≤ first) ⊎ (first + n ≤ f) → (nat_lt f (first + n) && nat_lt first (f + m)) ≡ false
    apart f first n m (inl le) = grind (arith, nat_tests)
    apart f first n m (inr le) = grind (arith, nat_tests)

pub going_done : (v : ImageData) (first n at : ℕ) (s t : Ring) (a b : RamState) → Going v first n at s t a b → 1 ≤ n → first + n ≤ at → MadeRoom v first n s t a b
going_done v first n at s t a b g pos past =
    let end : at ≡ first + n = omega (arith, g.to, past) in
    let free = free_range v first n t b.words pos g.receded.sound (λ x i h le lt here. g.free x i h le (omega (arith, lt, end)) here) in
    record {
      receded = g.receded;
      clears = sym (cleared_done v first n (queue_of t.firsts t.queue) (kept_by t) (none_meets v first n t free)) ∙ g.same;
      free = free;
    }

-- the oldest was one of the queue
pub going_less : (e at m : ℕ) (t u : Ring) (a b : RamState) → Left e t u a b → (m - at) + length u.queue < (m - at) + length t.queue
going_less e at m t u a b left = omega (arith, ap (λ (xs : List ℕ). length xs) left.oldest)

pub some_queue : (t : Ring) (at : ℕ) (v : ImageData) (words : List ℕ) → RingSound t v words → at < t.words → stands_at t at (slice_index t.owners at) ≡ true → 0 < length t.queue
some_queue t at v words sound lt used = some t.queue (slice_index t.owners at) (shown_placed t at sound.shape lt used).placed
  where
    some : (xs : List ℕ) (x : ℕ) → Has xs x → 0 < length xs
    some [] x h = absurd h
    some (y ∷ ys) x h = omega arith

pub going_failed : (v : ImageData) (first n at : ℕ) (s t : Ring) (a b c : RamState) → Going v first n at s t a b → FailedBelow t.words b c → FailedBelow s.words a c
going_failed v first n at s t a b c g failed =
    failed_more s.words s.words _ a b c g.receded.wrote (subst (λ (m : ℕ). FailedBelow m b c) g.receded.words_stay failed) (omega arith)
