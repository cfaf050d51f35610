-- Numbers in ascending order, and how many of them are at most another.
use Rattle.std.proofs.Common.{drop, length-take, length-drop, ◌≡◌, ℕ, ◌+◌, ◌-◌, ◌*◌, ◌<◌, ◌≤◌, ◌==◌, true, false, zero, suc, List, [], ◌∷◌, length, get_or, arith, refl, inl, inr, nat_le}
use Rattle.std.proofs.lemmas.Bool.Decides.{nat_tests}
use Rattle.std.proofs.lemmas.Bool.{cases_eq}
use Rattle.swi_image.specs.Format.{multiples, version_of, block_words_of, blocks_of, len_of, starts_of, ends_of, offsets_at, offsets_of}
use Rattle.swi_image.specs.Checks.{at_most, block_of, is_start_wrong, size_of}
use Rattle.swi_image.specs.Kept.{StartsRight, HasSizes}
use Rattle.swi_image.specs.Laws.{all_above, Ascends, ascends}

-- the first m are at most x, and no others
pub at_most_is : (x : ℕ) (xs : List ℕ) (m : ℕ) → m ≤ length xs → ((i : ℕ) → i < m → get_or xs i 0 ≤ x) →
    ((i : ℕ) → m ≤ i → i < length xs → x < get_or xs i 0) → at_most x xs ≡ m
at_most_is x xs zero fits below above = all_above x xs (λ i within. above i (omega arith) within)
at_most_is x [] (suc m) fits below above = absurd (omega arith)
at_most_is x (y ∷ ys) (suc m) fits below above =
    let here : nat_le y x ≡ true = (let near : y ≤ x = below 0 (omega arith) in grind (arith, nat_tests)) in
    let rest : at_most x ys ≡ m = at_most_is x ys m (omega arith) (λ i within. below (suc i) (omega arith)) (λ i low high. above (suc i) (omega arith) (omega arith)) in
    rw (here, rest) refl

-- the m-th and those after it are above x, and those before it are not
pub at_most_between : (x : ℕ) (xs : List ℕ) (m : ℕ) → Ascends xs → m ≤ length xs → (0 < m → get_or xs (m - 1) 0 ≤ x) → (m < length xs → x < get_or xs m 0) →
    at_most x xs ≡ m
at_most_between x xs m up fits low high =
    at_most_is x xs m fits
    (λ i within. let far : get_or xs i 0 + (m - 1 - i) ≤ get_or xs (m - 1) 0 = ascends xs up i (m - 1) (omega arith) (omega arith) in omega (arith, low (omega arith)))
    (λ i from within. let far : get_or xs m 0 + (i - m) ≤ get_or xs i 0 = ascends xs up m i from within in omega (arith, high (omega arith)))

pub block_is : (starts : List ℕ) (k b : ℕ) → Ascends starts → b < length starts → get_or starts b 0 ≤ k → (b + 1 < length starts → k < get_or starts (b + 1) 0) →
    block_of starts k ≡ b
block_is starts k b up within low high =
    let same : b + 1 - 1 ≡ b = omega arith in
    let count : at_most k starts ≡ b + 1 = at_most_between k starts (b + 1) up (omega arith) (λ some. rw same low) high in
    rw count same

pub starts_ascend : (n : ℕ) (starts : List ℕ) → StartsRight n starts → Ascends starts
unfolding is_start_wrong
starts_ascend n starts r = record {
  next = λ i within.
      let right : is_start_wrong n starts (i + 1) ≡ false = r.right (i + 1) within in
      let same : i + 1 - 1 ≡ i = omega arith in
      let other : (i + 1 == 0) ≡ false = grind (arith, nat_tests) in
      let here = rw (other, same) at right in
      grind (arith, nat_tests);
}

pub starts_first : (n : ℕ) (starts : List ℕ) → StartsRight n starts → 0 < length starts → get_or starts 0 0 ≡ 0
unfolding is_start_wrong
starts_first n starts r some =
    let right : is_start_wrong n starts 0 ≡ false = r.right 0 some in
    grind (arith, nat_tests)

pub starts_inside : (n : ℕ) (starts : List ℕ) → StartsRight n starts → (i : ℕ) → i < length starts → get_or starts i 0 < n
unfolding is_start_wrong
starts_inside n starts r i within =
    let right : is_start_wrong n starts i ≡ false = r.right i within in
    grind (arith, nat_tests)

-- the lengths of the tables

tables_end : (w : List ℕ) → 6 + blocks_of w ≤ offsets_at w
unfolding offsets_at
tables_end w = grind (arith, nat_tests)

ends_end : (w : List ℕ) → version_of w ≡ 2 → offsets_at w ≡ 6 + 2 * blocks_of w
unfolding offsets_at
ends_end w two = rw two refl

size_rest : (w : List ℕ) → offsets_at w + len_of w ≤ size_of w
unfolding offsets_at size_of
size_rest w = grind (arith, nat_tests)

pub length_starts : (w : List ℕ) → HasSizes w → length (starts_of w) ≡ blocks_of w
unfolding starts_of
length_starts w h = omega (arith, length-take (blocks_of w) (drop 6 w), length-drop 6 w, tables_end w, size_rest w, h.size)

pub length_offsets : (w : List ℕ) → HasSizes w → length (offsets_of w) ≡ len_of w
unfolding offsets_of
length_offsets w h = omega (arith, length-take (len_of w) (drop (offsets_at w) w), length-drop (offsets_at w) w, size_rest w, h.size)

length_multiples : (b a n : ℕ) → length (multiples b a n) ≡ n
unfolding multiples
length_multiples b a zero = refl
length_multiples b a (suc n) = rw (length_multiples b (a + b) n) refl

pub length_ends : (w : List ℕ) → HasSizes w → length (ends_of w) ≡ blocks_of w
unfolding ends_of
length_ends w h = elim (cases_eq (version_of w) 2) [
  | inl two ↦
      rw two (omega (arith, length-take (blocks_of w) (drop (6 + blocks_of w) w), length-drop (6 + blocks_of w) w, ends_end w two, size_rest w, h.size))
  | inr other ↦
      let none : (version_of w == 2) ≡ false = grind (arith, nat_tests) in
      rw none (length_multiples (block_words_of w) 0 (blocks_of w))
]

-- text word k is of block b
pub own_block : (w : List ℕ) (k b : ℕ) → HasSizes w → StartsRight (len_of w) (starts_of w) → b < blocks_of w →
    get_or (starts_of w) b 0 ≤ k → (b + 1 < blocks_of w → k < get_or (starts_of w) (b + 1) 0) → block_of (starts_of w) k ≡ b
own_block w k b h r within low high =
    let size : length (starts_of w) ≡ blocks_of w = length_starts w h in
    block_is (starts_of w) k b (starts_ascend (len_of w) (starts_of w) r) (rw size within) low (λ more. high (rw size at more))

pub first_is : (w : List ℕ) → HasSizes w → StartsRight (len_of w) (starts_of w) → get_or (starts_of w) 0 0 ≡ 0
first_is w h r = starts_first (len_of w) (starts_of w) r (omega (arith, length_starts w h, h.some))

start_up : (w : List ℕ) (b : ℕ) → HasSizes w → StartsRight (len_of w) (starts_of w) → b + 1 < blocks_of w →
    get_or (starts_of w) b 0 < get_or (starts_of w) (b + 1) 0
start_up w b h r within = (starts_ascend (len_of w) (starts_of w) r).next b (omega (arith, length_starts w h))

-- the block after the one before
pub own_next : (w : List ℕ) (k b : ℕ) → HasSizes w → StartsRight (len_of w) (starts_of w) → b + 1 < blocks_of w →
    get_or (starts_of w) (b + 1) 0 ≡ k → block_of (starts_of w) k ≡ b + 1
own_next w k b h r within same =
    own_block w k (b + 1) h r within (omega arith) (λ more. let up = start_up w (b + 1) h r more in omega arith)

pub start_on : (w : List ℕ) (k b : ℕ) → HasSizes w → StartsRight (len_of w) (starts_of w) →
    get_or (starts_of w) (b + 1) 0 ≡ k → b + 1 + 1 < blocks_of w → k < get_or (starts_of w) (b + 1 + 1) 0
start_on w k b h r same more = let up = start_up w (b + 1) h r more in omega arith

pub ruleset counted = (own_block, own_next, start_on, first_is)
