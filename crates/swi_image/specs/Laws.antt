-- What follows for every image from `IsImage`: laws that other crates may use.
use Rattle.std.proofs.Common.{◌≡◌, ℕ, ◌+◌, ◌-◌, ◌*◌, ◌/◌, ◌%◌, ◌<◌, ◌≤◌, ◌==◌, ◌&&◌, true, false, zero, suc, List, [], ◌∷◌, length, get_or, arith, refl, ap, subst, sym, ◌∙◌, Some, None, inl, inr, nat_le, nat_lt}
use Rattle.std.proofs.lemmas.Bool.Decides.{nat_tests}
use Rattle.std.proofs.lemmas.Bool.{cases_Bool, cases_eq, cases_lt}
use Rattle.swi_image.specs.Format.{ImageData}
use Rattle.swi_image.specs.Checks.{at_most, block_of}
use Rattle.swi_image.specs.Place.{distance, place_of, place_of_word, length_at, next_of, IsWordOf}
use Rattle.swi_image.specs.Sound.{IsImage}

pub all_above : (x : ℕ) (xs : List ℕ) → ((i : ℕ) → i < length xs → x < get_or xs i 0) → at_most x xs ≡ 0
all_above x [] above = refl
all_above x (y ∷ ys) above =
    let here : nat_le y x ≡ false = (let far : x < y = above 0 (omega arith) in grind (arith, nat_tests)) in
    rw here (all_above x ys (λ i within. above (suc i) (omega arith)))

pub at_most_le : (x : ℕ) (xs : List ℕ) → at_most x xs ≤ length xs
at_most_le x [] = omega arith
at_most_le x (y ∷ ys) = elim (cases_Bool (nat_le y x)) [
  | inl held ↦ rw held (omega (arith, at_most_le x ys))
  | inr far ↦ rw far (omega (arith, at_most_le x ys))
]

-- some block is that of each text word
pub block_inside : (starts : List ℕ) (k : ℕ) → 1 ≤ length starts → block_of starts k < length starts
block_inside starts k some = omega (arith, at_most_le k starts)

-- each number is above the one before
pub record Ascends (xs : List ℕ) : Type 0 where
  pub next : (i : ℕ) → i + 1 < length xs → get_or xs i 0 < get_or xs (i + 1) 0

pub ascends_by : (xs : List ℕ) → Ascends xs → (i d : ℕ) → i + d < length xs → get_or xs i 0 + d ≤ get_or xs (i + d) 0
ascends_by xs up i zero within =
    let same : i + 0 ≡ i = omega arith in
    rw same (omega arith)
ascends_by xs up i (suc d) within =
    let before : get_or xs i 0 + d ≤ get_or xs (i + d) 0 = ascends_by xs up i d (omega arith) in
    let step : get_or xs (i + d) 0 < get_or xs (i + d + 1) 0 = up.next (i + d) (omega arith) in
    let on : i + suc d ≡ i + d + 1 = omega arith in
    rw on (omega arith)

pub ascends : (xs : List ℕ) → Ascends xs → (i j : ℕ) → i ≤ j → j < length xs → get_or xs i 0 + (j - i) ≤ get_or xs j 0
ascends xs up i j low within =
    let on : i + (j - i) ≡ j = omega arith in
    rw on at (ascends_by xs up i (j - i) (omega arith))

bound_first : (x y : ℕ) (ys : List ℕ) (i : ℕ) → y ≤ x → ((k : ℕ) → k < at_most x ys → get_or ys k 0 ≤ x) → i < suc (at_most x ys) → get_or (y ∷ ys) i 0 ≤ x
bound_first x y ys zero near rest within = near
bound_first x y ys (suc i) near rest within = rest i (omega arith)

bound_rest : (x y : ℕ) (ys : List ℕ) (i : ℕ) → ((k : ℕ) → at_most x ys ≤ k → k < length ys → x < get_or ys k 0) → suc (at_most x ys) ≤ i → i < suc (length ys) → x < get_or (y ∷ ys) i 0
bound_rest x y ys zero rest low within = absurd (omega arith)
bound_rest x y ys (suc i) rest low within = rest i (omega arith) (omega arith)

-- those that are at most x, and those that are above
pub at_most_bounds : (x : ℕ) (xs : List ℕ) → Ascends xs → ((i : ℕ) → i < at_most x xs → get_or xs i 0 ≤ x) × ((i : ℕ) → at_most x xs ≤ i → i < length xs → x < get_or xs i 0)
at_most_bounds x [] up = (λ i low. absurd (omega arith), λ i low high. absurd (omega arith))
at_most_bounds x (y ∷ ys) up =
    let tail : Ascends ys = record { next = λ i within. (let on : suc i + 1 ≡ suc (i + 1) = omega arith in rw on at (up.next (suc i) (omega arith))) } in
    elim (cases_lt x y) [
      | inl far ↦
          let rest : (i : ℕ) → i < length (y ∷ ys) → x < get_or (y ∷ ys) i 0 = λ i within. (let step : y + (i - 0) ≤ get_or (y ∷ ys) i 0 = ascends (y ∷ ys) up 0 i (omega arith) within in omega arith) in
          let none : at_most x (y ∷ ys) ≡ 0 = all_above x (y ∷ ys) rest in
          (λ i low. absurd (omega arith), λ i low within. rest i within)
      | inr near ↦
          let here : nat_le y x ≡ true = grind (arith, nat_tests) in
          let more = at_most_bounds x ys tail in
          rw here (λ i low. bound_first x y ys i near (more.0) (omega arith), λ i low within. bound_rest x y ys i (more.1) (omega arith) (omega arith))
    ]

next_above : (starts : List ℕ) (n k b : ℕ) → k < n → (b + 1 < length starts → k < get_or starts (b + 1) 0) → k < next_of starts n b
next_above starts n k b within above = elim (cases_lt (b + 1) (length starts)) [
  | inl more ↦ let t : nat_lt (b + 1) (length starts) ≡ true = grind (arith, nat_tests) in rw t (above more)
  | inr last ↦ let t : nat_lt (b + 1) (length starts) ≡ false = grind (arith, nat_tests) in rw t within
]

-- the block of a text word has it
pub in_block : (starts : List ℕ) (n k : ℕ) → Ascends starts → 1 ≤ length starts → get_or starts 0 0 ≡ 0 → k < n →
    (block_of starts k < length starts) × (get_or starts (block_of starts k) 0 ≤ k) × (k < next_of starts n (block_of starts k))
in_block starts n k up some first within =
    let bounds = at_most_bounds k starts up in
    let few : at_most k starts ≤ length starts = at_most_le k starts in
    let one : 0 < at_most k starts = elim (cases_eq (at_most k starts) 0) [
      | inl none ↦ let far : k < get_or starts 0 0 = bounds.1 0 (omega arith) (omega arith) in absurd (omega arith)
      | inr more ↦ omega arith
    ] in
    (omega arith, bounds.0 (block_of starts k) (omega arith), next_above starts n k (block_of starts k) within (λ more. bounds.1 (block_of starts k + 1) (omega arith) more))

same_pair : (p q : ℕ × ℕ) → Some p ≡ Some q → (q.0 ≡ p.0) × (q.1 ≡ p.1)
same_pair p q e =
    let same : p ≡ q = cc in
    (ap (λ (r : ℕ × ℕ). r.0) (sym same), ap (λ (r : ℕ × ℕ). r.1) (sym same))

none_some : (p : ℕ × ℕ) → None ≡ Some p → ⊥
none_some p e = cc

-- a place is that of one of the text words
pub place_is : (v : ImageData) (a b o : ℕ) → place_of v a ≡ Some (b, o) →
    (distance v a / 4 < length v.offsets) × (b ≡ block_of v.starts (distance v a / 4)) × (o ≡ get_or v.offsets (distance v a / 4) 0)
unfolding place_of
place_is v a b o e = elim (cases_Bool (distance v a % 4 == 0 && nat_lt (distance v a / 4) (length v.offsets))) [
  | inl held ↦
      let here : Some (place_of_word v (distance v a / 4)) ≡ Some (b, o) = rw held at e in
      let same = same_pair (place_of_word v (distance v a / 4)) (b, o) here in
      (grind (arith, nat_tests), same.0, same.1)
  | inr missing ↦ absurd (none_some (b, o) (rw missing at e))
]

-- the text word at a distance has its place, and at no other distance is there one
pub place_found : (v : ImageData) (a k : ℕ) → distance v a ≡ 4 * k → k < length v.offsets → place_of v a ≡ Some (place_of_word v k)
unfolding place_of
place_found v a k is within =
    let whole : (distance v a % 4 == 0) ≡ true = grind (arith, nat_tests) in
    let number : distance v a / 4 ≡ k = omega arith in
    let inside : nat_lt k (length v.offsets) ≡ true = grind (arith, nat_tests) in
    rw (whole, number, inside) refl

pub place_none : (v : ImageData) (a : ℕ) → (distance v a % 4 ≡ 0 → length v.offsets ≤ distance v a / 4) → place_of v a ≡ None
unfolding place_of
place_none v a far = elim (cases_eq (distance v a % 4) 0) [
  | inl whole ↦
      let past : nat_lt (distance v a / 4) (length v.offsets) ≡ false = (let most = far whole in grind (arith, nat_tests)) in
      rw past (grind (arith, nat_tests))
  | inr other ↦
      let part : (distance v a % 4 == 0) ≡ false = grind (arith, nat_tests) in
      rw part refl
]

pub place_whole : (v : ImageData) (a : ℕ) (place : ℕ × ℕ) → place_of v a ≡ Some place → distance v a % 4 ≡ 0
place_whole v a place e = elim (cases_eq (distance v a % 4) 0) [
  | inl whole ↦ whole
  | inr other ↦ absurd (none_some place (sym (place_none v a (λ whole. absurd (other whole))) ∙ e))
]

-- each place lies inside its block
pub place_inside : (v : ImageData) → IsImage v → (a b o : ℕ) → place_of v a ≡ Some (b, o) → (b < length v.blocks) × (o < length_at v b)
place_inside v i a b o e =
    let p = place_is v a b o e in
    let k : ℕ = distance v a / 4 in
    let own = in_block v.starts (length v.offsets) k (record { next = i.ascending }) i.some i.first p.0 in
    let within : get_or v.offsets k 0 < length_at v (block_of v.starts k) = i.within k p.0 in
    (omega (arith, p.1, own.0, i.blocks), rw (p.1, p.2) within)

-- a place in a block is that of one of its text words
pub place_lands : (v : ImageData) → IsImage v → (a b o : ℕ) → place_of v a ≡ Some (b, o) → IsWordOf v b (distance v a / 4)
place_lands v i a b o e =
    let p = place_is v a b o e in
    let k : ℕ = distance v a / 4 in
    let own = in_block v.starts (length v.offsets) k (record { next = i.ascending }) i.some i.first p.0 in
    subst (λ (n : ℕ). IsWordOf v n k) (sym p.1) (record { from = own.1; to = own.2; inside = i.within k p.0 })
