-- Which words leave, and how many.
use Rattle.std.proofs.Common.{◌≡◌, ◌⊎◌, ℕ, suc, zero, ◌+◌, ◌<◌, ◌≤◌, ◌==◌, ◌&&◌, ◌||◌, Bool, true, false, List, if◌then◌else◌, arith, refl, ◌∙◌, ap, inl, inr}
use Rattle.std.proofs.lemmas.Bool.Decides.{nat_tests}
use Rattle.std.proofs.lemmas.Bool.{cases_eq, cases_lt, eq-eqb, ne_eqb, both_ways}
use Rattle.swi_links.specs.Holders.{holder_of}
use Rattle.swi_links.specs.Undone.{is_own, comes_in, coming_in, is_dropped}

-- which words are the block's own
pub own_is : (first n i : ℕ) → is_own first n i ≡ true → (first ≤ i) × (i < first + n)
own_is first n i e = (grind (arith, nat_tests), grind (arith, nat_tests))

pub is_own_from : (first n i : ℕ) → first ≤ i → i < first + n → is_own first n i ≡ true
is_own_from first n i le lt = grind (arith, nat_tests)

pub own_not : (first n i : ℕ) → is_own first n i ≡ false → (i < first) ⊎ (first + n ≤ i)
own_not first n i e = elim (cases_lt i first) [
  | inl lt ↦ inl lt
  | inr le ↦ elim (cases_lt i (first + n)) [
    | inl lt ↦ absurd (both_ways (is_own first n i) e (is_own_from first n i le lt))
    | inr past ↦ inr past
  ]
]

-- which words come into the block
and_no : (x : Bool) → (x && false) ≡ false
and_no true = refl
and_no false = refl

or_yes : (x : Bool) → (x || true) ≡ true
or_yes true = refl
or_yes false = refl

pub own_tells : (list first n i : ℕ) (ls : List (List ℕ)) → is_own first n i ≡ true → (is_dropped list first n ls i ≡ true) × (comes_in list first n ls i ≡ false)
own_tells list first n i ls e = (rw e (or_yes (holder_of ls i == list && false)), rw e (and_no (holder_of ls i == list)))

pub comes_tells : (list first n i : ℕ) (ls : List (List ℕ)) → is_own first n i ≡ false → holder_of ls i ≡ list → (is_dropped list first n ls i ≡ true) × (comes_in list first n ls i ≡ true)
comes_tells list first n i ls e is = let t = eq-eqb (holder_of ls i) list is in (rw (t, e) refl, rw (t, e) refl)

pub none_tells : (list first n i : ℕ) (ls : List (List ℕ)) → is_own first n i ≡ false → (holder_of ls i ≡ list → ⊥) → (is_dropped list first n ls i ≡ false) × (comes_in list first n ls i ≡ false)
none_tells list first n i ls e ne = let t = ne_eqb (holder_of ls i) list ne in (rw (t, e) refl, rw t refl)

pub other_tells : (list first n i : ℕ) (ls : List (List ℕ)) → (holder_of ls i ≡ list → ⊥) → comes_in list first n ls i ≡ false
other_tells list first n i ls ne = let t = ne_eqb (holder_of ls i) list ne in rw t refl

pub coming_most : (list first n k : ℕ) (ls : List (List ℕ)) → coming_in list first n ls k ≤ k
unfolding coming_in
coming_most list first n zero ls = omega arith
coming_most list first n (suc k) ls = most (comes_in list first n ls k) (coming_in list first n ls k) k (coming_most list first n k ls)
  where
    most : (t : Bool) (m k : ℕ) → m ≤ k → (if t then m + 1 else m) ≤ suc k
    most true m k le = omega (arith, le)
    most false m k le = omega (arith, le)

pub coming_alike : (list first n k : ℕ) (ls ms : List (List ℕ)) → ((i : ℕ) → i < k → comes_in list first n ls i ≡ comes_in list first n ms i) → coming_in list first n ls k ≡ coming_in list first n ms k
unfolding coming_in
coming_alike list first n zero ls ms alike = refl
coming_alike list first n (suc k) ls ms alike =
    let rest = coming_alike list first n k ls ms (λ i lt. alike i (omega arith)) in
    rw (alike k (omega arith), rest) refl

-- where the tests differ at one word alone, there is one less
pub coming_less : (list first n k at : ℕ) (ls ms : List (List ℕ)) → at < k → comes_in list first n ls at ≡ true → comes_in list first n ms at ≡ false →
    ((i : ℕ) → i < k → (i ≡ at → ⊥) → comes_in list first n ls i ≡ comes_in list first n ms i) → coming_in list first n ls k ≡ coming_in list first n ms k + 1
unfolding coming_in
coming_less list first n zero at ls ms lt was now alike = absurd (omega arith)
coming_less list first n (suc k) at ls ms lt was now alike = elim (cases_eq k at) [
  | inl e ↦ (
      let here : comes_in list first n ls k ≡ true = ap (λ (i : ℕ). comes_in list first n ls i) e ∙ was in
      let gone : comes_in list first n ms k ≡ false = ap (λ (i : ℕ). comes_in list first n ms i) e ∙ now in
      let rest = coming_alike list first n k ls ms (λ i below. alike i (omega arith) (λ (f : i ≡ at). omega (arith, f, e))) in
      rw (here, gone, rest) refl)
  | inr ne ↦ (
      let same = alike k (omega arith) ne in
      let rest = coming_less list first n k at ls ms (differ k at lt ne) was now (λ i below other. alike i (omega arith) other) in
      rw (same, rest) (one (comes_in list first n ms k) (coming_in list first n ms k)))
]
  where
    differ : (k at : ℕ) → at < suc k → (k ≡ at → ⊥) → at < k
    differ k at lt ne = grind (arith)

    one : (t : Bool) (m : ℕ) → (if t then m + 1 + 1 else m + 1) ≡ (if t then m + 1 else m) + 1
    one true m = refl
    one false m = refl

-- lists without links to the list
pub coming_nothing : (list first n k : ℕ) (ls : List (List ℕ)) → ((i : ℕ) → i < k → holder_of ls i ≡ list → ⊥) → coming_in list first n ls k ≡ 0
unfolding coming_in
coming_nothing list first n zero ls unlinked = refl
coming_nothing list first n (suc k) ls unlinked =
    let none : comes_in list first n ls k ≡ false = other_tells list first n k ls (unlinked k (omega arith)) in
    rw none (coming_nothing list first n k ls (λ i lt. unlinked i (omega arith)))
