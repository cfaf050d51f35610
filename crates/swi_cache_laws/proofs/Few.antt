-- Elements that are all in a list, none twice, are no more than it has.
use Rattle.std.proofs.Common.{◌≡◌, ◌⊎◌, ℕ, suc, zero, ◌+◌, ◌<◌, ◌≤◌, List, [], ◌∷◌, ◌++◌, length, arith, refl, sym, ◌∙◌, ap, subst, inl, inr}
use Rattle.std.proofs.lemmas.Bool.{cases_eq}
use Rattle.swi_rom.specs.Record.{Has}

abbrev pub Distinct : {X : Type 0} → List X → Type 0
Distinct [] = Unit {0}
Distinct (x ∷ xs) = (Has xs x → ⊥) × Distinct xs

abbrev pub AreIn : {X : Type 0} → List X → List X → Type 0
AreIn {X} xs ys = (x : X) → Has xs x → Has ys x

pub has_left : {X : Type 0} (xs ys : List X) (x : X) → Has xs x → Has (xs ++ ys) x
has_left [] ys x h = absurd h
has_left (z ∷ xs) ys x (inl e) = inl e
has_left (z ∷ xs) ys x (inr h) = inr (has_left xs ys x h)

pub has_right : {X : Type 0} (xs ys : List X) (x : X) → Has ys x → Has (xs ++ ys) x
has_right [] ys x h = h
has_right (z ∷ xs) ys x h = inr (has_right xs ys x h)

pub has_append : {X : Type 0} (xs ys : List X) (x : X) → Has (xs ++ ys) x → Has xs x ⊎ Has ys x
has_append [] ys x h = inr h
has_append (z ∷ xs) ys x (inl e) = inl (inl e)
has_append (z ∷ xs) ys x (inr h) = elim (has_append xs ys x h) [ inl l ↦ inl (inr l) | inr r ↦ inr r ]

pub distinct_append : {X : Type 0} (xs : List X) (y : X) → Distinct xs → (Has xs y → ⊥) → Distinct (xs ++ y ∷ [])
distinct_append [] y d new = (λ h. h, tt)
distinct_append (x ∷ xs) y d new = (
  λ h. elim (has_append xs (y ∷ []) x h) [ inl l ↦ d.0 l | inr r ↦ elim r [ inl e ↦ new (inl (sym e)) | inr no_more ↦ absurd no_more ] ],
  distinct_append xs y d.1 (λ h. new (inr h)),
)

-- what elements weigh
abbrev pub total : {X : Type 0} → (X → ℕ) → List X → ℕ
total f [] = 0
total f (x ∷ xs) = f x + total f xs

pub total_append : {X : Type 0} (f : X → ℕ) (xs : List X) (y : X) → total f (xs ++ y ∷ []) ≡ total f xs + f y
total_append f [] y = omega arith
total_append f (x ∷ xs) y = omega (arith, total_append f xs y)

-- a list without one of its elements
record Without {X : Type 0} (f : X → ℕ) (ys : List X) (x : X) : Type 0 where
  rest : List X
  weight : total f ys ≡ f x + total f rest
  others : (z : X) → Has ys z → (x ≡ z → ⊥) → Has rest z

without : {X : Type 0} (f : X → ℕ) (ys : List X) (x : X) → Has ys x → Without f ys x
without f [] x h = absurd h
without f (y ∷ ys) x (inl e) = record {
  rest = ys;
  weight = ap (λ z. f z + total f ys) e;
  others = λ z g ne. elim g [ inl same ↦ absurd (ne (sym e ∙ same)) | inr i ↦ i ];
}
without f (y ∷ ys) x (inr h) =
    let w = without f ys x h in
    record {
      rest = y ∷ w.rest;
      weight = omega (arith, w.weight);
      others = λ z g ne. elim g [ inl same ↦ inl same | inr i ↦ inr (w.others z i ne) ];
    }

pub light_distinct : {X : Type 0} (f : X → ℕ) (xs ys : List X) → Distinct xs → AreIn xs ys → total f xs ≤ total f ys
light_distinct f [] ys d among = omega arith
light_distinct f (x ∷ xs) ys d among =
    let w = without f ys x (among x (inl refl)) in
    let rest : AreIn xs w.rest = λ z h. w.others z (among z (inr h)) (λ e. d.0 (subst (λ q. Has xs q) (sym e) h)) in
    omega (arith, w.weight, light_distinct f xs w.rest d.1 rest)

count_is : {X : Type 0} (xs : List X) → total (λ x. 1) xs ≡ length xs
count_is [] = refl
count_is (x ∷ xs) = omega (arith, count_is xs)

pub few_distinct : {X : Type 0} (xs ys : List X) → Distinct xs → AreIn xs ys → length xs ≤ length ys
few_distinct xs ys d among = omega (arith, light_distinct (λ x. 1) xs ys d among, count_is xs, count_is ys)

-- the numbers below n
abbrev pub numbers : ℕ → List ℕ
numbers zero = []
numbers (suc n) = n ∷ numbers n

pub length_numbers : (n : ℕ) → length (numbers n) ≡ n
length_numbers zero = refl
length_numbers (suc n) = ap suc (length_numbers n)

pub below_numbers : (n x : ℕ) → x < n → Has (numbers n) x
below_numbers zero x lt = absurd (omega arith)
below_numbers (suc n) x lt = elim (cases_eq x n) [
  | inl same ↦ inl (sym same)
  | inr ne ↦ inr (below_numbers n x (grind arith))
]
