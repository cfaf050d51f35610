-- Lists of numbers that are all different.
use Rattle.std.proofs.Common.{◌≡◌, ◌⊎◌, ℕ, ◌<◌, ◌≤◌, ◌==◌, true, false, List, [], ◌∷◌, ◌++◌, length, refl, sym, subst, inl, inr}
use Rattle.std.specs.List.{AllByRecursion, IsDistinct, list_any}
use Rattle.std.proofs.lemmas.Bool.{eqb-true, ne_eqb, or_cases, both_ways}
use Rattle.std.proofs.lemmas.Map.Steps.{length-le_from_distinct_below}
use Rattle.swi_links.specs.Chains.{Has, Distinct}

any_has : (xs : List ℕ) (q : ℕ) → list_any (λ (y : ℕ). q == y) xs ≡ true → Has xs q
any_has [] q h = absurd (both_ways false refl h)
any_has (x ∷ xs) q h = elim (or_cases (q == x) (list_any (λ (y : ℕ). q == y) xs) h) [ inl e ↦ inl (sym (eqb-true q x e)) | inr r ↦ inr (any_has xs q r) ]

differ : (x : ℕ) (xs : List ℕ) → (Has xs x → ⊥) → AllByRecursion (λ (y : ℕ). (x == y) ≡ false) xs
differ x [] f = tt
differ x (y ∷ ys) f = (ne_eqb x y (λ (e : x ≡ y). f (inl (sym e))), differ x ys (λ (h : Has ys x). f (inr h)))

distinct_is : (xs : List ℕ) → Distinct xs → IsDistinct (λ (a b : ℕ). a == b) xs
unfolding IsDistinct
distinct_is [] d = tt
distinct_is (x ∷ xs) d = (differ x xs d.0, distinct_is xs d.1)

-- there are no more of them below a number than it says
pub distinct_few : (xs : List ℕ) (n : ℕ) → Distinct xs → ((x : ℕ) → Has xs x → x < n) → length xs ≤ n
distinct_few xs n d below = length-le_from_distinct_below xs n (distinct_is xs d) (λ x any. below x (any_has xs x any))

-- and so there is room for one more that is below it too
pub distinct_fewer : (xs : List ℕ) (n b : ℕ) → Distinct xs → ((x : ℕ) → Has xs x → x < n) → b < n → (Has xs b → ⊥) → length xs < n
distinct_fewer xs n b d below lt lacks = distinct_few (b ∷ xs) n (lacks, d) all
  where
    all : (x : ℕ) → Has (b ∷ xs) x → x < n
    all x (inl e) = subst (λ (y : ℕ). y < n) e lt
    all x (inr h) = below x h

-- one more behind all others
pub has_append : (xs : List ℕ) (b x : ℕ) → Has (xs ++ b ∷ []) x → Has xs x ⊎ (b ≡ x)
has_append [] b x (inl e) = inr e
has_append [] b x (inr h) = absurd h
has_append (y ∷ ys) b x (inl e) = inl (inl e)
has_append (y ∷ ys) b x (inr h) = elim (has_append ys b x h) [ inl i ↦ inl (inr i) | inr e ↦ inr e ]

pub append_has : (xs : List ℕ) (b x : ℕ) → Has xs x → Has (xs ++ b ∷ []) x
append_has [] b x h = absurd h
append_has (y ∷ ys) b x (inl e) = inl e
append_has (y ∷ ys) b x (inr h) = inr (append_has ys b x h)

pub append_here : (xs : List ℕ) (b : ℕ) → Has (xs ++ b ∷ []) b
append_here [] b = inl refl
append_here (y ∷ ys) b = inr (append_here ys b)

pub append_distinct : (xs : List ℕ) (b : ℕ) → Distinct xs → (Has xs b → ⊥) → Distinct (xs ++ b ∷ [])
append_distinct [] b d lacks = (λ h. h, tt)
append_distinct (y ∷ ys) b d lacks =
    (λ h. elim (has_append ys b y h) [ inl i ↦ d.0 i | inr e ↦ lacks (inl (sym e)) ], append_distinct ys b d.1 (λ h. lacks (inr h)))
