-- Links that are collected from words.
use Rattle.std.proofs.Common.{◌≡◌, ℕ, suc, zero, ◌<◌, Bool, true, false, filter, Option, Some, None, arith, refl, sym, ◌∙◌, ap, subst, inl, inr}
use Rattle.std.proofs.lemmas.Bool.{cases_eq, or_cases, or_right, or_left, and_parts, and_from, false_from_ne_true}
use Rattle.swi_rom.specs.Record.{Link, same_link, has_link}
use Rattle.swi_rom.specs.Policy.{with_link}
use Rattle.swi_rom.specs.Collected.{collected}
use Rattle.swi_rom.specs.Links.{Ascending, has_with, same_is, same_same, same_ascending, with_ascending}
use Rattle.swi_rom.specs.Collected.{Differ, has_filter, filter_ascending, collected_has, has_collected, collected_ascending}
use Rattle.swi_rom.specs.Links.{same_tests}

pub some_link : (k l : Link) → Some k ≡ Some l → k ≡ l
some_link k l e = cc

pub none_link : (o : Option Link) (k : Link) → o ≡ None → o ≡ Some k → ⊥
none_link o k e f = cc

-- from words that are the same links
pub collected_alike : (f g : ℕ → Option Link) (n : ℕ) → ((i : ℕ) → i < n → f i ≡ g i) → collected f n ≡ collected g n
unfolding collected
collected_alike f g zero same = refl
collected_alike f g (suc n) same =
    let rest = collected_alike f g n (λ i lt. same i (omega arith)) in
    rw (same n (omega arith), rest) refl

-- from words that are the same links as far as these pass a test
pub collected_filter : (p : Link → Bool) (f g : ℕ → Option Link) (n : ℕ) → Differ f n → ((i : ℕ) (k : Link) → i < n → g i ≡ Some k → (f i ≡ Some k) × (p k ≡ true)) →
    ((i : ℕ) (k : Link) → i < n → f i ≡ Some k → p k ≡ true → g i ≡ Some k) → collected g n ≡ filter p (collected f n)
collected_filter p f g n differ to from =
    let apart : Differ g n = λ i j k lt lt' e e'. differ i j k lt lt' (to i k lt e).0 (to j k lt' e').0 in
    same_ascending (collected g n) (filter p (collected f n)) (collected_ascending g n apart) (filter_ascending p (collected f n) (collected_ascending f n differ))
    (λ k. same_tests (has_link (collected g n) k) (has_link (filter p (collected f n)) k)
    (λ h. let w = collected_has g n k h in
    let e = to w.0 k w.1 w.2 in
    has_filter p (collected f n) k ∙ and_from _ _ (has_collected f n w.0 k w.1 e.0) e.1)
    (λ h. let q = and_parts _ _ (sym (has_filter p (collected f n) k) ∙ h) in
    let w = collected_has f n k q.0 in
    has_collected g n w.0 k w.1 (from w.0 k w.1 w.2 q.1)))

-- from words of which one more is a link
pub collected_more : (f g : ℕ → Option Link) (n at : ℕ) (k : Link) → Differ g n → at < n → f at ≡ None → g at ≡ Some k → ((i : ℕ) → (i ≡ at → ⊥) → g i ≡ f i) →
    collected g n ≡ with_link k (collected f n)
collected_more f g n at k differ lt free here same =
    let away : (i : ℕ) (l : Link) → f i ≡ Some l → i ≡ at → ⊥ = λ i l e s. none_link (f at) l free (ap f (sym s) ∙ e) in
    let over : (i : ℕ) (l : Link) → f i ≡ Some l → g i ≡ Some l = λ i l e. same i (away i l e) ∙ e in
    let apart : Differ f n = λ i j l lt lt' e e'. differ i j l lt lt' (over i l e) (over j l e') in
    let up : Ascending (collected f n) = collected_ascending f n apart in
    let new : has_link (collected f n) k ≡ false = false_from_ne_true (has_link (collected f n) k) (λ (h : has_link (collected f n) k ≡ true).
    let w = collected_has f n k h in
    away w.0 k w.2 (differ w.0 at k w.1 lt (over w.0 k w.2) here)) in
    same_ascending (collected g n) (with_link k (collected f n)) (collected_ascending g n differ) (with_ascending k (collected f n) up new)
    (λ l. same_tests (has_link (collected g n) l) (has_link (with_link k (collected f n)) l)
    (λ h. let w = collected_has g n l h in
    has_with k (collected f n) l ∙ elim (cases_eq w.0 at) [
      | inl e ↦ (let is : l ≡ k = some_link l k (sym w.2 ∙ ap g e ∙ here) in or_left _ _ (subst (λ (j : Link). same_link l j ≡ true) is (same_same l)))
      | inr ne ↦ or_right _ _ (has_collected f n w.0 l w.1 (sym (same w.0 ne) ∙ w.2))
    ])
    (λ h. elim (or_cases (same_link l k) (has_link (collected f n) l) (sym (has_with k (collected f n) l) ∙ h)) [
      | inl e ↦ has_collected g n at l lt (here ∙ ap (λ (j : Link). Some j) (sym (same_is l k e)))
      | inr i ↦ (let w = collected_has f n l i in has_collected g n w.0 l w.1 (over w.0 l w.2))
    ]))
