-- A list with just the cells behind the indices that pass a test is as long as there are such indices.
use Rattle.std.proofs.Common.{◌≡◌, ℕ, zero, suc, ◌+◌, ◌-◌, ◌<◌, Bool, true, false, if◌then◌else◌, List, [], ◌∷◌, length, Option, arith, refl, sym, ◌∙◌, ap, inl, inr}
use Rattle.std.proofs.lemmas.Bool.{cases_eq}
use Rattle.swi_rom.specs.Collected.{passes, passing}
use Rattle.swi_rom.specs.Record.{Link}
use Rattle.swi_links.specs.Chains.{Has, Distinct, without}
use Rattle.swi_links.specs.Laws.{has_without, without_has}
use Rattle.swi_links.proofs.Chain.{distinct_without}
use Rattle.swi_slots.specs.Steps.{leads_in, leading_in}
use Rattle.swi_chip.proofs.Owning.{without_shorter}

-- how many of the first n indices pass
abbrev pub told : (ℕ → Bool) → ℕ → ℕ
told t zero = 0
told t (suc n) = if t n then told t n + 1 else told t n

abbrev ArePassing : (ℕ → Bool) → ℕ → List ℕ → Type 0
ArePassing t n L = (x : ℕ) → Has L x → (0 < x) × (x - 1 < n) × (t (x - 1) ≡ true)

abbrev AreAll : (ℕ → Bool) → ℕ → List ℕ → Type 0
AreAll t n L = (i : ℕ) → i < n → t i ≡ true → Has L (i + 1)

told_step : (q : Bool) (t : ℕ → Bool) (n : ℕ) (L : List ℕ) → t n ≡ q → Distinct L → ArePassing t (suc n) L → AreAll t (suc n) L →
    ((M : List ℕ) → Distinct M → ArePassing t n M → AreAll t n M → length M ≡ told t n) → length L ≡ (if q then told t n + 1 else told t n)
told_step true t n L e d are all ih =
    let here : Has L (n + 1) = all n (omega arith) e in
    let rest : length (without (n + 1) L) ≡ told t n = ih (without (n + 1) L) (distinct_without (n + 1) L d)
    (λ x h. (let w = has_without (n + 1) x L h in let a = are x w.0 in (a.0, (let p = a.0 in let q = a.1 in let ne = w.1 in omega (arith, p, q, ne)), a.2)))
    (λ i lt g. without_has (n + 1) (i + 1) L (all i (omega arith) g) (λ z. omega (arith, z, lt))) in
    let one : length (without (n + 1) L) + 1 ≡ length L = without_shorter (n + 1) L d here in
    omega (arith, rest, one)
told_step false t n L e d are all ih =
    ih L d (λ x h. (let a = are x h in (a.0, not_last x a.0 a.1 a.2, a.2))) (λ i lt g. all i (omega arith) g)
  where
    not_last : (x : ℕ) → 0 < x → x - 1 < suc n → t (x - 1) ≡ true → x - 1 < n
    not_last x p q r = elim (cases_eq (x - 1) n) [
      | inl z ↦ absurd (let two : true ≡ false = sym r ∙ (ap t z ∙ e) in cc)
      | inr ne ↦ omega (arith, q, ne)
    ]

pub counted_cells : (t : ℕ → Bool) (n : ℕ) (L : List ℕ) → Distinct L → ArePassing t n L → AreAll t n L → length L ≡ told t n
counted_cells t zero [] d are all = refl
counted_cells t zero (x ∷ xs) d are all = absurd (let e = (are x (inl refl)).1 in omega (arith, e))
counted_cells t (suc n) L d are all = told_step (t n) t n L refl d are all (λ M. counted_cells t n M)

pub told_same : (t u : ℕ → Bool) (n : ℕ) → ((i : ℕ) → i < n → t i ≡ u i) → told t n ≡ told u n
told_same t u zero same = refl
told_same t u (suc n) same = rw (same n (omega arith), told_same t u n (λ i lt. same i (omega arith))) refl

-- the model's own counts are such
pub leading_told : (size slot : ℕ) (targets : List ℕ) (n : ℕ) → leading_in size slot targets n ≡ told (leads_in size slot targets) n
unfolding leading_in
leading_told size slot targets zero = refl
leading_told size slot targets (suc n) = rw (leading_told size slot targets n) refl

pub passing_told : (p : Link → Bool) (f : ℕ → Option Link) (n : ℕ) → passing p f n ≡ told (λ i. passes p (f i)) n
passing_told p f zero = refl
passing_told p f (suc n) = rw (passing_told p f n) refl
