-- Which rows an area has lines of.
use Rattle.std.proofs.Common.{◌≡◌, ◌∙◌, ◌↔◌, ◌+◌, ◌-◌, ◌*◌, ◌<◌, ◌≤◌, ℕ, zero, suc, length, get_or, Contains, arith, refl, sym, ap}
use Rattle.swi_report.specs.State.{numbers, rows_met}

length-numbers : (first count : ℕ) → length (numbers first count) ≡ count
unfolding numbers
length-numbers first zero = refl
length-numbers first (suc count) = ap suc (length-numbers (first + 1) count)

number_at : (first count k d : ℕ) → k < count → get_or (numbers first count) k d ≡ first + k
unfolding numbers
number_at first zero k d within = absurd (omega arith)
number_at first (suc count) zero d within = omega arith
number_at first (suc count) (suc k) d within =
    let shift : (first + 1) + k ≡ first + suc k = omega arith in
    number_at (first + 1) count k d (omega arith) ∙ shift

within_numbers : (first count x : ℕ) → Contains (numbers first count) x → (first ≤ x) × (x < first + count)
within_numbers first count x held =
    let within : held.0 < count = omega (arith, held.1, length-numbers first count) in
    let is : first + held.0 ≡ x = sym (number_at first count held.0 x within) ∙ held.2 in
    (omega arith, omega arith)

numbers_within : (first count x : ℕ) → first ≤ x → x < first + count → Contains (numbers first count) x
numbers_within first count x from below =
    let within : x - first < count = omega arith in
    let is : first + (x - first) ≡ x = omega arith in
    (x - first, omega (arith, length-numbers first count), number_at first count (x - first) x within ∙ is)

-- they are those whose sixteen bytes meet the area's
pub rows_meet : (base size row : ℕ) → 0 < size
    → Contains (rows_met base size) row ↔ ((16 * row < base + size) × (base < 16 * row + 16))
rows_meet base size row some = (
  (λ held.
      let h = within_numbers _ _ row held in
      (omega (arith, h.0, h.1), omega (arith, h.0, h.1))),
  (λ meets. numbers_within _ _ row (omega (arith, meets.0, meets.1)) (omega (arith, meets.0, meets.1, some))),
)
