-- Sets of caches as numbers, as the code meets them.
use Rattle.std.proofs.Common.{◌≡◌, ℕ, zero, suc, ◌-◌, ◌*◌, ◌/◌, ◌%◌, ◌^◌, ◌<◌, ◌≤◌, ◌==◌, min, arith, ◌&&◌, ◌||◌, Bool, true, false, not, bit_and, bit_or, w64, refl, sym, ◌∙◌, ap, inl, inr}
use Rattle.std.proofs.lemmas.Bool.{cases_eq, eq-eqb, ne_eqb, or_right, and_right, both_ways, not_from_true}
use Rattle.std.proofs.lemmas.Nat.Bits.{shr_and_one, bit_at_set_same, bit_at_set_other, bit_at_clear_same, bit_at_clear_other, bit_at-lt, bit_at-zero, bit_at_and, bit_at_not, bit_at-trailing_zeros}
use Rattle.std.proofs.lemmas.Nat.{and_le_l}
use Rattle.std.specs.Int.{bit_at, trailing_zeros}
use Rattle.swi_tally.specs.Masks.{has}

pub not_on : (t : Bool) → not t ≡ true → t ≡ false
not_on true e = absurd cc
not_on false e = refl

pub tested : (m c : ℕ) → (bit_and (m / 2 ^ c) 1 == 1) ≡ has m c
unfolding has
tested m c = ap (λ (n : ℕ). n == 1) (shr_and_one m c)

pub or_none : (x : Bool) → (x || false) ≡ x
or_none true = refl
or_none false = refl

pub and_all : (x : Bool) → (x && true) ≡ x
and_all true = refl
and_all false = refl

pub joined : (m c d : ℕ) → c < 64 → d < 64 → has (bit_or m (1 * 2 ^ c % 18446744073709551616)) d ≡ (has m d || d == c)
unfolding has
joined m c d lt lt' = elim (cases_eq d c) [
  | inl e ↦ rw e (ap (λ (n : ℕ). n == 1) (bit_at_set_same w64 m c lt) ∙ sym (or_right (has m c) (c == c) (eq-eqb c c refl)))
  | inr ne ↦
      ap (λ (n : ℕ). n == 1) (bit_at_set_other w64 m c lt d ne) ∙ sym (ap (λ (t : Bool). has m d || t) (ne_eqb d c ne) ∙ or_none (has m d))
]

pub parted : (m c d : ℕ) → c < 64 → d < 64 → has (bit_and m (18446744073709551615 - 1 * 2 ^ c % 18446744073709551616)) d ≡ (has m d && not (d == c))
unfolding has
parted m c d lt lt' = elim (cases_eq d c) [
  | inl e ↦ rw e (ap (λ (n : ℕ). n == 1) (bit_at_clear_same w64 m c lt) ∙ sym (and_right (has m c) (not (c == c)) (not_from_true (c == c) (eq-eqb c c refl))))
  | inr ne ↦
      ap (λ (n : ℕ). n == 1) (bit_at_clear_other w64 m c lt d lt' ne) ∙ sym (ap (λ (t : Bool). has m d && not t) (ne_eqb d c ne) ∙ and_all (has m d))
]

-- a set without one of its caches is a smaller number
pub fewer : (m c : ℕ) → c < 64 → has m c ≡ true → bit_and m (18446744073709551615 - 1 * 2 ^ c % 18446744073709551616) < m
fewer m c lt is = below (bit_and m (18446744073709551615 - 1 * 2 ^ c % 18446744073709551616)) (and_le_l m _) (λ same. both_ways (has m c) (sym (ap (λ (n : ℕ). has n c) same) ∙ gone) is)
  where
    below : (n : ℕ) → n ≤ m → (n ≡ m → ⊥) → n < m
    below n le ne = grind arith

    off : (t : Bool) → (t && not true) ≡ false
    off true = refl
    off false = refl

    gone : has (bit_and m (18446744073709551615 - 1 * 2 ^ c % 18446744073709551616)) c ≡ false
    gone = parted m c c lt lt ∙ ap (λ (t : Bool). has m c && not t) (eq-eqb c c refl) ∙ off (has m c)

-- what one set has and another has not
both_bits : (x y : ℕ) → x < 2 → y < 2 → (min x (1 - y) == 1) ≡ ((x == 1) && not (y == 1))
both_bits zero zero lt lt' = refl
both_bits zero (suc zero) lt lt' = refl
both_bits zero (suc (suc y)) lt lt' = absurd (omega (arith, lt'))
both_bits (suc zero) zero lt lt' = refl
both_bits (suc zero) (suc zero) lt lt' = refl
both_bits (suc zero) (suc (suc y)) lt lt' = absurd (omega (arith, lt'))
both_bits (suc (suc x)) y lt lt' = absurd (omega (arith, lt))

pub lacks : (m o d : ℕ) → o < 2 ^ 64 → d < 64 → has (bit_and m (18446744073709551615 - o)) d ≡ (has m d && not (has o d))
unfolding has
lacks m o d fits lt =
    ap (λ (n : ℕ). n == 1) (bit_at_and m (18446744073709551615 - o) d ∙ ap (λ (n : ℕ). min (bit_at m d) n) (bit_at_not w64 o d fits lt))
    ∙ both_bits (bit_at m d) (bit_at o d) (bit_at-lt m d) (bit_at-lt o d)

-- the first of a set
pub first_has : (m : ℕ) → 0 < m → m < 2 ^ 64 → (trailing_zeros w64 m < 64) × (has m (trailing_zeros w64 m) ≡ true)
unfolding has
first_has m some fits = let is = bit_at-trailing_zeros w64 m some fits in (is.0, eq-eqb _ 1 is.1)

-- and none has a cache
pub none_has : (m d : ℕ) → m ≤ 0 → has m d ≡ false
unfolding has
none_has m d none = let is : m ≡ 0 = omega (arith, none) in rw is (ap (λ (n : ℕ). n == 1) (bit_at-zero d))
