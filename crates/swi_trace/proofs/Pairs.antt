-- The table of two hexadecimal digits a byte.
use Rattle.std.proofs.Common.{inl, inr, ◌≡◌, ℕ, zero, suc, ◌+◌, ◌-◌, ◌*◌, ◌/◌, ◌%◌, ◌<◌, ◌≤◌, Bool, true, ◌&&◌, T, eqb, List, [], ◌∷◌, take, drop, length, slice_index, slice_range, eqb→eq, eq-zero-or-pos, arith, refl}
use lib.Ieee.Fits.{and_l, and_r}
use Rattle.hex.specs.Hex.{lower_digits, encode_with}
use Rattle.swi_line.specs.Hex.{hex_byte}
use Rattle.swi_trace.specs.declared.digits.TheConstants.{PAIRS}

abbrev first : ℕ → ℕ
first b = slice_index lower_digits (b / 16)

abbrev second : ℕ → ℕ
second b = slice_index lower_digits (b % 16)

abbrev are_pairs : ℕ → Bool
are_pairs zero = true
are_pairs (suc b) = (eqb (slice_index PAIRS (b * 2)) (first b) && eqb (slice_index PAIRS (b * 2 + 1)) (second b)) && are_pairs b

below : (n b : ℕ) → T (are_pairs n) → b < n → (slice_index PAIRS (b * 2) ≡ first b) × (slice_index PAIRS (b * 2 + 1) ≡ second b)
below zero b t h = absurd (omega arith)
below (suc n) b t h = elim (eq-zero-or-pos (n - b)) [
  | inl z ↦
      let e : b ≡ n = omega arith in
      let a = and_l _ (are_pairs n) t in
      rw e (eqb→eq _ _ (and_l _ _ a), eqb→eq _ _ (and_r _ _ a))
  | inr g ↦ below n b (and_r _ (are_pairs n) t) (omega arith)
]

two_at : (xs : List ℕ) (i : ℕ) → i + 2 ≤ length xs → take 2 (drop i xs) ≡ slice_index xs i ∷ slice_index xs (i + 1) ∷ []
two_at [] i few = absurd (omega arith)
two_at (x ∷ []) zero few = absurd (omega arith)
two_at (x ∷ y ∷ rest) zero few = refl
two_at (x ∷ xs) (suc i) few = let next : suc i + 1 ≡ suc (i + 1) = omega arith in rw next (two_at xs i (omega arith))

pub pair_is : (b : ℕ) → b < 256 → slice_range PAIRS (b * 2) (b * 2 + 2) ≡ hex_byte b
unfolding encode_with
pair_is b byte =
    let size : (b * 2 + 2) - b * 2 ≡ 2 = omega arith in
    let two : take 2 (drop (b * 2) PAIRS) ≡ slice_index PAIRS (b * 2) ∷ slice_index PAIRS (b * 2 + 1) ∷ [] =
    two_at PAIRS (b * 2) (omega arith) in
    let digits = below 256 b tt byte in
    rw (size, two, digits.0, digits.1) refl
