-- Eight words whose common bits make no slot's number.
use Rattle.std.proofs.Common.{◌≡◌, ℕ, ◌+◌, ◌<◌, ◌≤◌, nat_le, true, List, slice_index, bit_and, arith, subst, sym, inl, inr}
use Rattle.std.proofs.lemmas.Bool.{cases_eq, cases_lt}
use Rattle.std.proofs.lemmas.Bool.Decides.{nat_tests}
use Rattle.std.proofs.lemmas.Nat.{and_le_l, and_le_r}

least : (s a b : ℕ) → s ≤ bit_and a b → (s ≤ a) × (s ≤ b)
least s a b le = (omega (arith, le, and_le_l a b), omega (arith, le, and_le_r a b))

four : (s at : ℕ) (xs : List ℕ) → s ≤ bit_and (bit_and (bit_and (slice_index xs at) (slice_index xs (at + 1))) (slice_index xs (at + 2))) (slice_index xs (at + 3)) →
    (x : ℕ) → at ≤ x → x < at + 4 → s ≤ slice_index xs x
four s at xs le x from to =
    let a = least s _ (slice_index xs (at + 3)) le in
    let b = least s _ (slice_index xs (at + 2)) a.0 in
    let c = least s (slice_index xs at) (slice_index xs (at + 1)) b.0 in
    let is : (i : ℕ) → x ≡ i → s ≤ slice_index xs i → s ≤ slice_index xs x = λ i e h. subst (λ (n : ℕ). s ≤ slice_index xs n) (sym e) h in
    elim (cases_eq x at) [
      | inl e ↦ is at e c.0
      | inr not_first ↦ elim (cases_eq x (at + 1)) [
        | inl e ↦ is (at + 1) e c.1
        | inr not_second ↦ elim (cases_eq x (at + 2)) [
          | inl e ↦ is (at + 2) e b.1
          | inr not_third ↦ is (at + 3) (omega arith) a.1
        ]
      ]
    ]

pub stride_free : (s at : ℕ) (xs : List ℕ) → nat_le s (bit_and
    (bit_and (bit_and (bit_and (slice_index xs at) (slice_index xs (at + 1))) (slice_index xs (at + 2))) (slice_index xs (at + 3)))
    (bit_and (bit_and (bit_and (slice_index xs (at + 4)) (slice_index xs (at + 5))) (slice_index xs (at + 6))) (slice_index xs (at + 7)))) ≡ true →
    (x : ℕ) → at ≤ x → x < at + 8 → s ≤ slice_index xs x
stride_free s at xs test x from to =
    let low : ℕ = bit_and (bit_and (bit_and (slice_index xs at) (slice_index xs (at + 1))) (slice_index xs (at + 2))) (slice_index xs (at + 3)) in
    let high : ℕ = bit_and (bit_and (bit_and (slice_index xs (at + 4)) (slice_index xs (at + 5))) (slice_index xs (at + 6))) (slice_index xs (at + 7)) in
    let both = least s low high (grind (arith, nat_tests)) in
    elim (cases_lt x (at + 4)) [
      | inl before ↦ four s at xs both.0 x from before
      | inr behind ↦
          let one : at + 4 + 1 ≡ at + 5 = omega arith in
          let two : at + 4 + 2 ≡ at + 6 = omega arith in
          let three : at + 4 + 3 ≡ at + 7 = omega arith in
          four s (at + 4) xs (rw (one, two, three) both.1) x behind (omega arith)
    ]
