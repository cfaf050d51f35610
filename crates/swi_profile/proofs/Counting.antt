-- Counts that are kept step by step.
use Rattle.std.proofs.Common.{◌≡◌, ℕ, ◌+◌, ◌-◌, ◌*◌, ◌^◌, ◌<◌, ◌≤◌, List, length, cond, slice_index, Option, Some, None, refl, sym, ap, ◌∙◌, inl, inr, arith}
use Rattle.std.proofs.lemmas.Bool.{cases_eq, eq-eqb, ne_eqb}
use Rattle.std.proofs.lemmas.List.{get_or-set_other, get_or-set_same, length-set}
use Rattle.swi_memory.specs.declared.word_range.WordRange.{WordRange}
use Rattle.swi_memory.specs.WordRange.{IsWordRange}
use Rattle.swi_micro.specs.MicroOp.{address_at, index_at}
use Rattle.swi_micro.proofs.Sums.{Target, own_index, target}
use Rattle.swi_profile.specs.Executions.{AreCounts}
use Rattle.swi_profile.specs.Laws.{one_at}
use Rattle.swi_profile.specs.Profiled.{with_one}

-- the address of a word of a range
word_address : (range : WordRange) (k : ℕ) → IsWordRange range → k < range.words → address_at range k ≡ range.from + 4 * k
word_address range k whole within = let end = whole.end in omega (arith, end, within)

-- of each word, whether a step stands at it
one_more : (range : WordRange) (counts : List ℕ) (count : ℕ → ℕ) (a i : ℕ) → IsWordRange range → Target range a i → AreCounts range counts count →
    AreCounts range (with_one counts (Some i)) (λ x. count x + one_at a x)
one_more range counts count a i whole at h = record {
  long = length-set counts i (slice_index counts i + 1) ∙ h.long;
  each = λ k within.
      let here : range.from + 4 * i ≡ a = sym (word_address range i whole at.within) ∙ at.address in
      let long = h.long in
      let low = at.within in
      elim (cases_eq k i) [
        | inl own ↦
            let same : a ≡ range.from + 4 * k = omega (arith, here, own) in
            let one : one_at a (range.from + 4 * k) ≡ 1 = ap (λ b. cond b 1 0) (eq-eqb a (range.from + 4 * k) same) in
            ap (λ j. slice_index (with_one counts (Some i)) j) own ∙ get_or-set_same counts i (slice_index counts i + 1) 0 (omega (arith, long, low))
            ∙ ap (λ j. slice_index counts j + 1) (sym own) ∙ ap (λ n. n + 1) (h.each k within) ∙ ap (λ n. count (range.from + 4 * k) + n) (sym one)
        | inr apart ↦
            let other : a ≡ range.from + 4 * k → ⊥ = λ e. apart (omega (arith, here, e)) in
            let none : one_at a (range.from + 4 * k) ≡ 0 = ap (λ b. cond b 1 0) (ne_eqb a (range.from + 4 * k) other) in
            get_or-set_other counts i k (slice_index counts i + 1) 0 apart ∙ h.each k within ∙ omega (arith, none)
      ];
}

-- no word of the range
none_more : (range : WordRange) (counts : List ℕ) (count : ℕ → ℕ) (a : ℕ) → IsWordRange range → index_at range a ≡ None → AreCounts range counts count →
    AreCounts range counts (λ x. count x + one_at a x)
none_more range counts count a whole is h = record {
  long = h.long;
  each = λ k within.
      let other : a ≡ range.from + 4 * k → ⊥ = λ e.
      let own : index_at range a ≡ Some k = ap (index_at range) (e ∙ sym (word_address range k whole within)) ∙ own_index range k whole within in
      let never : None ≡ Some k = sym is ∙ own in cc in
      let none : one_at a (range.from + 4 * k) ≡ 0 = ap (λ b. cond b 1 0) (ne_eqb a (range.from + 4 * k) other) in
      h.each k within ∙ omega (arith, none);
}

counted_at : (range : WordRange) (counts : List ℕ) (count : ℕ → ℕ) (a : ℕ) (o : Option ℕ) → index_at range a ≡ o → IsWordRange range → a < 2 ^ 32 → AreCounts range counts count →
    AreCounts range (with_one counts o) (λ x. count x + one_at a x)
counted_at range counts count a None is whole word h = none_more range counts count a whole is h
counted_at range counts count a (Some i) is whole word h = one_more range counts count a i whole (target range a i whole word is) h

-- a step that stands at an address is counted
pub counted : (range : WordRange) (counts : List ℕ) (count : ℕ → ℕ) (a : ℕ) → IsWordRange range → a < 2 ^ 32 → AreCounts range counts count →
    AreCounts range (with_one counts (index_at range a)) (λ x. count x + one_at a x)
counted range counts count a whole word h = counted_at range counts count a (index_at range a) refl whole word h

-- counts of the same
pub counts_of : (range : WordRange) (counts : List ℕ) (f g : ℕ → ℕ) → ((x : ℕ) → f x ≡ g x) → AreCounts range counts f → AreCounts range counts g
counts_of range counts f g same h = record { long = h.long; each = λ k within. h.each k within ∙ same (range.from + 4 * k) }

-- no count grows by more than one
one_few : (counts : List ℕ) (i most : ℕ) → ((k : ℕ) → k < length counts → slice_index counts k ≤ most) → (k : ℕ) → k < length (with_one counts (Some i)) →
    slice_index (with_one counts (Some i)) k ≤ most + 1
one_few counts i most few k within =
    let long = length-set counts i (slice_index counts i + 1) in
    let low : k < length counts = omega (arith, within, long) in
    let before = few k low in
    elim (cases_eq k i) [
      | inl own ↦
          let same : slice_index (with_one counts (Some i)) k ≡ slice_index counts i + 1 =
          ap (λ j. slice_index (with_one counts (Some i)) j) own ∙ get_or-set_same counts i (slice_index counts i + 1) 0 (omega (arith, low, own)) in
          let here = few i (omega (arith, low, own)) in
          omega (arith, same, here)
      | inr apart ↦ let same = get_or-set_other counts i k (slice_index counts i + 1) 0 apart in omega (arith, same, before)
    ]

pub grown_few : (counts : List ℕ) (o : Option ℕ) (most : ℕ) → ((k : ℕ) → k < length counts → slice_index counts k ≤ most) → (k : ℕ) → k < length (with_one counts o) →
    slice_index (with_one counts o) k ≤ most + 1
grown_few counts None most few k within = let before = few k within in omega (arith, before)
grown_few counts (Some i) most few k within = one_few counts i most few k within

pub with_one_long : (counts : List ℕ) (o : Option ℕ) → length (with_one counts o) ≡ length counts
with_one_long counts None = refl
with_one_long counts (Some i) = length-set counts i (slice_index counts i + 1)
