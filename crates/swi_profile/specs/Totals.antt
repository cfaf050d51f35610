-- All executions together: as many as steps stand at text words.
use Rattle.std.proofs.Common.{◌≡◌, ◌==◌, ℕ, zero, suc, ◌+◌, ◌*◌, ◌%◌, List, [], ◌∷◌, Bool, true, false, ◌&&◌, nat_le, length, count_by, sum_by, cond, Some, None, is_some, if◌then◌else◌, refl, sym, ap, ◌∙◌, arith}
use Rattle.std.proofs.lemmas.Bool.Decides.{nat_tests}
use Rattle.std.proofs.lemmas.List.Sums.{sum_by-cons, sum_by_push}
use Rattle.swi_program.specs.Text.{IsSized, TextData, word_of}
use Rattle.swi_calls.specs.State.{FlatState}
use Rattle.swi_calls.specs.Flat.{flat_run}
use Rattle.swi_report.specs.State.{numbers}
use Rattle.swi_profile.specs.Executions.{executions}
use Rattle.swi_profile.specs.Laws.{executions_more, executions_none, numbers_behind, one_at}

same_sum : (f g : ℕ → ℕ) → ((x : ℕ) → f x ≡ g x) → (xs : List ℕ) → sum_by f xs ≡ sum_by g xs
same_sum f g same [] = refl
same_sum f g same (x ∷ xs) =
    sum_by-cons f x xs ∙ ap (λ n. n + sum_by f xs) (same x) ∙ ap (λ n. g x + n) (same_sum f g same xs) ∙ sym (sum_by-cons g x xs)

both_sums : (f g : ℕ → ℕ) (xs : List ℕ) → sum_by (λ x. f x + g x) xs ≡ sum_by f xs + sum_by g xs
both_sums f g [] = refl
both_sums f g (x ∷ xs) =
    let all = sum_by-cons (λ y. f y + g y) x xs in
    let one = sum_by-cons f x xs in
    let other = sum_by-cons g x xs in
    let rest = both_sums f g xs in
    omega (arith, all, one, other, rest)

no_sum : (xs : List ℕ) → sum_by (λ x. 0) xs ≡ 0
no_sum [] = refl
no_sum (x ∷ xs) = let all = sum_by-cons (λ y. 0) x xs in let rest = no_sum xs in omega (arith, all, rest)

-- whether one of so many words from a base on stands at an address, and that as a number
abbrev stands : ℕ → ℕ → ℕ → Bool
stands base words a = a % 4 == 0 && (nat_le base a && nat_le (a + 4) (base + 4 * words))

abbrev stand : ℕ → ℕ → ℕ → ℕ
stand base words a = cond (stands base words a) 1 0

no_word : (base a : ℕ) → stand base 0 a ≡ 0
no_word base a = grind (arith, nat_tests)

one_word : (base words a : ℕ) → base % 4 ≡ 0 → stand base (words + 1) a ≡ stand base words a + one_at a (base + 4 * words)
one_word base words a aligned = grind (arith, nat_tests)

all_words : (base words a : ℕ) → base % 4 ≡ 0 → sum_by (λ k. one_at a (base + 4 * k)) (numbers 0 words) ≡ stand base words a
unfolding numbers
all_words base zero a aligned = sym (no_word base a)
all_words base (suc words) a aligned =
    let next : suc words ≡ words + 1 = omega arith in
    let here : 0 + words ≡ words = omega arith in
    ap (λ n. sum_by (λ k. one_at a (base + 4 * k)) (numbers 0 n)) next
    ∙ ap (sum_by (λ k. one_at a (base + 4 * k))) (numbers_behind 0 words)
    ∙ sum_by_push (λ k. one_at a (base + 4 * k)) (numbers 0 words) (0 + words)
    ∙ ap (λ k. sum_by (λ k. one_at a (base + 4 * k)) (numbers 0 words) + one_at a (base + 4 * k)) here
    ∙ ap (λ n. n + one_at a (base + 4 * words)) (all_words base words a aligned)
    ∙ sym (one_word base words a aligned) ∙ ap (λ n. stand base n a) (sym next)

is_some_if : (b : Bool) (x : ℕ) → is_some (if b then Some x else None) ≡ b
is_some_if true x = refl
is_some_if false x = refl

-- The executions of all words of a text, in the first n steps of a run, are as many as those of the steps that stand at a text word.
pub executions_total : (t : TextData) (n : ℕ) (s : FlatState) → IsSized t →
    sum_by (λ k. executions n s (t.base + 4 * k)) (numbers 0 (length t.words)) ≡ count_by (λ i. is_some (word_of t (flat_run i s).machine.pc)) (numbers 0 n)
unfolding numbers
executions_total t zero s sized = same_sum (λ k. executions 0 s (t.base + 4 * k)) (λ k. 0) (λ k. executions_none s (t.base + 4 * k)) (numbers 0 (length t.words)) ∙ no_sum (numbers 0 (length t.words))
executions_total t (suc n) s sized =
    let next : suc n ≡ n + 1 = omega arith in
    let here : 0 + n ≡ n = omega arith in
    let words : List ℕ = numbers 0 (length t.words) in
    let at : ℕ → ℕ = λ i. (flat_run i s).machine.pc in
    let one : Bool → ℕ = λ b. cond b 1 0 in
    let stood : ℕ → Bool = λ i. is_some (word_of t (at i)) in
    ap (λ m. sum_by (λ k. executions m s (t.base + 4 * k)) words) next
    ∙ same_sum (λ k. executions (n + 1) s (t.base + 4 * k)) (λ k. executions n s (t.base + 4 * k) + one_at (at n) (t.base + 4 * k)) (λ k. executions_more n s (t.base + 4 * k)) words
    ∙ both_sums (λ k. executions n s (t.base + 4 * k)) (λ k. one_at (at n) (t.base + 4 * k)) words
    ∙ ap (λ m. m + sum_by (λ k. one_at (at n) (t.base + 4 * k)) words) (executions_total t n s sized)
    ∙ ap (λ m. count_by stood (numbers 0 n) + m) (all_words t.base (length t.words) (at n) sized.aligned ∙ ap one (sym (is_some_if (stands t.base (length t.words) (at n)) _)))
    ∙ ap (λ i. count_by stood (numbers 0 n) + one (stood i)) (sym here)
    ∙ sym (sum_by_push (λ i. one (stood i)) (numbers 0 n) (0 + n))
    ∙ ap (count_by stood) (sym (numbers_behind 0 n)) ∙ ap (λ m. count_by stood (numbers 0 m)) (sym next)
