-- Laws of executions: step by step.
use Rattle.std.proofs.Common.{◌≡◌, ◌==◌, ℕ, zero, suc, ◌+◌, ◌≤◌, List, ◌∷◌, [], ◌++◌, length, count_by, cond, refl, ap, ◌∙◌, arith}
use Rattle.std.proofs.lemmas.List.Sums.{count_by-le-length, sum_by_push}
use Rattle.swi_calls.specs.State.{FlatState}
use Rattle.swi_calls.specs.Flat.{flat_run}
use Rattle.swi_report.specs.State.{numbers}
use Rattle.swi_profile.specs.Executions.{executions}

-- whether a step stands there, as a number
abbrev pub one_at : ℕ → ℕ → ℕ
one_at a x = cond (a == x) 1 0

pub numbers_behind : (first k : ℕ) → numbers first (k + 1) ≡ numbers first k ++ (first + k) ∷ []
unfolding numbers
numbers_behind first zero = let here : first + zero ≡ first = omega arith in rw here refl
numbers_behind first (suc k) =
    let same : suc k + 1 ≡ suc (k + 1) = omega arith in
    let here : first + suc k ≡ (first + 1) + k = omega arith in
    rw (same, here) (ap (λ (l : List ℕ). first ∷ l) (numbers_behind (first + 1) k))

numbers_long : (first k : ℕ) → length (numbers first k) ≡ k
unfolding numbers
numbers_long first zero = refl
numbers_long first (suc k) = ap suc (numbers_long (first + 1) k)

pub executions_none : (s : FlatState) (a : ℕ) → executions 0 s a ≡ 0
unfolding executions numbers
executions_none s a = refl

-- a step more
pub executions_more : (n : ℕ) (s : FlatState) (a : ℕ) → executions (n + 1) s a ≡ executions n s a + one_at (flat_run n s).machine.pc a
unfolding executions
executions_more n s a =
    ap (count_by (λ i. (flat_run i s).machine.pc == a)) (numbers_behind 0 n)
    ∙ sum_by_push (λ i. cond ((flat_run i s).machine.pc == a) 1 0) (numbers 0 n) (0 + n)
    ∙ ap (λ i. executions n s a + one_at (flat_run i s).machine.pc a) (let same : 0 + n ≡ n = omega arith in same)

-- no word is executed more often than steps are made
pub executions_few : (n : ℕ) (s : FlatState) (a : ℕ) → executions n s a ≤ n
unfolding executions
executions_few n s a =
    let few = count_by-le-length (λ i. (flat_run i s).machine.pc == a) (numbers 0 n) in
    let long = numbers_long 0 n in
    omega (arith, few, long)
