use Rattle.std.proofs.Common.{◌≡◌, ◌-◌, ◌/◌, ◌*◌, ◌%◌, ◌^◌, ℕ, ap, arith, ◌∙◌}
use Rattle.std.proofs.lemmas.Nat.{div-add-mod'}
use Rattle.swi_slots.proofs.Dividing.{by_inverse, rest_is}
use Rattle.swi_slots.proofs.divisor.Divisor.divide.Goals as goal

-- the quotient that was computed, by the number itself
quotient : (c : goal.After-from-2) → c.from.result * c.from-2.result / 2 ^ 64 ≡ c.args.i / c.self.inside.number
quotient c =
    ap (λ (x : ℕ). x * c.from-2.result / 2 ^ 64) c.from.ensures ∙ ap (λ (x : ℕ). c.args.i * x / 2 ^ 64) (c.from-2.ensures ∙ c.self.invariant.2) ∙
    by_inverse c.args.i c.self.inside.number (omega (arith, c.ranges.i.fits)) c.self.invariant.0 c.self.invariant.1

pub overflow_mul-result : goal.overflow_mul-result
overflow_mul-result c = omega (arith, ap (λ (x : ℕ). x * c.self.inside.number) (quotient c), div-add-mod' c.args.i c.self.inside.number, c.ranges.i.fits)

pub overflow_sub-result : goal.overflow_sub-result
overflow_sub-result c = omega (arith, ap (λ (x : ℕ). x * c.self.inside.number) (quotient c), div-add-mod' c.args.i c.self.inside.number)

pub returns-clause-quotient : goal.returns-clause-quotient
returns-clause-quotient c = quotient c ∙ ap (λ (x : ℕ). c.args.i / x) c.self.view_is

pub returns-clause-rest : goal.returns-clause-rest
returns-clause-rest c =
    ap (λ (x : ℕ). c.args.i - x * c.self.inside.number) (quotient c) ∙ rest_is c.args.i c.self.inside.number ∙ ap (λ (x : ℕ). c.args.i % x) c.self.view_is
