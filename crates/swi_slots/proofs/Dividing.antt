-- Division by a multiplication with an inverse.
use Rattle.std.proofs.Common.{◌≡◌, ◌∙◌, ◌+◌, ◌-◌, ◌*◌, ◌/◌, ◌%◌, ◌^◌, ◌<◌, ◌≤◌, ℕ, ap, arith, sym}
use Rattle.std.proofs.lemmas.Nat.{div-add-mod', mod_below}
use Rattle.std.proofs.Math.Nat.{add-mul, mul-add, mul_assoc, mul_comm, mul-le-mul_left, mul-le-mul_right, div-eq_of_lt-le, div-le_self}

-- d goes into q * d + r as often as 2 ^ 64 goes into its product with m, where m is 2 ^ 64 / d rounded up
scaled : (q r d m e : ℕ) → q < 2 ^ 32 → r < d → d ≤ 1024 → m * d ≡ 2 ^ 64 + e → e < d → (q * d + r) * m / 2 ^ 64 ≡ q
scaled q r d m e few below most inverse over =
    let whole : q * d * m ≡ q * 2 ^ 64 + q * e = mul_assoc q d m ∙ ap (λ (x : ℕ). q * x) (mul_comm d m ∙ inverse) ∙ mul-add q (2 ^ 64) e in
    let parts : (q * d + r) * m ≡ q * d * m + r * m = add-mul (q * d) r m in
    let excess : q * e ≤ q * 1024 = mul-le-mul_left q (omega (arith, over, most)) in
    let rest : r * m + m ≤ d * m = omega (arith, mul-le-mul_right m below, add-mul r 1 m) in
    let large : m * d ≤ m * 1024 = mul-le-mul_left m most in
    div-eq_of_lt-le (2 ^ 64) (omega (arith, whole, parts)) (omega (arith, whole, parts, excess, few, rest, mul_comm d m, inverse, over, most, large))

-- the product of a number with the inverse of d has the quotient in its upper half
pub by_inverse : (i d : ℕ) → i < 2 ^ 32 → 2 ≤ d → d ≤ 1024 → i * ((2 ^ 64 - 1) / d + 1) / 2 ^ 64 ≡ i / d
by_inverse i d few least most =
    let most_of = div-add-mod' (2 ^ 64 - 1) d in
    let below = mod_below (2 ^ 64 - 1) d (omega (arith, least)) in
    let inverse : ((2 ^ 64 - 1) / d + 1) * d ≡ 2 ^ 64 + (d - 1 - (2 ^ 64 - 1) % d) =
    omega (arith, add-mul ((2 ^ 64 - 1) / d) 1 d, most_of, below) in
    ap (λ (x : ℕ). x * ((2 ^ 64 - 1) / d + 1) / 2 ^ 64) (sym (div-add-mod' i d)) ∙
    scaled (i / d) (i % d) d ((2 ^ 64 - 1) / d + 1) (d - 1 - (2 ^ 64 - 1) % d) (omega (arith, div-le_self i d, few)) (mod_below i d (omega (arith, least))) most inverse (omega (arith, least))

-- what is left of i by d
pub rest_is : (i d : ℕ) → i - i / d * d ≡ i % d
rest_is i d = omega (arith, div-add-mod' i d)
