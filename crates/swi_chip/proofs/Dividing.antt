-- Division by a multiplication with an inverse.
use Rattle.std.proofs.Common.{◌≡◌, ◌∙◌, ◌+◌, ◌-◌, ◌*◌, ◌/◌, ◌%◌, ◌^◌, ◌<◌, ◌≤◌, ℕ, ap, arith, sym}
use Rattle.std.proofs.lemmas.Nat.{div-add-mod', mod_below}
use Rattle.std.proofs.Math.Nat.{add-mul, mul-add, mul_assoc, mul_comm, mul-le-mul_left, mul-le-mul_right, div-eq_of_lt-le, div-le_self}
use Rattle.swi_chip.specs.Sizes.{IsInverse}

-- d goes into q * d + r as often as 2 ^ 32 goes into its product with m, where m is 2 ^ 32 / d rounded up
scaled : (q r d m e : ℕ) → q < 2 ^ 16 → r < d → d ≤ 1024 → 2 ^ 22 ≤ m → (q + 1) * e ≤ (q + 1) * d → q * d < 2 ^ 16 → m * d ≡ 2 ^ 32 + e → (q * d + r) * m / 2 ^ 32 ≡ q
scaled q r d m e few below most big part small inverse =
    let whole : q * d * m ≡ q * 2 ^ 32 + q * e = mul_assoc q d m ∙ ap (λ (x : ℕ). q * x) (mul_comm d m ∙ inverse) ∙ mul-add q (2 ^ 32) e in
    let parts : (q * d + r) * m ≡ q * d * m + r * m = add-mul (q * d) r m in
    let rest : r * m + m ≤ d * m = omega (arith, mul-le-mul_right m below, add-mul r 1 m) in
    let left : (q + 1) * e ≡ q * e + e = omega (arith, add-mul q 1 e) in
    let right : (q + 1) * d ≡ q * d + d = omega (arith, add-mul q 1 d) in
    div-eq_of_lt-le (2 ^ 32) (omega (arith, whole, parts)) (omega (arith, whole, parts, rest, mul_comm d m, inverse, left, right, part, small, most, big))

large : (m n : ℕ) → n ≤ 1024 → 2 ^ 32 ≤ m * n → 2 ^ 22 ≤ m
large m n most enough = (let p : m * n ≤ m * 1024 = mul-le-mul_left m most in omega (arith, p, enough))

-- the product of an index with the inverse has the quotient in its upper half
pub by_inverse : (i n m : ℕ) → i < 2 ^ 16 → IsInverse n m → i * m / 2 ^ 32 ≡ i / n
by_inverse i n m few is =
    let some = is.least in
    let near = is.nearest in
    let enough = is.enough in
    let over : m * n ≡ 2 ^ 32 + (m * n - 2 ^ 32) = omega (arith, enough) in
    let whole = div-add-mod' i n in
    let less = div-le_self i n in
    ap (λ (x : ℕ). x * m / 2 ^ 32) (sym whole) ∙
    scaled (i / n) (i % n) n m (m * n - 2 ^ 32) (omega (arith, less, few)) (mod_below i n (omega (arith, some))) is.most (large m n is.most enough)
    (mul-le-mul_left (i / n + 1) (omega (arith, near))) (omega (arith, whole, few)) over

-- what is left
pub rest_fits : (i n : ℕ) → i / n * n ≤ i
rest_fits i n = omega (arith, div-add-mod' i n)

pub rest_is : (i n : ℕ) → i - i / n * n ≡ i % n
rest_is i n = omega (arith, div-add-mod' i n)

-- an index of a slot
pub below_slots : (x n h : ℕ) → 0 < n → x / n < h → x < h * n
below_slots x n h some lt =
    let whole = div-add-mod' x n in
    let rest = mod_below x n some in
    let most : (x / n + 1) * n ≤ h * n = mul-le-mul_right n (omega (arith, lt)) in
    let parts : (x / n + 1) * n ≡ x / n * n + n = omega (arith, add-mul (x / n) 1 n) in
    omega (arith, whole, rest, most, parts)
