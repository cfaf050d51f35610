-- The masks that the code makes, as the numbers that they are.
use Rattle.std.proofs.Common.{subst, nat_lt, suc, zero, ◌≡◌, ℕ, ◌+◌, ◌-◌, ◌*◌, ◌/◌, ◌%◌, ◌^◌, ◌<◌, ◌≤◌, bit_and, bit_or, bit_xor, arith, ap, sym, ◌∙◌}
use Rattle.std.proofs.Math.Pow.{ones_lt}
use Rattle.std.proofs.lemmas.Bool.Decides.{nat_tests}
use Rattle.std.proofs.Math.Nat.{pow-le-pow_right}
use Rattle.std.proofs.lemmas.Nat.{and_comm, shl_whole, and_mask, or_shifted, or_block, and-not, pow-add, shr_split, shr_below, mod-pow-add, pow_pos}
use Rattle.std.proofs.lemmas.Nat.Bits.{ones_shr, and_high}
use Rattle.std.specs.Int.Bits.{or_zero_r, xor_add_and}
use Rattle.swi_field.specs.Field.{field, with_field, extended}
use Rattle.std.specs.Bool.{if◌then◌else◌}

-- as many ones as a field has bits
ones_is : (hi lo : ℕ) → lo ≤ hi → hi ≤ 31 → 4294967295 / 2 ^ (31 + lo - hi) ≡ 2 ^ (hi + 1 - lo) - 1
ones_is hi lo order top =
    let width : 32 - (31 + lo - hi) ≡ hi + 1 - lo = omega arith in
    ones_shr 32 (31 + lo - hi) (omega arith) ∙ ap (λ n. 2 ^ n - 1) width

-- what the code of bits computes
pub bits_is : (w hi lo : ℕ) → lo ≤ hi → hi ≤ 31 → bit_and (w / 2 ^ lo) (4294967295 / 2 ^ (31 + lo - hi)) ≡ field hi lo w
bits_is w hi lo order top = rw (ones_is hi lo order top) (and_mask (w / 2 ^ lo) (hi + 1 - lo))

-- a product with one factor less by one
less_one : (p q : ℕ) → (p - 1) * q ≡ p * q - q
less_one zero q = omega arith
less_one (suc p) q = let e : suc p - 1 ≡ p = omega arith in rw e (omega arith)

-- the ones of a field, in their place
field_ones : (hi lo : ℕ) → lo ≤ hi → hi ≤ 31 → 4294967295 / 2 ^ (31 + lo - hi) * 2 ^ lo % 4294967296 ≡ 2 ^ (hi + 1 - lo + lo) - 2 ^ lo
field_ones hi lo order top =
    let whole : (2 ^ (hi + 1 - lo) - 1) * 2 ^ lo % 2 ^ 32 ≡ (2 ^ (hi + 1 - lo) - 1) * 2 ^ lo = shl_whole (2 ^ (hi + 1 - lo) - 1) (hi + 1 - lo) lo 32 (ones_lt (hi + 1 - lo)) (omega arith) in
    rw (ones_is hi lo order top, whole, pow-add) (less_one (2 ^ (hi + 1 - lo)) (2 ^ lo))

-- a field is cleared by the ones outside it
bit_and-outside : (w n lo : ℕ) → w < 2 ^ 32 → n + lo ≤ 32 → bit_and w (4294967295 - (2 ^ (n + lo) - 2 ^ lo)) + (w / 2 ^ lo % 2 ^ n) * 2 ^ lo ≡ w
bit_and-outside w n lo word within =
    let inside : bit_and w (2 ^ (n + lo) - 2 ^ lo) ≡ (w / 2 ^ lo % 2 ^ n) * 2 ^ lo = and_high w n lo in
    let low : 2 ^ (n + lo) ≤ 2 ^ 32 = pow-le-pow_right (omega arith) within in
    rw (and_comm w (4294967295 - (2 ^ (n + lo) - 2 ^ lo)), ← inside, and_comm w (2 ^ (n + lo) - 2 ^ lo)) (and-not 32 (2 ^ (n + lo) - 2 ^ lo) w (omega (arith, pow_pos lo)) word)

-- a word in three parts
parts : (w n lo : ℕ) → w ≡ (w / 2 ^ (n + lo) * 2 ^ n) * 2 ^ lo + (w / 2 ^ lo % 2 ^ n) * 2 ^ lo + w % 2 ^ lo
parts w n lo = omega (arith, shr_split w (n + lo), mod-pow-add w n lo, ap (λ p. w / 2 ^ (n + lo) * p) (pow-add 2 n lo))

-- what the code of put_bits computes
pub put_bits_is : (w v hi lo : ℕ) → lo ≤ hi → hi ≤ 31 → w < 2 ^ 32 → v < 2 ^ (hi + 1 - lo) →
    bit_or (bit_and w (4294967295 - 4294967295 / 2 ^ (31 + lo - hi) * 2 ^ lo % 4294967296)) (v * 2 ^ lo % 4294967296) ≡ with_field hi lo w v
put_bits_is w v hi lo order top word fits =
    let n : ℕ = hi + 1 - lo in
    let width : n + lo ≡ hi + 1 = omega arith in
    let kept : bit_and w (4294967295 - (2 ^ (n + lo) - 2 ^ lo)) ≡ (w / 2 ^ (n + lo) * 2 ^ n) * 2 ^ lo + w % 2 ^ lo = omega (arith, bit_and-outside w n lo word (omega arith), parts w n lo) in
    let shifted : v * 2 ^ lo % 2 ^ 32 ≡ v * 2 ^ lo + 0 = shl_whole v n lo 32 fits (omega arith) ∙ omega arith in
    rw (field_ones hi lo order top, kept, shifted, or_block lo (w / 2 ^ (n + lo) * 2 ^ n) v (w % 2 ^ lo) 0 (omega (arith, pow_pos lo)) (pow_pos lo), or_shifted (w / 2 ^ (n + lo)) n v fits, or_zero_r)
    (omega (arith, ap (λ k. w / 2 ^ k * 2 ^ k) width, ap (λ p. w / 2 ^ (n + lo) * p) (pow-add 2 n lo)))

-- v below 2h with the bit h turned over, less h: h goes in, or out twice
turned : (a r v h x p : ℕ) → a < 2 → r < h → v ≡ a * h + r → h ≤ 2 ^ 31 → p ≡ 2 * h → x + a % 2 * h * 2 ≡ v + h →
    (x + (2 ^ 32 - h)) % 2 ^ 32 ≡ (if nat_lt v h then v else v + (2 ^ 32 - p))
turned zero r v h x p small low is top twice e = grind (arith, nat_tests)
turned (suc zero) r v h x p small low is top twice e = grind (arith, nat_tests)
turned (suc (suc a)) r v h x p small low is top twice e = absurd (omega arith)

-- what the code of sign computes
pub sign_is : (n v : ℕ) → 1 ≤ n → n ≤ 32 → v < 2 ^ n → (bit_xor v (1 * 2 ^ (n - 1) % 2 ^ 32) + (2 ^ 32 - 1 * 2 ^ (n - 1) % 2 ^ 32)) % 2 ^ 32 ≡ extended n v
sign_is n v low high fits =
    let k : ℕ = n - 1 in
    let width : 1 + k ≡ n = omega arith in
    let twice : 2 ^ n ≡ 2 * 2 ^ k = ap (λ m. 2 ^ m) (sym width) ∙ pow-add 2 1 k in
    let within : k ≤ 31 = omega arith in
    let top : 2 ^ k ≤ 2 ^ 31 = pow-le-pow_right (omega arith) within in
    let whole : 1 * 2 ^ k % 2 ^ 32 ≡ 2 ^ k = omega arith in
    let double : 2 ^ (1 + k) - 2 ^ k ≡ 2 ^ k = omega (arith, pow-add 2 1 k) in
    let both : bit_and v (2 ^ k) ≡ v / 2 ^ k % 2 * 2 ^ k = ap (bit_and v) (sym double) ∙ and_high v 1 k in
    let e : bit_xor v (2 ^ k) + v / 2 ^ k % 2 * 2 ^ k * 2 ≡ v + 2 ^ k = ap (λ m. bit_xor v (2 ^ k) + m * 2) (sym both) ∙ xor_add_and v (2 ^ k) in
    rw whole (turned (v / 2 ^ k) (v % 2 ^ k) v (2 ^ k) (bit_xor v (2 ^ k)) (2 ^ n) (shr_below v 1 k (subst (λ m. v < 2 ^ m) (sym width) fits)) (omega (arith, pow_pos k)) (sym (shr_split v k)) top twice e)
