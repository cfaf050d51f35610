-- Fields of a 32-bit word, as the RISC-V unprivileged specification writes them: w[hi:lo], and sign extension
-- (section 2.2, "Base Instruction Formats", and section 2.3, "Immediate Encoding Variants").
use Rattle.std.specs.Prelude.{ℕ, ◌+◌, ◌-◌, ◌*◌, ◌/◌, ◌%◌, ◌^◌, nat_lt, if◌then◌else◌}

-- w[hi:lo], as a number
abbrev pub field : ℕ → ℕ → ℕ → ℕ
field hi lo w = w / 2 ^ lo % 2 ^ (hi + 1 - lo)

-- w with w[hi:lo] replaced by v
abbrev pub with_field : ℕ → ℕ → ℕ → ℕ → ℕ
with_field hi lo w v = w / 2 ^ (hi + 1) * 2 ^ (hi + 1) + v * 2 ^ lo + w % 2 ^ lo

-- the n bits of v read in two's complement, written as 32 bits in two's complement
abbrev pub extended : ℕ → ℕ → ℕ
extended n v = if nat_lt v (2 ^ (n - 1)) then v else v + (2 ^ 32 - 2 ^ n)
