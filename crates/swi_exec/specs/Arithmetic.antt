-- What the operations on words give, over whole numbers. Source: RISC-V unprivileged specification, "Integer Computational
-- Instructions" of RV32I, the "M" extension with its table on division by zero and overflow, and "Atomic Memory Operations".
use Rattle.std.specs.Prelude.{◌==◌, ℕ, ◌+◌, ◌-◌, ◌*◌, ◌/◌, ◌%◌, ◌^◌, suc, ℤ, pos, negsuc, ◌-ℤ◌, ◌*ℤ◌, nat_lt, int_lt, int_div, int_rem, if◌then◌else◌}

-- a word read in two's complement
abbrev pub signed : ℕ → ℤ
signed a = if nat_lt a (2 ^ 31) then pos a else negsuc (2 ^ 32 - suc a)

-- the word that is a whole number modulo 2 ^ 32
abbrev pub word : ℤ → ℕ
word (pos n) = n % 2 ^ 32
word (negsuc n) = 2 ^ 32 - suc (n % 2 ^ 32)

-- the quotient by d, rounded down
abbrev pub floor_div : ℤ → ℕ → ℤ
floor_div (pos n) d = pos (n / d)
floor_div (negsuc n) d = negsuc (n / d)

-- a + b
abbrev pub sum_of : ℕ → ℕ → ℕ
sum_of a b = (a + b) % 2 ^ 32

-- a - b
abbrev pub difference_of : ℕ → ℕ → ℕ
difference_of a b = word (pos a -ℤ pos b)

-- 1 where a is less than b, read as signed, and else 0
abbrev pub less_of : ℕ → ℕ → ℕ
less_of a b = if int_lt (signed a) (signed b) then 1 else 0

-- 1 where a is less than b, and else 0
abbrev pub less_unsigned_of : ℕ → ℕ → ℕ
less_unsigned_of a b = if nat_lt a b then 1 else 0

-- a shifted to the left by the lowest five bits of b
abbrev pub left_shift_of : ℕ → ℕ → ℕ
left_shift_of a b = a * 2 ^ (b % 32) % 2 ^ 32

-- a shifted to the right by the lowest five bits of b, with zeros from above
abbrev pub right_shift_of : ℕ → ℕ → ℕ
right_shift_of a b = a / 2 ^ (b % 32)

-- a shifted to the right by the lowest five bits of b, with its sign from above
abbrev pub signed_right_shift_of : ℕ → ℕ → ℕ
signed_right_shift_of a b = word (floor_div (signed a) (2 ^ (b % 32)))

-- the low word of the product
abbrev pub product_of : ℕ → ℕ → ℕ
product_of a b = a * b % 2 ^ 32

-- the high word of the product of two signed numbers
abbrev pub high_product_of : ℕ → ℕ → ℕ
high_product_of a b = word (floor_div (signed a *ℤ signed b) (2 ^ 32))

-- the high word of the product of a signed and an unsigned number
abbrev pub high_product_mixed_of : ℕ → ℕ → ℕ
high_product_mixed_of a b = word (floor_div (signed a *ℤ pos b) (2 ^ 32))

-- the high word of the product of two unsigned numbers
abbrev pub high_product_unsigned_of : ℕ → ℕ → ℕ
high_product_unsigned_of a b = a * b / 2 ^ 32

-- the quotient of two signed numbers, rounded towards zero; by zero it is all ones
abbrev pub quotient_of : ℕ → ℕ → ℕ
quotient_of a b = if b == 0 then 2 ^ 32 - 1 else word (int_div (signed a) (signed b))

-- the quotient of two unsigned numbers; by zero it is all ones
abbrev pub quotient_unsigned_of : ℕ → ℕ → ℕ
quotient_unsigned_of a b = if b == 0 then 2 ^ 32 - 1 else a / b

-- what the quotient of two signed numbers leaves; by zero it is a
abbrev pub remainder_of : ℕ → ℕ → ℕ
remainder_of a b = if b == 0 then a else word (int_rem (signed a) (signed b))

-- what the quotient of two unsigned numbers leaves; by zero it is a
abbrev pub remainder_unsigned_of : ℕ → ℕ → ℕ
remainder_unsigned_of a b = if b == 0 then a else a % b

-- the least of two words, read as signed
abbrev pub least_of : ℕ → ℕ → ℕ
least_of a b = if int_lt (signed b) (signed a) then b else a

-- the greatest of two words, read as signed
abbrev pub greatest_of : ℕ → ℕ → ℕ
greatest_of a b = if int_lt (signed a) (signed b) then b else a

-- the least of two words, read as unsigned
abbrev pub least_unsigned_of : ℕ → ℕ → ℕ
least_unsigned_of a b = if nat_lt b a then b else a

-- the greatest of two words, read as unsigned
abbrev pub greatest_unsigned_of : ℕ → ℕ → ℕ
greatest_unsigned_of a b = if nat_lt a b then b else a
