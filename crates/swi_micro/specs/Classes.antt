-- The classes of micro-ops by their codes.
use Rattle.std.specs.Prelude.{◌≡◌, ◌==◌, ℕ, ◌/◌, ◌%◌, ◌^◌, Bool, true, false}
use Rattle.std.proofs.Common.{refl}
use Rattle.swi_micro.specs.declared.class.Class.{Class}
use Rattle.swi_micro.specs.declared.class.Class.TheVariants.{Add, Sub, And, Or, Xor, Sll, Srl, Sra, Slt, Sltu, Mul, MulDiv, Lui, Lw, Lbu, Lhu, Lh, Lb, Sw, Sb, Sh, Equal, Less, Below, Jal, Jalr, Stop}

-- a bit of a code
abbrev pub bit : ℕ → ℕ → Bool
bit n code = code / 2 ^ n % 2 == 1

-- the class by the bits of its code from the lowest on: a prefix code, so that of no class the rest of the bits is asked for
abbrev pub class_at : Bool → Bool → Bool → Bool → Bool → Bool → Bool → Class
class_at false false _ _ _ _ _ = Add
class_at false true false false false _ _ = Mul
class_at false true false false true _ _ = Sb
class_at false true false true false false _ = Xor
class_at false true false true false true _ = And
class_at false true false true true _ _ = Srl
class_at false true true _ _ _ _ = Equal
class_at true false false false _ _ _ = Sw
class_at true false false true false false false = Lb
class_at true false false true false false true = Sltu
class_at true false false true false true _ = Sub
class_at true false false true true false _ = Or
class_at true false false true true true _ = Below
class_at true false true false _ _ _ = Lbu
class_at true false true true false _ _ = Jal
class_at true false true true true false false = Sra
class_at true false true true true false true = Lh
class_at true false true true true true _ = Less
class_at true true false _ _ _ _ = Lw
class_at true true true false false false false = Jalr
class_at true true true false false false true = MulDiv
class_at true true true false false true _ = Slt
class_at true true true false true false _ = Lhu
class_at true true true false true true false = Stop
class_at true true true false true true true = Sh
class_at true true true true false _ _ = Lui
class_at true true true true true _ _ = Sll

abbrev pub class_of : ℕ → Class
class_of code = class_at (bit 0 code) (bit 1 code) (bit 2 code) (bit 3 code) (bit 4 code) (bit 5 code) (bit 6 code)

-- the code of a class: its bits, and behind them zeros
abbrev pub code_of : Class → ℕ
code_of Add = 0
code_of Sub = 41
code_of And = 42
code_of Or = 25
code_of Xor = 10
code_of Sll = 31
code_of Srl = 26
code_of Sra = 29
code_of Slt = 39
code_of Sltu = 73
code_of Mul = 2
code_of MulDiv = 71
code_of Lui = 15
code_of Lw = 3
code_of Lbu = 5
code_of Lhu = 23
code_of Lh = 93
code_of Lb = 9
code_of Sw = 1
code_of Sb = 18
code_of Sh = 119
code_of Equal = 6
code_of Less = 61
code_of Below = 57
code_of Jal = 13
code_of Jalr = 7
code_of Stop = 55

-- the code of a class is of that class
pub class_of-code_of : (c : Class) → class_of (code_of c) ≡ c
class_of-code_of Add = refl
class_of-code_of Sub = refl
class_of-code_of And = refl
class_of-code_of Or = refl
class_of-code_of Xor = refl
class_of-code_of Sll = refl
class_of-code_of Srl = refl
class_of-code_of Sra = refl
class_of-code_of Slt = refl
class_of-code_of Sltu = refl
class_of-code_of Mul = refl
class_of-code_of MulDiv = refl
class_of-code_of Lui = refl
class_of-code_of Lw = refl
class_of-code_of Lbu = refl
class_of-code_of Lhu = refl
class_of-code_of Lh = refl
class_of-code_of Lb = refl
class_of-code_of Sw = refl
class_of-code_of Sb = refl
class_of-code_of Sh = refl
class_of-code_of Equal = refl
class_of-code_of Less = refl
class_of-code_of Below = refl
class_of-code_of Jal = refl
class_of-code_of Jalr = refl
class_of-code_of Stop = refl

-- whether a micro-op of the class goes on at the next word, if it goes on
abbrev pub is_straight : Class → Bool
is_straight Equal = false
is_straight Less = false
is_straight Below = false
is_straight Jal = false
is_straight Jalr = false
is_straight Stop = false
is_straight _ = true
