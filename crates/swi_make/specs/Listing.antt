-- The program that is made, as a list of instructions. Instructions and register names as in the RISC-V
-- unprivileged specification and the RISC-V ELF psABI ("Register Convention"), the system call 93 as on Linux (exit).
--
-- It has C functions, of which function i makes n_i additions, 1 to 16. Eight times over it calls function 0, then
-- function 1 and so on; each makes a stack frame, adds 1 to a0 as often as its number says, and returns. Then the
-- program exits with what is in a0: 8 times the sum of all n_i. It reads nothing and writes nothing but its stack.
-- The words of its text:
--
--   0                 s0 := 8, the rounds that are left
--   1 to C            a call of each function
--   C + 1 to C + 3    s0 := s0 - 1; where that is 0, over the next word; back to word 1
--   C + 4, C + 5      exit
--   from C + 6 on     the functions, one behind the other, n_i + 5 words each
use Rattle.std.specs.Prelude.{ℕ, ◌+◌, ◌-◌, ◌*◌, ◌^◌, List, [], ◌∷◌, ◌++◌, length, map, take, replicate}
use Rattle.std.specs.List.{flat_map, range_with_len}
use Rattle.swi_isa.specs.declared.instr.BranchOp.TheVariants.{Beq}
use Rattle.swi_isa.specs.declared.instr.ImmOp.TheVariants.{Addi}
use Rattle.swi_isa.specs.declared.instr.LoadOp.TheVariants.{Lw}
use Rattle.swi_isa.specs.declared.instr.StoreOp.TheVariants.{Sw}
use Rattle.swi_isa.specs.declared.instr.Instr.{Instr}
use Rattle.swi_isa.specs.declared.instr.Instr.TheVariants.{Alu, Branch, Ecall, Jal, Jalr, Load, Store}

-- the registers that the program uses
abbrev pub x0 : ℕ
x0 = 0

abbrev pub ra : ℕ
ra = 1

abbrev pub sp : ℕ
sp = 2

abbrev pub s0 : ℕ
s0 = 8

abbrev pub a0 : ℕ
a0 = 10

abbrev pub a7 : ℕ
a7 = 17

-- the number -n, above 0 being n, as 32 bits in two's complement
abbrev pub minus : ℕ → ℕ
minus n = 2 ^ 32 - n

abbrev pub addi : ℕ → ℕ → ℕ → Instr
addi rd rs1 imm = Alu Addi rd rs1 imm

-- a function that makes n additions: it keeps its return address in a frame of 16 bytes
abbrev pub function_of : ℕ → List Instr
function_of n =
    addi sp sp (minus 16) ∷ Store Sw sp ra 12 ∷ []
    ++ replicate n (addi a0 a0 1)
    ++ Load Lw ra sp 12 ∷ addi sp sp 16 ∷ Jalr x0 ra 0 ∷ []

-- functions that make so many additions, one behind the other
abbrev pub functions_of : List ℕ → List Instr
functions_of ns = flat_map function_of ns

-- the word at which function i begins, behind the C + 6 words that call and the functions before it
abbrev pub start_of : List ℕ → ℕ → ℕ
start_of ns i = length ns + 6 + length (functions_of (take i ns))

-- the call of function i, which stands at word i + 1
abbrev pub call_of : List ℕ → ℕ → Instr
call_of ns i = Jal ra (4 * (start_of ns i - (i + 1)))

abbrev pub calls_of : List ℕ → List Instr
calls_of ns = map (call_of ns) (range_with_len 0 (length ns))

-- eight rounds of all calls, then exit
abbrev pub main_of : List ℕ → List Instr
main_of ns =
    addi s0 x0 8 ∷ calls_of ns
    ++ addi s0 s0 (minus 1) ∷ Branch Beq s0 x0 8 ∷ Jal x0 (minus (4 * (length ns + 2)))
    ∷ addi a7 x0 93 ∷ Ecall ∷ []

-- the whole
abbrev pub instructions_of : List ℕ → List Instr
instructions_of ns = main_of ns ++ functions_of ns
