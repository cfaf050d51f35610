-- An instruction as text, and the line of a step. Own forms, with the names of the RISC-V unprivileged specification.
use Rattle.std.specs.Prelude.{ℕ, ◌+◌, ◌/◌, ◌%◌, ◌^◌, false, List, [], ◌∷◌, ◌++◌, codes, Option, Some, None}
use Rattle.std.specs.Fmt.{digits, signed_decimal}
use Rattle.std.specs.Int.{w32, cast_signed}
use Rattle.swi_line.specs.Hex.{hex_word}
use Rattle.swi_isa.specs.Decode.{decoded}
use Rattle.swi_isa.specs.declared.instr.AtomicOp.TheVariants.{LrW}
use Rattle.swi_isa.specs.declared.instr.Instr.{Instr}
use Rattle.swi_isa.specs.declared.instr.Instr.TheVariants.{Lui, Auipc, Jal, Jalr, Branch, Load, Store, Alu, Op, Atomic, Fence, Ecall, Ebreak}
use Rattle.swi_trace.specs.Mnemonics.{name, register_name}

-- ---- operands

-- 32 bits in two's complement as a decimal number, with a minus sign below 0
abbrev pub number : ℕ → List ℕ
number imm = signed_decimal (cast_signed w32 imm)

-- the 20 bits of an upper immediate in hexadecimal, without leading zeros
abbrev pub upper : ℕ → List ℕ
upper imm = codes "0x" ++ digits 16 false (imm / 2 ^ 12)

-- the address at an offset from the instruction's, modulo 2^32, in eight hexadecimal digits
abbrev pub target : ℕ → ℕ → List ℕ
target a off = hex_word ((a + off) % 2 ^ 32)

-- the address that a register holds
abbrev pub held_in : ℕ → List ℕ
held_in rs1 = codes "(" ++ register_name rs1 ++ codes ")"

-- what stands behind the name of an instruction at address a
abbrev pub operands : Instr → ℕ → List (List ℕ)
operands (Lui rd imm) a = register_name rd ∷ upper imm ∷ []
operands (Auipc rd imm) a = register_name rd ∷ upper imm ∷ []
operands (Jal rd off) a = register_name rd ∷ target a off ∷ []
operands (Jalr rd rs1 imm) a = register_name rd ∷ (number imm ++ held_in rs1) ∷ []
operands (Branch op rs1 rs2 off) a = register_name rs1 ∷ register_name rs2 ∷ target a off ∷ []
operands (Load op rd rs1 imm) a = register_name rd ∷ (number imm ++ held_in rs1) ∷ []
operands (Store op rs1 rs2 imm) a = register_name rs2 ∷ (number imm ++ held_in rs1) ∷ []
operands (Alu op rd rs1 imm) a = register_name rd ∷ register_name rs1 ∷ number imm ∷ []
operands (Op op rd rs1 rs2) a = register_name rd ∷ register_name rs1 ∷ register_name rs2 ∷ []
operands (Atomic LrW rd rs1 rs2) a = register_name rd ∷ held_in rs1 ∷ []
operands (Atomic op rd rs1 rs2) a = register_name rd ∷ register_name rs2 ∷ held_in rs1 ∷ []
operands Fence a = []
operands Ecall a = []
operands Ebreak a = []

-- ---- instructions

-- a space before the first operand, and a comma and a space before each other
abbrev pub behind_comma : List (List ℕ) → List ℕ
behind_comma [] = []
behind_comma (text ∷ rest) = codes ", " ++ (text ++ behind_comma rest)

abbrev pub listed : List (List ℕ) → List ℕ
listed [] = []
listed (text ∷ rest) = codes " " ++ (text ++ behind_comma rest)

-- the text of what a word at address a decodes to
abbrev pub text_of_decoded : Option Instr → ℕ → List ℕ
text_of_decoded None a = codes ".word"
text_of_decoded (Some i) a = name i ++ listed (operands i a)

-- the text of the word w at address a
unfoldable pub text_of_word : ℕ → ℕ → List ℕ
text_of_word w a = text_of_decoded (decoded w) a

-- ---- steps

-- the line of a step at address a: of the text word that stands there, if one does
abbrev pub trace_line_of : ℕ → Option ℕ → List ℕ
trace_line_of a None = hex_word a ++ codes " -------- outside\n"
trace_line_of a (Some w) = hex_word a ++ codes " " ++ hex_word w ++ codes " " ++ text_of_word w a ++ codes "\n"
