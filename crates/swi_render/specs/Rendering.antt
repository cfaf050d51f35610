-- What a text word becomes in a block. Over the instructions of the RISC-V unprivileged specification.
-- Address sums are modulo 2^32.
use Rattle.std.specs.Prelude.{◌≡◌, ℕ, ◌+◌, ◌-◌, ◌*◌, ◌/◌, ◌%◌, ◌^◌, ◌<◌, ◌==◌, Bool, true, false, List, [], ◌∷◌, ◌++◌, length, get_or, map, Option, Some, None, if◌then◌else◌}
use Rattle.swi_isa.specs.Decode.{decoded}
use Rattle.swi_isa.specs.declared.instr.BranchOp.{BranchOp}
use Rattle.swi_isa.specs.declared.instr.BranchOp.TheVariants.{Beq, Bne, Blt, Bge, Bltu, Bgeu}
use Rattle.swi_isa.specs.declared.instr.ImmOp.TheVariants.{Addi}
use Rattle.swi_isa.specs.declared.instr.Instr.{Instr}
use Rattle.swi_isa.specs.declared.instr.Instr.TheVariants.{Lui, Auipc, Jal, Jalr, Branch, Alu, Ebreak}
use Rattle.swi_render.specs.declared.parts.Part.{Part}
use Rattle.swi_render.specs.declared.parts.Part.TheVariants.{Lead, Step, Skip, Leave, Indirect, Misaligned, Trap, Fall, Inert}

-- what is asked of a word: that it decodes to an instruction, or that it is a number
pub data Asked : Type 0 where
  Decodes : Instr → Asked
  Is : ℕ → Asked

-- a word of a block: what is asked of it, and what it does
pub record Slot : Type 0 where
  pub asked : Asked
  pub part : Part

abbrev pub slot : Part → Asked → Slot
slot p a = record { asked = a; part = p }

-- the word of EBREAK (section "Environment Call and Breakpoints"), at which the cache service is entered
abbrev pub ebreak : ℕ
ebreak = 0x00100073

abbrev pub sum : ℕ → ℕ → ℕ
sum a b = (a + b) % 2 ^ 32

-- a value of 32 bits as a multiple of 4096 and a number from -2048 to 2047: what LUI puts into a register, and what
-- ADDI then adds (section "Integer Register-Immediate Instructions")
abbrev pub upper : ℕ → ℕ
upper v = (v + 2048) / 4096 % 2 ^ 20 * 4096

abbrev pub lower : ℕ → ℕ
lower v = (v + 2 ^ 32 - upper v) % 2 ^ 32

abbrev pub load_upper : ℕ → ℕ → Asked
load_upper rd v = Decodes (Lui rd (upper v))

abbrev pub add_lower : ℕ → ℕ → Asked
add_lower rd v = Decodes (Alu Addi rd rd (lower v))

-- the branch that is taken exactly where the other is not (section "Conditional Branches")
abbrev pub opposite : BranchOp → BranchOp
opposite Beq = Bne
opposite Bne = Beq
opposite Blt = Bge
opposite Bge = Blt
opposite Bltu = Bgeu
opposite Bgeu = Bltu

-- The word behind an EBREAK is its descriptor. Its low two bits say what is done there: 00 an exit to the descriptor,
-- an original address; 10 a jump to the descriptor, which is no multiple of 4; 01 a trap of the original word at the
-- descriptor minus 1; 11 the descriptor is the original JALR, and the value that it links stands behind it.

-- a trap of the word at address a
abbrev pub trap : ℕ → List Slot
trap a = slot Trap (Is ebreak) ∷ slot Inert (Is (sum a 1)) ∷ []

-- a jump from a to t that links to rd: is t a multiple of 4, and is rd x0?
abbrev pub jump : Bool → Bool → ℕ → ℕ → ℕ → List Slot
jump false link rd t a = slot Misaligned (Is ebreak) ∷ slot Inert (Is t) ∷ []
jump true true rd t a = slot Leave (Is ebreak) ∷ slot Inert (Is t) ∷ []
jump true false rd t a =
    slot Lead (load_upper rd (sum a 4)) ∷ slot Lead (add_lower rd (sum a 4))
    ∷ slot Leave (Is ebreak) ∷ slot Inert (Is t) ∷ []

-- the rendering of the word w at address a, by what w decodes to
abbrev pub rendering_of : Option Instr → ℕ → ℕ → List Slot
rendering_of None w a = trap a
rendering_of (Some Ebreak) w a = trap a
rendering_of (Some (Auipc rd imm)) w a =
    slot Lead (load_upper rd (sum a imm)) ∷ slot Step (add_lower rd (sum a imm)) ∷ []
rendering_of (Some (Jal rd off)) w a = jump (sum a off % 4 == 0) (rd == 0) rd (sum a off) a
rendering_of (Some (Branch op rs1 rs2 off)) w a =
    slot Skip (Decodes (Branch (opposite op) rs1 rs2 12)) ∷ slot Leave (Is ebreak) ∷ slot Inert (Is (sum a off)) ∷ []
rendering_of (Some (Jalr rd rs1 imm)) w a =
    slot Indirect (Is ebreak) ∷ slot Inert (Is w) ∷ slot Inert (Is (sum a 4)) ∷ []
rendering_of (Some i) w a = slot Step (Is w) ∷ []

-- whether control can go on behind the word
abbrev pub falls_of : Option Instr → Bool
falls_of None = false
falls_of (Some Ebreak) = false
falls_of (Some (Jal rd off)) = false
falls_of (Some (Jalr rd rs1 imm)) = false
falls_of (Some i) = true

-- the exit of a block whose last word stands at a
abbrev pub fall_exit : ℕ → List Slot
fall_exit a = slot Fall (Is ebreak) ∷ slot Inert (Is (sum a 4)) ∷ []

-- the rendering with the exit that the word has as the last of its block
abbrev pub ending_of : Option Instr → ℕ → ℕ → List Slot
ending_of i w a = rendering_of i w a ++ (if falls_of i then fall_exit a else [])

-- the same of the word w at address a
unfoldable pub rendering : ℕ → ℕ → List Slot
rendering w a = rendering_of (decoded w) w a

unfoldable pub falls : ℕ → Bool
falls w = falls_of (decoded w)

unfoldable pub ending : ℕ → ℕ → List Slot
ending w a = ending_of (decoded w) w a

-- how many words it takes, and how many as the last of its block
abbrev pub len : ℕ → ℕ → ℕ
len w a = length (rendering w a)

abbrev pub needs : ℕ → ℕ → ℕ
needs w a = length (ending w a)

-- what words do, and what the word at a distance does; nothing, behind the end
abbrev pub parts_of : List Slot → List Part
parts_of ss = map (λ s. s.part) ss

abbrev pub part_at : ℕ → ℕ → ℕ → Part
part_at w a at = get_or (parts_of (ending w a)) at Inert

-- a word is as it is asked
abbrev pub As : Asked → ℕ → Type 0
As (Decodes i) x = decoded x ≡ Some i
As (Is n) x = x ≡ n

-- and is the only word of 32 bits that is
pub record IsThe (q : Asked) (x : ℕ) : Type 0 where
  pub here : As q x
  pub only : (y : ℕ) → y < 2 ^ 32 → As q y → y ≡ x

-- words are, one by one, as they are asked
abbrev pub AreAs : List Slot → List ℕ → Type 0
AreAs [] [] = Unit {0}
AreAs [] (x ∷ xs) = ⊥
AreAs (s ∷ ss) [] = ⊥
AreAs (s ∷ ss) (x ∷ xs) = As s.asked x × AreAs ss xs

abbrev pub AreThe : List Slot → List ℕ → Type 0
AreThe [] [] = Unit {0}
AreThe [] (x ∷ xs) = ⊥
AreThe (s ∷ ss) [] = ⊥
AreThe (s ∷ ss) (x ∷ xs) = IsThe s.asked x × AreThe ss xs

-- the words s are the rendering of the text word w at address a
unfoldable pub Renders : ℕ → ℕ → List ℕ → Type 0
Renders w a s = AreAs (rendering w a) s

-- every word of the list has 32 bits
abbrev pub AreWords : List ℕ → Type 0
AreWords [] = Unit {0}
AreWords (x ∷ xs) = (x < 2 ^ 32) × AreWords xs
