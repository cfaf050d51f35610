-- The state after a run as text: the pc, the registers and the break, a line each, then the
-- memory that can be written.
use Rattle.std.specs.Prelude.{ℕ, zero, suc, ◌+◌, ◌-◌, ◌*◌, ◌/◌, Bool, false, nat_le, nat_lt, List, [], ◌∷◌, ◌++◌, length, map, slice_get, codes, decimal, Option, Some, None, if◌then◌else◌}
use Rattle.std.specs.List.{flat_map, list_any}
use Rattle.swi_line.specs.Hex.{hex_byte, hex_word}
use Rattle.swi_exec.specs.Registers.{Registers, reg}
use Rattle.swi_memory.specs.Bus.{AreaData, grants}
use Rattle.swi_memory.specs.declared.right.Right.TheVariants.{Write}

-- so many numbers from the first on, each one above the one before it
unfoldable pub numbers : ℕ → ℕ → List ℕ
numbers first zero = []
numbers first (suc count) = first ∷ numbers (first + 1) count

-- ---- the pc, the registers and the break

abbrev pub pc_line : ℕ → List ℕ
pc_line pc = codes "pc " ++ hex_word pc ++ codes "\n"

abbrev pub register_line : Registers → ℕ → List ℕ
register_line regs k = codes "x" ++ decimal k ++ codes " " ++ hex_word (reg regs k) ++ codes "\n"

abbrev pub break_line : ℕ → List ℕ
break_line now = codes "break " ++ hex_word now ++ codes "\n"

-- ---- memory

-- the byte at the address of those that stand from a base on, where there is one
abbrev pub byte_in : ℕ → List ℕ → ℕ → Option ℕ
byte_in base bytes a = if nat_le base a then slice_get bytes (a - base) else None

-- the sixteen bytes from an address on
abbrev pub row_at : ℕ → List ℕ → ℕ → List (Option ℕ)
row_at base bytes a = map (byte_in base bytes) (numbers a 16)

abbrev pub byte_text : Option ℕ → List ℕ
byte_text None = codes " --"
byte_text (Some b) = codes " " ++ hex_byte b

-- sixteen bytes, and their address before them
abbrev pub row_line : ℕ → List (Option ℕ) → List ℕ
row_line a row = hex_word a ++ codes ":" ++ flat_map byte_text row ++ codes "\n"

abbrev pub is_nonzero : Option ℕ → Bool
is_nonzero None = false
is_nonzero (Some b) = nat_lt 0 b

-- the line of sixteen bytes of which one isn't zero; other rows have none
abbrev pub row_text : ℕ → List (Option ℕ) → List ℕ
row_text a row = if list_any is_nonzero row then row_line a row else []

-- the rows that meet the bytes from a base on: the multiples of 16 whose sixteen bytes do, divided by 16
abbrev pub rows_met : ℕ → ℕ → List ℕ
rows_met base size = numbers (base / 16) ((base + size + 15) / 16 - base / 16)

-- the line of the sixteen bytes from the row's address on, which is 16 times its number
abbrev pub numbered_row : ℕ → List ℕ → ℕ → List ℕ
numbered_row base bytes row = row_text (16 * row) (row_at base bytes (16 * row))

-- the lines of the bytes that stand from a base on
abbrev pub rows_text : ℕ → List ℕ → List ℕ
rows_text base bytes = flat_map (numbered_row base bytes) (rows_met base (length bytes))

-- the lines of an area, where it can be written
abbrev pub area_text : AreaData → List ℕ
area_text s = if grants Write s.flags then rows_text s.base s.bytes else []

-- ---- the whole

-- the pc, the 32 registers, the break, and the lines of the areas in their order
unfoldable pub state_text_of : ℕ → Registers → List AreaData → ℕ → List ℕ
state_text_of pc regs areas now =
    pc_line pc ++ (flat_map (register_line regs) (numbers 0 32) ++ (break_line now ++ flat_map area_text areas))
