-- The registers of a hart. Source: RISC-V unprivileged specification, "Programmers' Model for Base Integer ISA" (x0 is
-- hardwired to 0), and "Load-Reserved/Store-Conditional Instructions". What is reserved is one address.
use Rattle.std.specs.Prelude.{◌==◌, ℕ, List, slice_index, slice_set, replicate, Option, None, if◌then◌else◌}

-- 32 words, and the address that is reserved
pub record Registers : Type 0 where
  pub words : List ℕ
  pub reserved : Option ℕ

-- what register r reads
abbrev pub reg : Registers → ℕ → ℕ
reg regs r = if r == 0 then 0 else slice_index regs.words r

-- words of which number r is v, but for x0, which stays
abbrev pub with_word : List ℕ → ℕ → ℕ → List ℕ
with_word words r v = if r == 0 then words else slice_set words r v

-- registers of which r is v, but for x0, which stays
abbrev pub with_reg : Registers → ℕ → ℕ → Registers
with_reg regs r v = record regs { words = with_word regs.words r v }

-- the same registers, with this address reserved, or none
abbrev pub with_reservation : Registers → Option ℕ → Registers
with_reservation regs a = record regs { reserved = a }

-- all 0, with nothing reserved
abbrev pub new_regs : Registers
new_regs = record { words = replicate 32 0; reserved = None }

-- Where a register is written: at its own number, or for x0 at 32, and back.
abbrev pub place_of : ℕ → ℕ
place_of r = if r == 0 then 32 else r

abbrev pub register_at : ℕ → ℕ
register_at place = if place == 32 then 0 else place
