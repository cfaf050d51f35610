-- A jump over a register leaves its block.
use Rattle.std.specs.Prelude.{◌≡◌, ◌==◌, ℕ, ◌+◌, ◌-◌, ◌/◌, ◌%◌, ◌^◌, ◌<◌, List, slice_index, slice_set, if◌then◌else◌}
use Rattle.swi_chip.specs.declared.chip.Chip.{Chip}
use Rattle.swi_chip.specs.Service.{Enters, again, damaged, far_in, misaligned}

-- the register that a JALR names (The RISC-V Instruction Set Manual, Volume I, section 2.5: the I format)
abbrev pub rd_of : ℕ → ℕ
rd_of jalr = jalr / 2 ^ 7 % 2 ^ 5

-- the registers with what it links
abbrev pub linked_by : List ℕ → ℕ → ℕ → List ℕ
linked_by regs jalr value = if rd_of jalr == 0 then regs else slice_set regs (rd_of jalr) value

-- an exit of three words begins at the address: the EBREAK, the JALR, and the value that it links
abbrev pub IsExitAt : Chip → ℕ → Type 0
IsExitAt c pc = far_in c pc < c.cache_bytes - 8

abbrev pub jalr_at : Chip → ℕ → ℕ
jalr_at c pc = slice_index c.cache.now (far_in c pc / 4 + 1)

abbrev pub value_at : Chip → ℕ → ℕ
value_at c pc = slice_index c.cache.now (far_in c pc / 4 + 2)

-- what the call does to the chip
pub record Leaves (old new : Chip) (pc target answer : ℕ) : Type 0 where
  pub outside : (IsExitAt old pc → ⊥) → (answer ≡ damaged) × (new ≡ old)
  pub refuses : IsExitAt old pc → (target % 4 ≡ 0 → ⊥) → (answer ≡ misaligned) × (new ≡ old)
  pub enters : IsExitAt old pc → target % 4 ≡ 0 → Enters old new target answer

-- and to the registers
pub record Links (old : Chip) (before after : List ℕ) (pc target answer : ℕ) : Type 0 where
  pub outside : (IsExitAt old pc → ⊥) → after ≡ before
  pub refuses : (target % 4 ≡ 0 → ⊥) → after ≡ before
  pub waits : IsExitAt old pc → target % 4 ≡ 0 → answer ≡ again → after ≡ before
  pub links : IsExitAt old pc → target % 4 ≡ 0 → (answer ≡ again → ⊥) → after ≡ linked_by before (jalr_at old pc) (value_at old pc)
