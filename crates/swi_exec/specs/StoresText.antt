-- Which instructions would store into the text, and where. A program's text is fixed for the cached machine.
use Rattle.std.specs.Prelude.{ℕ, Bool, ◌&&◌, List, Option, Some, None, if◌then◌else◌}
use Rattle.swi_isa.specs.declared.instr.AtomicOp.{AtomicOp}
use Rattle.swi_isa.specs.declared.instr.AtomicOp.TheVariants.{LrW, ScW}
use Rattle.swi_isa.specs.declared.instr.Instr.{Instr}
use Rattle.swi_isa.specs.declared.instr.Instr.TheVariants as instr
use Rattle.swi_memory.specs.declared.right.Right.TheVariants.{Write}
use Rattle.swi_memory.specs.Bus.{AreaData, holds, touches_text}
use Rattle.swi_exec.specs.Registers.{Registers, reg}
use Rattle.swi_exec.specs.Execute.{store_size, address_of, is_reserved, lets_store_word, lets_update}

-- where a store of n bytes begins that may be made, if one of the bytes is a text word's
abbrev pub into_text : List AreaData → Bool → ℕ → ℕ → Option ℕ
into_text bus may a n = if may && touches_text bus a n then Some a else None

-- the same of an atomic instruction on the word at a: SC.W where it succeeds, an AMO where it doesn't fault
abbrev pub atomic_into_text : AtomicOp → ℕ → Registers → List AreaData → Option ℕ
atomic_into_text LrW a regs bus = None
atomic_into_text ScW a regs bus = into_text bus (lets_store_word bus a && is_reserved regs a) a 4
atomic_into_text _ a regs bus = into_text bus (lets_update bus a) a 4

-- the address at which the instruction would store into the text. What the call of an ECALL stores comes after it
abbrev pub text_access_of : Instr → Registers → List AreaData → Option ℕ
text_access_of (instr.Store op rs1 rs2 imm) regs bus = into_text bus (holds bus Write (address_of regs rs1 imm) (store_size op)) (address_of regs rs1 imm) (store_size op)
text_access_of (instr.Atomic op rd rs1 rs2) regs bus = atomic_into_text op (reg regs rs1) regs bus
text_access_of _ regs bus = None
