-- What each instruction does. Source: RISC-V unprivileged specification, the chapters on RV32I, the "M" extension and the "A"
-- extension. That a misaligned load or store goes byte by byte, that a misaligned LR.W, SC.W or AMO faults, and that an SC.W that
-- doesn't fault succeeds exactly where its address is the one that is reserved: own rules, which the specification leaves open.
use Rattle.std.specs.Prelude.{◌≡◌, ◌==◌, ℕ, ◌/◌, ◌*◌, ◌%◌, Bool, false, not, ◌&&◌, nat_lt, int_lt, List, Option, Some, None, if◌then◌else◌, bit_and, bit_or, bit_xor}
use Rattle.swi_field.specs.Field.{extended}
use Rattle.swi_isa.specs.declared.instr.BranchOp.{BranchOp}
use Rattle.swi_isa.specs.declared.instr.BranchOp.TheVariants.{Beq, Bne, Blt, Bge, Bltu, Bgeu}
use Rattle.swi_isa.specs.declared.instr.LoadOp.{LoadOp}
use Rattle.swi_isa.specs.declared.instr.LoadOp.TheVariants.{Lb, Lh, Lw, Lbu, Lhu}
use Rattle.swi_isa.specs.declared.instr.StoreOp.{StoreOp}
use Rattle.swi_isa.specs.declared.instr.StoreOp.TheVariants.{Sb, Sh, Sw}
use Rattle.swi_isa.specs.declared.instr.ImmOp.{ImmOp}
use Rattle.swi_isa.specs.declared.instr.ImmOp.TheVariants.{Addi, Slti, Sltiu, Xori, Ori, Andi, Slli, Srli, Srai}
use Rattle.swi_isa.specs.declared.instr.RegOp.{RegOp}
use Rattle.swi_isa.specs.declared.instr.RegOp.TheVariants.{Add, Sub, Sll, Slt, Sltu, Xor, Srl, Sra, Or, And, Mul, Mulh, Mulhsu, Mulhu, Div, Divu, Rem, Remu}
use Rattle.swi_isa.specs.declared.instr.AtomicOp.{AtomicOp}
use Rattle.swi_isa.specs.declared.instr.AtomicOp.TheVariants.{LrW, ScW, SwapW, AddW, XorW, AndW, OrW, MinW, MaxW, MinuW, MaxuW}
use Rattle.swi_isa.specs.declared.instr.Instr.{Instr}
use Rattle.swi_isa.specs.declared.instr.Instr.TheVariants as instr
use Rattle.swi_memory.specs.Bus.{AreaData, holds, number_at, stored}
use Rattle.swi_memory.specs.declared.right.Right.TheVariants.{Read, Write}
use Rattle.swi_exec.specs.declared.done.Done.{Done}
use Rattle.swi_exec.specs.declared.done.Done.TheVariants as done
use Rattle.swi_exec.specs.declared.done.FaultKind.{FaultKind}
use Rattle.swi_exec.specs.declared.done.FaultKind.TheVariants as kind
use Rattle.swi_exec.specs.Arithmetic.{signed, sum_of, difference_of, less_of, less_unsigned_of, left_shift_of, right_shift_of, signed_right_shift_of, product_of, high_product_of, high_product_mixed_of, high_product_unsigned_of, quotient_of, quotient_unsigned_of, remainder_of, remainder_unsigned_of, least_of, greatest_of, least_unsigned_of, greatest_unsigned_of}
use Rattle.swi_exec.specs.Registers.{Registers, reg, with_reg, with_reservation}

-- what an operation gives of rs1 and rs2
abbrev pub op_value : RegOp → ℕ → ℕ → ℕ
op_value Add a b = sum_of a b
op_value Sub a b = difference_of a b
op_value Sll a b = left_shift_of a b
op_value Slt a b = less_of a b
op_value Sltu a b = less_unsigned_of a b
op_value Xor a b = bit_xor a b
op_value Srl a b = right_shift_of a b
op_value Sra a b = signed_right_shift_of a b
op_value Or a b = bit_or a b
op_value And a b = bit_and a b
op_value Mul a b = product_of a b
op_value Mulh a b = high_product_of a b
op_value Mulhsu a b = high_product_mixed_of a b
op_value Mulhu a b = high_product_unsigned_of a b
op_value Div a b = quotient_of a b
op_value Divu a b = quotient_unsigned_of a b
op_value Rem a b = remainder_of a b
op_value Remu a b = remainder_unsigned_of a b

-- what an operation gives of rs1 and the immediate
abbrev pub imm_value : ImmOp → ℕ → ℕ → ℕ
imm_value Addi a b = sum_of a b
imm_value Slti a b = less_of a b
imm_value Sltiu a b = less_unsigned_of a b
imm_value Xori a b = bit_xor a b
imm_value Ori a b = bit_or a b
imm_value Andi a b = bit_and a b
imm_value Slli a b = left_shift_of a b
imm_value Srli a b = right_shift_of a b
imm_value Srai a b = signed_right_shift_of a b

-- whether a branch on rs1 and rs2 is taken
abbrev pub is_taken : BranchOp → ℕ → ℕ → Bool
is_taken Beq a b = a == b
is_taken Bne a b = not (a == b)
is_taken Blt a b = int_lt (signed a) (signed b)
is_taken Bge a b = not (int_lt (signed a) (signed b))
is_taken Bltu a b = nat_lt a b
is_taken Bgeu a b = not (nat_lt a b)

-- how many bytes a load reads
abbrev pub load_size : LoadOp → ℕ
load_size Lb = 1
load_size Lh = 2
load_size Lw = 4
load_size Lbu = 1
load_size Lhu = 2

-- the word that a load makes of the number that it reads
abbrev pub load_value : LoadOp → ℕ → ℕ
load_value Lb v = extended 8 v
load_value Lh v = extended 16 v
load_value _ v = v

-- how many bytes a store writes
abbrev pub store_size : StoreOp → ℕ
store_size Sb = 1
store_size Sh = 2
store_size Sw = 4

-- the word that an atomic operation, where it is done, leaves in memory: of the word that stood there, and of rs2
abbrev pub atomic_word : AtomicOp → ℕ → ℕ → ℕ
atomic_word LrW a b = a
atomic_word ScW a b = b
atomic_word SwapW a b = b
atomic_word AddW a b = sum_of a b
atomic_word XorW a b = bit_xor a b
atomic_word AndW a b = bit_and a b
atomic_word OrW a b = bit_or a b
atomic_word MinW a b = least_of a b
atomic_word MaxW a b = greatest_of a b
atomic_word MinuW a b = least_unsigned_of a b
atomic_word MaxuW a b = greatest_unsigned_of a b

-- the address of a load or a store
abbrev pub address_of : Registers → ℕ → ℕ → ℕ
address_of regs rs1 imm = sum_of (reg regs rs1) imm

-- whether the option is this address
abbrev pub is_address : Option ℕ → ℕ → Bool
is_address None a = false
is_address (Some reserved) a = reserved == a

-- whether the address is the one that is reserved
abbrev pub is_reserved : Registers → ℕ → Bool
is_reserved regs a = is_address regs.reserved a

-- whether LR.W may read a word at the address
abbrev pub lets_reserve : List AreaData → ℕ → Bool
lets_reserve bus a = (a % 4 == 0) && holds bus Read a 4

-- whether SC.W may write a word at the address
abbrev pub lets_store_word : List AreaData → ℕ → Bool
lets_store_word bus a = (a % 4 == 0) && holds bus Write a 4

-- whether an AMO may read and write a word at the address
abbrev pub lets_update : List AreaData → ℕ → Bool
lets_update bus a = (a % 4 == 0) && (holds bus Read a 4 && holds bus Write a 4)

-- what an instruction leaves
pub record Effect : Type 0 where
  pub done : Done
  pub regs : Registers
  pub bus : List AreaData

-- goes on at the next word
abbrev pub goes_on : ℕ → Registers → List AreaData → Effect
goes_on pc regs bus = record { done = done.Next (sum_of pc 4); regs = regs; bus = bus }

-- faults at the address, and changes nothing
abbrev pub faults : FaultKind → ℕ → Registers → List AreaData → Effect
faults kind a regs bus = record { done = done.Fault kind a; regs = regs; bus = bus }

-- goes on at the target with the new registers, or faults with the old ones
abbrev pub jumps : ℕ → Registers → Registers → List AreaData → Effect
jumps target old new bus =
    if target % 4 == 0 then record { done = done.Next target; regs = new; bus = bus }
    else faults kind.FetchMisaligned target old bus

abbrev pub branches : Bool → ℕ → ℕ → Registers → List AreaData → Effect
branches taken target pc regs bus = if taken then jumps target regs regs bus else goes_on pc regs bus

abbrev pub loads : LoadOp → ℕ → ℕ → ℕ → Registers → List AreaData → Effect
loads op rd a pc regs bus =
    if holds bus Read a (load_size op) then goes_on pc (with_reg regs rd (load_value op (number_at bus a (load_size op)))) bus
    else faults kind.LoadAccess a regs bus

abbrev pub stores : StoreOp → ℕ → ℕ → ℕ → Registers → List AreaData → Effect
stores op a v pc regs bus =
    if holds bus Write a (store_size op) then goes_on pc regs (stored bus a (store_size op) v)
    else faults kind.StoreAccess a regs bus

-- LR.W: rd is the word, and its address is reserved
abbrev pub loads_reserved : ℕ → ℕ → ℕ → Registers → List AreaData → Effect
loads_reserved rd a pc regs bus =
    if lets_reserve bus a then goes_on pc (with_reservation (with_reg regs rd (number_at bus a 4)) (Some a)) bus
    else faults kind.LoadAccess a regs bus

-- SC.W, where it doesn't fault: v is stored and rd is 0 where its address is reserved, and else rd is 1; nothing is reserved afterwards
abbrev pub stores_conditionally : ℕ → ℕ → ℕ → ℕ → Registers → List AreaData → Effect
stores_conditionally rd a v pc regs bus =
    if lets_store_word bus a then
    (if is_reserved regs a then goes_on pc (with_reservation (with_reg regs rd 0) None) (stored bus a 4 v)
    else goes_on pc (with_reservation (with_reg regs rd 1) None) bus)
    else faults kind.StoreAccess a regs bus

-- an AMO: rd is the word that stood there, and the new word of it and v is stored
abbrev pub updates : AtomicOp → ℕ → ℕ → ℕ → ℕ → Registers → List AreaData → Effect
updates op rd a v pc regs bus =
    if lets_update bus a then goes_on pc (with_reg regs rd (number_at bus a 4)) (stored bus a 4 (atomic_word op (number_at bus a 4) v))
    else faults kind.StoreAccess a regs bus

-- an atomic instruction on the word at a, with v in rs2
abbrev pub atomic_effect : AtomicOp → ℕ → ℕ → ℕ → ℕ → Registers → List AreaData → Effect
atomic_effect LrW rd a v pc regs bus = loads_reserved rd a pc regs bus
atomic_effect ScW rd a v pc regs bus = stores_conditionally rd a v pc regs bus
atomic_effect op rd a v pc regs bus = updates op rd a v pc regs bus

-- one line for each form of instruction, at pc
abbrev pub executed : Instr → ℕ → Registers → List AreaData → Effect
executed (instr.Lui rd imm) pc regs bus = goes_on pc (with_reg regs rd imm) bus
executed (instr.Auipc rd imm) pc regs bus = goes_on pc (with_reg regs rd (sum_of pc imm)) bus
executed (instr.Jal rd off) pc regs bus = jumps (sum_of pc off) regs (with_reg regs rd (sum_of pc 4)) bus
executed (instr.Jalr rd rs1 imm) pc regs bus = jumps (address_of regs rs1 imm / 2 * 2) regs (with_reg regs rd (sum_of pc 4)) bus
executed (instr.Branch op rs1 rs2 off) pc regs bus = branches (is_taken op (reg regs rs1) (reg regs rs2)) (sum_of pc off) pc regs bus
executed (instr.Load op rd rs1 imm) pc regs bus = loads op rd (address_of regs rs1 imm) pc regs bus
executed (instr.Store op rs1 rs2 imm) pc regs bus = stores op (address_of regs rs1 imm) (reg regs rs2) pc regs bus
executed (instr.Alu op rd rs1 imm) pc regs bus = goes_on pc (with_reg regs rd (imm_value op (reg regs rs1) imm)) bus
executed (instr.Op op rd rs1 rs2) pc regs bus = goes_on pc (with_reg regs rd (op_value op (reg regs rs1) (reg regs rs2))) bus
executed (instr.Atomic op rd rs1 rs2) pc regs bus = atomic_effect op rd (reg regs rs1) (reg regs rs2) pc regs bus
executed instr.Fence pc regs bus = goes_on pc regs bus
executed instr.Ecall pc regs bus = record { done = done.Call; regs = regs; bus = bus }
executed instr.Ebreak pc regs bus = record { done = done.Break; regs = regs; bus = bus }

-- where the run goes on, it is at a multiple of 4; by cases, which a caller's `match` computes
abbrev pub IsAligned : Done → Type 0
IsAligned (done.Next pc) = pc % 4 ≡ 0
IsAligned _ = Unit

-- where a call, a break or a fault comes after the instruction, registers and memory are as they were.
abbrev pub StaysUnlessNext : Done → Registers → Registers → List AreaData → List AreaData → Type 0
StaysUnlessNext (done.Next pc) regs regs' bus bus' = Unit
StaysUnlessNext _ regs regs' bus bus' = (regs' ≡ regs) × (bus' ≡ bus)
