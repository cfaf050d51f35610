-- The names of instructions and registers. RISC-V unprivileged specification: the names of the instructions, in
-- lower case, from the chapter "RV32/64G Instruction Set Listings", and those of the registers from the chapter "RISC-V
-- Assembly Programmer's Handbook".
use Rattle.std.specs.Prelude.{ℕ, List, [], ◌∷◌, codes, get_or}
use Rattle.swi_isa.specs.declared.instr.BranchOp.TheVariants.{Beq, Bne, Blt, Bge, Bltu, Bgeu}
use Rattle.swi_isa.specs.declared.instr.LoadOp.TheVariants.{Lb, Lh, Lw, Lbu, Lhu}
use Rattle.swi_isa.specs.declared.instr.StoreOp.TheVariants.{Sb, Sh, Sw}
use Rattle.swi_isa.specs.declared.instr.ImmOp.TheVariants.{Addi, Slti, Sltiu, Xori, Ori, Andi, Slli, Srli, Srai}
use Rattle.swi_isa.specs.declared.instr.RegOp.TheVariants.{Add, Sub, Sll, Slt, Sltu, Xor, Srl, Sra, Or, And, Mul, Mulh, Mulhsu, Mulhu, Div, Divu, Rem, Remu}
use Rattle.swi_isa.specs.declared.instr.AtomicOp.TheVariants.{LrW, ScW, SwapW, AddW, XorW, AndW, OrW, MinW, MaxW, MinuW, MaxuW}
use Rattle.swi_isa.specs.declared.instr.Instr.{Instr}
use Rattle.swi_isa.specs.declared.instr.Instr.TheVariants.{Lui, Auipc, Jal, Jalr, Branch, Load, Store, Alu, Op, Atomic, Fence, Ecall, Ebreak}

-- the name of an instruction
abbrev pub name : Instr → List ℕ
name (Lui _ _) = codes "lui"
name (Auipc _ _) = codes "auipc"
name (Jal _ _) = codes "jal"
name (Jalr _ _ _) = codes "jalr"
name (Branch Beq _ _ _) = codes "beq"
name (Branch Bne _ _ _) = codes "bne"
name (Branch Blt _ _ _) = codes "blt"
name (Branch Bge _ _ _) = codes "bge"
name (Branch Bltu _ _ _) = codes "bltu"
name (Branch Bgeu _ _ _) = codes "bgeu"
name (Load Lb _ _ _) = codes "lb"
name (Load Lh _ _ _) = codes "lh"
name (Load Lw _ _ _) = codes "lw"
name (Load Lbu _ _ _) = codes "lbu"
name (Load Lhu _ _ _) = codes "lhu"
name (Store Sb _ _ _) = codes "sb"
name (Store Sh _ _ _) = codes "sh"
name (Store Sw _ _ _) = codes "sw"
name (Alu Addi _ _ _) = codes "addi"
name (Alu Slti _ _ _) = codes "slti"
name (Alu Sltiu _ _ _) = codes "sltiu"
name (Alu Xori _ _ _) = codes "xori"
name (Alu Ori _ _ _) = codes "ori"
name (Alu Andi _ _ _) = codes "andi"
name (Alu Slli _ _ _) = codes "slli"
name (Alu Srli _ _ _) = codes "srli"
name (Alu Srai _ _ _) = codes "srai"
name (Op Add _ _ _) = codes "add"
name (Op Sub _ _ _) = codes "sub"
name (Op Sll _ _ _) = codes "sll"
name (Op Slt _ _ _) = codes "slt"
name (Op Sltu _ _ _) = codes "sltu"
name (Op Xor _ _ _) = codes "xor"
name (Op Srl _ _ _) = codes "srl"
name (Op Sra _ _ _) = codes "sra"
name (Op Or _ _ _) = codes "or"
name (Op And _ _ _) = codes "and"
name (Op Mul _ _ _) = codes "mul"
name (Op Mulh _ _ _) = codes "mulh"
name (Op Mulhsu _ _ _) = codes "mulhsu"
name (Op Mulhu _ _ _) = codes "mulhu"
name (Op Div _ _ _) = codes "div"
name (Op Divu _ _ _) = codes "divu"
name (Op Rem _ _ _) = codes "rem"
name (Op Remu _ _ _) = codes "remu"
name (Atomic LrW _ _ _) = codes "lr.w"
name (Atomic ScW _ _ _) = codes "sc.w"
name (Atomic SwapW _ _ _) = codes "amoswap.w"
name (Atomic AddW _ _ _) = codes "amoadd.w"
name (Atomic XorW _ _ _) = codes "amoxor.w"
name (Atomic AndW _ _ _) = codes "amoand.w"
name (Atomic OrW _ _ _) = codes "amoor.w"
name (Atomic MinW _ _ _) = codes "amomin.w"
name (Atomic MaxW _ _ _) = codes "amomax.w"
name (Atomic MinuW _ _ _) = codes "amominu.w"
name (Atomic MaxuW _ _ _) = codes "amomaxu.w"
name Fence = codes "fence"
name Ecall = codes "ecall"
name Ebreak = codes "ebreak"

-- the names of x0 to x31
abbrev pub register_names : List (List ℕ)
register_names =
    codes "zero" ∷ codes "ra" ∷ codes "sp" ∷ codes "gp" ∷ codes "tp" ∷ codes "t0" ∷ codes "t1" ∷ codes "t2"
    ∷ codes "s0" ∷ codes "s1" ∷ codes "a0" ∷ codes "a1" ∷ codes "a2" ∷ codes "a3" ∷ codes "a4" ∷ codes "a5"
    ∷ codes "a6" ∷ codes "a7" ∷ codes "s2" ∷ codes "s3" ∷ codes "s4" ∷ codes "s5" ∷ codes "s6" ∷ codes "s7"
    ∷ codes "s8" ∷ codes "s9" ∷ codes "s10" ∷ codes "s11" ∷ codes "t3" ∷ codes "t4" ∷ codes "t5" ∷ codes "t6" ∷ []

abbrev pub register_name : ℕ → List ℕ
register_name x = get_or register_names x []
