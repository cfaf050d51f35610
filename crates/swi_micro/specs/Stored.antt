-- What the micro-op of a store stores, into the text too. The law `store_agrees` ties it to what its instruction does.
use Rattle.std.specs.Prelude.{ℕ, List, Option, Some, None, if◌then◌else◌}
use Rattle.swi_memory.specs.declared.right.Right.TheVariants.{Write}
use Rattle.swi_memory.specs.Bus.{AreaData, holds, stored}
use Rattle.swi_exec.specs.Registers.{Registers, reg}
use Rattle.swi_exec.specs.Execute.{address_of}
use Rattle.swi_micro.specs.declared.class.Class.{Class}
use Rattle.swi_micro.specs.declared.class.Class.TheVariants as class
use Rattle.swi_micro.specs.declared.translator.MicroOp.{MicroOp}
use Rattle.swi_micro.specs.Classes.{class_of}

-- how many bytes a micro-op of the class stores; None where it is no store's
abbrev pub size_of : Class → Option ℕ
size_of class.Sw = Some 4
size_of class.Sb = Some 1
size_of class.Sh = Some 2
size_of _ = None

-- the address of the store, None where it is no store or is refused; memory afterwards
pub record Wrote : Type 0 where
  pub at : Option ℕ
  pub bus : List AreaData

abbrev nothing : List AreaData → Wrote
nothing bus = record { at = None; bus = bus }

abbrev pub writes : Option ℕ → MicroOp → Registers → List AreaData → Wrote
writes None m regs bus = nothing bus
writes (Some n) m regs bus =
    if holds bus Write (address_of regs m.rs1 m.imm) n
    then record { at = Some (address_of regs m.rs1 m.imm); bus = stored bus (address_of regs m.rs1 m.imm) n (reg regs m.rs2) }
    else nothing bus

abbrev pub wrote : MicroOp → Registers → List AreaData → Wrote
wrote m regs bus = writes (size_of (class_of m.code)) m regs bus
