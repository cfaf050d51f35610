-- The role of a LUI by the kind of the original instruction.
use Rattle.std.proofs.Common.{◌≡◌, refl, Option, Some, None}
use Rattle.swi_isa.specs.declared.instr.Instr.{Instr}
use Rattle.swi_isa.specs.declared.instr.Instr.TheVariants as instr
use Rattle.swi_isa.specs.declared.instr.PcRelative.TheVariants as relative
use Rattle.swi_isa.specs.Kind.{pc_relative}
use Rattle.swi_hart.specs.declared.hart.Stage.TheVariants.{Low, Return}
use Rattle.swi_hart.specs.declared.hart.Role.TheVariants.{Lead, Whole, Over}
use Rattle.swi_hart.specs.Hart.{first_role}

pub by_kind : (o : Option Instr) → (pc_relative o ≡ Some relative.Auipc → first_role o ≡ Lead Low)
    × (pc_relative o ≡ Some relative.Jal → first_role o ≡ Lead Return)
    × (pc_relative o ≡ Some relative.Branch → first_role o ≡ Over)
    × (pc_relative o ≡ None → first_role o ≡ Whole)
by_kind None = (λ is. cc, λ is. cc, λ is. cc, λ is. refl)
by_kind (Some (instr.Auipc rd imm)) = (λ is. refl, λ is. cc, λ is. cc, λ is. cc)
by_kind (Some (instr.Jal rd off)) = (λ is. cc, λ is. refl, λ is. cc, λ is. cc)
by_kind (Some (instr.Branch op rs1 rs2 off)) = (λ is. cc, λ is. cc, λ is. refl, λ is. cc)
by_kind (Some _) = (λ is. cc, λ is. cc, λ is. cc, λ is. refl)
