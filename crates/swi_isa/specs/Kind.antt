-- Some instructions by their kind alone (RISC-V unprivileged specification, chapter RV32I).
use Rattle.std.proofs.Common.{Option, Some, None}
use Rattle.swi_isa.specs.declared.instr.Instr.{Instr}
use Rattle.swi_isa.specs.declared.instr.Instr.TheVariants as instr
use Rattle.swi_isa.specs.declared.instr.JalrFields.{JalrFields}
use Rattle.swi_isa.specs.declared.instr.PcRelative.{PcRelative}
use Rattle.swi_isa.specs.declared.instr.PcRelative.TheVariants as relative

-- the fields of a JALR; None of any other instruction, and of none
abbrev pub jalr_fields : Option Instr → Option JalrFields
jalr_fields (Some (instr.Jalr rd rs1 imm)) = Some (record { rd = rd; rs1 = rs1; imm = imm })
jalr_fields _ = None

-- which of the instructions that add an offset to their own address
abbrev pub pc_relative : Option Instr → Option PcRelative
pc_relative (Some (instr.Auipc rd imm)) = Some relative.Auipc
pc_relative (Some (instr.Jal rd off)) = Some relative.Jal
pc_relative (Some (instr.Branch op rs1 rs2 off)) = Some relative.Branch
pc_relative _ = None
