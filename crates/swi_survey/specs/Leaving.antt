-- How a step leaves its text word: how many words of its rendering it executes, and where it goes.
use Rattle.std.specs.Prelude.{ℕ, ◌==◌, ◌%◌, Bool, not, ◌||◌, Option, Some, None, if◌then◌else◌}
use Rattle.swi_isa.specs.declared.instr.Instr.{Instr}
use Rattle.swi_isa.specs.declared.instr.Instr.TheVariants as instr
use Rattle.swi_exec.specs.Registers.{Registers, reg}
use Rattle.swi_exec.specs.Execute.{is_taken}
use Rattle.swi_render.specs.Rendering.{sum}
use Rattle.swi_survey.specs.declared.leaving.Leaving.{Leaving}
use Rattle.swi_survey.specs.declared.leaving.Way.TheVariants as way

abbrev pub jal_words : ℕ → ℕ → ℕ → ℕ
jal_words rd a off = if not (sum a off % 4 == 0) || rd == 0 then 1 else 3

abbrev pub branch_by : Bool → Leaving
branch_by taken = if taken then record { words = 2; way = way.Over } else record { words = 1; way = way.Next }

-- where it is no branch that is taken
abbrev pub untaken_by : Option Instr → ℕ → Leaving
untaken_by None a = record { words = 1; way = way.Away }
untaken_by (Some instr.Ebreak) a = record { words = 1; way = way.Away }
untaken_by (Some (instr.Jalr rd rs1 imm)) a = record { words = 1; way = way.Away }
untaken_by (Some (instr.Auipc rd imm)) a = record { words = 2; way = way.Next }
untaken_by (Some (instr.Jal rd off)) a = record { words = jal_words rd a off; way = way.Over }
untaken_by (Some i) a = record { words = 1; way = way.Next }

abbrev pub leaving_by : Option Instr → Registers → ℕ → Leaving
leaving_by None regs pc = record { words = 1; way = way.Away }
leaving_by (Some instr.Ebreak) regs pc = record { words = 1; way = way.Away }
leaving_by (Some (instr.Jalr rd rs1 imm)) regs pc = record { words = 1; way = way.Away }
leaving_by (Some (instr.Auipc rd imm)) regs pc = record { words = 2; way = way.Next }
leaving_by (Some (instr.Jal rd off)) regs pc = record { words = jal_words rd pc off; way = way.Over }
leaving_by (Some (instr.Branch op rs1 rs2 off)) regs pc = branch_by (is_taken op (reg regs rs1) (reg regs rs2))
leaving_by (Some i) regs pc = record { words = 1; way = way.Next }
