-- Steps one behind the other that ask for no device and do not store into the text, as far as gates let them go.
use Rattle.std.specs.Prelude.{◌≡◌, ◌==◌, ℕ, zero, suc, ◌+◌, ◌*◌, ◌<◌, ◌≤◌, ◌&&◌, Bool, true, false, List, length, nat_lt, slice_get, slice_index, Option, Some, None, if◌then◌else◌}
use Rattle.swi_isa.specs.Decode.{decoded}
use Rattle.swi_isa.specs.declared.instr.BranchOp.TheVariants.{Beq, Blt, Bltu}
use Rattle.swi_isa.specs.declared.instr.Instr.{Instr}
use Rattle.swi_isa.specs.declared.instr.Instr.TheVariants as instr
use Rattle.swi_memory.specs.Bus.{AreaData, fetched}
use Rattle.swi_memory.specs.declared.word_range.WordRange.{WordRange}
use Rattle.swi_exec.specs.Arithmetic.{sum_of}
use Rattle.swi_exec.specs.Execute.{is_taken}
use Rattle.swi_exec.specs.Registers.{Registers, reg}
use Rattle.swi_calls.specs.Flat.{made, quiet}
use Rattle.swi_calls.specs.StoresText.{instruction_store, text_store_of}
use Rattle.swi_calls.specs.declared.machine.Machine.{Machine}
use Rattle.swi_micro.specs.declared.class.Class.{Class}
use Rattle.swi_micro.specs.declared.class.Class.TheVariants as class
use Rattle.swi_micro.specs.declared.translator.MicroOp.{MicroOp}
use Rattle.swi_micro.specs.MicroOp.{address_at}
use Rattle.swi_micro.specs.Ran.{is_gone}
use Rattle.swi_flat.specs.Advanced.{GoesOnAt}
use Rattle.swi_flat.specs.declared.coast.Coasted.{Coasted}
use Rattle.swi_flat.specs.declared.coast.Gate.{Gate}

-- ---- an instruction

-- whether it is a branch that is taken
abbrev pub is_taken_branch : Instr → Registers → Bool
is_taken_branch (instr.Branch op rs1 rs2 off) regs = is_taken op (reg regs rs1) (reg regs rs2)
is_taken_branch _ regs = false

-- whether it jumps, where it goes on
abbrev pub jumps : Instr → Registers → Bool
jumps (instr.Jal rd off) regs = true
jumps (instr.Jalr rd rs1 imm) regs = true
jumps i regs = is_taken_branch i regs

-- what a branch that is not taken pays, and a jump that has so much to pay
abbrev pub onward : Bool → Option ℕ
onward ends = if ends then None else Some 0

abbrev pub over : Bool → ℕ → Option ℕ
over free much = if free then Some much else None

-- What a step pays at a gate that ends those of branches that are not taken, or not, and lets jumps go free, or not. None where it isn't
-- let go on.
abbrev pub toll : Instr → Bool → Bool → Registers → Option ℕ
toll (instr.Jal rd off) ends free regs = over free (if rd == 0 then 0 else 2)
toll (instr.Jalr rd rs1 imm) ends free regs = None
toll (instr.Branch op rs1 rs2 off) ends free regs = if is_taken op (reg regs rs1) (reg regs rs2) then over free 1 else onward ends
toll instr.Ecall ends free regs = None
toll instr.Ebreak ends free regs = None
toll _ ends free regs = Some 0

-- ---- its micro-op, of a class

abbrev pub is_taken_by : Class → MicroOp → Registers → Bool
is_taken_by class.Equal m regs = is_gone Beq m regs
is_taken_by class.Less m regs = is_gone Blt m regs
is_taken_by class.Below m regs = is_gone Bltu m regs
is_taken_by _ m regs = false

abbrev pub toll_by : Class → Bool → Bool → MicroOp → Registers → Option ℕ
toll_by class.Equal ends free m regs = if is_gone Beq m regs then over free 1 else onward ends
toll_by class.Less ends free m regs = if is_gone Blt m regs then over free 1 else onward ends
toll_by class.Below ends free m regs = if is_gone Bltu m regs then over free 1 else onward ends
toll_by class.Jal ends free m regs = over free (if m.rd == 0 then 0 else 2)
toll_by class.Jalr ends free m regs = None
toll_by class.Stop ends free m regs = None
toll_by _ ends free m regs = Some 0

-- ---- steps

-- a step at an instruction leads from a machine to the next, asks for no device, and does not store into the text
pub record StepsOn (i : Instr) (m n : Machine) : Type 0 where
  pub word : ℕ
  pub fetches : fetched m.bus m.pc ≡ Some word
  pub decodes : decoded word ≡ Some i
  pub unstored : instruction_store m (Some i) ≡ None
  pub goes : (input : List ℕ) → made m input ≡ quiet n input
  pub counted : n.steps ≡ m.steps + 1
  pub ending : n.ending ≡ m.ending

-- the same at the word with an index of a range, of every machine with these registers and this memory
pub record StepsAt (range : WordRange) (k : ℕ) (i : Instr) (regs : Registers) (bus : List AreaData) (next : ℕ) (regs' : Registers) (bus' : List AreaData) : Type 0 where
  pub word : ℕ
  pub fetches : fetched bus (address_at range k) ≡ Some word
  pub decodes : decoded word ≡ Some i
  pub unstored : text_store_of i regs bus ≡ None
  pub goes : GoesOnAt (address_at range k) regs bus (address_at range next) regs' bus'
  pub within : next ≤ range.words
  pub lands : jumps i regs ≡ true → next < range.words

-- the gates of words from an address on, and behind them one more; a jump is let over an exit whose mask is the one that passes
pub record Gates : Type 0 where
  pub base : ℕ
  pub words : List Gate
  pub masks : List ℕ
  pub pass : ℕ

abbrev pub is_open : List ℕ → ℕ → ℕ → Bool
is_open masks pass x = nat_lt x (length masks) && slice_index masks x == pass

-- the machine stands at the word with an index, or behind the last
pub record At (g : Gates) (k : ℕ) (m : Machine) : Type 0 where
  pub within : k < length g.words
  pub pc : m.pc ≡ sum_of g.base (4 * k)

-- a step from one word to another that a gate lets go on, for so much
pub record GoesOn (g : Gates) (k : ℕ) (m : Machine) (next : ℕ) (n : Machine) (paid : ℕ) : Type 0 where
  pub instruction : Instr
  pub gate : Gate
  pub gate_is : slice_get g.words k ≡ Some gate
  pub step : StepsOn instruction m n
  pub on : gate.stops ≡ false
  pub toll_is : toll instruction gate.ends (is_open g.masks g.pass gate.exit) m.regs ≡ Some paid
  pub at : At g next n
  pub lands : jumps instruction m.regs ≡ true → next + 1 < length g.words

-- so many of these
abbrev pub Coasts : Gates → ℕ → Machine → ℕ → ℕ → Machine → ℕ → Type 0
Coasts g first m zero k n paid = (k ≡ first) × (n ≡ m) × (paid ≡ 0)
Coasts g first m (suc j) k n paid = (h : ℕ) × (o : Machine) × (p : ℕ) × (q : ℕ) × Coasts g first m j h o p × GoesOn g h o k n q × (paid ≡ p + q)

-- and one more, if one is made then, whatever its gate says: is it a branch that is taken?
abbrev pub Closes : Option Bool → Machine → Machine → Type 0
Closes None m n = n ≡ m
Closes (Some taken) m n = (i : Instr) × StepsOn i m n × (taken ≡ is_taken_branch i m.regs)

-- how they end: at which word the last of them would begin or began, behind how many others, what these paid, and the last
pub record HasCoasted (g : Gates) (m n : Machine) (c : Coasted) : Type 0 where
  pub first : ℕ
  pub begins : At g first m
  pub inside : first + 1 < length g.words
  pub before : Machine
  pub coasts : Coasts g first m c.steps c.at before c.paid
  pub within : c.at < length g.words
  pub closes : Closes c.last before n
