-- The hart of a board, and what words leave of it.
use Rattle.std.specs.Prelude.{◌==◌, ℕ, suc, ◌+◌, ◌*◌, ◌%◌, Bool, true, false, not, ◌&&◌, List, [], ◌∷◌, Option, Some, None, if◌then◌else◌}
use Rattle.swi_isa.specs.declared.instr.Instr.{Instr}
use Rattle.swi_isa.specs.declared.instr.Instr.TheVariants as instr
use Rattle.swi_isa.specs.Decode.{decoded}
use Rattle.swi_memory.specs.Bus.{fetched}
use Rattle.swi_exec.specs.Arithmetic.{sum_of}
use Rattle.swi_exec.specs.Registers.{reg}
use Rattle.swi_exec.specs.Execute.{Effect, executed, is_taken}
use Rattle.swi_exec.specs.declared.done.Done.{Done}
use Rattle.swi_exec.specs.declared.done.Done.TheVariants as done
use Rattle.swi_exec.specs.declared.done.FaultKind.{FaultKind}
use Rattle.swi_exec.specs.declared.done.FaultKind.TheVariants as kind
use Rattle.swi_calls.specs.declared.end.End.{End}
use Rattle.swi_calls.specs.declared.machine.Machine.{Machine}
use Rattle.swi_calls.specs.StoresText.{text_store_of}
use Rattle.swi_calls.specs.Flat.{Made, quiet, with_effect, call_made}
use Rattle.swi_calls.specs.Held.{held, held_made}
use Rattle.swi_image.specs.Format.{ImageData}
use Rattle.swi_image.specs.Place.{place_of}
use Rattle.swi_render.specs.Rendering.{Slot, rendering}
use Rattle.swi_render.specs.declared.parts.Part.{Part}
use Rattle.swi_render.specs.declared.parts.Part.TheVariants as part
use Rattle.swi_hart.specs.declared.hart.Stage.{Stage}
use Rattle.swi_hart.specs.declared.hart.Stage.TheVariants.{Start, Low, Return, Leave}
use Rattle.swi_hart.specs.declared.hart.Control.{Control}
use Rattle.swi_hart.specs.declared.hart.Control.TheVariants.{At, Outside}
use Rattle.swi_hart.specs.declared.hart.Role.{Role}
use Rattle.swi_hart.specs.declared.hart.Role.TheVariants.{Lead, Whole, Over}
use Rattle.swi_hart.specs.declared.hart.ExitKind.{ExitKind}
use Rattle.swi_hart.specs.declared.hart.ExitKind.TheVariants.{Direct, Misaligned, Trap, Indirect}

-- where control is; the machine, whose pc is the original address; the number of machine steps; whether a device has failed; and
-- whether control has entered the ram, or found no text word to enter
pub record HartData : Type 0 where
  pub control : Control
  pub machine : Machine
  pub count : ℕ
  pub failed : Bool
  pub booted : Bool

-- where control is after a machine step, and what the step made of the machine, took and wrote
pub record Stepped : Type 0 where
  pub control : Control
  pub made : Made

abbrev pub hart_after : HartData → Stepped → HartData
hart_after h s = record h { control = s.control; machine = s.made.machine; count = h.count + 1 }

abbrev pub stepped : Control → Made → Stepped
stepped c m = record { control = c; made = m }

-- the same effect, that goes on at pc where it goes on
abbrev pub next_at : ℕ → Done → Done
next_at pc (done.Next p) = done.Next pc
next_at pc done.Call = done.Call
next_at pc done.Break = done.Break
next_at pc (done.Fault k a) = done.Fault k a

abbrev pub at_pc : ℕ → Effect → Effect
at_pc pc e = record e { done = next_at pc e.done }

-- control stays where the run has ended
abbrev pub behind : Option End → Control → Control → Control
behind None next here = next
behind (Some e) next here = here

-- a word that completes an instruction: executed at its place in the ram, it leaves what it would at the original pc
abbrev pub whole_made : ℕ → Machine → Instr → List ℕ → Made
whole_made i m x input =
    held m (text_store_of x m.regs m.bus) (with_effect m (at_pc (sum_of m.pc 4) (executed x (4 * i) m.regs m.bus)) input) input

abbrev pub whole_stepped : ℕ → ℕ → ℕ → Stage → Machine → Instr → List ℕ → Stepped
whole_stepped i b o stage m x input =
    stepped (behind (whole_made i m x input).machine.ending (At (i + 1) b (o + 1) Start) (At i b o stage)) (whole_made i m x input)

-- the machine with the registers and the memory that a word leaves
abbrev pub with_left : Machine → Effect → Machine
with_left m e = record m { regs = e.regs; bus = e.bus }

-- a word that leads to another word of the same instruction
abbrev pub lead_stepped : ℕ → ℕ → ℕ → Stage → Machine → Instr → List ℕ → Stepped
lead_stepped i b o next m x input = stepped (At (i + 1) b (o + 1) next) (quiet (with_left m (executed x (4 * i) m.regs m.bus)) input)

-- whether the branch over an exit is taken
abbrev pub skips : ℕ → Done → Bool
skips i (done.Next p) = p == sum_of (4 * i) 12
skips i done.Call = false
skips i done.Break = false
skips i (done.Fault k a) = false

abbrev pub over_by : ℕ → ℕ → ℕ → Machine → List ℕ → Bool → Stepped
over_by i b o m input true = stepped (At (i + 3) b (o + 3) Start) (quiet (record m { pc = sum_of m.pc 4; steps = m.steps + 1 }) input)
over_by i b o m input false = stepped (At (i + 1) b (o + 1) Leave) (quiet m input)

abbrev pub over_stepped : ℕ → ℕ → ℕ → Machine → Effect → List ℕ → Stepped
over_stepped i b o m e input = over_by i b o (with_left m e) input (skips i e.done)

-- a word that is executed, by its role
abbrev pub word_stepped : Role → ℕ → ℕ → ℕ → Stage → Machine → Instr → List ℕ → Stepped
word_stepped Whole i b o stage m x input = whole_stepped i b o stage m x input
word_stepped (Lead next) i b o stage m x input = lead_stepped i b o next m x input
word_stepped Over i b o stage m x input = over_stepped i b o m (executed x (4 * i) m.regs m.bus) input

-- a system call
abbrev pub call_stepped : ℕ → ℕ → ℕ → Stage → Machine → List ℕ → Stepped
call_stepped i b o stage m input =
    stepped (behind (call_made m input).machine.ending (At (i + 1) b (o + 1) Start) (At i b o stage)) (call_made m input)

-- the instruction that stands at the machine's pc
abbrev pub instruction : Option ℕ → Option Instr
instruction None = None
instruction (Some w) = decoded w

abbrev pub original : Machine → Option Instr
original m = instruction (fetched m.bus m.pc)

-- the role of a word that is no exit, by the original instruction
abbrev pub first_role : Option Instr → Role
first_role (Some (instr.Auipc rd imm)) = Lead Low
first_role (Some (instr.Jal rd off)) = Lead Return
first_role (Some (instr.Branch op rs1 rs2 off)) = Over
first_role _ = Whole

abbrev pub role_of : Stage → Option Instr → Role
role_of Start x = first_role x
role_of Low x = Whole
role_of Return x = Lead Leave
role_of Leave x = Whole

-- what an exit is for, by the two lowest bits of the word behind it
abbrev pub exit_kind : ℕ → ExitKind
exit_kind d = if d % 4 == 0 then Direct else if d % 4 == 2 then Misaligned else if d % 4 == 1 then Trap else Indirect

-- whether this is a place
abbrev pub is_place : Option (ℕ × ℕ) → ℕ → ℕ → Bool
is_place None b o = false
is_place (Some p) b o = p.0 == b && p.1 == o

-- whether control is at an exit behind a block's last text word: at a first word that is not the machine's text word's
abbrev pub is_fall : ImageData → Machine → ℕ → ℕ → Stage → Bool
is_fall v m b o Start = not (is_place (place_of v m.pc) b o)
is_fall v m b o Low = false
is_fall v m b o Return = false
is_fall v m b o Leave = false

-- An exit that is taken. The one behind a block's last text word is no step of the flat machine.
abbrev pub left_made : Bool → Machine → ℕ → List ℕ → Made
left_made true m t input = quiet m input
left_made false m t input = quiet (record m { pc = t; steps = m.steps + 1 }) input

-- the fault of a word that stops the run
abbrev pub trap_kind : Option Instr → FaultKind
trap_kind (Some instr.Ebreak) = kind.Break
trap_kind _ = kind.Illegal

-- whether a JAL to the target keeps its return address
abbrev pub links : ℕ → ℕ → Bool
links rd target = (target % 4 == 0) && not (rd == 0)

-- the rendering of the text word at the machine's pc
abbrev pub slots_at : ℕ → Option ℕ → List Slot
slots_at a None = []
slots_at a (Some w) = rendering w a

abbrev pub slots : Machine → List Slot
slots f = slots_at f.pc (fetched f.bus f.pc)

-- how many words lead to the one that completes the instruction or leaves the block
abbrev pub is_lead : Part → Bool
is_lead part.Lead = true
is_lead _ = false

abbrev pub leads : List Slot → ℕ
leads [] = 0
leads (s ∷ ss) = if is_lead s.part then suc (leads ss) else 0

-- whether the step of the board completes a step of the flat machine
abbrev pub completes_as : Machine → Option Instr → Bool
completes_as m (Some (instr.Auipc rd imm)) = false
completes_as m (Some (instr.Jal rd off)) = not (links rd (sum_of m.pc off))
completes_as m (Some (instr.Branch op rs1 rs2 off)) = not (is_taken op (reg m.regs rs1) (reg m.regs rs2))
completes_as m _ = true

abbrev pub completes : ImageData → Machine → Control → Bool
completes v m Outside = true
completes v m (At i b o Start) = not (is_fall v m b o Start) && completes_as m (original m)
completes v m (At i b o Low) = true
completes v m (At i b o Return) = false
completes v m (At i b o Leave) = true

-- where the flat machine f is after the step of the board: where it was, or one step on
abbrev pub next_made : ImageData → Machine → Control → Machine → List ℕ → Made
next_made v m c f input = if completes v m c then held_made f input else quiet f input

-- the hart of a machine that has not entered the ram
abbrev pub unbooted : Machine → HartData
unbooted m = record { control = Outside; machine = m; count = 0; failed = false; booted = false }

-- the word of the ram under control, and its place in the image, of a hart that goes on
abbrev pub index_of : Option End → Control → Option ℕ
index_of None (At i b o stage) = Some i
index_of None Outside = None
index_of (Some e) c = None

abbrev pub place_under : Option End → Control → Option (ℕ × ℕ)
place_under None (At i b o stage) = Some (b, o)
place_under None Outside = None
place_under (Some e) c = None

-- whether control is between two instructions
abbrev pub is_between : Control → Bool
is_between (At i b o Start) = true
is_between (At i b o Low) = false
is_between (At i b o Return) = false
is_between (At i b o Leave) = false
is_between Outside = true
