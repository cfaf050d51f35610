-- The flat machine, which executes the words of a program where they stand: fetch, decode, execute (RISC-V unprivileged specification,
-- sections 1.5 and 2.1); where it starts, and that a fetch beside the text is a step of its own, is this project's own rule.
use Rattle.std.specs.Prelude.{ℕ, zero, suc, ◌+◌, ◌%◌, ◌^◌, Bool, List, [], ◌++◌, Option, Some, None, is_some, if◌then◌else◌}
use Rattle.swi_memory.specs.declared.layout.Layout.{Layout}
use Rattle.swi_memory.specs.Bus.{fetched}
use Rattle.swi_memory.specs.BusOf.{bus_of}
use Rattle.swi_isa.specs.declared.instr.Instr.{Instr}
use Rattle.swi_isa.specs.Decode.{decoded}
use Rattle.swi_exec.specs.Registers.{with_reg, new_regs}
use Rattle.swi_exec.specs.Execute.{Effect, executed}
use Rattle.swi_exec.specs.declared.done.Done.{Done}
use Rattle.swi_exec.specs.declared.done.Done.TheVariants as done
use Rattle.swi_exec.specs.declared.done.FaultKind.TheVariants as kind
use Rattle.swi_program.specs.Program.{ProgramData}
use Rattle.swi_calls.specs.declared.end.End.{End}
use Rattle.swi_calls.specs.declared.end.End.TheVariants.{Exited, Faulted}
use Rattle.swi_calls.specs.Call.{CallEffect, called}
use Rattle.swi_calls.specs.Exchange.{Exchange}
use Rattle.swi_calls.specs.declared.machine.Machine.{Machine}
use Rattle.swi_calls.specs.State.{FlatState}

-- what a step leaves and writes
pub record Made : Type 0 where
  pub machine : Machine
  pub input : List ℕ
  pub output : List ℕ
  pub error : List ℕ

-- what it does with the devices
abbrev pub exchange_of : Made → Exchange
exchange_of m = record { input = m.input; output = m.output; error = m.error }

-- a step that takes no input and writes nothing
abbrev pub quiet : Machine → List ℕ → Made
quiet s input = record { machine = s; input = input; output = []; error = [] }

-- a machine at its end; pc stays at the instruction that ended it
abbrev pub ended : Machine → End → Machine
ended s e = record s { ending = Some e; steps = s.steps + 1 }

abbrev pub ends : Machine → End → List ℕ → Made
ends s e input = quiet (ended s e) input

-- the machine with what a call changed
abbrev pub with_call : Machine → CallEffect → Machine
with_call s c = record s { regs = c.regs; bus = c.bus; heap = c.heap }

-- it is at its end where the call exits, else at the next word
abbrev pub past_call : Machine → Option ℕ → Machine
past_call s None = record s { pc = (s.pc + 4) % 2 ^ 32; steps = s.steps + 1 }
past_call s (Some code) = ended s (Exited code)

abbrev pub after_call : Machine → CallEffect → Made
after_call s c = record { machine = past_call (with_call s c) c.exited; input = c.input; output = c.output; error = c.error }

-- the step of a system call
abbrev pub call_made : Machine → List ℕ → Made
call_made s input = after_call s (called s.log s.regs s.bus s.heap input)

-- the step of an instruction that has left the machine so; only one that goes on has changed registers or memory
abbrev pub after : Machine → Done → List ℕ → Made
after s (done.Next pc) input = quiet (record s { pc = pc; steps = s.steps + 1 }) input
after s done.Call input = call_made s input
after s done.Break input = ends s (Faulted kind.Break s.pc) input
after s (done.Fault k a) input = ends s (Faulted k a) input

abbrev pub with_effect : Machine → Effect → List ℕ → Made
with_effect s e input = after (record s { regs = e.regs; bus = e.bus }) e.done input

abbrev pub with_instruction : Machine → Option Instr → List ℕ → Made
with_instruction s None input = ends s (Faulted kind.Illegal s.pc) input
with_instruction s (Some i) input = with_effect s (executed i s.pc s.regs s.bus) input

abbrev pub with_word : Machine → Option ℕ → List ℕ → Made
with_word s None input = ends s (Faulted kind.FetchAccess s.pc) input
with_word s (Some w) input = with_instruction s (decoded w) input

-- one step of a machine that has not ended
unfoldable pub made : Machine → List ℕ → Made
made s input = with_word s (fetched s.bus s.pc) input

abbrev pub joined : FlatState → Made → FlatState
joined s m = record { machine = m.machine; input = m.input; output = s.output ++ m.output; error = s.error ++ m.error }

abbrev pub flat_step : FlatState → FlatState
flat_step s = joined s (made s.machine s.input)

-- up to so many steps, until there is an ending
unfoldable pub flat_run : ℕ → FlatState → FlatState
flat_run zero s = s
flat_run (suc n) s = if is_some s.machine.ending then s else flat_run n (flat_step s)

-- a state that has taken no input and written nothing
abbrev pub started : Machine → List ℕ → FlatState
started m input = record { machine = m; input = input; output = []; error = [] }

-- the machine of a program before its first step: every register is 0 but sp, and the break is the heap's base
abbrev pub machine_of : ProgramData → Layout → Bool → Machine
machine_of p l log = record {
  pc = p.entry;
  regs = with_reg new_regs 2 l.sp;
  bus = bus_of p.segments l;
  heap = record { base = l.heap; limit = l.heap + l.heap_len; now = l.heap };
  log = log;
  ending = None;
  steps = 0;
}

-- and its state
abbrev pub flat_start : ProgramData → Layout → Bool → List ℕ → FlatState
flat_start p l log input = started (machine_of p l log) input
