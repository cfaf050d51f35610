-- Which instructions would store into the text, and where. A program's text is fixed for the cached machine.
use Rattle.std.specs.Prelude.{◌==◌, ℕ, ◌&&◌, List, Option, Some, None}
use Rattle.swi_isa.specs.declared.instr.Instr.{Instr}
use Rattle.swi_isa.specs.declared.instr.Instr.TheVariants as instr
use Rattle.swi_isa.specs.Decode.{decoded}
use Rattle.swi_memory.specs.declared.right.Right.TheVariants.{Write}
use Rattle.swi_memory.specs.Bus.{AreaData, holds, fetched}
use Rattle.swi_exec.specs.Registers.{Registers}
use Rattle.swi_exec.specs.StoresText.{into_text, text_access_of}
use Rattle.swi_calls.specs.Call.{number_of, first_argument, second_argument, third_argument}
use Rattle.swi_calls.specs.declared.machine.Machine.{Machine}

-- a read call from descriptor 0: the whole buffer, where it can be written; also where the input is at its end
abbrev pub read_into_text : Registers → List AreaData → Option ℕ
read_into_text regs bus =
    into_text bus ((number_of regs == 63) && ((first_argument regs == 0) && holds bus Write (second_argument regs) (third_argument regs)))
    (second_argument regs) (third_argument regs)

-- the address at which the instruction, or the system call that it asks for, would store into the text
abbrev pub text_store_of : Instr → Registers → List AreaData → Option ℕ
text_store_of instr.Ecall regs bus = read_into_text regs bus
text_store_of i regs bus = text_access_of i regs bus

abbrev pub instruction_store : Machine → Option Instr → Option ℕ
instruction_store s None = None
instruction_store s (Some i) = text_store_of i s.regs s.bus

abbrev pub word_store : Machine → Option ℕ → Option ℕ
word_store s None = None
word_store s (Some w) = instruction_store s (decoded w)

-- the address at which the machine's next step would store into the text
abbrev pub next_store : Machine → Option ℕ
next_store s = word_store s (fetched s.bus s.pc)
