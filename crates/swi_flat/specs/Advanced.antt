-- Runs that ask for no device.
use Rattle.std.specs.Prelude.{◌≡◌, ◌+◌, ◌-◌, ℕ, List, Some}
use Rattle.swi_isa.specs.Decode.{decoded}
use Rattle.swi_isa.specs.declared.instr.Instr.{Instr}
use Rattle.swi_memory.specs.Bus.{AreaData, fetched}
use Rattle.swi_memory.specs.declared.word_range.WordRange.{WordRange}
use Rattle.swi_micro.specs.MicroOp.{address_at}
use Rattle.swi_exec.specs.Registers.{Registers}
use Rattle.swi_calls.specs.Flat.{made, quiet, flat_run}
use Rattle.swi_calls.specs.declared.machine.Machine.{Machine}

-- a step of every machine with this pc, these registers and this memory goes on at the next address, takes no input and writes nothing
abbrev pub GoesOnAt : ℕ → Registers → List AreaData → ℕ → Registers → List AreaData → Type 0
GoesOnAt pc regs bus next regs' bus' = (m : Machine) (input : List ℕ) →
    made (record m { pc = pc; regs = regs; bus = bus }) input ≡ quiet (record m { pc = next; regs = regs'; bus = bus'; steps = m.steps + 1 }) input

-- the run from the first machine comes to the other, and has taken no input and written nothing
abbrev pub Advances : Machine → Machine → Type 0
Advances first now = (input output error : List ℕ) →
    flat_run (now.steps - first.steps) (record { machine = first; input = input; output = output; error = error })
    ≡ record { machine = now; input = input; output = output; error = error }

-- the instruction stands at the word with this index
abbrev pub StandsAt : List AreaData → WordRange → ℕ → Instr → Type 0
StandsAt bus range k i = (w : ℕ) × (fetched bus (address_at range k) ≡ Some w) × (decoded w ≡ Some i)
