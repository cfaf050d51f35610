-- The flat machine as contracts see it, and a run of it that a device broke off.
use Rattle.std.specs.Prelude.{◌≡◌, ℕ, ◌-◌, ◌≤◌, List, ◌++◌, length, Bool, false, true}
use Rattle.swi_memory.specs.Bus.{AreaData, with_bytes}
use Rattle.swi_calls.specs.Call.{room_of_call, second_argument}
use Rattle.swi_calls.specs.Flat.{Made, made, flat_run, started}
use Rattle.swi_calls.specs.declared.machine.Machine.{Machine}
use Rattle.swi_calls.specs.State.{FlatState}

-- the machine, and whether a device has failed in one of its steps
pub record FlatData : Type 0 where
  pub machine : Machine
  pub failed : Bool

-- a machine in which no device has failed
abbrev pub unfailed : Machine → FlatData
unfailed m = record { machine = m; failed = false }

-- a machine whose next step failed: as it was, but for this memory
abbrev pub stopped : Machine → List AreaData → FlatData
stopped m bus = record { machine = record m { bus = bus }; failed = true }

-- the state of the run from a machine, with this input, at which so many steps are counted
abbrev pub state_at : ℕ → Machine → List ℕ → FlatState
state_at steps first input = flat_run (steps - first.steps) (started first input)

-- the step that would come next in a state
abbrev pub next_made : FlatState → Made
next_made s = made s.machine s.input

-- memory and the input that is left after a step that failed in this state: a front of the buffer of the read that the registers
-- ask for may be filled, with just the bytes that were taken from the input; where they ask for no read, both are as they were
pub record FillsFront (s : FlatState) (bus : List AreaData) (rest : List ℕ) : Type 0 where
  pub taken : List ℕ
  pub within : length taken ≤ room_of_call s.machine.regs s.machine.bus
  pub stored : bus ≡ with_bytes s.machine.bus (second_argument s.machine.regs) taken
  pub left : s.input ≡ taken ++ rest
