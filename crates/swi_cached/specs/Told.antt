-- What is told of the steps of a run: a line of each, before it is made, or the addresses of the last ones.
use Rattle.std.specs.Prelude.{ℕ, zero, suc, Bool, true, false, List, [], ◌∷◌, ◌++◌, Option, Some, None, is_some, if◌then◌else◌}
use Rattle.swi_memory.specs.Bus.{AreaData, fetched}
use Rattle.swi_calls.specs.declared.machine.Machine.{Machine}
use Rattle.swi_calls.specs.State.{FlatState}
use Rattle.swi_calls.specs.Flat.{Made}
use Rattle.swi_calls.specs.Held.{held_made, held_run}
use Rattle.swi_trace.specs.History.{last_of}
use Rattle.swi_trace.specs.Text.{trace_line_of}
use Rattle.swi_line.specs.declared.trace.Trace.{Trace}
use Rattle.swi_line.specs.declared.trace.Trace.TheVariants as trace

-- whether each step has its line
abbrev pub is_each : Trace → Bool
is_each trace.Each = true
is_each _ = false

-- the history that is kept of these addresses: none where nothing is told, else the last 32
abbrev pub history_of : Trace → List ℕ → Option (List ℕ)
history_of trace.Off pushed = None
history_of _ pushed = Some (last_of 32 pushed)

-- the line of the step that a machine makes next: its address, and the original text word that stands there
abbrev pub step_line : Machine → List ℕ
step_line m = trace_line_of m.pc (fetched m.bus m.pc)

-- that line, where steps are told
abbrev pub told_line : Bool → Machine → List ℕ
told_line false m = []
told_line true m = step_line m

-- what the next step writes to the errors, behind its line where steps are told
abbrev pub next_error : Bool → FlatState → List ℕ
next_error trace s = told_line trace s.machine ++ (held_made s.machine s.input).error

-- the next step, with that
abbrev pub next_told : Bool → FlatState → Made
next_told trace s = record (held_made s.machine s.input) { error = next_error trace s }

-- what is listed of the next step, where one is made or stopped: a run that has ended makes none
abbrev pub of_step : (FlatState → List ℕ) → FlatState → List ℕ
of_step list s = if is_some s.machine.ending then [] else list s

-- what is listed of the first n steps of a run, in their order
unfoldable pub of_steps : (FlatState → List ℕ) → ℕ → FlatState → List ℕ
of_steps list zero s = []
of_steps list (suc n) s = of_steps list n s ++ of_step list (held_run n s)

-- The errors after the first n steps: the program's own, or with a line before what each step writes. A step that would store into
-- the text has its line, and so has one that ends the run by a fault.
abbrev pub error_by : Bool → ℕ → FlatState → List ℕ
error_by false n s = (held_run n s).error
error_by true n s = s.error ++ of_steps (next_error true) n s

-- the addresses of the first n steps
abbrev pub addresses : ℕ → FlatState → List ℕ
addresses n s = of_steps (λ q. q.machine.pc ∷ []) n s

-- the lines of steps at these addresses, over the text of a memory
abbrev pub lines_at : List AreaData → List ℕ → List ℕ
lines_at bus [] = []
lines_at bus (a ∷ rest) = trace_line_of a (fetched bus a) ++ lines_at bus rest
