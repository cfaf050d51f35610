-- The flat machine over a text that is fixed, as the cached machine runs it: a step that would store into the text isn't made, and ends the
-- run.
use Rattle.std.specs.Prelude.{ℕ, zero, suc, List, Option, Some, None, is_some, if◌then◌else◌}
use Rattle.swi_calls.specs.declared.end.End.TheVariants.{StoreText}
use Rattle.swi_calls.specs.declared.machine.Machine.{Machine}
use Rattle.swi_calls.specs.State.{FlatState}
use Rattle.swi_calls.specs.StoresText.{next_store}
use Rattle.swi_calls.specs.Flat.{Made, made, quiet, joined}

-- the run ends before a store into the text at this address; nothing else changes, the number of steps included
abbrev pub stopped_before : Machine → ℕ → Machine
stopped_before m a = record m { ending = Some (StoreText a) }

-- a step, or the end before it where it would store into the text
abbrev pub held : Machine → Option ℕ → Made → List ℕ → Made
held m None step input = step
held m (Some a) step input = quiet (stopped_before m a) input

abbrev pub held_made : Machine → List ℕ → Made
held_made m input = held m (next_store m) (made m input) input

abbrev pub held_step : FlatState → FlatState
held_step s = joined s (held_made s.machine s.input)

-- up to so many steps, until there is an ending
unfoldable pub held_run : ℕ → FlatState → FlatState
held_run zero s = s
held_run (suc n) s = if is_some s.machine.ending then s else held_run n (held_step s)

-- the state in which the run ends before a store at the address
abbrev pub stopped_at : FlatState → ℕ → FlatState
stopped_at s a = joined s (quiet (stopped_before s.machine a) s.input)
