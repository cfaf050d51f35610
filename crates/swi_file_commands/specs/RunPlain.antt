-- The command `plain`: a run on the flat machine.
use Rattle.std.specs.Prelude.{ℕ, List, None}
use Rattle.swi_command.specs.declared.command.RunOptions.{RunOptions}
use Rattle.swi_calls.specs.Flat.{flat_run}
use Rattle.swi_calls.specs.State.{FlatState}
use Rattle.swi_task.specs.Runs.{report, start_of}
use Rattle.swi_task.specs.Task.{Task}
use Rattle.swi_file_commands.specs.RunFlat.{FlatCommand, flat_task}

abbrev pub plain_run : RunOptions → List ℕ → List ℕ → ℕ → FlatState
plain_run o file input n = flat_run n (start_of o file input)

-- the state and the counts behind the run, as far as they are asked for
abbrev pub plain_report : RunOptions → FlatState → List ℕ
plain_report o s = report o.reports s.machine None

abbrev pub plain_command : RunOptions → FlatCommand
plain_command o = record { options = o; told = λ p s. plain_report o (flat_run o.limits.steps s) }

abbrev pub plain_task : List ℕ → RunOptions → Task
plain_task name o = flat_task name (plain_command o)
