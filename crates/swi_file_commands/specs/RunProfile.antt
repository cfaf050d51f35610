-- The command `profile`: a run on the flat machine, and how often it executed each word of its text.
use Rattle.std.specs.Prelude.{ℕ, List, false}
use Rattle.swi_program.specs.Program.{ProgramData}
use Rattle.swi_program.specs.Text.{text_of}
use Rattle.swi_command.specs.declared.command.RunLimits.{RunLimits}
use Rattle.swi_command.specs.declared.command.RunOptions.{RunOptions}
use Rattle.swi_line.specs.declared.trace.Trace.TheVariants as trace
use Rattle.swi_calls.specs.Flat.{flat_run}
use Rattle.swi_calls.specs.State.{FlatState}
use Rattle.swi_profile.specs.Executions.{profile_lines}
use Rattle.swi_task.specs.Task.{Task}
use Rattle.swi_file_commands.specs.RunFlat.{FlatCommand, flat_task}

-- a run with these limits of which nothing else is written
abbrev pub quiet_run : RunLimits → RunOptions
quiet_run limits = record { limits = limits; reports = record { state = false; calls = false; stats = false; trace = trace.Off } }

-- the lines of all steps made, up to the limit
abbrev pub profile_told : ℕ → ProgramData → FlatState → List ℕ
profile_told limit p s = profile_lines (text_of p.segments) (flat_run limit s).machine.steps s

abbrev pub profile_command : RunLimits → FlatCommand
profile_command limits = record { options = quiet_run limits; told = profile_told limits.steps }

abbrev pub profile_task : List ℕ → RunLimits → Task
profile_task name limits = flat_task name (profile_command limits)
