-- Where a run of a file's program starts.
use Rattle.std.proofs.Common.{◌≡◌, ℕ, List, Ok, sym, ap}
use Rattle.swi_memory.specs.declared.layout.Layout.{Layout}
use Rattle.swi_program.specs.ProgramOf.{program_of_file}
use Rattle.swi_calls.specs.Flat.{flat_start}
use Rattle.swi_command.specs.declared.command.RunOptions.{RunOptions}
use Rattle.swi_task.specs.Checks.{room_in}
use Rattle.swi_task.specs.Runs.{layout_in, start_of}

pub start_is : (o : RunOptions) (file input : List ℕ) (l : Layout) → room_in file o.limits ≡ Ok l →
    flat_start (program_of_file file) l o.reports.calls input ≡ start_of o file input
unfolding start_of
start_is o file input l room = ap (λ (x : Layout). flat_start (program_of_file file) x o.reports.calls input)
    (sym (ap layout_in room))
