use Rattle.std.proofs.Common.{◌≡◌, ◌≤◌, ◌+◌, ◌++◌, map, drop, length, string_bytes}
use Rattle.clap.specs.Words.{rows_of, found_of}
use Rattle.swi_command.specs.Arguments.{positional_name}
use Rattle.swi_command.specs.CommandLine.{given_at, more_places}
use Rattle.swi_command.proofs.read.push_more.Given as goal

abbrev pub invariant-loop-place : goal.invariant-loop-place
invariant-loop-place l =
    (map (λ s. string_bytes s) l.files.items ++ given_at (map positional_name (drop l.place-index l.place-items)) (rows_of (found_of l.matches))
    ≡ map (λ s. string_bytes s) l.initial.files.items ++ given_at more_places (rows_of (found_of l.matches)))
    × (length l.files.items ≤ length l.initial.files.items + l.place-index)
