use Rattle.std.proofs.Common.{◌≡◌, drop, length}
use Rattle.swi_task.specs.Checks.{first_size_refusal}
use Rattle.swi_survey_command.proofs.command.check_sizes.Given as goal

-- the sizes that are left decide
abbrev pub invariant-loop-bytes : goal.invariant-loop-bytes
invariant-loop-bytes g l =
    first_size_refusal (drop l.bytes-index l.sizes) (length (g.R.CacheRam.state l.ram).words) ≡ first_size_refusal l.sizes (length (g.R.CacheRam.state l.ram).words)
