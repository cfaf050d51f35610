-- Where control is, by the index of the word under control, that of its block's first word, and the block.
use Rattle.std.specs.Prelude.{ℕ, ◌+◌, ◌-◌, ◌%◌, ◌^◌, Option, Some, None}
use Rattle.swi_hart.specs.declared.hart.Stage.{Stage}
use Rattle.swi_hart.specs.declared.hart.Control.{Control}
use Rattle.swi_hart.specs.declared.hart.Control.TheVariants.{At, Outside}

abbrev pub control_of : Option Stage → ℕ → ℕ → ℕ → Control
control_of None index first block = Outside
control_of (Some stage) index first block = At index block ((index + 2 ^ 32 - first) % 2 ^ 32) stage
