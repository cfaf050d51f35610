-- What stands after a command that writes a file.
use Rattle.std.specs.Prelude.{◌≡◌, ℕ, List, [], ◌∷◌, ◌++◌}
use Rattle.swi_outside.specs.Shelf.{Stands}
use Rattle.swi_answer.specs.declared.answer.Ending.{Ending}
use Rattle.swi_answer.specs.declared.answer.Ending.TheVariants as ending
use Rattle.swi_task.specs.Devices.{Devices}

-- such bytes were stored under OUT, and stand there as far as is told; nothing else was stored, and all but the shelf is as it was
pub record Puts (IsMade : List ℕ → Type 0) (output : List ℕ) (before after : Devices) (e : Ending) : Type 0 where
  pub ending : e ≡ ending.Done
  pub bytes : List ℕ
  pub made : IsMade bytes
  pub stored : after.shelf.stored ≡ before.shelf.stored ++ (output, bytes) ∷ []
  pub stands : Stands after.shelf.contents output bytes
  pub others : after ≡ record before { shelf = after.shelf }
