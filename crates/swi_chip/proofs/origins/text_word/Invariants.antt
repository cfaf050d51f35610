use Rattle.std.proofs.Common.{◌-◌}
use Rattle.swi_image.specs.Format.{ImageData}
use Rattle.swi_image.proofs.Views.{Narrowed}
use Rattle.swi_chip.specs.Standing.{TextTables}
use Rattle.swi_chip.proofs.origins.text_word.Given as goal

-- the word is one of those from low - 1 up to high
abbrev pub invariant-loop-low : goal.invariant-loop-low
invariant-loop-low l = (v : ImageData) → TextTables v l.starts l.places → Narrowed v l.block l.offset l.low l.high

abbrev pub decreases-loop-low : goal.decreases-loop-low
decreases-loop-low l = l.high - l.low
