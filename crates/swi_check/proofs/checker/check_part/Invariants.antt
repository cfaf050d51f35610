use Rattle.swi_image.specs.Place.{block_at}
use Rattle.swi_check.proofs.Words.{AreHeld}
use Rattle.swi_check.proofs.checker.check_part.Given as goal

-- the words so far are these
abbrev pub invariant-loop-j : goal.invariant-loop-j
invariant-loop-j l = AreHeld (block_at l.view l.block) l.words l.from l.j
