use Rattle.std.proofs.Common.{◌≡◌, ◌≤◌, ◌<◌, ℕ, get_or}
use Rattle.swi_image.specs.Place.{block_at}
use Rattle.swi_check.proofs.checker.check_zeros.Given as goal

-- the words so far are zeros
abbrev pub invariant-loop-offset : goal.invariant-loop-offset
invariant-loop-offset l = (o : ℕ) → l.from ≤ o → o < l.offset → get_or (block_at l.view l.block) o 0 ≡ 0
