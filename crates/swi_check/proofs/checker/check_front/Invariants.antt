use Rattle.std.proofs.Common.{◌≡◌}
use Rattle.swi_image.specs.Place.{block_at}
use Rattle.swi_render.specs.ImageOf.{offset_in}
use Rattle.swi_check.specs.Mismatches.{WordsRight, asked_between}
use Rattle.swi_check.proofs.checker.check_front.Given as goal

-- the words so far are right
abbrev pub invariant-loop-k : goal.invariant-loop-k
invariant-loop-k l = (l.from ≡ offset_in l.text l.first l.k) × WordsRight (asked_between l.text l.view l.first l.end) (block_at l.view l.block) l.from
