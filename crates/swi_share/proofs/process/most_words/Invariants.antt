use Rattle.std.proofs.Common.{◌≡◌, ◌<◌, ◌≤◌, max, drop}
use Rattle.swi_share.specs.Starting.{most_words}
use Rattle.swi_share.proofs.process.most_words.Given as goal

-- the most so far, and of the guests to come, is that of all
abbrev pub invariant-loop-guest : goal.invariant-loop-guest
invariant-loop-guest l = (max l.most (most_words (drop l.guest-index l.guests)) ≡ most_words l.guests)
    × (0 < l.guest-index → 2 ≤ l.most) × (l.most ≤ 1024)
