use Rattle.std.proofs.Common.{◌≡◌, ◌<◌, ℕ, nat_lt}
use Rattle.swi_tally.specs.Masks.{has}
use Rattle.swi_tally.proofs.tallies.set_of.Given as goal

abbrev pub invariant-loop-k : goal.invariant-loop-k
invariant-loop-k l = (j : ℕ) → j < 64 → has l.all j ≡ nat_lt j l.k
