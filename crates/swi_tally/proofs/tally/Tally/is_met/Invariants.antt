use Rattle.std.proofs.Common.{◌≡◌, ◌<◌, ℕ, false, slice_index}
use Rattle.swi_ring.specs.Fifo.{meets}
use Rattle.swi_ring.specs.Ring.{spot}
use Rattle.swi_tally.proofs.tally.Tally.is_met.Given as goal

abbrev pub invariant-loop-k : goal.invariant-loop-k
invariant-loop-k l = (j : ℕ) → j < l.k → meets l.image l.first l.size (spot l.self.homes (slice_index l.self.queue j)) ≡ false
