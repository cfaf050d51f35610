use Rattle.std.proofs.Common.{◌≡◌, ◌<◌, ℕ, length, slice_index}
use Rattle.swi_chip.proofs.memo.empty.Given as goal

abbrev pub invariant-loop-e : goal.invariant-loop-e
invariant-loop-e l = (length l.memo ≡ 17) × ((j : ℕ) → j < l.e → slice_index l.memo j ≡ 0)
