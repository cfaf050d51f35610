use Rattle.std.proofs.Common.{◌≤◌}
use Rattle.swi_cut.proofs.Runs.{IsGrowing}
use Rattle.swi_cut.proofs.greedy.longest_end.Given as goal

abbrev pub invariant-loop-k : goal.invariant-loop-k
invariant-loop-k l = IsGrowing l.text l.most l.first l.k l.used × (l.used ≤ l.most)
