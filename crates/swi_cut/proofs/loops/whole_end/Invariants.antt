use Rattle.swi_cut.proofs.Sequences.{SplitsNone}
use Rattle.swi_cut.proofs.loops.whole_end.Given as goal

abbrev pub invariant-loop-lr : goal.invariant-loop-lr
invariant-loop-lr l = SplitsNone l.text l.most l.first l.end l.lr
