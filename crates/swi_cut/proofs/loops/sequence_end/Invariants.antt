use Rattle.swi_cut.proofs.Sequences.{IsOpen}
use Rattle.swi_cut.proofs.loops.sequence_end.Given as goal

-- the text words between are neither LR.W nor SC.W
abbrev pub invariant-loop-k : goal.invariant-loop-k
invariant-loop-k l = IsOpen l.text l.lr l.k
