use Rattle.std.proofs.Common.{◌≡◌, ◌+◌, drop}
use Rattle.swi_memory.specs.Bus.{AreInOrder, with_bytes}
use Rattle.swi_memory.specs.Views.{areas}
use Rattle.swi_memory.proofs.copies.copy_across.Given as goal

-- what is to come is what was to come at first
abbrev pub invariant-loop-i : goal.invariant-loop-i
invariant-loop-i l = record {
  order : AreInOrder (areas l.banks);
  left : with_bytes (areas l.banks) (l.a + l.i) (drop l.i l.piece) ≡ with_bytes (areas l.fn.banks) l.a l.fn.piece;
}
