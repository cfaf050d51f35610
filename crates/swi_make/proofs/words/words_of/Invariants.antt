use Rattle.std.proofs.Common.{take}
use Rattle.std.specs.List.{AllZip}
use Rattle.swi_make.specs.Made.{IsWordOf}
use Rattle.swi_make.proofs.words.words_of.Given as goal

abbrev pub invariant-loop-i : goal.invariant-loop-i
invariant-loop-i l = AllZip IsWordOf (take l.i-index l.instructions) l.words.items
