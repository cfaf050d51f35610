use Rattle.std.proofs.Common.{drop}
use Rattle.swi_memory.specs.Found.{HasNone}
use Rattle.swi_memory.specs.Views.{areas}
use Rattle.swi_memory.proofs.bank.find.Given as goal

-- no bank from here on has the byte
abbrev pub invariant-loop-i : goal.invariant-loop-i
invariant-loop-i l = HasNone (areas (drop l.i l.banks)) l.a
