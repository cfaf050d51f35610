use Rattle.swi_memory.specs.Views.{areas}
use Rattle.swi_memory.specs.Windows.{AreWindows}
use Rattle.swi_memory.proofs.windows.find_windows.Given as goal

-- the windows found so far are windows
abbrev pub invariant-loop-i : goal.invariant-loop-i
invariant-loop-i l = AreWindows (areas l.banks) l.windows
