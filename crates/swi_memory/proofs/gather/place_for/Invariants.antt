use Rattle.std.proofs.Common.{◌≡◌, ◌+◌, drop}
use Rattle.swi_memory.specs.Gather.{place_in}
use Rattle.swi_memory.specs.Views.{areas}
use Rattle.swi_memory.proofs.gather.place_for.Given as goal

-- the banks so far stand before the base
abbrev pub invariant-loop-i : goal.invariant-loop-i
invariant-loop-i l = l.i + place_in (areas (drop l.i l.banks)) l.base ≡ place_in (areas l.banks) l.base
