use Rattle.std.proofs.Common.{◌≡◌}
use Rattle.swi_slots.specs.Readers.{own_from}
use Rattle.std.specs.Prelude.{slice_get}
use Rattle.swi_slots.proofs.slots.SlotRomCacheRom.resident.Given as goal

-- what is left to count
abbrev pub invariant-loop-n : goal.invariant-loop-n
invariant-loop-n g l = slice_get (own_from l.self l.n) l.left ≡ slice_get (own_from l.self 0) l.k
