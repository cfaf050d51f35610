use Rattle.std.proofs.Common.{◌≡◌, ◌≤◌}
use Rattle.swi_slots.specs.Steps.{Cleared, leading_in}
use Rattle.swi_slots.proofs.scan.drop_links.Given as goal

abbrev pub invariant-loop-i : goal.invariant-loop-i
invariant-loop-i g l = (l.undone ≡ leading_in l.size l.slot l.fn.targets l.i) × (l.undone ≤ l.i)
    × Cleared l.slots l.size l.slot l.i l.fn.targets l.targets (g.M.CacheRam.state l.fn.ram) (g.M.CacheRam.state l.ram)
