use Rattle.std.proofs.Common.{length}
use Rattle.swi_links.specs.Chains.{list_of}
use Rattle.swi_links.specs.Undone.{Undone}
use Rattle.swi_links.proofs.links.undo_links.Given as goal

abbrev pub invariant-loop-at : goal.invariant-loop-at
invariant-loop-at g l = Undone l.list l.first l.size l.undone l.fn.chains l.chains (g.M.CacheRam.state l.fn.ram) (g.M.CacheRam.state l.ram)

abbrev pub decreases-loop-at : goal.decreases-loop-at
decreases-loop-at g l = length (list_of l.chains l.list)
