use Rattle.swi_engine.specs.Moves.{CopiedOn}
use Rattle.swi_engine.proofs.copying.copy_rest.Given as goal

abbrev pub invariant-loop-k : goal.invariant-loop-k
invariant-loop-k g l = CopiedOn l.image l.block l.first l.from l.k (g.M.CacheRam.state l.fn.ram) (g.M.CacheRam.state l.ram)
