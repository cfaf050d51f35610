use Rattle.std.specs.Prelude.{slice_index}
use Rattle.swi_outside.specs.CacheRam.{FirstSet}
use Rattle.swi_outside.proofs.cache_ram.CacheRam.set_all.Given as goal

-- the first words stand
abbrev pub invariant-loop-k : goal.invariant-loop-k
invariant-loop-k g l = FirstSet (slice_index (g.W.Words.items l.words)) l.first l.k (g.Self.CacheRam.state l.fn.self) (g.Self.CacheRam.state l.self)
