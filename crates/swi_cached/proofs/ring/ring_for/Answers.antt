use Rattle.swi_ring.specs.Ring.{kept_by}
use Rattle.swi_cached.proofs.Ringed.{ring_cache_is}
use Rattle.swi_cached.proofs.Slotted.{fresh_is, if_both, if_ok}
use Rattle.swi_cached.proofs.ring.ring_for.Goals as goal

pub returns-clause-cache : goal.returns-clause-cache
returns-clause-cache c =
    if_both c.new.result (λ s is kept. ring_cache_is c.args.cache_bytes _ s is kept) c.new.ensures.empty c.new.ensures.kept

pub returns-clause-fresh : goal.returns-clause-fresh
returns-clause-fresh c = if_ok c.new.result (λ s is. fresh_is (kept_by s) is) c.new.ensures.kept
