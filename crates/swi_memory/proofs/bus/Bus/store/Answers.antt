use Rattle.swi_memory.specs.Bus.{lowest}
use Rattle.swi_memory.proofs.Written.{still_bus}
use Rattle.swi_memory.proofs.bus.Bus.store.Goals as goal

pub invariant_of-self : goal.invariant_of-self
invariant_of-self c =
    still_bus c.self.inside c.args.self.now c.deref_mut.result.now c.store.new.banks _ c.args.a (lowest c.args.k c.args.v) c.store.result
    c.deref_mut.ensures.value c.self.view_is c.store.auto.banks c.store.ensures c.self.invariant
