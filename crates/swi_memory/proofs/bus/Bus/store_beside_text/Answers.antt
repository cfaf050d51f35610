use Rattle.swi_memory.specs.Bus.{lowest}
use Rattle.swi_memory.proofs.Written.{same_text_beside, still_bus, untouched}
use Rattle.swi_memory.proofs.bus.Bus.store_beside_text.Goals as goal

pub invariant_of-self : goal.invariant_of-self
invariant_of-self c =
    still_bus c.self.inside c.args.self.now c.deref_mut.result.now c.store_beside_text.new.banks _ c.args.a (lowest c.args.k c.args.v) c.store_beside_text.result
    c.deref_mut.ensures.value c.self.view_is c.store_beside_text.auto.banks c.store_beside_text.ensures c.self.invariant

pub returns-clause-text : goal.returns-clause-text
returns-clause-text c =
    same_text_beside c.self.inside c.args.self.now c.deref_mut.result.now c.store_beside_text.new.banks _ c.args.a (lowest c.args.k c.args.v) c.store_beside_text.result
    c.deref_mut.ensures.value c.self.view_is c.store_beside_text.auto.banks c.store_beside_text.ensures (untouched _ c.args.a c.args.k c.args.v)
