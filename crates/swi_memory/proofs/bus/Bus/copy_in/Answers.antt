use Rattle.swi_memory.proofs.Written.{still_bus}
use Rattle.swi_memory.proofs.bus.Bus.copy_in.Goals as goal

pub invariant_of-self : goal.invariant_of-self
invariant_of-self c =
    still_bus c.self.inside c.args.self.now c.deref_mut.result.now c.copy_in.new.banks _ c.args.a c.args.piece.now c.copy_in.result
    c.deref_mut.ensures.value c.self.view_is c.copy_in.auto.banks c.copy_in.ensures c.self.invariant
