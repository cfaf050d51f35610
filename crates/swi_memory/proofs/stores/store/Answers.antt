use Rattle.swi_memory.proofs.Windowed.{has_write}
use Rattle.swi_memory.proofs.stores.store.Goals as goal

pub store_in-requires-clause-here : goal.store_in-requires-clause-here
store_in-requires-clause-here c = has_write c.args.banks.now c.args.windows.now c.args.a c.args.k c.in-Some.place c.requires.windows c.requires.size c.in-Some.ensures
