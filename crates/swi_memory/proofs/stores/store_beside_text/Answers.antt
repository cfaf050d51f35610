use Rattle.swi_memory.specs.Views.{areas}
use Rattle.swi_memory.proofs.Windowed.{has_write, lets}
use Rattle.swi_memory.proofs.stores.store_beside_text.Goals as goal

pub store_in-requires-clause-here : goal.store_in-requires-clause-here
store_in-requires-clause-here c = has_write c.args.banks.now c.args.windows.now c.args.a c.args.k c.in-Some.place c.requires.windows c.requires.size c.in-Some.ensures

pub returns : goal.returns
returns c = record {
  granted = lets (areas c.args.banks.now) c.args.windows.now c.args.a c.args.k c.in-Some.place c.requires.windows c.in-Some.ensures c.store_in.ensures.granted;
  bytes = c.store_in.ensures.bytes;
}
