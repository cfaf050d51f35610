use Rattle.swi_memory.proofs.Windowed.{has_read}
use Rattle.swi_memory.proofs.loads.load_in_window.Goals as goal

pub load_in-requires-clause-here : goal.load_in-requires-clause-here
load_in-requires-clause-here c = has_read c.args.banks.now c.args.windows.now c.args.a c.args.k c.in_ok-place.place c.requires.windows c.requires.size c.in_ok-place.ensures
