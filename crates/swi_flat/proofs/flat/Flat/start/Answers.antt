use Rattle.std.proofs.Common.{rules}
use Rattle.swi_memory.specs.Bus.{fetched}
use Rattle.swi_flat.proofs.flat.Flat.start.Goals as goal

pub invariant_of-result : goal.invariant_of-result
invariant_of-result c = record { aligned = search rules; decoded = c.in_ok-decoded.ensures.decoded (fetched c.in_ok-machine.machine.bus) }
