use Rattle.std.proofs.Common.{refl}
use Rattle.swi_slots.specs.Coheres.{coheres}
use Rattle.swi_chip_memory_laws.proofs.Memory.{holds_words}
use Rattle.swi_chip_memory_laws.proofs.laws.laws_of_memory.Goals as goal

pub returns : goal.returns
returns c = λ s vs ram lists chip k. (coheres s (vs s.turn) ram (vs, (refl, k.serves)), holds_words k)
