use Rattle.swi_slots.specs.Fifo as slots
use Rattle.swi_ring.specs.Fifo as ring
use Rattle.swi_cache_laws.proofs.Serving.{slots_arriving, ring_arriving, writes_few}
use Rattle.swi_cache_laws.proofs.Standing.{slots_once, ring_once}
use Rattle.swi_cache_laws.proofs.laws.laws_of_writes.Goals as goal

pub returns-clause-slots_once : goal.returns-clause-slots_once
returns-clause-slots_once c = λ s v t image. slots_once s v t image

pub returns-clause-ring_once : goal.returns-clause-ring_once
returns-clause-ring_once c = λ s v t image. ring_once s v t image

pub returns-clause-slots_few : goal.returns-clause-slots_few
returns-clause-slots_few c = λ by v boot place ts image is. writes_few slots.arrived slots_arriving by v boot place ts image is

pub returns-clause-ring_few : goal.returns-clause-ring_few
returns-clause-ring_few c = λ by v boot place ts image is. writes_few ring.arrived ring_arriving by v boot place ts image is
