use Rattle.swi_ring.specs.Fifo as ring
use Rattle.swi_slots.specs.Fifo as slots
use Rattle.swi_cache_laws.proofs.Along.{are_of_runs}
use Rattle.swi_cache_laws.proofs.Costing.{steps_cost_few, steps_write_few}
use Rattle.swi_cache_laws.proofs.Serving.{ring_arriving, slots_arriving, writes_few}
use Rattle.swi_cache_laws.proofs.laws.laws_of_programs.Goals as goal

pub returns-clause-are : goal.returns-clause-are
returns-clause-are c = λ v n f input place image is. are_of_runs v n f input place image is

pub returns-clause-cost : goal.returns-clause-cost
returns-clause-cost c = λ v s here. steps_cost_few v s here

pub returns-clause-slots_write : goal.returns-clause-slots_write
returns-clause-slots_write c = λ by v n f input place image is. steps_write_few slots.fifo (writes_few slots.arrived slots_arriving) by v n f input place image is

pub returns-clause-ring_writes : goal.returns-clause-ring_writes
returns-clause-ring_writes c = λ by v n f input place image is. steps_write_few ring.ring (writes_few ring.arrived ring_arriving) by v n f input place image is
