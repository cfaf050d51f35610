use Rattle.swi_cache_laws.proofs.Computed.{has_all}
use Rattle.swi_cache_laws.proofs.Seating.{room_in_slots, room_in_ring}
use Rattle.swi_cache_laws.proofs.laws.laws_of_room.Goals as goal

pub returns-clause-slots : goal.returns-clause-slots
returns-clause-slots c = λ by v image many short boot place ts is are. room_in_slots by v image many short boot place ts is are

pub returns-clause-ring : goal.returns-clause-ring
returns-clause-ring c = λ by v image many boot place ts is are. room_in_ring by v image many boot place ts is are

pub returns-clause-example : goal.returns-clause-example
returns-clause-example c = has_all
