use Rattle.std.proofs.Common.{refl}
use Rattle.swi_slots.specs.Keys.{number_of}
use Rattle.swi_slots.proofs.slots.number.Goals as goal

pub returns : goal.returns
unfolding number_of
returns c = refl
