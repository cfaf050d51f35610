use Rattle.std.proofs.Common.{refl}
use Rattle.swi_slots.specs.Keys.{owner_of}
use Rattle.swi_slots.proofs.slots.owner.Goals as goal

pub returns : goal.returns
unfolding owner_of
returns c = refl
