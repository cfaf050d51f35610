use Rattle.std.proofs.Common.{arith}
use Rattle.std.proofs.lemmas.Bool.Decides.{nat_tests}
use Rattle.std.proofs.lemmas.Grind.{common_steps}
use Rattle.swi_slots.specs.Slots.{shown_by}
use Rattle.swi_slots.proofs.slots.SlotRomCacheRom.at.Goals as goal

pub returns-then-slot-self : goal.returns-then-slot-self
unfolding shown_by
returns-then-slot-self g c = grind (arith, nat_tests, common_steps)

pub returns-then-owner-self : goal.returns-then-owner-self
unfolding shown_by
returns-then-owner-self g c = grind (arith, nat_tests, common_steps)

pub returns-then-offset-index : goal.returns-then-offset-index
unfolding shown_by
returns-then-offset-index g c = grind (arith, nat_tests, common_steps)

pub returns : goal.returns
unfolding shown_by
returns g c = grind (arith, nat_tests, common_steps)
