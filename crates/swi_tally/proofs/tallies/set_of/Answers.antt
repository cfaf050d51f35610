use Rattle.std.proofs.Common.{arith, sym, ◌∙◌}
use Rattle.std.proofs.lemmas.Bool.{le-ltb}
use Rattle.swi_tally.proofs.Sets.{none_has}
use Rattle.swi_tally.proofs.tallies.set_of.Goals as goal

pub loop-k-init : goal.loop-k-init
loop-k-init c j small = none_has 0 j (omega arith) ∙ sym (le-ltb j 0 (omega arith))
