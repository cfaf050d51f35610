use Rattle.std.proofs.Common.{refl}
use Rattle.swi_chip.proofs.Starting.{starts}
use Rattle.swi_chip.proofs.beginning.start.Goals as goal

pub returns-clause-starts : goal.returns-clause-starts
returns-clause-starts c = λ v k. starts k (record { heads = c.clear.ensures; links = c.clear-2.ensures; marks = c.clear-3.ensures; memo = c.empty.auto.memo; counts = c.clear_counts.ensures; rest = refl })
