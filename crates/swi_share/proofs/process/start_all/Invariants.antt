use Rattle.std.proofs.Common.{◌≡◌, ◌++◌, length}
use Rattle.std.specs.Vec.Iter.{into_iter_items, into_iter_len}
use Rattle.swi_share.specs.Starting.{AreGuests, AllStarted}
use Rattle.swi_share.proofs.process.start_all.Given as goal

abbrev pub invariant-loop-guest : goal.invariant-loop-guest
invariant-loop-guest l = (l.yielded ++ into_iter_items l.guest-iterator ≡ into_iter_items l.initial.guest-iterator)
    × AreGuests (into_iter_items l.guest-iterator)
    × AllStarted l.yielded l.processes.items
    × (into_iter_len l.guest-iterator ≡ length (into_iter_items l.guest-iterator))
