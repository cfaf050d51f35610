use Rattle.std.specs.Prelude.{◌≡◌, ◌+◌, ◌≤◌, max}
use Rattle.swi_outside.specs.Causes.{risen}
use Rattle.swi_devices.specs.RamCalls.{fetches_in, fetched_in, reach_of, sets_in}
use Rattle.swi_devices.proofs.vec_ram.note_sets.Given as goal

-- so many sets were noted
abbrev pub invariant-loop-k : goal.invariant-loop-k
invariant-loop-k l =
    (sets_in l.calls.value ≡ risen (sets_in l.fn.calls.value) l.k)
    × (fetches_in l.calls.value ≡ fetches_in l.fn.calls.value)
    × (fetched_in l.calls.value ≡ fetched_in l.fn.calls.value)
    × (reach_of l.calls.value ≤ max (reach_of l.fn.calls.value) (l.first + l.k))
