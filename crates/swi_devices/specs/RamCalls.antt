-- What the calls to a ram that never fails come to.
use Rattle.std.specs.Prelude.{ℕ, ◌+◌, max, List, [], ◌∷◌}
use Rattle.swi_outside.specs.CacheRam.{Fetch, fetch}
use Rattle.swi_outside.specs.Causes.{counted}
use Rattle.swi_devices.specs.declared.ram_calls.RamCalls.{RamCalls}
use Rattle.swi_devices.specs.declared.ram_calls.RamCalls.TheVariants.{None, Fetched', Set'}

abbrev pub fetches_in : RamCalls → ℕ
fetches_in None = 0
fetches_in (Fetched' _ _ before i w) = counted (fetches_in before)
fetches_in (Set' _ _ before i) = fetches_in before

abbrev pub sets_in : RamCalls → ℕ
sets_in None = 0
sets_in (Fetched' _ _ before i w) = sets_in before
sets_in (Set' _ _ before i) = counted (sets_in before)

-- the least number above every index
abbrev pub reach_of : RamCalls → ℕ
reach_of None = 0
reach_of (Fetched' _ _ before i w) = max (reach_of before) (i + 1)
reach_of (Set' _ _ before i) = max (reach_of before) (i + 1)

-- the fetches, the newest first
abbrev pub fetched_in : RamCalls → List Fetch
fetched_in None = []
fetched_in (Fetched' _ _ before i w) = fetch i (sets_in before) w ∷ fetched_in before
fetched_in (Set' _ _ before i) = fetched_in before
