-- A run's services: two at most for each step.
use Rattle.std.proofs.Common.{ℕ, ◌+◌, ◌*◌, ◌≤◌, List, [], ◌∷◌, length, arith}
use Rattle.swi_image.specs.Place.{place_of}
use Rattle.swi_rom.specs.Record.{Record, Transfer}
use Rattle.swi_board.specs.Transfers.{transfers, after_all}
use Rattle.swi_board.proofs.Counting.{transfers_few}
use Rattle.swi_cached.specs.Cached.{CachedRun, IsFresh, policy_of, record_at_boot, record_after}
use Rattle.swi_cached.proofs.Boot.{Lawful, boot_serves}

-- a transfer is one service at most, and the boot none
after_services : (c : CachedRun) → Lawful c.cache → (r : Record) (ts : List Transfer) → (after_all (policy_of c) c.image r ts).counts.services ≤ r.counts.services + length ts
after_services c laws r [] = omega arith
after_services c laws r (t ∷ ts) =
    let one = laws.one_service r c.image t in
    let rest = after_services c laws (policy_of c r c.image t) ts in
    omega (arith, one, rest)

pub services_few : (c : CachedRun) (n : ℕ) → Lawful c.cache → IsFresh c.cache.empty → (record_after c n).counts.services ≤ 2 * n
services_few c n laws fresh =
    let boot = boot_serves c laws fresh in
    let made = transfers c.image n c.start (place_of c.image c.start.machine.pc) in
    let few = transfers_few c.image n c.start (place_of c.image c.start.machine.pc) in
    let more = after_services c laws (record_at_boot c) made in
    omega (arith, boot, few, more)
