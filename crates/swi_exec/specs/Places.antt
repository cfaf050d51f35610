-- A law of the places where registers are written.
use Rattle.std.proofs.Common.{◌≡◌, ℕ, ◌<◌, ◌≤◌, arith}
use Rattle.std.proofs.lemmas.Bool.Decides.{nat_tests}
use Rattle.swi_exec.specs.Registers.{place_of, register_at}

-- a place is that of the register that is written there
pub place_back : (place : ℕ) → 0 < place → place ≤ 32 → place_of (register_at place) ≡ place
place_back place some within = grind (arith, nat_tests)
