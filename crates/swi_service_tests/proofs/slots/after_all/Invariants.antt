use Rattle.std.proofs.Common.{◌≡◌, ◌==◌, ℕ, length, if◌then◌else◌}
use Rattle.swi_slots.specs.Sound.{SlotsServe}
use Rattle.swi_service_tests.proofs.slots.after_all.Given as goal

abbrev pub invariant-loop-program : goal.invariant-loop-program
invariant-loop-program g l = (l.rom.programs ≡ l.row.programs)
    × (SlotsServe l.rom (λ (p : ℕ). if p == 1 then l.second else l.first) l.ram.words × (length l.ram.words ≡ length l.fn.ram.words))
