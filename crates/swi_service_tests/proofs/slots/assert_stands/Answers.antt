use Rattle.std.proofs.Common.{◌==◌, ℕ, if◌then◌else◌, arith}
use Rattle.swi_image.specs.Format.{ImageData}
use Rattle.swi_service_tests.proofs.TwoImages.{both_sound, both_most, new_long}
use Rattle.swi_service_tests.proofs.slots.assert_stands.Goals as goal

pub after_all-rom-requires-clause-serves : goal.after_all-rom-requires-clause-serves
after_all-rom-requires-clause-serves g c =
    let v : ImageData = c.view_of-first.result in
    let w : ImageData = c.view_of-second.result in
    c.requires.new (λ (p : ℕ). if p == 1 then w else v) c.in_ok-ram.ram.words (both_sound v w c.view_of-first.ensures c.view_of-second.ensures)
    (both_most v w _ (omega arith) (omega arith)) (omega (arith, new_long c.in_ok-ram.ram 64 c.in_ok-ram.ensures))
