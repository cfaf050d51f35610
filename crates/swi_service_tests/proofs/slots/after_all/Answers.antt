use Rattle.std.proofs.Common.{◌==◌, ℕ, if◌then◌else◌, refl, ap, ◌∙◌}
use Rattle.swi_rom.specs.Service.{Setting}
use Rattle.swi_slots.specs.Keys.{Images}
use Rattle.swi_slots.specs.Slots.{Slots}
use Rattle.swi_service_tests.proofs.TwoImages.{in_turn}
use Rattle.swi_service_tests.proofs.slots.after_all.Goals as goal

pub make-requires : goal.make-requires
make-requires g c =
    let images : Images = λ (p : ℕ). if p == 1 then c.args.second.now else c.args.first.now in
    let serves = c.turn_to.ensures.serves (images c.loop-program.rom.turn) images c.loop-program.ram.words (refl, c.loop-program.invariant.1.0) in
    (images, in_turn c.turn_to.new.self images c.image_in-image.result.now c.loop-program.ram.words c.image_in-image.ensures serves)

pub loop-program-preserved : goal.loop-program-preserved
loop-program-preserved g c =
    let images : Images = λ (p : ℕ). if p == 1 then c.args.second.now else c.args.first.now in
    let serves = c.turn_to.ensures.serves (images c.loop-program.rom.turn) images c.loop-program.ram.words (refl, c.loop-program.invariant.1.0) in
    let served = in_turn c.turn_to.new.self images c.image_in-image.result.now c.loop-program.ram.words c.image_in-image.ensures serves in (
      ap (λ (x : Setting). x.programs) c.make.ensures.setting ∙ ap (λ (x : Slots). x.programs) c.turn_to.ensures.turned ∙ c.loop-program.invariant.0,
      ((c.make.ensures.keeps images served).1, c.make.ensures.words ∙ c.loop-program.invariant.1.1),
    )
