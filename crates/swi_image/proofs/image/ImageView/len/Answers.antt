use Rattle.std.proofs.Common.{subst}
use Rattle.swi_image.specs.Format.{ImageData}
use Rattle.swi_image.specs.Sound.{IsImage}
use Rattle.swi_image.proofs.Views.{image_sound}
use Rattle.swi_image.proofs.image.ImageView.len.Goals as goal

pub returns-clause-sound : goal.returns-clause-sound
returns-clause-sound c = subst (λ (v : ImageData). IsImage v) c.self.view_is (image_sound c.self.inside.bytes.now c.self.invariant.kept)
