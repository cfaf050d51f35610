use Rattle.std.proofs.Common.{arith}
use Rattle.swi_image.specs.Format.{image_of}
use Rattle.swi_image.proofs.Writing.{AreSmall}
use Rattle.swi_cut.proofs.Finished.{sound_made}
use Rattle.swi_cut.proofs.draft.image_by.Goals as goal

small : (c : goal.In_ok-image) → AreSmall c.args.base c.args.starts.now c.args.ends.now c.args.offsets.now c.args.words.now
small c = record { base = c.ranges.base.fits; starts = λ i. omega (arith, c.type_inv.starts i); ends = λ i. omega (arith, c.type_inv.ends i); offsets = λ i. omega (arith, c.type_inv.offsets i); words = λ i. omega (arith, c.type_inv.words i) }

pub returns-clause-sound : goal.returns-clause-sound
returns-clause-sound c =
    sound_made c.args.most c.args.base c.args.starts.now c.args.ends.now c.args.offsets.now c.args.words.now (image_of c.in_ok-image.image) c.in_ok-image.ensures.image c.requires (small c)
