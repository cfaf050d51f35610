use Rattle.swi_image.proofs.Accepted.{accepted_view}
use Rattle.swi_image.proofs.image.ImageView.of_accepted.Goals as goal

pub invariant_of-result : goal.invariant_of-result
invariant_of-result c = accepted_view c.args.bytes.now c.header_of.result c.header_of.ensures c.requires
