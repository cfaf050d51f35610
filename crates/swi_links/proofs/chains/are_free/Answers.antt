use Rattle.swi_links.proofs.Strides.{stride_free}
use Rattle.swi_links.proofs.chains.are_free.Goals as goal

pub returns : goal.returns
returns c = stride_free c.args.slots c.args.at c.args.owners.now
