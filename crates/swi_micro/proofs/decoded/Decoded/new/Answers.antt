use Rattle.swi_micro.proofs.Forgetting.{none_made}
use Rattle.swi_micro.proofs.decoded.Decoded.new.Goals as goal

pub returns-clause-decoded : goal.returns-clause-decoded
returns-clause-decoded c = λ words. rw c.in_ok-ops.ensures (none_made words c.args.range c.requires)
