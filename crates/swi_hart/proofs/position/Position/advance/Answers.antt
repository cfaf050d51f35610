use Rattle.std.proofs.Common.{◌∙◌, arith}
use Rattle.swi_hart.proofs.Advancing.{advanced}
use Rattle.swi_hart.proofs.position.Position.advance.Goals as goal

pub returns : goal.returns
returns c =
    advanced c.self.inside.stage c.self.inside.index c.self.inside.first c.self.inside.block c.args.words c.args.at.index c.args.at.block c.args.at.offset c.args.at.stage c.args.stage
    (c.self.view_is ∙ c.requires.control) (omega arith) c.requires.inside c.requires.few
