use Rattle.std.proofs.Common.{ap, ◌∙◌, length}
use Rattle.swi_render.specs.Rendering.{ending}
use Rattle.swi_render.proofs.Lists.{ending_length, parts_length}
use Rattle.swi_render.proofs.renderer.needs.Goals as goal

pub returns-clause-value : goal.returns-clause-value
returns-clause-value c = ap length c.parts.ensures.parts ∙ parts_length (ending c.args.w c.args.a)

pub returns-clause-sum : goal.returns-clause-sum
returns-clause-sum c = returns-clause-value c ∙ ending_length c.args.w c.args.a
