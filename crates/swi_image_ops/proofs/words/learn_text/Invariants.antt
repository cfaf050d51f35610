use Rattle.swi_memory.specs.Bus.{fetched}
use Rattle.swi_image_ops.specs.ImageOp.{AreImageOps}
use Rattle.swi_image_ops.proofs.words.learn_text.Given as goal

abbrev pub invariant-loop-offset : goal.invariant-loop-offset
invariant-loop-offset l = AreImageOps (fetched l.bus) l.image l.ops
