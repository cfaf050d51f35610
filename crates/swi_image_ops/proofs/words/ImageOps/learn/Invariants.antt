use Rattle.swi_memory.specs.Bus.{fetched}
use Rattle.swi_image_ops.specs.ImageOp.{AreImageOps}
use Rattle.swi_image_ops.proofs.words.ImageOps.learn.Given as goal

abbrev pub invariant-loop-t : goal.invariant-loop-t
invariant-loop-t l = AreImageOps (fetched l.bus) l.image l.self-inside.ops.items
