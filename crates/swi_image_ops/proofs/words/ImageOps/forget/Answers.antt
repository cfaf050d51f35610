use Rattle.std.proofs.Common.{◌≡◌, ◌≤◌, ◌∙◌, List, ap, arith, length, replicate, subst, sym, vec_len}
use Rattle.swi_image.specs.Row.{row_length}
use Rattle.swi_micro.specs.declared.translator.MicroOp.{MicroOp}
use Rattle.swi_micro.specs.MicroOp.{stop_op}
use Rattle.swi_image_ops.specs.ImageOp.{AreImageOps}
use Rattle.swi_image_ops.proofs.Learning.{none_learnt}
use Rattle.swi_image_ops.proofs.words.ImageOps.forget.Goals as goal

pub returns : goal.returns
returns c = λ text v room.
    let n = vec_len c.self.inside.ops in
    let all : c.fill.new.self.items ≡ replicate n stop_op = c.fill.ensures.items (λ y same. same) ∙ ap (λ (m : MicroOp). replicate n m) c.stop.ensures in
    let held : row_length v ≤ length c.self.inside.ops.items = subst (λ (l : List MicroOp). row_length v ≤ length l) (sym c.self.view_is) room in
    let enough : row_length v ≤ n = omega (arith, held) in
    subst (λ (l : List MicroOp). AreImageOps text v l) (sym all) (none_learnt text v n enough)
