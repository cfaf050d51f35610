use Rattle.std.proofs.Common.{◌≤◌, length, sym, arith}
use Rattle.swi_task.proofs.Images.{image_short}
use Rattle.swi_task.proofs.subject.subject_image.Goals as goal

pub own_image-requires : goal.own_image-requires
own_image-requires c =
    let short : length c.in-Some.bytes.now ≤ length c.args.elf.now = image_short c.args.elf.now c.in-Some.bytes.now (sym c.in-Some.ensures.value) in
    record { within = omega (arith, c.requires.within) }
