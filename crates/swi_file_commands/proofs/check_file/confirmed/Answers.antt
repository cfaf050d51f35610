use Rattle.std.proofs.Common.{◌≤◌, List, ℕ, length, sym, ap, ◌∙◌, arith}
use Rattle.swi_elf_read.specs.Loaded.{image_of}
use Rattle.swi_task.proofs.Images.{image_short}
use Rattle.swi_file_commands.proofs.check_file.confirmed.Goals as goal

pub own_image-requires : goal.own_image-requires
own_image-requires c =
    let has = sym (c.in-Some.ensures.value ∙ ap (λ (x : List ℕ). image_of x) c.in_ok-elf.ensures.file) in
    let short : length c.in-Some.bytes.now ≤ length c.args.file.now = image_short c.args.file.now c.in-Some.bytes.now has in
    record { within = omega (arith, c.requires.within) }
