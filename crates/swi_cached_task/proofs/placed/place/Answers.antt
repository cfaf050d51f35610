use Rattle.std.proofs.Common.{◌≡◌, inr, ℕ, ◌*◌, sym, ◌∙◌, subst}
use Rattle.std.proofs.lemmas.Result.{err_from_is_err_and}
use Rattle.swi_elf_read.specs.Loaded.{image_of as image_in}
use Rattle.swi_task.specs.Checks.{IsRefusedBy, block_words}
use Rattle.swi_task.specs.Subject.{view_of}
use Rattle.swi_task.proofs.Images.{size_is}
use Rattle.swi_cached_task.specs.Placing.{hold_block}
use Rattle.swi_cached_task.proofs.placed.place.Goals as goal

pub returns-in_err-check_blocks-clause-refused : goal.returns-in_err-check_blocks-clause-refused
returns-in_err-check_blocks-clause-refused c =
    let p = err_from_is_err_and c.from_residual-in_err-check_blocks.result c.from_residual-in_err-check_blocks.ensures.1 in
    let file = c.args.file.now in
    let is = rw c.in_ok-elf.ensures.file at c.in_ok-subject.ensures.subject in
    let others = rw c.in_ok-elf.ensures.file at c.in_ok-subject.ensures.accepted in
    let ready = rw c.in_ok-elf.ensures.file at c.in_ok-program.ensures.prepared in
    let words : c.block_words.result ≡ block_words (image_in file) c.args.block_words =
    c.block_words.ensures.value ∙ sym (size_is file c.args.block_words (image_in file) (view_of c.in_ok-subject.subject.image) is.image) in
    let small = subst (λ (n : ℕ). IsRefusedBy (hold_block c.args.sizes.now (4 * n)) c.in_err-check_blocks.field-0.0) words c.in_err-check_blocks.ensures.refused in
    rw (p.1, p.2) (inr (inr (c.requires.within, inr (c.in_ok-elf.ensures.passes, inr ((_, ready.layout), inr (others.0, inr (others.1.0, inr (others.1.1.0, small))))))))
