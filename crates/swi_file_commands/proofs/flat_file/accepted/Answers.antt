use Rattle.std.proofs.Common.{◌≡◌, ◌≤◌, inr, List, ℕ, [], ◌∷◌, length, None, sym, ap, ◌∙◌, subst, arith}
use Rattle.std.proofs.lemmas.Result.{err_from_is_err_and}
use Rattle.swi_elf_read.specs.Loaded.{image_of}
use Rattle.swi_program.specs.Program.{ProgramData}
use Rattle.swi_program.specs.Text.{text_of}
use Rattle.swi_task.specs.Checks.{IsAcceptedImage, IsOwnImage, ImageFails, ImagePasses}
use Rattle.swi_task.proofs.Images.{fails_some, image_short, of_none, of_some, run_passes, run_refused}
use Rattle.swi_file_commands.proofs.flat_file.accepted.Goals as goal

pub own_image-requires : goal.own_image-requires
own_image-requires c =
    let has = sym (c.in-Some.ensures.value ∙ ap (λ (x : List ℕ). image_of x) c.in_ok-elf.ensures.file) in
    let short : length c.in-Some.bytes.now ≤ length c.args.file.now = image_short c.args.file.now c.in-Some.bytes.now has in
    record { within = omega (arith, c.requires.within) }

pub returns-in_default-clause-accepted : goal.returns-in_default-clause-accepted
returns-in_default-clause-accepted c =
    let prepared = rw c.in_ok-elf.ensures.file at c.in_ok-prepared.ensures.prepared in
    let none : image_of c.args.file.now ≡ None = ap (λ (x : List ℕ). image_of x) (sym c.in_ok-elf.ensures.file) ∙ sym c.in_default.ensures.value in
    run_passes c.args.file.now c.args.limits.now c.in_ok-prepared.prepared.layout (IsAcceptedImage c.args.file.now ∷ IsOwnImage c.args.file.now ∷ []) c.requires.within c.in_ok-elf.ensures.passes prepared.layout
    (of_none _ _ none, (of_none _ _ none, tt))

pub returns-clause-accepted : goal.returns-clause-accepted
returns-clause-accepted c =
    let prepared = rw c.in_ok-elf.ensures.file at c.in_ok-prepared.ensures.prepared in
    let has = sym (c.in-Some.ensures.value ∙ ap (λ (x : List ℕ). image_of x) c.in_ok-elf.ensures.file) in
    let passes = subst (λ (p : ProgramData). ImagePasses (text_of p.segments) c.in-Some.bytes.now) prepared.program c.in_ok-own_image.ensures.passes in
    run_passes c.args.file.now c.args.limits.now c.in_ok-prepared.prepared.layout (IsAcceptedImage c.args.file.now ∷ IsOwnImage c.args.file.now ∷ []) c.requires.within c.in_ok-elf.ensures.passes prepared.layout
    (of_some _ _ c.in-Some.bytes.now has passes.0, (of_some _ _ c.in-Some.bytes.now has passes.1, tt))

pub returns-in_err-own_image-clause-refused : goal.returns-in_err-own_image-clause-refused
returns-in_err-own_image-clause-refused c =
    let p = err_from_is_err_and c.from_residual-in_err-own_image.result c.from_residual-in_err-own_image.ensures.1 in
    let prepared = rw c.in_ok-elf.ensures.file at c.in_ok-prepared.ensures.prepared in
    let has = sym (c.in-Some.ensures.value ∙ ap (λ (x : List ℕ). image_of x) c.in_ok-elf.ensures.file) in
    let fails = subst (λ (p : ProgramData). ImageFails (text_of p.segments) c.in-Some.bytes.now c.in_err-own_image.field-0.0) prepared.program c.in_err-own_image.ensures.refused in
    rw (p.1, p.2) (run_refused c.args.file.now c.args.limits.now c.in_ok-prepared.prepared.layout (IsAcceptedImage c.args.file.now ∷ IsOwnImage c.args.file.now ∷ []) _ c.requires.within c.in_ok-elf.ensures.passes prepared.layout
    (inr (fails_some c.args.file.now [] c.in-Some.bytes.now c.in_err-own_image.field-0.0 has fails)))
