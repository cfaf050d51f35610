use Rattle.std.proofs.Common.{ℕ, List, inl, length, refl, subst, string_bytes}
use Rattle.std.proofs.lemmas.Result.{err_from_is_err_and}
use Rattle.swi_outside.proofs.SourceLemmas.{given_still, rest_is}
use Rattle.swi_outside.specs.Told.{told_as}
use Rattle.swi_program.specs.Program.{ProgramData}
use Rattle.swi_cached_task.specs.Placing.{placed_checks}
use Rattle.swi_task.specs.Checks.{IsAccepted, IsRefusedOr}
use Rattle.swi_task.specs.Devices.{Devices, seen}
use Rattle.swi_task.specs.Subject.{view_of}
use Rattle.swi_task.specs.Task.{Task}
use Rattle.swi_task.proofs.Refusals.{check_refused, read_is, read_refused, size_refused, too_long, was_read}
use Rattle.swi_survey_command.specs.RunSurvey.{SurveysOver, survey_from, survey_task}
use Rattle.swi_survey_command.proofs.Sizes.{are_held, are_short}
use Rattle.swi_survey_command.proofs.Surveying.{survey_answers, surveyed_to}
use Rattle.swi_survey_command.proofs.command.survey.Goals as goal

pub run_program-requires-clause-held : goal.run_program-requires-clause-held
run_program-requires-clause-held g c =
    let is = rw c.deref.ensures.value at c.in_ok-placed.ensures.placed in
    rw (c.view-image.ensures, c.as_slice-sizes.ensures.value) (are_held c.args.command.now.limits c.args.command.now.sizes.items c.args.command.now.block_words (length (g.R.CacheRam.state c.args.ram.now).words) c.in_ok-file.file.items (view_of c.in_ok-placed.placed.subject.image) (rw c.as_slice-sizes.ensures.value at c.in_ok-check_sizes.ensures.ok)
    (subst (λ (file : List ℕ). IsAccepted (placed_checks c.args.command.now.limits c.args.command.now.sizes.items c.args.command.now.block_words file)) c.deref.ensures.value (rw c.as_slice-sizes.ensures.value at c.in_ok-placed.ensures.accepted)) is.subject.image)

pub run_program-requires-clause-own : goal.run_program-requires-clause-own
run_program-requires-clause-own g c =
    let is = rw c.deref.ensures.value at c.in_ok-placed.ensures.placed in rw c.view-image.ensures is.subject.own

pub run_program-requires-clause-laid_out : goal.run_program-requires-clause-laid_out
run_program-requires-clause-laid_out g c =
    let is = rw c.deref.ensures.value at c.in_ok-placed.ensures.placed in is.laid_out

pub returns-in_err-check_sizes-clause-gave : goal.returns-in_err-check_sizes-clause-gave
returns-in_err-check_sizes-clause-gave g c = given_still _

pub returns-in_err-check_sizes-clause-answers : goal.returns-in_err-check_sizes-clause-answers
returns-in_err-check_sizes-clause-answers g c = λ input rest was.
    let p = err_from_is_err_and c.from_residual.result c.from_residual.ensures.1 in
    let before : Devices = seen (g.F.Shelf.state c.args.shelf.now) (told_as (g.I.Source.state c.args.input.now) input) (g.O.Sink.state c.args.out.now) (g.E.Sink.state c.args.err.now) (g.R.CacheRam.state c.args.ram.now) in
    rw (p.1, p.2, rest_is was) (size_refused (survey_task (string_bytes c.args.command.now.file) c.args.command.now.sizes.items c.args.command.now.block_words c.args.command.now.kind c.args.command.now.limits) before _ (rw c.as_slice-sizes.ensures.value at c.in_err-check_sizes.ensures.refused))

pub returns-in_err-file-clause-gave : goal.returns-in_err-file-clause-gave
returns-in_err-file-clause-gave g c = given_still _

pub returns-in_err-file-clause-answers : goal.returns-in_err-file-clause-answers
returns-in_err-file-clause-answers g c = λ input rest was.
    let p = err_from_is_err_and c.from_residual-in_err-file.result c.from_residual-in_err-file.ensures.1 in
    let t : Task = survey_task (string_bytes c.args.command.now.file) c.args.command.now.sizes.items c.args.command.now.block_words c.args.command.now.kind c.args.command.now.limits in
    let before : Devices = seen (g.F.Shelf.state c.args.shelf.now) (told_as (g.I.Source.state c.args.input.now) input) (g.O.Sink.state c.args.out.now) (g.E.Sink.state c.args.err.now) (g.R.CacheRam.state c.args.ram.now) in
    rw (p.1, p.2, rest_is was)
    (read_refused t (string_bytes c.args.command.now.file) before _ _ refl (rw c.as_slice-sizes.ensures.value at c.in_ok-check_sizes.ensures.ok) (λ longer file tells. inl (too_long _ (string_bytes c.args.command.now.file) file longer tells.0)) (rw c.as_str.ensures.value at c.in_err-file.ensures.read))

pub returns-in_err-placed-clause-gave : goal.returns-in_err-placed-clause-gave
returns-in_err-placed-clause-gave g c = given_still _

pub returns-in_err-placed-clause-answers : goal.returns-in_err-placed-clause-answers
returns-in_err-placed-clause-answers g c = λ input rest was.
    let p = err_from_is_err_and c.from_residual-in_err-placed.result c.from_residual-in_err-placed.ensures.1 in
    let read = was_read (rw c.as_str.ensures.value at c.in_ok-file.ensures.read) in
    let t : Task = survey_task (string_bytes c.args.command.now.file) c.args.command.now.sizes.items c.args.command.now.block_words c.args.command.now.kind c.args.command.now.limits in
    let before : Devices = seen (g.F.Shelf.state c.args.shelf.now) (told_as (g.I.Source.state c.args.input.now) input) (g.O.Sink.state c.args.out.now) (g.E.Sink.state c.args.err.now) (g.R.CacheRam.state c.args.ram.now) in
    rw (p.1, p.2, rest_is was)
    (check_refused t before (g.F.Shelf.state c.read_file.new.shelf) (string_bytes c.args.command.now.file) c.in_ok-file.file.items c.in_ok-file.file.items c.in_err-placed.field-0.0 (rw c.as_slice-sizes.ensures.value at c.in_ok-check_sizes.ensures.ok) refl read
    (are_short c.args.command.now.limits c.args.command.now.sizes.items c.args.command.now.block_words c.in_ok-file.file.items read.within)
    (λ file are. read_is read are refl) (subst (λ (file : List ℕ). IsRefusedOr (placed_checks c.args.command.now.limits c.args.command.now.sizes.items c.args.command.now.block_words file) c.in_err-placed.field-0.0) c.deref.ensures.value (rw c.as_slice-sizes.ensures.value at c.in_err-placed.ensures.refused)))

pub returns-clause-gave : goal.returns-clause-gave
returns-clause-gave g c = c.run_program.ensures.gave

pub returns-clause-answers : goal.returns-clause-answers
returns-clause-answers g c = λ input rest was.
    let read = was_read (rw c.as_str.ensures.value at c.in_ok-file.ensures.read) in
    let is = rw c.deref.ensures.value at c.in_ok-placed.ensures.placed in
    let v = view_of c.in_ok-placed.placed.subject.image in
    let before : Devices = seen (g.F.Shelf.state c.args.shelf.now) (told_as (g.I.Source.state c.args.input.now) input) (g.O.Sink.state c.args.out.now) (g.E.Sink.state c.args.err.now) (g.R.CacheRam.state c.args.ram.now) in
    let now : Devices = record before { shelf = g.F.Shelf.state c.read_file.new.shelf } in
    let after : Devices = surveyed_to before (g.F.Shelf.state c.read_file.new.shelf) (told_as (g.I.Source.state c.run_program.new.input) rest) (g.O.Sink.state c.run_program.new.out) (g.E.Sink.state c.run_program.new.err) in
    survey_answers (string_bytes c.args.command.now.file) c.args.command.now.sizes.items c.args.command.now.block_words c.args.command.now.kind c.args.command.now.limits before (g.F.Shelf.state c.read_file.new.shelf) (told_as (g.I.Source.state c.run_program.new.input) rest)
    (g.O.Sink.state c.run_program.new.out) (g.E.Sink.state c.run_program.new.err) c.in_ok-file.file.items v c.in_ok-placed.placed.layout c.run_program.result (rw c.as_slice-sizes.ensures.value at c.in_ok-check_sizes.ensures.ok) read
    (subst (λ (file : List ℕ). IsAccepted (placed_checks c.args.command.now.limits c.args.command.now.sizes.items c.args.command.now.block_words file)) c.deref.ensures.value (rw c.as_slice-sizes.ensures.value at c.in_ok-placed.ensures.accepted)) is.subject.image is.layout
    (subst (λ (p : ProgramData). SurveysOver (survey_from c.args.command.now.kind c.args.command.now.sizes.items c.args.command.now.limits v p c.in_ok-placed.placed.layout) now after c.run_program.result) is.subject.program
    (rw (c.view-image.ensures, c.as_slice-sizes.ensures.value) at c.run_program.ensures.ran now input rest was))
