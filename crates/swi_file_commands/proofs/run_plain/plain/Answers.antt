use Rattle.std.proofs.Common.{inl, refl, subst, string_bytes}
use Rattle.std.proofs.lemmas.Result.{err_from_is_err_and}
use Rattle.swi_outside.proofs.SourceLemmas.{given_still, rest_is}
use Rattle.swi_outside.specs.Told.{told_as}
use Rattle.swi_program.specs.Program.{ProgramData}
use Rattle.swi_task.specs.Devices.{Devices}
use Rattle.swi_file_commands.specs.RunFlat.{RunsFlat}
use Rattle.swi_file_commands.specs.RunPlain.{plain_command, plain_task}
use Rattle.swi_task.specs.Task.{Task}
use Rattle.swi_task.proofs.Refusals.{check_refused, read_is, read_refused, too_long, was_read}
use Rattle.swi_file_commands.proofs.Flats.{flat_answers, ran_to}
use Rattle.swi_file_commands.proofs.run_plain.plain.Goals as goal

pub returns-in_err-file-clause-gave : goal.returns-in_err-file-clause-gave
returns-in_err-file-clause-gave g c = given_still _

pub returns-in_err-file-clause-answers : goal.returns-in_err-file-clause-answers
returns-in_err-file-clause-answers g c =
    let p = err_from_is_err_and c.from_residual.result c.from_residual.ensures.1 in
    let t : Task = plain_task (string_bytes c.args.command.now.file) c.args.command.now.options in
    rw (p.1, p.2) (λ d input rest read. rw (rest_is read) (read_refused t (string_bytes c.args.command.now.file) _ _ _ refl refl (λ longer file tells. inl (too_long _ (string_bytes c.args.command.now.file) file longer tells.0)) (rw c.as_str.ensures.value at c.in_err-file.ensures.read)))

pub returns-in_err-prepared-clause-gave : goal.returns-in_err-prepared-clause-gave
returns-in_err-prepared-clause-gave g c = given_still _

pub returns-in_err-prepared-clause-answers : goal.returns-in_err-prepared-clause-answers
returns-in_err-prepared-clause-answers g c =
    let p = err_from_is_err_and c.from_residual-in_err-prepared.result c.from_residual-in_err-prepared.ensures.1 in
    let file = was_read (rw c.as_str.ensures.value at c.in_ok-file.ensures.read) in
    let t : Task = plain_task (string_bytes c.args.command.now.file) c.args.command.now.options in
    rw (p.1, p.2) (λ d input rest read.
    let before : Devices = record d { shelf = g.F.Shelf.state c.args.shelf.now; input = told_as (g.I.Source.state c.args.input.now) input; output = g.O.Sink.state c.args.out.now; error = g.E.Sink.state c.args.err.now } in
    rw (rest_is read)
    (check_refused t before (g.F.Shelf.state c.read_file.new.shelf) (string_bytes c.args.command.now.file) c.in_ok-file.file.items c.in_ok-file.file.items c.in_err-prepared.field-0.0 refl refl file (file.within, tt)
    (λ other are. read_is file are refl) (rw c.deref.ensures.value at c.in_err-prepared.ensures.refused)))

pub returns-clause-gave : goal.returns-clause-gave
returns-clause-gave g c = c.run_plain.ensures.gave

pub returns-clause-answers : goal.returns-clause-answers
returns-clause-answers g c =
    let file = was_read (rw c.as_str.ensures.value at c.in_ok-file.ensures.read) in
    let prepared = rw c.deref.ensures.value at c.in_ok-prepared.ensures.prepared in
    λ d input rest read.
    let before : Devices = record d { shelf = g.F.Shelf.state c.args.shelf.now; input = told_as (g.I.Source.state c.args.input.now) input; output = g.O.Sink.state c.args.out.now; error = g.E.Sink.state c.args.err.now } in
    let now : Devices = record before { shelf = g.F.Shelf.state c.read_file.new.shelf } in
    let left = told_as (g.I.Source.state c.run_plain.new.input) rest in
    let after : Devices = ran_to before (g.F.Shelf.state c.read_file.new.shelf) left (g.O.Sink.state c.run_plain.new.out) (g.E.Sink.state c.run_plain.new.err) in
    flat_answers (string_bytes c.args.command.now.file) (plain_command c.args.command.now.options) before (g.F.Shelf.state c.read_file.new.shelf) left (g.O.Sink.state c.run_plain.new.out)
    (g.E.Sink.state c.run_plain.new.err) c.in_ok-file.file.items c.in_ok-prepared.prepared.layout c.run_plain.result file
    (rw c.deref.ensures.value at c.in_ok-prepared.ensures.accepted) prepared.layout
    (subst (λ (p : ProgramData). RunsFlat (plain_command c.args.command.now.options) p c.in_ok-prepared.prepared.layout now after c.run_plain.result) prepared.program (c.run_plain.ensures.ran now input rest read))
