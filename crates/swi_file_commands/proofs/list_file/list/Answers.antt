use Rattle.std.proofs.Common.{inl, refl, string_bytes}
use Rattle.std.proofs.lemmas.Result.{err_from_is_err_and}
use Rattle.swi_task.specs.Devices.{Devices}
use Rattle.swi_file_commands.specs.ListFile.{list_task}
use Rattle.swi_task.specs.Task.{Task}
use Rattle.swi_task.proofs.Refusals.{check_refused, read_is, read_refused, too_long, was_read}
use Rattle.swi_file_commands.proofs.Listings.{listed}
use Rattle.swi_file_commands.proofs.list_file.list.Goals as goal

pub returns-in_err-file : goal.returns-in_err-file
returns-in_err-file g c =
    let p = err_from_is_err_and c.from_residual.result c.from_residual.ensures.1 in
    let t : Task = list_task (string_bytes c.args.command.now.file) c.args.command.now.block_words in
    rw (p.1, p.2) (λ d. read_refused t (string_bytes c.args.command.now.file) _ _ _ refl refl (λ longer file tells. inl (too_long _ (string_bytes c.args.command.now.file) file longer tells.0)) (rw c.as_str.ensures.value at c.in_err-file.ensures.read))

pub returns-in_err-subject : goal.returns-in_err-subject
returns-in_err-subject g c =
    let p = err_from_is_err_and c.from_residual-in_err-subject.result c.from_residual-in_err-subject.ensures.1 in
    let read = was_read (rw c.as_str.ensures.value at c.in_ok-file.ensures.read) in
    let t : Task = list_task (string_bytes c.args.command.now.file) c.args.command.now.block_words in
    rw (p.1, p.2) (λ d.
    let before : Devices = record d { shelf = g.F.Shelf.state c.args.shelf.now; output = g.O.Sink.state c.args.out.now } in
    check_refused t before (g.F.Shelf.state c.read_file.new.shelf) (string_bytes c.args.command.now.file) c.in_ok-file.file.items c.in_ok-file.file.items c.in_err-subject.field-0.0 refl refl read (read.within, tt)
    (λ file are. read_is read are refl) (rw c.deref.ensures.value at c.in_err-subject.ensures.refused))

pub returns : goal.returns
returns g c =
    let read = was_read (rw c.as_str.ensures.value at c.in_ok-file.ensures.read) in
    let subject = rw c.deref.ensures.value at c.in_ok-subject.ensures.subject in
    λ d.
    let before : Devices = record d { shelf = g.F.Shelf.state c.args.shelf.now; output = g.O.Sink.state c.args.out.now } in
    listed (string_bytes c.args.command.now.file) c.args.command.now.block_words before (g.F.Shelf.state c.read_file.new.shelf) (g.O.Sink.state c.list_blocks.new.out)
    c.in_ok-file.file.items _ c.list_blocks.result read (rw c.deref.ensures.value at c.in_ok-subject.ensures.accepted) subject.image
    (rw (subject.program, c.view.ensures) at c.list_blocks.ensures.done) (rw (subject.program, c.view.ensures) at c.list_blocks.ensures.failed) c.list_blocks.ensures.cause
