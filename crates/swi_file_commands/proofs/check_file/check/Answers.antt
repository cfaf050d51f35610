use Rattle.std.proofs.Common.{inl, ℕ, List, length, refl, ap, ◌∙◌, subst, string_bytes}
use Rattle.std.proofs.lemmas.Result.{err_from_is_err_and}
use Rattle.std.specs.Io.KnownBytes.{Appends}
use Rattle.swi_outside.specs.Sink.{AppendsPrefix}
use Rattle.swi_answer.specs.Lines.{image_line}
use Rattle.swi_image.specs.Format.{ImageData}
use Rattle.swi_task.specs.Devices.{Devices}
use Rattle.swi_file_commands.specs.CheckFile.{check_task, checked_line}
use Rattle.swi_task.specs.Task.{Task}
use Rattle.swi_task.proofs.Refusals.{check_refused, read_is, read_refused, too_long, was_read}
use Rattle.swi_file_commands.proofs.Confirming.{confirmed, confirm_failed}
use Rattle.swi_file_commands.proofs.check_file.check.Goals as goal

pub returns-in_err-file : goal.returns-in_err-file
returns-in_err-file g c =
    let p = err_from_is_err_and c.from_residual.result c.from_residual.ensures.1 in
    let t : Task = check_task (string_bytes c.args.command.now.file) in
    rw (p.1, p.2) (λ d. read_refused t (string_bytes c.args.command.now.file) _ _ _ refl refl (λ longer file tells. inl (too_long _ (string_bytes c.args.command.now.file) file longer tells.0)) (rw c.as_str.ensures.value at c.in_err-file.ensures.read))

pub returns-in_err-view : goal.returns-in_err-view
returns-in_err-view g c =
    let p = err_from_is_err_and c.from_residual-in_err-view.result c.from_residual-in_err-view.ensures.1 in
    let read = was_read (rw c.as_str.ensures.value at c.in_ok-file.ensures.read) in
    let t : Task = check_task (string_bytes c.args.command.now.file) in
    rw (p.1, p.2) (λ d.
    let before : Devices = record d { shelf = g.F.Shelf.state c.args.shelf.now; output = g.O.Sink.state c.args.out.now } in
    check_refused t before (g.F.Shelf.state c.read_file.new.shelf) (string_bytes c.args.command.now.file) c.in_ok-file.file.items c.in_ok-file.file.items c.in_err-view.field-0.0 refl refl read (read.within, tt)
    (λ file are. read_is read are refl) (rw c.deref.ensures.value at c.in_err-view.ensures.refused))

pub returns-in-Ok : goal.returns-in-Ok
returns-in-Ok g c =
    let read = was_read (rw c.as_str.ensures.value at c.in_ok-file.ensures.read) in
    let view = rw c.deref.ensures.value at c.in_ok-view.ensures.view in
    let text = c.as_bytes.ensures ∙ c.image_line.ensures ∙ ap (λ (n : ℕ). image_line n c.block_words.result) c.blocks-2.ensures.value
    ∙ ap (λ (n : ℕ). image_line (length c.in_ok-view.view.starts) n) c.block_words.ensures.value ∙ ap (λ (v : ImageData). checked_line v) view.2 in
    λ d.
    let before : Devices = record d { shelf = g.F.Shelf.state c.args.shelf.now; output = g.O.Sink.state c.args.out.now } in
    confirmed before (g.F.Shelf.state c.read_file.new.shelf) (g.O.Sink.state c.write.new.self) (string_bytes c.args.command.now.file) c.in_ok-file.file.items view.0 read
    (rw c.deref.ensures.value at c.in_ok-view.ensures.accepted) view.1
    (subst (λ (x : List ℕ). Appends (g.O.Sink.state c.args.out.now).held (g.O.Sink.state c.write.new.self).held x) text c.in-Ok.ensures.written.bytes) c.in-Ok.ensures.written.cause.quiet

pub returns : goal.returns
returns g c =
    let read = was_read (rw c.as_str.ensures.value at c.in_ok-file.ensures.read) in
    let view = rw c.deref.ensures.value at c.in_ok-view.ensures.view in
    let text = c.as_bytes.ensures ∙ c.image_line.ensures ∙ ap (λ (n : ℕ). image_line n c.block_words.result) c.blocks-2.ensures.value
    ∙ ap (λ (n : ℕ). image_line (length c.in_ok-view.view.starts) n) c.block_words.ensures.value ∙ ap (λ (v : ImageData). checked_line v) view.2 in
    λ d.
    let before : Devices = record d { shelf = g.F.Shelf.state c.args.shelf.now; output = g.O.Sink.state c.args.out.now } in
    confirm_failed before (g.F.Shelf.state c.read_file.new.shelf) (g.O.Sink.state c.write.new.self) (string_bytes c.args.command.now.file) c.in_ok-file.file.items view.0 read
    (rw c.deref.ensures.value at c.in_ok-view.ensures.accepted) view.1
    (subst (λ (x : List ℕ). AppendsPrefix (g.O.Sink.state c.args.out.now).held (g.O.Sink.state c.write.new.self).held x) text c.in-Err.ensures.written.bytes)
    c.in-Err.ensures.written.cause.later c.in-Err.ensures.written.cause.failed
