use Rattle.std.proofs.Common.{inl, refl, string_bytes}
use Rattle.std.proofs.lemmas.Result.{err_from_is_err_and}
use Rattle.swi_task.specs.Devices.{Devices}
use Rattle.swi_file_commands.specs.UpgradeFile.{upgrade_task}
use Rattle.swi_task.specs.Task.{Task}
use Rattle.swi_task.proofs.Refusals.{check_refused, read_is, read_refused, too_long, was_read}
use Rattle.swi_task.proofs.Puts.{put_done, put_refused}
use Rattle.swi_file_commands.proofs.upgrade_file.upgrade.Goals as goal

pub returns-in_err-file : goal.returns-in_err-file
returns-in_err-file g c =
    let p = err_from_is_err_and c.from_residual.result c.from_residual.ensures.1 in
    let t : Task = upgrade_task (string_bytes c.args.command.now.input) (string_bytes c.args.command.now.output) in
    rw (p.1, p.2) (λ d. read_refused t (string_bytes c.args.command.now.input) _ _ _ refl refl (λ longer file tells. inl (too_long _ (string_bytes c.args.command.now.input) file longer tells.0)) (rw c.as_str.ensures.value at c.in_err-file.ensures.read))

pub returns-in_err-bytes : goal.returns-in_err-bytes
returns-in_err-bytes g c =
    let p = err_from_is_err_and c.from_residual-in_err-bytes.result c.from_residual-in_err-bytes.ensures.1 in
    let read = was_read (rw c.as_str.ensures.value at c.in_ok-file.ensures.read) in
    let t : Task = upgrade_task (string_bytes c.args.command.now.input) (string_bytes c.args.command.now.output) in
    rw (p.1, p.2) (λ d.
    let before : Devices = record d { shelf = g.F.Shelf.state c.args.shelf.now } in
    check_refused t before (g.F.Shelf.state c.read_file.new.shelf) (string_bytes c.args.command.now.input) c.in_ok-file.file.items c.in_ok-file.file.items c.in_err-bytes.field-0.0 refl refl read (read.within, tt)
    (λ file are. read_is read are refl) (rw c.deref.ensures.value at c.in_err-bytes.ensures.refused))

pub returns-in_err-write_file : goal.returns-in_err-write_file
returns-in_err-write_file g c =
    let p = err_from_is_err_and c.from_residual-in_err-write_file.result c.from_residual-in_err-write_file.ensures.1 in
    let read = was_read (rw c.as_str.ensures.value at c.in_ok-file.ensures.read) in
    let t : Task = upgrade_task (string_bytes c.args.command.now.input) (string_bytes c.args.command.now.output) in
    rw (p.1, p.2) (λ d.
    let before : Devices = record d { shelf = g.F.Shelf.state c.args.shelf.now } in
    put_refused t before _ _ _ _ (string_bytes c.args.command.now.output) _ c.in_ok-file.file.items _ refl refl refl read (rw c.as_str-2.ensures.value at c.in_err-write_file.ensures.written)
    (λ file are. read_is read are c.in_err-write_file.ensures.written.put.none_given) (rw c.deref.ensures.value at c.in_ok-bytes.ensures.accepted))

pub returns : goal.returns
returns g c =
    let read = was_read (rw c.as_str.ensures.value at c.in_ok-file.ensures.read) in
    let t : Task = upgrade_task (string_bytes c.args.command.now.input) (string_bytes c.args.command.now.output) in
    λ d.
    let before : Devices = record d { shelf = g.F.Shelf.state c.args.shelf.now } in
    put_done t before _ (g.F.Shelf.state c.write_file.new.shelf) _ _ (string_bytes c.args.command.now.output) _ c.in_ok-file.file.items refl refl refl read (rw c.as_str-2.ensures.value at c.in_ok-write_file.ensures.written)
    (λ file are. read_is read are c.in_ok-write_file.ensures.written.put.none_given) (rw c.deref.ensures.value at c.in_ok-bytes.ensures.accepted) refl
    (λ stored stands. record {
      ending = refl;
      bytes = c.in_ok-bytes.bytes.items;
      made = rw c.deref.ensures.value at c.in_ok-bytes.ensures.file;
      stored = rw c.deref-2.ensures.value at stored;
      stands = rw c.deref-2.ensures.value at stands;
      others = refl;
    })
