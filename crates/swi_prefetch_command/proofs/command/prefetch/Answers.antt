use Rattle.std.proofs.Common.{inl, refl, subst, string_bytes}
use Rattle.std.proofs.lemmas.Result.{err_from_is_err_and}
use Rattle.swi_outside.proofs.SourceLemmas.{given_still, rest_is}
use Rattle.swi_outside.specs.Told.{told_as}
use Rattle.swi_program.specs.Program.{ProgramData}
use Rattle.swi_task.specs.Devices.{Devices, seen}
use Rattle.swi_prefetch_command.specs.RunAhead.{RunsWithReport, ahead_asked, ahead_task}
use Rattle.swi_task.specs.Subject.{view_of}
use Rattle.swi_task.specs.Task.{Task}
use Rattle.swi_task.proofs.Refusals.{check_refused, read_is, read_refused, size_refused, too_long, was_read}
use Rattle.swi_prefetch_command.proofs.Ahead.{ahead_answers}
use Rattle.swi_cached_task.proofs.Placing.{holds_block}
use Rattle.swi_cached_task.proofs.Caching.{cached_to}
use Rattle.swi_prefetch_command.proofs.command.prefetch.Goals as goal

pub run_over-requires-clause-holds : goal.run_over-requires-clause-holds
run_over-requires-clause-holds g c =
    let is = rw c.deref.ensures.value at c.in_ok-placed.ensures.placed in
    rw c.view-image.ensures (holds_block c.args.command.now.options.limits c.args.command.now.cache c.in_ok-file.file.items (view_of c.in_ok-placed.placed.subject.image)
    (rw c.deref.ensures.value at c.in_ok-placed.ensures.accepted) is.subject.image)

pub returns-in_err-check_size-clause-gave : goal.returns-in_err-check_size-clause-gave
returns-in_err-check_size-clause-gave g c = given_still _

pub returns-in_err-check_size-clause-answers : goal.returns-in_err-check_size-clause-answers
returns-in_err-check_size-clause-answers g c = λ input rest was.
    let p = err_from_is_err_and c.from_residual.result c.from_residual.ensures.1 in
    let before : Devices = seen (g.F.Shelf.state c.args.shelf.now) (told_as (g.I.Source.state c.args.input.now) input) (g.O.Sink.state c.args.out.now) (g.E.Sink.state c.args.err.now) (g.R.CacheRam.state c.args.ram.now) in
    rw (p.1, p.2, rest_is was) (size_refused (ahead_task (string_bytes c.args.command.now.file) c.args.command.now.cache c.args.command.now.options c.args.command.now.rate) before _ c.in_err-check_size.ensures.refused)

pub returns-in_err-file-clause-gave : goal.returns-in_err-file-clause-gave
returns-in_err-file-clause-gave g c = given_still _

pub returns-in_err-file-clause-answers : goal.returns-in_err-file-clause-answers
returns-in_err-file-clause-answers g c = λ input rest was.
    let p = err_from_is_err_and c.from_residual-in_err-file.result c.from_residual-in_err-file.ensures.1 in
    let t : Task = ahead_task (string_bytes c.args.command.now.file) c.args.command.now.cache c.args.command.now.options c.args.command.now.rate in
    let before : Devices = seen (g.F.Shelf.state c.args.shelf.now) (told_as (g.I.Source.state c.args.input.now) input) (g.O.Sink.state c.args.out.now) (g.E.Sink.state c.args.err.now) (g.R.CacheRam.state c.args.ram.now) in
    rw (p.1, p.2, rest_is was)
    (read_refused t (string_bytes c.args.command.now.file) before _ _ refl c.in_ok-check_size.ensures.ok (λ longer file tells. inl (too_long _ (string_bytes c.args.command.now.file) file longer tells.0)) (rw c.as_str.ensures.value at c.in_err-file.ensures.read))

pub returns-in_err-placed-clause-gave : goal.returns-in_err-placed-clause-gave
returns-in_err-placed-clause-gave g c = given_still _

pub returns-in_err-placed-clause-answers : goal.returns-in_err-placed-clause-answers
returns-in_err-placed-clause-answers g c = λ input rest was.
    let p = err_from_is_err_and c.from_residual-in_err-placed.result c.from_residual-in_err-placed.ensures.1 in
    let read = was_read (rw c.as_str.ensures.value at c.in_ok-file.ensures.read) in
    let t : Task = ahead_task (string_bytes c.args.command.now.file) c.args.command.now.cache c.args.command.now.options c.args.command.now.rate in
    let before : Devices = seen (g.F.Shelf.state c.args.shelf.now) (told_as (g.I.Source.state c.args.input.now) input) (g.O.Sink.state c.args.out.now) (g.E.Sink.state c.args.err.now) (g.R.CacheRam.state c.args.ram.now) in
    rw (p.1, p.2, rest_is was)
    (check_refused t before (g.F.Shelf.state c.read_file.new.shelf) (string_bytes c.args.command.now.file) c.in_ok-file.file.items c.in_ok-file.file.items c.in_err-placed.field-0.0 c.in_ok-check_size.ensures.ok refl read (read.within, tt)
    (λ file are. read_is read are refl) (rw c.deref.ensures.value at c.in_err-placed.ensures.refused))

pub returns-clause-gave : goal.returns-clause-gave
returns-clause-gave g c = c.run_over.ensures.gave

pub returns-clause-answers : goal.returns-clause-answers
returns-clause-answers g c = λ input rest was.
    let read = was_read (rw c.as_str.ensures.value at c.in_ok-file.ensures.read) in
    let is = rw c.deref.ensures.value at c.in_ok-placed.ensures.placed in
    let v = view_of c.in_ok-placed.placed.subject.image in
    let before : Devices = seen (g.F.Shelf.state c.args.shelf.now) (told_as (g.I.Source.state c.args.input.now) input) (g.O.Sink.state c.args.out.now) (g.E.Sink.state c.args.err.now) (g.R.CacheRam.state c.args.ram.now) in
    let now : Devices = record before { shelf = g.F.Shelf.state c.read_file.new.shelf } in
    let after : Devices = cached_to before (g.F.Shelf.state c.read_file.new.shelf) (told_as (g.I.Source.state c.run_over.new.input) rest) (g.O.Sink.state c.run_over.new.out) (g.E.Sink.state c.run_over.new.err)
    (g.R.CacheRam.state c.run_over.new.ram) in
    ahead_answers (string_bytes c.args.command.now.file) c.args.command.now.cache c.args.command.now.options c.args.command.now.rate before (g.F.Shelf.state c.read_file.new.shelf) (told_as (g.I.Source.state c.run_over.new.input) rest) (g.O.Sink.state c.run_over.new.out)
    (g.E.Sink.state c.run_over.new.err) (g.R.CacheRam.state c.run_over.new.ram) c.in_ok-file.file.items v c.in_ok-placed.placed.layout c.run_over.result c.in_ok-check_size.ensures.ok read
    (rw c.deref.ensures.value at c.in_ok-placed.ensures.accepted) is.subject.image is.layout
    (subst (λ (p : ProgramData). RunsWithReport (ahead_asked c.args.command.now.cache c.args.command.now.options c.args.command.now.rate) v p c.in_ok-placed.placed.layout now after c.run_over.result) is.subject.program (rw c.view-image.ensures at c.run_over.ensures.ran now input rest was))
