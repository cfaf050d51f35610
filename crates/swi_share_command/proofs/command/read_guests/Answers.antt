use Rattle.std.proofs.Common.{◌≡◌, [], ◌∷◌, ◌++◌, length, rules, ap}
use Rattle.std.proofs.lemmas.Result.{err_from_is_err_and}
use Rattle.std.specs.Iterator.Adapters.{zip_first, zip_second}
use Rattle.std.specs.Slice.Iter.{iter_rest, iter_mut_rest}
use Rattle.swi_task.proofs.Refusals.{was_read}
use Rattle.swi_share_command.proofs.Reading.{next_made, next_refused, next_unkept, next_unread, read_none}
use Rattle.swi_share_command.proofs.command.read_guests.Goals as goal

pub loop-name-init : goal.loop-name-init
loop-name-init g c =
    let empty : c.new-guests.result.items ≡ [] = search rules in
    let names : iter_rest (zip_first c.into_iter-name-iterator.result) ≡ c.args.names.now = search rules in
    let files : iter_mut_rest (zip_second c.into_iter-name-iterator.result) ≡ c.args.files.now = search rules in
    rw (empty, names, files) (read_none c.args.limits.now c.args.block_words c.args.names.now (length c.args.files.now) (g.F.Shelf.state c.args.shelf.now) c.requires.places)

pub returns-in_err-file-clause-unread : goal.returns-in_err-file-clause-unread
returns-in_err-file-clause-unread g c =
    let p = err_from_is_err_and c.from_residual.result c.from_residual.ensures.1 in
    let read = rw c.as_str.ensures.value at c.in_err-file.ensures.read in
    rw (p.1, p.2)
    (next_unread c.args.limits.now c.args.block_words c.args.names.now c.in-Some.name.now _ _ _ _ _ (g.F.Shelf.state c.read_file.new.shelf) _ c.in-Some.ensures.steps.0 c.loop-name.invariant
    c.in_err-file.field-0.0 read)

pub returns-in_err-guest-clause-unread : goal.returns-in_err-guest-clause-unread
returns-in_err-guest-clause-unread g c =
    let p = err_from_is_err_and c.from_residual-in_err-guest.result c.from_residual-in_err-guest.ensures.1 in
    let read = rw c.as_str.ensures.value at (was_read c.in_ok-file.ensures.read) in
    rw (p.1, p.2)
    (next_refused c.args.limits.now c.args.block_words c.args.names.now c.in-Some.name.now _ _ _ _ _ (g.F.Shelf.state c.read_file.new.shelf) _ c.in-Some.ensures.steps.0 c.loop-name.invariant
    c.in_ok-file.field-0.items c.in_err-guest.field-0.0 read c.in_err-guest.ensures.refused)

pub returns-then-is_err-clause-unread : goal.returns-then-is_err-clause-unread
returns-then-is_err-clause-unread g c =
    let read = rw c.as_str.ensures.value at (was_read c.in_ok-file.ensures.read) in
    next_unkept c.args.limits.now c.args.block_words c.args.names.now c.in-Some.name.now _ _ _ _ _ (g.F.Shelf.state c.read_file.new.shelf) _ c.in-Some.ensures.steps.0 c.loop-name.invariant
    c.in_ok-file.field-0.items read

pub loop-name-preserved : goal.loop-name-preserved
loop-name-preserved g c =
    let read = rw c.as_str.ensures.value at (was_read c.in_ok-file.ensures.read) in
    let pushed : c.push.new.self.items ≡ c.loop-name.guests.items ++ c.in_ok-guest.guest ∷ [] = search rules in
    let steps = c.in-Some.ensures.steps in
    rw pushed
    (next_made c.args.limits.now c.args.block_words c.args.names.now c.in-Some.name.now _ _ _ _ _ (g.F.Shelf.state c.read_file.new.shelf) _ steps.0 c.loop-name.invariant
    (length (iter_mut_rest (zip_second c.next.new.self))) c.in_ok-file.field-0.items c.in_ok-guest.guest (ap (λ l. length l) steps.1) read c.in_ok-guest.ensures.accepted c.in_ok-guest.ensures.guest c.in_ok-guest.ensures.own)
