use Rattle.std.proofs.Common.{◌≡◌, ◌∙◌, ℕ, List, String, Global, length, map, string_bytes, subst, sym, arith}
use Rattle.std.proofs.lemmas.List.{length-map}
use Rattle.std.proofs.lemmas.Result.{err_from_is_err_and}
use Rattle.swi_outside.specs.Shelf.{ShelfState}
use Rattle.swi_command.specs.CommandLine.{IsShareCount}
use Rattle.swi_command.specs.declared.command.RunLimits.{RunLimits}
use Rattle.swi_share.specs.declared.process.Guest.{Guest}
use Rattle.swi_task.specs.Devices.{Devices}
use Rattle.swi_share_command.specs.RunShared.{GuestsRead, limits_by, share_task}
use Rattle.swi_task.proofs.Refusals.{size_refused}
use Rattle.swi_share_command.proofs.SharedGuests.{guests_count}
use Rattle.swi_share_command.proofs.SharedRuns.{cache_small, files_unread, shared_answers}
use Rattle.swi_share_command.proofs.command.share.Goals as goal

-- a program for each name
count_is : (limits : RunLimits) (most : ℕ) (names : List (String Global)) (old new : ShelfState) (guests : List Guest) →
    GuestsRead limits most (map (λ n. string_bytes n) names) old new guests → length guests ≡ length names
count_is limits most names old new guests read = guests_count limits most (map (λ n. string_bytes n) names) old new guests read ∙ length-map names (λ n. string_bytes n)

pub returns-in_err-check_size : goal.returns-in_err-check_size
returns-in_err-check_size g c =
    let p = err_from_is_err_and c.from_residual.result c.from_residual.ensures.1 in
    let names : List (List ℕ) = map (λ n. string_bytes n) c.args.command.now.files.items in
    rw (p.1, p.2) (λ d.
    let before : Devices = record d { shelf = g.F.Shelf.state c.args.shelf.now; output = g.O.Sink.state c.args.out.now; error = g.E.Sink.state c.args.err.now; ram = g.R.CacheRam.state c.args.ram.now } in
    size_refused (share_task names c.args.command.now.cache c.args.command.now.options) before _ c.in_err-check_size.ensures.refused)

pub returns-in_err-guests : goal.returns-in_err-guests
returns-in_err-guests g c =
    let p = err_from_is_err_and c.from_residual-in_err-guests.result c.from_residual-in_err-guests.ensures.1 in
    let names : List (List ℕ) = map (λ n. string_bytes n) c.args.command.now.files.items in
    let unread = rw (c.limits_by-limits.ensures.value, c.as_slice-names.ensures.value) at c.in_err-guests.ensures.unread in
    rw (p.1, p.2) (λ d.
    let before : Devices = record d { shelf = g.F.Shelf.state c.args.shelf.now; output = g.O.Sink.state c.args.out.now; error = g.E.Sink.state c.args.err.now; ram = g.R.CacheRam.state c.args.ram.now } in
    files_unread names c.args.command.now.cache c.args.command.now.options before (g.F.Shelf.state c.read_guests.new.shelf) c.in_err-guests.field-0.0 c.in_ok-check_size.ensures.ok unread)

pub most_words-requires : goal.most_words-requires
most_words-requires g c =
    let read = rw (c.limits_by-limits.ensures.value, c.as_slice-names.ensures.value) at c.in_ok-guests.ensures.read in
    let count : length c.in_ok-guests.guests.items ≡ length c.args.command.now.files.items =
    count_is (limits_by c.args.command.now.options) c.args.command.now.cache.block_words c.args.command.now.files.items (g.F.Shelf.state c.args.shelf.now) (g.F.Shelf.state c.read_guests.new.shelf) c.in_ok-guests.guests.items read in
    let least = c.requires.count.least in
    record { some = rw c.deref.ensures.value (omega (arith, count, least)) }

pub run_guests-requires-clause-count : goal.run_guests-requires-clause-count
run_guests-requires-clause-count g c =
    let read = rw (c.limits_by-limits.ensures.value, c.as_slice-names.ensures.value) at c.in_ok-guests.ensures.read in
    let count : length c.in_ok-guests.guests.items ≡ length c.args.command.now.files.items =
    count_is (limits_by c.args.command.now.options) c.args.command.now.cache.block_words c.args.command.now.files.items (g.F.Shelf.state c.args.shelf.now) (g.F.Shelf.state c.read_guests.new.shelf) c.in_ok-guests.guests.items read in
    subst IsShareCount (sym count) c.requires.count

pub run_guests-requires-clause-guests : goal.run_guests-requires-clause-guests
run_guests-requires-clause-guests g c = c.in_ok-guests.ensures.read.own

pub returns-in_err-check_block : goal.returns-in_err-check_block
returns-in_err-check_block g c =
    let p = err_from_is_err_and c.from_residual-in_err-check_block.result c.from_residual-in_err-check_block.ensures.1 in
    let names : List (List ℕ) = map (λ n. string_bytes n) c.args.command.now.files.items in
    let read = rw (c.limits_by-limits.ensures.value, c.as_slice-names.ensures.value) at c.in_ok-guests.ensures.read in
    rw (p.1, p.2) (λ d.
    let before : Devices = record d { shelf = g.F.Shelf.state c.args.shelf.now; output = g.O.Sink.state c.args.out.now; error = g.E.Sink.state c.args.err.now; ram = g.R.CacheRam.state c.args.ram.now } in
    cache_small names c.args.command.now.cache c.args.command.now.options before (g.F.Shelf.state c.read_guests.new.shelf) read.files c.in_ok-guests.guests.items c.in_err-check_block.field-0.0 c.in_ok-check_size.ensures.ok read.read read.made
    (rw (c.most_words.ensures.most, c.deref.ensures.value) at c.in_err-check_block.ensures.refused))

pub returns : goal.returns
returns g c =
    let names : List (List ℕ) = map (λ n. string_bytes n) c.args.command.now.files.items in
    let read = rw (c.limits_by-limits.ensures.value, c.as_slice-names.ensures.value) at c.in_ok-guests.ensures.read in
    let holds = rw (c.most_words.ensures.most, c.deref.ensures.value) at c.in_ok-check_block.ensures.holds in
    λ d.
    let before : Devices = record d { shelf = g.F.Shelf.state c.args.shelf.now; output = g.O.Sink.state c.args.out.now; error = g.E.Sink.state c.args.err.now; ram = g.R.CacheRam.state c.args.ram.now } in
    let now : Devices = record before { shelf = g.F.Shelf.state c.read_guests.new.shelf } in
    shared_answers names c.args.command.now.cache c.args.command.now.options before (g.F.Shelf.state c.read_guests.new.shelf) (g.O.Sink.state c.run_guests.new.out) (g.E.Sink.state c.run_guests.new.err) (g.R.CacheRam.state c.run_guests.new.ram)
    read.files c.in_ok-guests.guests.items c.run_guests.result c.in_ok-check_size.ensures.ok read.read read.made holds (c.run_guests.ensures now)
