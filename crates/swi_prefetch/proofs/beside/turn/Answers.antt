use Rattle.std.proofs.Common.{◌≡◌, ℕ, Some, sym, subst}
use Rattle.swi_hart.specs.Hart.{place_under}
use Rattle.swi_hart.specs.Service.{ServiceWithRam}
use Rattle.swi_board.specs.Board.{BoardOf}
use Rattle.swi_prefetch.specs.Turns.{Beside}
use Rattle.swi_prefetch.proofs.Turning.{turned_on, under_placed}
use Rattle.swi_prefetch.proofs.beside.turn.Goals as goal

pub work-requires-clause-here : goal.work-requires-clause-here
work-requires-clause-here g c =
    let here : ℕ × ℕ = (c.in-Some.block, c.in-Some.field-0-1) in
    let under : place_under c.board.inside.hart.machine.ending c.board.inside.hart.control ≡ Some here = sym c.in-Some.ensures in
    let beside = subst (λ (b : BoardOf g.row.R.Denot). Beside g.R.CacheRom.service c.args.image.now (record { hart = b.hart; rom = b.rom; ram = g.M.CacheRam.state c.args.ram.now })) (sym c.board.view_is) c.requires.beside in
    under_placed c.args.image.now (g.R.CacheRom.service.kept c.board.inside.rom) c.board.inside.hart here beside.fits under

pub returns-clause-turned : goal.returns-clause-turned
returns-clause-turned g c =
    let here : ℕ × ℕ = (c.in-Some.block, c.in-Some.field-0-1) in
    let under : place_under c.board.inside.hart.machine.ending c.board.inside.hart.control ≡ Some here = sym c.in-Some.ensures in
    let before : ServiceWithRam g.row.R.Denot = record { rom = c.board.inside.rom; ram = g.M.CacheRam.state c.args.ram.now } in
    let after : ServiceWithRam g.row.R.Denot = record { rom = c.work.new.self; ram = g.M.CacheRam.state c.work.new.ram } in
    let beside = subst (λ (b : BoardOf g.row.R.Denot). Beside g.R.CacheRom.service c.args.image.now (record { hart = b.hart; rom = b.rom; ram = g.M.CacheRam.state c.args.ram.now })) (sym c.board.view_is) c.requires.beside in
    rw (← c.board.view_is)
    (turned_on g.R.CacheRom.service g.R.CopyEngine.engine c.args.image.now c.board.inside.hart here before after c.work.result g.met.R.CopyEngine.laws under c.work.ensures.made beside)

pub returns-clause-failed : goal.returns-clause-failed
returns-clause-failed g c = rw (← c.board.view_is) c.work.ensures.failed
