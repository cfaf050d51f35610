use Rattle.std.proofs.Common.{◌≡◌, None, refl, rules, sym, ◌∙◌, ap, subst}
use Rattle.swi_outside.specs.Devices.{Devices, streams}
use Rattle.swi_outside.specs.Told.{told_as}
use Rattle.swi_outside.proofs.SourceLemmas.{rest_is}
use Rattle.swi_hart.specs.MachineStep.{BoardWithRam}
use Rattle.swi_hart.proofs.Results.{ok_map_2}
use Rattle.swi_board.specs.Board.{BoardOf}
use Rattle.swi_board.proofs.Following.{followed}
use Rattle.swi_prefetch.specs.Turns.{Beside}
use Rattle.swi_prefetch.proofs.Stepping.{turned_by}
use Rattle.swi_prefetch.proofs.beside.step.Goals as goal

pub returns-then-is_some-clause-turned : goal.returns-then-is_some-clause-turned
returns-then-is_some-clause-turned g c i rest read = rw (rest_is read) (search rules)

pub returns-clause-turned : goal.returns-clause-turned
returns-clause-turned g c i rest read =
    let before : Devices = streams (told_as (g.I.Source.state c.args.input.now) i) (g.O.Sink.state c.args.out.now) (g.E.Sink.state c.args.err.now) in
    let after : Devices = streams (told_as (g.I.Source.state c.quick_step.new.input) rest) (g.O.Sink.state c.quick_step.new.out) (g.E.Sink.state c.quick_step.new.err) in
    let old : BoardWithRam g.row.R.Denot = record { hart = c.board.inside.hart; rom = c.board.inside.rom; ram = g.M.CacheRam.state c.args.ram.now } in
    let new : BoardWithRam g.row.R.Denot = record { hart = c.quick_step.new.hart; rom = c.quick_step.new.rom; ram = g.M.CacheRam.state c.quick_step.new.ram } in
    let running_now : c.args.board.now.hart.machine.ending ≡ None = search rules in
    let running : c.board.inside.hart.machine.ending ≡ None = ap (λ (b : BoardOf g.row.R.Denot). b.hart.machine.ending) c.board.view_is ∙ running_now in
    let beside = subst (λ (b : BoardOf g.row.R.Denot). Beside g.R.CacheRom.service c.args.image.now (record { hart = b.hart; rom = b.rom; ram = g.M.CacheRam.state c.args.ram.now })) (sym c.board.view_is) c.requires.beside in
    let s = c.quick_step.ensures.stepped i rest read in
    rw (← c.board.view_is)
    (turned_by g.R.CacheRom.service c.args.image.now old new before after beside running c.quick_step.result i rest refl refl s
    (ok_map_2 c.quick_step.result
    (λ made moves. λ f image same. followed (g.R.CacheRom.service.policy (g.R.CacheRom.service.setting c.board.inside.rom)) c.args.image.now (g.R.CacheRom.service.kept c.board.inside.rom) (g.R.CacheRom.service.kept c.quick_step.new.rom) c.board.inside.hart c.quick_step.new.hart f i _ _ _ _ _
    running c.quick_step.ensures.word image same moves (made i refl))
    (s.made beside.sound) s.policy))
