use Rattle.std.proofs.Common.{sym, ◌∙◌}
use Rattle.std.proofs.lemmas.Bool.{and_parts}
use Rattle.swi_slots.specs.Coheres.{coheres, image_is}
use Rattle.swi_slots.specs.Readers.{shown_stands}
use Rattle.swi_slots.specs.Slots.{Slots, kept_by, setting_of, span_of, shown_by}
use Rattle.swi_board.specs.Board.{BoardOf}
use Rattle.swi_hart.proofs.Falls.{ram_same}
use Rattle.swi_share.proofs.Boarding.{joined, is_anew, entered, on_err}
use Rattle.swi_share.proofs.event.make_ready.Goals as goal

pub returns-then-goes_on-clause-boarded : goal.returns-then-goes_on-clause-boarded
returns-then-goes_on-clause-boarded g c =
    let parts = and_parts _ _ (sym c.goes_on.ensures ∙ c.if-goes_on.true) in
    joined c.args.image.now (record { hart = c.args.hart.now; rom = c.args.rom.now }) (shown_by c.args.rom.now) c.requires.waits c.requires.running parts.0
    (shown_stands c.args.rom.now c.args.image.now _ c.requires.sound) parts.1

pub returns-then-goes_on-clause-ram : goal.returns-then-goes_on-clause-ram
returns-then-goes_on-clause-ram g c =
    ram_same (span_of (setting_of c.args.rom.now)) (kept_by c.args.rom.now) (g.M.CacheRam.state c.args.ram.now)

pub returns-clause-boarded : goal.returns-clause-boarded
returns-clause-boarded g c =
    let q = c.enter.ensures in
    let old : BoardOf Slots = record { hart = c.args.hart.now; rom = c.args.rom.now } in
    let new : BoardOf Slots = record { hart = c.enter.new.hart; rom = c.enter.new.rom } in
    let anew = is_anew c.args.image.now (kept_by c.args.rom.now) _ _ c.args.hart.now (shown_by c.args.rom.now) c.requires.waits c.requires.running
    (coheres c.args.rom.now c.args.image.now _ c.requires.sound) (image_is c.args.rom.now c.args.image.now _ c.requires.sound)
    (shown_stands c.args.rom.now c.args.image.now _ c.requires.sound) (sym c.goes_on.ensures ∙ c.if-goes_on.false) in
    entered c.args.image.now old new (g.M.CacheRam.state c.args.ram.now) (g.M.CacheRam.state c.enter.new.ram) c.enter.result anew q.entered

pub returns-clause-entering : goal.returns-clause-entering
returns-clause-entering g c =
    on_err c.enter.result (is_anew c.args.image.now (kept_by c.args.rom.now) _ _ c.args.hart.now (shown_by c.args.rom.now) c.requires.waits c.requires.running
    (coheres c.args.rom.now c.args.image.now _ c.requires.sound) (image_is c.args.rom.now c.args.image.now _ c.requires.sound)
    (shown_stands c.args.rom.now c.args.image.now _ c.requires.sound) (sym c.goes_on.ensures ∙ c.if-goes_on.false))
