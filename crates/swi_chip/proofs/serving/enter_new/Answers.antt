use Rattle.std.proofs.Common.{arith, refl, sym, ◌∙◌}
use Rattle.swi_rom.specs.Record.{indirect}
use Rattle.swi_chip.specs.Service.{HasArrived}
use Rattle.swi_chip.proofs.Calling.{called_again, called_free}
use Rattle.swi_chip.proofs.Crossing.{mark_some}
use Rattle.swi_chip.proofs.Entering.{entered_some, index_few, place_known, mark_low, to_fill}
use Rattle.swi_chip.proofs.Keeping.{forgets_between}
use Rattle.swi_chip.proofs.serving.enter_new.Goals as goal

pub fill-mark-requires : goal.fill-mark-requires
fill-mark-requires c =
    (let x = c.requires.can in
    let k = x.some in
    let p = place_known (k.vs k.s.turn) x.target c.args.block c.args.offset (k.stands.serves.images k.s.turn) x.is in
    record { can = record { s = k.s; vs = k.vs; ram = k.ram; lists = k.lists; to = to_fill k.stands c.args.block p.0 c.count_service.new.counts c.count_service.ensures x.absent } })

pub overflow_sub-mark : goal.overflow_sub-mark
overflow_sub-mark c =
    (let x = c.requires.can in
    let k = x.some in
    let p = place_known (k.vs k.s.turn) x.target c.args.block c.args.offset (k.stands.serves.images k.s.turn) x.is in
    mark_some (c.fill-mark.ensures.arrived k.s k.vs k.ram k.lists (to_fill k.stands c.args.block p.0 c.count_service.new.counts c.count_service.ensures x.absent)))

pub overflow_add-mark : goal.overflow_add-mark
overflow_add-mark c =
    (let x = c.requires.can in
    let k = x.some in
    let p = place_known (k.vs k.s.turn) x.target c.args.block c.args.offset (k.stands.serves.images k.s.turn) x.is in
    let h = c.fill-mark.ensures.arrived k.s k.vs k.ram k.lists (to_fill k.stands c.args.block p.0 c.count_service.new.counts c.count_service.ensures x.absent) in
    let m = mark_low h c.fill-mark.result refl in
    let o = p.2 in
    omega (arith, m, o))

pub address-requires : goal.address-requires
address-requires c =
    (let x = c.requires.can in
    let k = x.some in
    let p = place_known (k.vs k.s.turn) x.target c.args.block c.args.offset (k.stands.serves.images k.s.turn) x.is in
    let h = c.fill-mark.ensures.arrived k.s k.vs k.ram k.lists (to_fill k.stands c.args.block p.0 c.count_service.new.counts c.count_service.ensures x.absent) in
    index_few h x.target c.args.offset x.is)

pub returns-clause-served : goal.returns-clause-served
returns-clause-served c = λ s vs ram lists k target is absent.
    (let p = place_known (vs s.turn) target c.args.block c.args.offset (k.serves.images s.turn) is in
    let x = c.requires.can in
    let h : HasArrived s vs ram c.args.block c.fill-mark.result c.fill-mark.new.chip = c.fill-mark.ensures.arrived s vs ram lists (to_fill k c.args.block p.0 c.count_service.new.counts c.count_service.ensures x.absent) in
    called_free k c.args.block c.args.offset (indirect target) is absent (sym c.crowded.ensures ∙ c.if-crowded.false)
    (entered_some {s = s} {vs = vs} {ram = ram} {c = c.args.chip.now} (record { most = c.fill-mark.ensures.bound.most; refused = c.fill-mark.ensures.bound.refused ∙ c.count_service.ensures.refused }) target c.args.block c.args.offset c.fill-mark.result is h c.address.result c.address.ensures))

pub undo_portion-requires : goal.undo_portion-requires
undo_portion-requires c = (let x = c.requires.can in record { can = record { some = x.some; crowded = sym c.crowded.ensures ∙ c.if-crowded.true } })

pub returns-then-crowded-clause-served : goal.returns-then-crowded-clause-served
returns-then-crowded-clause-served c = λ s vs ram lists k target is absent.
    called_again k c.args.block c.args.offset (indirect target) is absent refl (sym c.crowded.ensures ∙ c.if-crowded.true) (c.undo_portion.ensures.undone s vs ram lists k) c.undo_portion.ensures.bound c.undo_portion.ensures.stays.cache_at

pub returns-clause-memo : goal.returns-clause-memo
returns-clause-memo c = forgets_between (record { evictions = c.count_service.ensures.evictions; memo = refl }) c.fill-mark.ensures.memo (record { evictions = refl; memo = refl })
