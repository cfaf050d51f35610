use Rattle.std.proofs.Common.{ℕ, ◌+◌, ◌-◌, slice_index, ap, arith, refl, sym, ◌∙◌}
use Rattle.swi_rom.specs.Record.{direct}
use Rattle.swi_chip.specs.Service.{HasArrived}
use Rattle.swi_chip.proofs.Calling.{called_again, called_free, over_none}
use Rattle.swi_chip.proofs.Entering.{index_few, mark_low, place_known, to_fill}
use Rattle.swi_chip.proofs.Crossing.{crossed_some, exit_few, exit_low, mark_some, place_few, place_found, slot_found, to_link_exit}
use Rattle.swi_chip.proofs.Keeping.{forgets_between}
use Rattle.swi_chip.proofs.serving.cross_new.Goals as goal

pub slot_of-row-requires : goal.slot_of-row-requires
slot_of-row-requires c = (let x = c.requires.can in record { few = exit_few x.some.stands c.args.at x.target x.exit; inverse = x.some.stands.numbers.inverse_is })

pub bounds-chip-row : goal.bounds-chip-row
bounds-chip-row c = (let x = c.requires.can in let e = c.slot_of-row.ensures in let l = exit_low x.some.stands c.args.at x.target x.exit in omega (arith, e, l))

pub fill-first-requires : goal.fill-first-requires
fill-first-requires c =
    (let x = c.requires.can in
    let k = x.some in
    let p = place_known (k.vs k.s.turn) x.target c.args.block c.args.offset (k.stands.serves.images k.s.turn) x.is in
    record { can = record { s = k.s; vs = k.vs; ram = k.ram; lists = k.lists; to = to_fill k.stands c.args.block p.0 c.count_service.new.counts c.count_service.ensures x.absent } })

pub overflow_sub-first : goal.overflow_sub-first
overflow_sub-first c =
    (let x = c.requires.can in
    let k = x.some in
    let p = place_known (k.vs k.s.turn) x.target c.args.block c.args.offset (k.stands.serves.images k.s.turn) x.is in
    mark_some (c.fill-first.ensures.arrived k.s k.vs k.ram k.lists (to_fill k.stands c.args.block p.0 c.count_service.new.counts c.count_service.ensures x.absent)))

pub slot_of-slot-requires : goal.slot_of-slot-requires
slot_of-slot-requires c =
    (let x = c.requires.can in
    let k = x.some in
    let p = place_known (k.vs k.s.turn) x.target c.args.block c.args.offset (k.stands.serves.images k.s.turn) x.is in
    let h = c.fill-first.ensures.arrived k.s k.vs k.ram k.lists (to_fill k.stands c.args.block p.0 c.count_service.new.counts c.count_service.ensures x.absent) in
    record { few = place_few h; inverse = h.stands.numbers.inverse_is })

pub overflow_add-to : goal.overflow_add-to
overflow_add-to c =
    (let x = c.requires.can in
    let k = x.some in
    let p = place_known (k.vs k.s.turn) x.target c.args.block c.args.offset (k.stands.serves.images k.s.turn) x.is in
    let m = mark_low (c.fill-first.ensures.arrived k.s k.vs k.ram k.lists (to_fill k.stands c.args.block p.0 c.count_service.new.counts c.count_service.ensures x.absent)) c.fill-first.result refl in
    let o = p.2 in
    omega (arith, m, o))

pub link_exit-requires : goal.link_exit-requires
link_exit-requires c =
    (let x = c.requires.can in
    let k = x.some in
    let p = place_known (k.vs k.s.turn) x.target c.args.block c.args.offset (k.stands.serves.images k.s.turn) x.is in
    let h = c.fill-first.ensures.arrived k.s k.vs k.ram k.lists (to_fill k.stands c.args.block p.0 c.count_service.new.counts c.count_service.ensures x.absent) in
    record {
      can = record {
        t = h.next;
        vs = k.vs;
        words = h.words;
        lists = h.lists;
        k = to_link_exit k.stands c.args.at x.target x.exit x.is h (slice_index c.args.chip.now.blocks.now c.slot_of-row.result) c.slot_of-slot.result (c.fill-first.result - 1 + c.args.offset)
            (ap (slice_index c.args.chip.now.blocks.now) c.slot_of-row.ensures) (c.slot_of-slot.ensures ∙ slot_found h) (place_found h c.args.offset);
      };
    })

pub address-requires : goal.address-requires
address-requires c =
    (let x = c.requires.can in
    let k = x.some in
    let p = place_known (k.vs k.s.turn) x.target c.args.block c.args.offset (k.stands.serves.images k.s.turn) x.is in
    index_few (c.fill-first.ensures.arrived k.s k.vs k.ram k.lists (to_fill k.stands c.args.block p.0 c.count_service.new.counts c.count_service.ensures x.absent)) x.target c.args.offset x.is)

pub returns-clause-served : goal.returns-clause-served
returns-clause-served c = λ s vs ram lists k target is absent x b o f placed inside at_place.
    (let p = place_known (vs s.turn) target c.args.block c.args.offset (k.serves.images s.turn) is in
    let h : HasArrived s vs ram c.args.block c.fill-first.result c.fill-first.new.chip = c.fill-first.ensures.arrived s vs ram lists (to_fill k c.args.block p.0 c.count_service.new.counts c.count_service.ensures c.requires.can.absent) in
    let home : ℕ = slice_index c.args.chip.now.blocks.now c.slot_of-row.result in
    let home_is = ap (slice_index c.args.chip.now.blocks.now) c.slot_of-row.ensures in
    let slot_is = c.slot_of-slot.ensures ∙ slot_found h in
    let to : ℕ = c.fill-first.result - 1 + c.args.offset in
    let le = to_link_exit k c.args.at target x is h home c.slot_of-slot.result to home_is slot_is (place_found h c.args.offset) in
    called_free k c.args.block c.args.offset (direct b o target) is absent (sym c.crowded.ensures ∙ c.if-crowded.false)
    (crossed_some k c.args.at target x is h (record { most = c.fill-first.ensures.bound.most; refused = c.fill-first.ensures.bound.refused ∙ c.count_service.ensures.refused }) home c.slot_of-slot.result to c.link_exit.new.chip home_is slot_is (place_found h c.args.offset) (c.link_exit.ensures.linked h.next vs h.words h.lists le) b o f placed inside at_place
    c.address.result c.address.ensures c.link_exit.ensures.stays.cache_at))

pub undo_portion-requires : goal.undo_portion-requires
undo_portion-requires c = (let x = c.requires.can in record { can = record { some = x.some; crowded = sym c.crowded.ensures ∙ c.if-crowded.true } })

pub returns-then-crowded-clause-served : goal.returns-then-crowded-clause-served
returns-then-crowded-clause-served c = λ s vs ram lists k target is absent x b o f placed inside at_place.
    called_again k c.args.block c.args.offset (direct b o target) is absent (over_none k c.args.at target b o f x placed inside at_place) (sym c.crowded.ensures ∙ c.if-crowded.true) (c.undo_portion.ensures.undone s vs ram lists k) c.undo_portion.ensures.bound c.undo_portion.ensures.stays.cache_at

pub returns-clause-memo : goal.returns-clause-memo
returns-clause-memo c = forgets_between (record { evictions = c.count_service.ensures.evictions; memo = refl }) c.fill-first.ensures.memo c.link_exit.ensures.memo
