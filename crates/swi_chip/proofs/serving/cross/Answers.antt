use Rattle.std.proofs.Common.{◌≡◌, ℕ, ◌+◌, ◌-◌, ◌/◌, slice_index, Some, arith, refl, sym, ◌∙◌}
use Rattle.swi_image.specs.Place.{place_of}
use Rattle.swi_chip.proofs.Calling.{called_hit, called_none}
use Rattle.swi_chip.proofs.Entering.{hit_at, index_few, known_mark, mark_low, place_known}
use Rattle.swi_chip.proofs.Crossing.{crossed_none, crossed_some, place_few, place_found, slot_found, to_link_exit}
use Rattle.swi_chip.proofs.serving.cross.Goals as goal

pub place-requires : goal.place-requires
place-requires c = record { text = c.requires.can.some.stands.numbers.text_is }

pub returns-in_default-clause-served : goal.returns-in_default-clause-served
returns-in_default-clause-served c = λ s vs ram lists k x b o f placed inside at_place.
    (let none = sym (c.place.ensures (vs s.turn) c.args.chip.now.ends.now (k.serves.images s.turn) k.tables) ∙ c.in_default.is in
    called_none none (crossed_none k b o c.args.target none))

pub bounds-chip-block : goal.bounds-chip-block
bounds-chip-block c =
    (let k = c.requires.can.some in
    let v = k.vs k.s.turn in
    let is : place_of (k.vs k.s.turn) c.args.target ≡ Some (c.in-Some.block, c.in-Some.offset) = sym (c.place.ensures v c.args.chip.now.ends.now (k.stands.serves.images k.s.turn) k.stands.tables) ∙ c.in-Some.is in
    let p = place_known v c.args.target c.in-Some.block c.in-Some.offset (k.stands.serves.images k.s.turn) is in
    known_mark k.stands c.in-Some.block p.0)

pub cross_new-requires : goal.cross_new-requires
cross_new-requires c =
    (let k = c.requires.can.some in
    let v = k.vs k.s.turn in
    let is : place_of (k.vs k.s.turn) c.args.target ≡ Some (c.in-Some.block, c.in-Some.offset) = sym (c.place.ensures v c.args.chip.now.ends.now (k.stands.serves.images k.s.turn) k.stands.tables) ∙ c.in-Some.is in
    let p = place_known v c.args.target c.in-Some.block c.in-Some.offset (k.stands.serves.images k.s.turn) is in
    record { can = record { some = k; target = c.args.target; is = is; absent = sym c.from-mark.ensures ∙ c.if-mark-eq0.true; exit = c.requires.can.exit } })

pub returns-then-mark-eq0-clause-served : goal.returns-then-mark-eq0-clause-served
returns-then-mark-eq0-clause-served c = λ s vs ram lists k x b o f placed inside at_place.
    c.cross_new.ensures.served s vs ram lists k c.args.target (sym (c.place.ensures (vs s.turn) c.args.chip.now.ends.now (k.serves.images s.turn) k.tables) ∙ c.in-Some.is) (sym c.from-mark.ensures ∙ c.if-mark-eq0.true) x b o f placed inside at_place

pub slot_of-slot-requires : goal.slot_of-slot-requires
slot_of-slot-requires c =
    (let k = c.requires.can.some in
    let v = k.vs k.s.turn in
    let is : place_of (k.vs k.s.turn) c.args.target ≡ Some (c.in-Some.block, c.in-Some.offset) = sym (c.place.ensures v c.args.chip.now.ends.now (k.stands.serves.images k.s.turn) k.stands.tables) ∙ c.in-Some.is in
    let p = place_known v c.args.target c.in-Some.block c.in-Some.offset (k.stands.serves.images k.s.turn) is in
    let h = hit_at k.stands c.in-Some.block p.0 c.from-mark.result c.from-mark.ensures c.count_service.new.counts c.count_service.ensures c.if-mark-eq0.false in
    record { few = place_few h; inverse = h.stands.numbers.inverse_is })

pub overflow_add-to : goal.overflow_add-to
overflow_add-to c =
    (let k = c.requires.can.some in
    let v = k.vs k.s.turn in
    let is : place_of (k.vs k.s.turn) c.args.target ≡ Some (c.in-Some.block, c.in-Some.offset) = sym (c.place.ensures v c.args.chip.now.ends.now (k.stands.serves.images k.s.turn) k.stands.tables) ∙ c.in-Some.is in
    let p = place_known v c.args.target c.in-Some.block c.in-Some.offset (k.stands.serves.images k.s.turn) is in
    let m = mark_low (hit_at k.stands c.in-Some.block p.0 c.from-mark.result c.from-mark.ensures c.count_service.new.counts c.count_service.ensures c.if-mark-eq0.false) _ refl in
    let o = p.2 in
    omega (arith, m, o))

pub link_here-requires : goal.link_here-requires
link_here-requires c =
    (let k = c.requires.can.some in
    let v = k.vs k.s.turn in
    let is : place_of (k.vs k.s.turn) c.args.target ≡ Some (c.in-Some.block, c.in-Some.offset) = sym (c.place.ensures v c.args.chip.now.ends.now (k.stands.serves.images k.s.turn) k.stands.tables) ∙ c.in-Some.is in
    let p = place_known v c.args.target c.in-Some.block c.in-Some.offset (k.stands.serves.images k.s.turn) is in
    let h = hit_at k.stands c.in-Some.block p.0 c.from-mark.result c.from-mark.ensures c.count_service.new.counts c.count_service.ensures c.if-mark-eq0.false in
    record {
      can = record {
        t = h.next;
        vs = k.vs;
        words = h.words;
        lists = h.lists;
        home = slice_index c.args.chip.now.blocks.now (c.args.at / c.args.chip.now.size.words);
        k = to_link_exit k.stands c.args.at c.args.target c.requires.can.exit is h (slice_index c.args.chip.now.blocks.now (c.args.at / c.args.chip.now.size.words)) c.slot_of-slot.result (c.from-mark.result - 1 + c.in-Some.offset)
            refl (c.slot_of-slot.ensures ∙ slot_found h) (place_found h c.in-Some.offset);
        here = refl;
      };
    })

pub address-requires : goal.address-requires
address-requires c =
    (let k = c.requires.can.some in
    let v = k.vs k.s.turn in
    let is : place_of (k.vs k.s.turn) c.args.target ≡ Some (c.in-Some.block, c.in-Some.offset) = sym (c.place.ensures v c.args.chip.now.ends.now (k.stands.serves.images k.s.turn) k.stands.tables) ∙ c.in-Some.is in
    let p = place_known v c.args.target c.in-Some.block c.in-Some.offset (k.stands.serves.images k.s.turn) is in
    index_few (hit_at k.stands c.in-Some.block p.0 c.from-mark.result c.from-mark.ensures c.count_service.new.counts c.count_service.ensures c.if-mark-eq0.false) c.args.target c.in-Some.offset is)

pub returns-clause-served : goal.returns-clause-served
returns-clause-served c = λ s vs ram lists k x b o f placed inside at_place.
    (let is : place_of (vs s.turn) c.args.target ≡ Some (c.in-Some.block, c.in-Some.offset) = sym (c.place.ensures (vs s.turn) c.args.chip.now.ends.now (k.serves.images s.turn) k.tables) ∙ c.in-Some.is in
    let p = place_known (vs s.turn) c.args.target c.in-Some.block c.in-Some.offset (k.serves.images s.turn) is in
    let h = hit_at k c.in-Some.block p.0 c.from-mark.result c.from-mark.ensures c.count_service.new.counts c.count_service.ensures c.if-mark-eq0.false in
    let home : ℕ = slice_index c.args.chip.now.blocks.now (c.args.at / c.args.chip.now.size.words) in
    let slot_is = c.slot_of-slot.ensures ∙ slot_found h in
    let to : ℕ = c.from-mark.result - 1 + c.in-Some.offset in
    let le = to_link_exit k c.args.at c.args.target x is h home c.slot_of-slot.result to refl slot_is (place_found h c.in-Some.offset) in
    called_hit k c.in-Some.block c.in-Some.offset is (λ none. c.if-mark-eq0.false (c.from-mark.ensures ∙ none))
    (crossed_some k c.args.at c.args.target x is h (record { most = refl; refused = c.count_service.ensures.refused }) home c.slot_of-slot.result to c.link_here.new.chip refl slot_is (place_found h c.in-Some.offset) (c.link_here.ensures.linked h.next vs h.words h.lists home le refl) b o f placed inside at_place
    c.address.result c.address.ensures c.link_here.ensures.stays.cache_at))
