use Rattle.std.proofs.Common.{◌≡◌, Some, arith, refl, sym, ◌∙◌}
use Rattle.swi_image.specs.Place.{place_of}
use Rattle.swi_chip.proofs.Calling.{called_hit, called_none}
use Rattle.swi_chip.proofs.Entering.{entered_none, entered_some, hit_at, index_few, known_mark, mark_low, place_known}
use Rattle.swi_chip.proofs.serving.enter.Goals as goal

pub place-requires : goal.place-requires
place-requires c = record { text = c.requires.some.stands.numbers.text_is }

pub returns-in_default-clause-served : goal.returns-in_default-clause-served
returns-in_default-clause-served c = λ s vs ram lists k.
    (let none = sym (c.place.ensures (vs s.turn) c.args.chip.now.ends.now (k.serves.images s.turn) k.tables) ∙ c.in_default.is in
    called_none none (entered_none k c.args.target none))

pub bounds-chip-block : goal.bounds-chip-block
bounds-chip-block c =
    (let k = c.requires.some in
    let v = k.vs k.s.turn in
    let p = place_known v c.args.target c.in-Some.block c.in-Some.offset (k.stands.serves.images k.s.turn) (sym (c.place.ensures v c.args.chip.now.ends.now (k.stands.serves.images k.s.turn) k.stands.tables) ∙ c.in-Some.is) in
    known_mark k.stands c.in-Some.block p.0)

pub enter_new-requires : goal.enter_new-requires
enter_new-requires c =
    (let k = c.requires.some in
    let v = k.vs k.s.turn in
    record { can = record { some = k; target = c.args.target; is = sym (c.place.ensures v c.args.chip.now.ends.now (k.stands.serves.images k.s.turn) k.stands.tables) ∙ c.in-Some.is; absent = sym c.from-mark.ensures ∙ c.if-mark-eq0.true } })

pub returns-then-mark-eq0-clause-served : goal.returns-then-mark-eq0-clause-served
returns-then-mark-eq0-clause-served c = λ s vs ram lists k.
    c.enter_new.ensures.served s vs ram lists k c.args.target (sym (c.place.ensures (vs s.turn) c.args.chip.now.ends.now (k.serves.images s.turn) k.tables) ∙ c.in-Some.is) (sym c.from-mark.ensures ∙ c.if-mark-eq0.true)

pub overflow_add-mark : goal.overflow_add-mark
overflow_add-mark c =
    (let k = c.requires.some in
    let v = k.vs k.s.turn in
    let p = place_known v c.args.target c.in-Some.block c.in-Some.offset (k.stands.serves.images k.s.turn) (sym (c.place.ensures v c.args.chip.now.ends.now (k.stands.serves.images k.s.turn) k.stands.tables) ∙ c.in-Some.is) in
    let h = hit_at k.stands c.in-Some.block p.0 c.from-mark.result c.from-mark.ensures c.count_service.new.counts c.count_service.ensures c.if-mark-eq0.false in
    let m = mark_low h _ refl in
    let o = p.2 in
    omega (arith, m, o))

pub address-requires : goal.address-requires
address-requires c =
    (let k = c.requires.some in
    let v = k.vs k.s.turn in
    let is = sym (c.place.ensures v c.args.chip.now.ends.now (k.stands.serves.images k.s.turn) k.stands.tables) ∙ c.in-Some.is in
    let p = place_known v c.args.target c.in-Some.block c.in-Some.offset (k.stands.serves.images k.s.turn) is in
    index_few (hit_at k.stands c.in-Some.block p.0 c.from-mark.result c.from-mark.ensures c.count_service.new.counts c.count_service.ensures c.if-mark-eq0.false) c.args.target c.in-Some.offset is)

pub returns-clause-served : goal.returns-clause-served
returns-clause-served c = λ s vs ram lists k.
    (let is : place_of (vs s.turn) c.args.target ≡ Some (c.in-Some.block, c.in-Some.offset) = sym (c.place.ensures (vs s.turn) c.args.chip.now.ends.now (k.serves.images s.turn) k.tables) ∙ c.in-Some.is in
    let p = place_known (vs s.turn) c.args.target c.in-Some.block c.in-Some.offset (k.serves.images s.turn) is in
    called_hit k c.in-Some.block c.in-Some.offset is (λ none. c.if-mark-eq0.false (c.from-mark.ensures ∙ none))
    (entered_some {s = s} {vs = vs} {ram = ram} {c = c.args.chip.now} (record { most = refl; refused = c.count_service.ensures.refused }) c.args.target c.in-Some.block c.in-Some.offset _ is (hit_at k c.in-Some.block p.0 c.from-mark.result c.from-mark.ensures c.count_service.new.counts c.count_service.ensures c.if-mark-eq0.false) c.address.result c.address.ensures))
