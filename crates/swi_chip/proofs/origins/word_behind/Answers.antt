use Rattle.std.proofs.Common.{◌∙◌, ◌+◌, Bool, if◌then◌else◌, ap, arith, sym}
use Rattle.std.proofs.lemmas.Bool.{le-ltb, lt-ltb}
use Rattle.swi_image.specs.Place.{length_at, word_at}
use Rattle.swi_chip.proofs.Stands.{count_is, ends_order}
use Rattle.swi_chip.proofs.origins.word_behind.Goals as goal

pub length_of-count-requires : goal.length_of-count-requires
length_of-count-requires c = (let x = c.requires.can in let o = ends_order x.some.stands c.args.block x.known in record { block = o.0; order = o.1 })

pub returns-then-offset-count : goal.returns-then-offset-count
returns-then-offset-count c = λ s vs ram lists k known inside.
    (let n = count_is k c.args.block c.length_of-count.result known c.length_of-count.ensures in let ge = c.if-offset-count.true in
    sym (ap (λ (t : Bool). if t then word_at (vs s.turn) c.args.block (c.args.offset + 1) else 1) (le-ltb (c.args.offset + 1) (length_at (vs s.turn) c.args.block) (omega (arith, n, ge)))))

pub word-requires : goal.word-requires
word-requires c =
    (let x = c.requires.can in
    let n = count_is x.some.stands c.args.block c.length_of-count.result x.known c.length_of-count.ensures in let lt = c.if-offset-count.false in
    record { can = record { some = x.some; known = x.known; inside = omega (arith, n, lt) } })

pub returns : goal.returns
returns c = λ s vs ram lists k known inside.
    (let n = count_is k c.args.block c.length_of-count.result known c.length_of-count.ensures in let lt = c.if-offset-count.false in
    c.word.ensures s vs ram lists k known (omega (arith, n, lt))
    ∙ sym (ap (λ (t : Bool). if t then word_at (vs s.turn) c.args.block (c.args.offset + 1) else 1) (lt-ltb (c.args.offset + 1) (length_at (vs s.turn) c.args.block) (omega (arith, n, lt)))))
