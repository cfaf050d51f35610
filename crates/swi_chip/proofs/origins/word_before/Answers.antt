use Rattle.std.proofs.Common.{◌∙◌, ◌-◌, Bool, if◌then◌else◌, ap, arith, sym}
use Rattle.std.proofs.lemmas.Bool.{eq-eqb, ne_eqb}
use Rattle.swi_image.specs.Place.{word_at}
use Rattle.swi_chip.proofs.origins.word_before.Goals as goal

pub returns-then-offset-eq0 : goal.returns-then-offset-eq0
returns-then-offset-eq0 c = λ s vs ram lists k known inside.
    sym (ap (λ (t : Bool). if t then 0 else word_at (vs s.turn) c.args.block (c.args.offset - 1)) (eq-eqb c.args.offset 0 c.if-offset-eq0.true))

pub word-requires : goal.word-requires
word-requires c = (let x = c.requires.can in record { can = record { some = x.some; known = x.known; inside = (let i = x.inside in omega (arith, i)) } })

pub returns : goal.returns
returns c = λ s vs ram lists k known inside.
    c.word.ensures s vs ram lists k known (omega (arith, inside))
    ∙ sym (ap (λ (t : Bool). if t then 0 else word_at (vs s.turn) c.args.block (c.args.offset - 1)) (ne_eqb c.args.offset 0 c.if-offset-eq0.false))
