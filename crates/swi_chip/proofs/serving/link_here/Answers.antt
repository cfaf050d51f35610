use Rattle.std.proofs.Common.{arith, refl}
use Rattle.swi_chip.proofs.Crossing.{linked_stands, links_low, refused_stands, to_link}
use Rattle.swi_chip.proofs.serving.link_here.Goals as goal

pub bounds-chip-slot : goal.bounds-chip-slot
bounds-chip-slot c = (let x = c.requires.can in links_low x.k)

pub returns-then-from-chip-clause-linked : goal.returns-then-from-chip-clause-linked
returns-then-from-chip-clause-linked c = λ t vs words lists home k here. refused_stands k here (let e = c.from.ensures in let ge = c.if-from-chip.true in omega (arith, e, ge))

pub link-requires : goal.link-requires
link-requires c = (let x = c.requires.can in record { known = (x.t, x.vs, x.words, c.args.chip.now.blocks.now, x.lists, to_link x.k x.here) })

pub returns-clause-linked : goal.returns-clause-linked
returns-clause-linked c = λ t vs words lists home k here.
    linked_stands k _ here (let e = c.from.ensures in let lt = c.if-from-chip.false in omega (arith, e, lt)) (c.link.ensures.linked t vs words c.args.chip.now.blocks.now lists (to_link k here)) refl c.link.auto.cache
