use Rattle.std.proofs.Common.{arith, ◌∙◌, ap, slice_index, sym}
use Rattle.swi_chip.proofs.Crossing.{few_at, gone, row_low}
use Rattle.swi_chip.proofs.serving.link_exit.Goals as goal

pub slot_of-row-requires : goal.slot_of-row-requires
slot_of-row-requires c = (let x = c.requires.can in record { few = few_at x.k; inverse = x.k.stands.numbers.inverse_is })

pub bounds-chip-row : goal.bounds-chip-row
bounds-chip-row c = (let x = c.requires.can in let e = c.slot_of-row.ensures in let l = row_low x.k in omega (arith, e, l))

pub returns-then-chip-row-clause-linked : goal.returns-then-chip-row-clause-linked
returns-then-chip-row-clause-linked c = λ t vs words lists k. gone k (λ e. c.if-chip-row.true (ap (slice_index c.args.chip.now.blocks.now) c.slot_of-row.ensures ∙ e))

pub link_here-requires : goal.link_here-requires
link_here-requires c = (let x = c.requires.can in record { can = record { t = x.t; vs = x.vs; words = x.words; lists = x.lists; home = c.args.home; k = x.k; here = ap (slice_index c.args.chip.now.blocks.now) (sym c.slot_of-row.ensures) ∙ c.if-chip-row.false } })

pub returns-clause-linked : goal.returns-clause-linked
returns-clause-linked c = λ t vs words lists k. c.link_here.ensures.linked t vs words lists c.args.home k (ap (slice_index c.args.chip.now.blocks.now) (sym c.slot_of-row.ensures) ∙ c.if-chip-row.false)
