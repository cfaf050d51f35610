use Rattle.std.proofs.Common.{◌∙◌, ℕ, ◌+◌, ap, arith, slice_index}
use Rattle.swi_chip.proofs.Stands.{row_word}
use Rattle.swi_chip.proofs.origins.word.Goals as goal

pub begin_of-begin-requires : goal.begin_of-begin-requires
begin_of-begin-requires c = (let x = c.requires.can in record { block = (row_word x.some.stands c.args.block c.args.offset x.known x.inside).0 })

pub overflow_add-result : goal.overflow_add-result
overflow_add-result c = (let x = c.requires.can in let r = (row_word x.some.stands c.args.block c.args.offset x.known x.inside).1 in let f = x.some.stands.rows.few in let e = c.begin_of-begin.ensures in omega (arith, r, f, e))

pub bounds-chip-begin : goal.bounds-chip-begin
bounds-chip-begin c = (let x = c.requires.can in let r = (row_word x.some.stands c.args.block c.args.offset x.known x.inside).1 in let e = c.begin_of-begin.ensures in omega (arith, r, e))

pub returns : goal.returns
returns c = λ s vs ram lists k known inside.
    ap (λ (n : ℕ). slice_index c.args.chip.now.words.now (n + c.args.offset)) c.begin_of-begin.ensures ∙ (row_word k c.args.block c.args.offset known inside).2
