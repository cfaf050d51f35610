use Rattle.std.proofs.Common.{◌+◌, ◌-◌, ℕ, slice_set, arith, sym, subst}
use Rattle.std.proofs.lemmas.List.{length-set}
use Rattle.swi_chip.specs.Lists.{list_at}
use Rattle.swi_chip.specs.Undone.{restored}
use Rattle.swi_chip.proofs.Undoing.{Undoing, cell_known, next_cell, undoing_more, undone_all, undone_stands, cells_some}
use Rattle.swi_chip.proofs.undo.undo_into.Goals as goal

pub bounds-cache-cell : goal.bounds-cache-cell
bounds-cache-cell c =
    (let e = c.requires.count c.requires.stand.0 c.requires.stand.1 in
    (cell_known (c.loop-k.invariant c.requires.stand.0 c.requires.stand.1) (omega (arith, e, c.loop-k-test.true))).1)

pub overflow_sub-cache : goal.overflow_sub-cache
overflow_sub-cache c =
    (let e = c.requires.count c.requires.stand.0 c.requires.stand.1 in
    let k = (cell_known (c.loop-k.invariant c.requires.stand.0 c.requires.stand.1) (omega (arith, e, c.loop-k-test.true))).0 in omega (arith, k))

pub bounds-cache-cell-in-loop-k : goal.bounds-cache-cell-in-loop-k
bounds-cache-cell-in-loop-k c =
    (let e = c.requires.count c.requires.stand.0 c.requires.stand.1 in
    let k = (cell_known (c.loop-k.invariant c.requires.stand.0 c.requires.stand.1) (omega (arith, e, c.loop-k-test.true))).1 in omega (arith, k))

pub descriptor-requires : goal.descriptor-requires
descriptor-requires c =
    (let e = c.requires.count c.requires.stand.0 c.requires.stand.1 in
    record { can = c.requires.can c.requires.stand.0 c.requires.stand.1 c.loop-k.cell (cell_known (c.loop-k.invariant c.requires.stand.0 c.requires.stand.1) (omega (arith, e, c.loop-k-test.true))).2; inverse = c.requires.inverse })

pub bounds-cache-cell-in-loop-k-2 : goal.bounds-cache-cell-in-loop-k-2
bounds-cache-cell-in-loop-k-2 c =
    (let e = c.requires.count c.requires.stand.0 c.requires.stand.1 in
    let k = (cell_known (c.loop-k.invariant c.requires.stand.0 c.requires.stand.1) (omega (arith, e, c.loop-k-test.true))).1 in
    let l = length-set c.loop-k.cache (c.loop-k.cell - 1) 1048691 in omega (arith, k, l))

pub loop-k-preserved : goal.loop-k-preserved
loop-k-preserved c = λ lists s.
    (let e = c.requires.count lists s in
    let n = next_cell (c.loop-k.invariant lists s) (omega (arith, e, c.loop-k-test.true)) in
    let more = undoing_more n c.descriptor.result c.descriptor.ensures (s.distinct c.args.slot c.requires.slot) (λ x y h k q. c.requires.apart lists s c.args.slot c.args.slot x y h k q) (cells_some c.args.slot s c.requires.slot) in
    subst (λ (z : ℕ). Undoing c.args.cache.now (slice_set (slice_set c.loop-k.cache (c.loop-k.cell - 1) 1048691) c.loop-k.cell c.descriptor.result) (restored c.args.blocks.now c.args.ends.now c.args.words.now c.args.size.words) z (c.loop-k._k + 1) (list_at lists c.args.slot)) (sym c.next_of-next.ensures) more)

pub returns-clause-undone : goal.returns-clause-undone
returns-clause-undone c = λ lists s. (let e = c.requires.count lists s in undone_all (c.loop-k.invariant lists s) (omega (arith, e, c.loop-k-test.false, c.loop-k.auto._k-end)))

pub returns-clause-stand : goal.returns-clause-stand
returns-clause-stand c = λ lists s.
    (let e = c.requires.count lists s in
    undone_stands c.args.cache.now c.loop-k.cache c.args.heads.now lists c.args.slot (restored c.args.blocks.now c.args.ends.now c.args.words.now c.args.size.words) s c.requires.slot (c.requires.apart lists s)
    (undone_all (c.loop-k.invariant lists s) (omega (arith, e, c.loop-k-test.false, c.loop-k.auto._k-end))))
