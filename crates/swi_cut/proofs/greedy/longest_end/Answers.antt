use Rattle.std.proofs.Common.{◌≡◌, arith, ap, ◌∙◌}
use Rattle.swi_render.specs.ImageOf.{offset_in}
use Rattle.swi_render.specs.Cut.{needs_of}
use Rattle.swi_render.proofs.Runs.{offset_first}
use Rattle.swi_cut.proofs.Runs.{growing_start, growing_next, growing_stops}
use Rattle.swi_cut.proofs.greedy.longest_end.Goals as goal

pub loop-k-init : goal.loop-k-init
loop-k-init c = (growing_start c.args.text.now c.args.most c.args.first c.requires.first, omega arith)

pub loop-k-preserved : goal.loop-k-preserved
loop-k-preserved c =
    let i = c.loop-k.invariant in (
      growing_next c.args.text.now c.args.most c.args.first c.loop-k.k c.loop-k.used c.sizes_of-sizes.result.len c.sizes_of-sizes.result.needs i.0 (omega arith) c.sizes_of-sizes.ensures.needs (omega arith) c.sizes_of-sizes.ensures.len,
      omega (arith, c.sizes_of-sizes.ensures.less),
    )

pub returns-then-k-first-clause-long : goal.returns-then-k-first-clause-long
returns-then-k-first-clause-long c =
    let i = c.loop-k.invariant in
    let same : c.loop-k.k ≡ c.args.first = c.if-k-first.true in
    let none : offset_in c.args.text.now c.args.first c.loop-k.k ≡ 0 = ap (offset_in c.args.text.now c.args.first) same ∙ offset_first c.args.text.now c.args.first in
    (c.sizes_of-sizes.ensures.needs ∙ ap (needs_of c.args.text.now) same, omega (arith, i.0.used_is, none))

pub returns-else-k-first-clause-greedy : goal.returns-else-k-first-clause-greedy
returns-else-k-first-clause-greedy c =
    growing_stops c.args.text.now c.args.most c.args.first c.loop-k.k c.loop-k.used c.sizes_of-sizes.result.needs c.loop-k.invariant.0 (omega arith) c.sizes_of-sizes.ensures.needs (omega arith)

pub overflow_add-used : goal.overflow_add-used
overflow_add-used c = omega (arith, c.loop-k.invariant.1, c.sizes_of-sizes.ensures.less)
