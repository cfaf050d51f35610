use Rattle.std.proofs.Common.{◌≡◌, ◌+◌, ◌∙◌, max, arith, rules}
use Rattle.swi_program.proofs.Ends.{end_step}
use Rattle.swi_program.proofs.placement.highest_end.Goals as goal

pub loop-segment-preserved : goal.loop-segment-preserved
loop-segment-preserved c =
    let top : c.max-highest.result ≡ max c.loop-segment.highest (c.segment-item.result.base + c.segment-item.result.size) = search rules in
    (end_step c.args.segments.now c.loop-segment.segment-index _ _ c.segment-item.result (omega arith) c.segment-item.is top ∙ c.loop-segment.invariant.0, omega (arith, top))
