use Rattle.std.proofs.Common.{arith}
use Rattle.swi_command.proofs.Files.{given_more}
use Rattle.swi_command.proofs.read.push_more.Goals as goal

pub loop-place-preserved : goal.loop-place-preserved
loop-place-preserved c =
    let kept = c.loop-place.invariant in
    let pushed = c.in_ok-push_file.ensures in
    let size = c.push_file.ensures.size in
    (given_more _ c.loop-place.place-index _ _ _ _ _ c.loop-place-test.true kept.0 pushed.files, omega arith)
