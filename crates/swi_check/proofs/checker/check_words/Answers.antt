use Rattle.std.proofs.Common.{arith}
use Rattle.swi_render.specs.ImageOf.{block_between}
use Rattle.swi_render.proofs.Stands.{filled_behind}
use Rattle.swi_check.specs.Mismatches.{asked_between}
use Rattle.swi_check.proofs.checker.check_words.Goals as goal

pub returns-clause-right : goal.returns-clause-right
returns-clause-right c =
    let front = c.in_ok-from.ensures {u = tt} in
    c.check_zeros.ensures.right (asked_between c.args.text.now c.args.view.now c.args.first c.args.end)
    (λ o low. filled_behind c.args.view.now (block_between c.args.text.now c.args.first c.args.end) o (omega (arith, front.to))) front.right

pub returns-clause-wrong : goal.returns-clause-wrong
returns-clause-wrong c =
    let front = c.in_ok-from.ensures {u = tt} in
    c.check_zeros.ensures.wrong (asked_between c.args.text.now c.args.view.now c.args.first c.args.end)
    (λ o low. filled_behind c.args.view.now (block_between c.args.text.now c.args.first c.args.end) o (omega (arith, front.to))) front.right (omega (arith, c.requires.whole))
