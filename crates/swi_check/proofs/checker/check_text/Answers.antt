use Rattle.std.proofs.Common.{arith}
use Rattle.swi_check.specs.declared.mismatch.Mismatch.{Mismatch}
use Rattle.swi_check.specs.Mismatches.{IsMismatch}
use Rattle.swi_check.proofs.Blocks.{first_wrong}
use Rattle.swi_check.proofs.Errors.{err_as}
use Rattle.swi_check.proofs.checker.check_text.Goals as goal

pub returns-in_err-check_block-clause-wrong : goal.returns-in_err-check_block-clause-wrong
returns-in_err-check_block-clause-wrong c =
    err_as c.from_residual.result c.in_err-check_block.field-0.0 (λ (m : Mismatch). IsMismatch c.args.text.now c.args.view.now m) c.from_residual.ensures.1
    (first_wrong c.args.text.now c.args.view.now c.loop-block.block c.in_err-check_block.field-0.0 c.in_default.ensures.none (omega (arith, c.blocks-block-end.ensures.value)) c.loop-block.invariant (c.in_err-check_block.ensures {u = tt}).wrong)
