use Rattle.std.proofs.Common.{◌*◌, drop}
use Rattle.swi_answer.specs.declared.answer.Refusal.{Refusal}
use Rattle.swi_task.specs.Checks.{IsAccepted, IsRefusedBy}
use Rattle.swi_cached_task.specs.Placing.{hold_block}
use Rattle.swi_cached_task.proofs.placed.check_blocks.Given as goal

-- the sizes that are left decide
abbrev pub invariant-loop-bytes : goal.invariant-loop-bytes
invariant-loop-bytes l = record {
  pass : IsAccepted (hold_block (drop l.bytes-index l.sizes) (4 * l.block_words)) → IsAccepted (hold_block l.sizes (4 * l.block_words));
  fail : (r : Refusal) → IsRefusedBy (hold_block (drop l.bytes-index l.sizes) (4 * l.block_words)) r → IsRefusedBy (hold_block l.sizes (4 * l.block_words)) r;
}
