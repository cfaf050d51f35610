use Rattle.std.proofs.Common.{◌≡◌, ◌≤◌, ◌+◌, ◌-◌, ◌^◌, drop, min}
use Rattle.swi_share.specs.Laws.{counts_of}
use Rattle.swi_share.specs.Sharing.{seen}
use Rattle.swi_share_command.proofs.command.shared_work.Given as goal

abbrev pub invariant-loop-g : goal.invariant-loop-g
invariant-loop-g l = record {
  whole : min (l.instructions + counts_of (drop l.g (seen l.share).contexts)) (2 ^ 64 - 1) ≡ min (counts_of (seen l.share).contexts) (2 ^ 64 - 1);
  few : l.instructions ≤ 2 ^ 64 - 1;
}
