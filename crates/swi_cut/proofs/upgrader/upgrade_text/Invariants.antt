use Rattle.swi_cut.proofs.Upgraded.{IsUpgrading}
use Rattle.swi_cut.proofs.upgrader.upgrade_text.Given as goal

-- the blocks so far are cut again
abbrev pub invariant-loop-block : goal.invariant-loop-block
invariant-loop-block l = IsUpgrading l.text l.view l.block l.draft
