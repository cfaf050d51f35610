use Rattle.swi_cut.proofs.Upgraded.{upgrading_none}
use Rattle.swi_cut.proofs.upgrader.upgrade_text.Goals as goal

pub loop-block-init : goal.loop-block-init
loop-block-init c =
    upgrading_none c.args.text.now c.args.view.now c.new-draft.result c.blocks-block-end.ensures.sound (c.new-draft.ensures.draft c.args.text.now c.args.view.now.block_words) c.new-draft.ensures.starts
