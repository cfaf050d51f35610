use Rattle.swi_slots.specs.Slots.{kept_by}
use Rattle.swi_cached.proofs.Slotted.{setting_is, cache_is, fresh_is, if_ok, if_both}
use Rattle.swi_cached.proofs.slots.slots_for.Goals as goal

pub returns-clause-setting : goal.returns-clause-setting
returns-clause-setting c =
    if_ok c.new.result (λ s is. setting_is c.args.cache_bytes c.block_words.result s c.args.image.now is c.block_words.ensures.value) c.new.ensures.empty

pub returns-clause-cache : goal.returns-clause-cache
returns-clause-cache c =
    if_both c.new.result (λ s is kept. cache_is c.args.cache_bytes s c.args.image.now (setting_is c.args.cache_bytes c.block_words.result s c.args.image.now is c.block_words.ensures.value) kept)
    c.new.ensures.empty c.new.ensures.kept

pub returns-clause-fresh : goal.returns-clause-fresh
returns-clause-fresh c = if_ok c.new.result (λ s is. fresh_is (kept_by s) is) c.new.ensures.kept
