use Rattle.swi_slots.proofs.Seen.{chained_call}
use Rattle.swi_slots.proofs.chain_table.chains.Goals as goal

pub returns-clause-links : goal.returns-clause-links
returns-clause-links c = λ v words sound n i. chained_call _ _ c.args.rom.now v words n i c.behind-rom.view_is c.slots.ensures.apart c.table.ensures.slots c.table.ensures.targets sound
