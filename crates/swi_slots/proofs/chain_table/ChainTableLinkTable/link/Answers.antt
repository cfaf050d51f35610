use Rattle.std.proofs.Common.{ap}
use Rattle.swi_slots.specs.Homes.{TableData}
use Rattle.swi_slots.proofs.Targets.{at_call, free_call, link_call}
use Rattle.swi_slots.proofs.chain_table.ChainTableLinkTable.link.Goals as goal

pub link-requires-clause-at : goal.link-requires-clause-at
link-requires-clause-at c = at_call c.args.self.now _ _ (ap (λ (t : TableData). t.chains) c.self.view_is) c.requires.at

pub link-requires-clause-free : goal.link-requires-clause-free
link-requires-clause-free c = free_call c.args.self.now _ _ (ap (λ (t : TableData). t.chains) c.self.view_is) c.requires.at c.requires.free

pub returns-clause-targets : goal.returns-clause-targets
returns-clause-targets c =
    let e = ap (λ (t : TableData). t.chains) c.self.view_is in
    link_call c.args.self.now _ _ _ _ e (free_call c.args.self.now _ _ e c.requires.at c.requires.free) c.requires.slot c.link.ensures
