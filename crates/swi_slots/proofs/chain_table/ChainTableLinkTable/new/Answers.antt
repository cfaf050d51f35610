use Rattle.std.proofs.Common.{ℕ, List, length, ap, ◌∙◌}
use Rattle.std.proofs.lemmas.List.{length-replicate}
use Rattle.swi_links.specs.Chains.{ChainsData}
use Rattle.swi_slots.specs.Targets.{targets_of}
use Rattle.swi_slots.proofs.Targets.{targets_empty}
use Rattle.swi_slots.proofs.Knowing.{knows_none}
use Rattle.swi_slots.proofs.chain_table.ChainTableLinkTable.new.Goals as goal

pub returns-clause-empty : goal.returns-clause-empty
returns-clause-empty c = ap (λ (x : ChainsData). targets_of x) c.in_ok-chains.ensures ∙ targets_empty _ _

pub returns-clause-knows : goal.returns-clause-knows
returns-clause-knows c = λ blocks. knows_none _ blocks _ c.in_ok-homes.ensures

pub returns-clause-slots : goal.returns-clause-slots
returns-clause-slots c = ap (λ (x : ChainsData). length x.lists) c.in_ok-chains.ensures ∙ length-replicate {A = List ℕ} _ _
