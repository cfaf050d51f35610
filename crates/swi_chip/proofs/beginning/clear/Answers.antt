use Rattle.swi_chip.proofs.beginning.clear.Goals as goal

pub returns : goal.returns
returns c = c.fill.ensures.after (λ y same. same)
