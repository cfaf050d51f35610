use Rattle.swi_flat.proofs.Coasting.{one_more}
use Rattle.swi_flat.proofs.coast.close.Goals as goal

pub returns-clause-closes : goal.returns-clause-closes
returns-clause-closes c =
    let (i, step, taken) = c.in_ok-next.ensures.step in
    (i, rw c.address-machine.ensures (one_more c.args.range.now c.args.machine.now c.args.k c.in_ok-next.next i c.step_on.new.regs c.step_on.new.bus c.requires.at step), taken)
