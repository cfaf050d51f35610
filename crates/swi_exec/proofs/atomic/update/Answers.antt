use Rattle.std.proofs.Common.{rules, arith, ◌≡◌, true, false}
use Rattle.swi_memory.specs.Bus.{touches_text}
use Rattle.swi_exec.specs.Execute.{lets_update}
use Rattle.swi_exec.proofs.atomic.update.Goals as goal

pub returns-clause-text : goal.returns-clause-text
returns-clause-text c none =
    let may : lets_update c.args.bus.now c.args.a ≡ true = search rules in
    let apart : touches_text c.args.bus.now c.args.a 4 ≡ false = grind (arith, none, may) in
    c.store.ensures.text apart
