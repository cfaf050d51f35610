use Rattle.std.proofs.Common.{get_or, ap}
use Rattle.swi_memory.specs.Bus.{fetched}
use Rattle.swi_flat.proofs.Stepping.{stores_at, stores_beside}
use Rattle.swi_flat.proofs.advance.step_anew.Goals as goal

pub returns-in-Some-clause-step : goal.returns-in-Some-clause-step
returns-in-Some-clause-step c =
    let ops = c.args.ops.now in
    stores_at c.args.range.now ops c.args.k (get_or ops c.args.k c.index-ops-k.result) c.args.regs.now c.args.bus.now c.store.new.bus c.store.result c.in-Some.a
    c.requires c.if-k-range.false (ap (get_or ops c.args.k) c.index-ops-k.is) c.store.ensures.at c.in-Some.is c.store.ensures.bus

pub returns-in-Some-clause-decoded : goal.returns-in-Some-clause-decoded
returns-in-Some-clause-decoded c =
    let ops = c.args.ops.now in
    c.forget.ensures (fetched c.args.bus.now) (fetched c.store.new.bus)
    (stores_beside (get_or ops c.args.k c.index-ops-k.result) c.args.regs.now c.args.bus.now c.store.new.bus c.store.result c.in-Some.a c.store.ensures.at c.in-Some.is c.store.ensures.bus) c.requires
