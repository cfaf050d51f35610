use Rattle.std.proofs.Common.{Some, Ok, rules}
use Rattle.swi_hart.specs.declared.fault.BoardFault.{BoardFault}
use Rattle.swi_prefetch.specs.Prefetching.{EngineEvent, PrefetchState}
use Rattle.swi_prefetch.proofs.Leading.{leads_engine}
use Rattle.swi_prefetch.proofs.prefetch.Prefetch.engine.Goals as goal

pub returns-in-Ok-clause-leads : goal.returns-in-Ok-clause-leads
returns-in-Ok-clause-leads g c = λ d.
    let old : PrefetchState = record { board = c.args.self.now.board; ram = g.M.CacheRam.state c.args.ram.now } in
    let new : PrefetchState = record { board = Some c.turn.new.board; ram = g.M.CacheRam.state c.turn.new.ram } in
    let turned : EngineEvent {E = BoardFault} c.args.image.now old new (Ok c.in-Ok.wrote) = search rules in
    leads_engine c.args.image.now old new d c.in-Ok.wrote turned
