use Rattle.std.proofs.Common.{take}
use Rattle.swi_share.specs.Shared.{shared_run}
use Rattle.swi_share.specs.Sharing.{seen}
use Rattle.swi_share.proofs.Scheduling.{Scheduled}
use Rattle.swi_share.proofs.share.Share.run.Given as goal

abbrev pub invariant-loop-g : goal.invariant-loop-g
invariant-loop-g g l =
    Scheduled (shared_run (take l.g-index l.order) (seen l.initial.self))
    (record { share = l.initial.self; ram = g.M.CacheRam.state l.initial.ram; out = g.O.Sink.state l.initial.out; err = g.E.Sink.state l.initial.err })
    (record { share = l.self; ram = g.M.CacheRam.state l.ram; out = g.O.Sink.state l.out; err = g.E.Sink.state l.err })
