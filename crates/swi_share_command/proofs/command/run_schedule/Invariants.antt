use Rattle.std.proofs.Common.{◌≡◌, take}
use Rattle.swi_make.specs.Numbers.{number}
use Rattle.swi_share.specs.Shared.{shared_run}
use Rattle.swi_share.specs.Sharing.{seen}
use Rattle.swi_share.proofs.Scheduling.{Scheduled}
use Rattle.swi_share_command.specs.RunShared.{order_of}
use Rattle.swi_share_command.proofs.command.run_schedule.Given as goal

abbrev pub invariant-loop : goal.invariant-loop
invariant-loop g l = record {
  x : l.x ≡ number l.fn.schedule.seed l.counter;
  made : Scheduled (shared_run (take l.counter (order_of l.programs l.fn.schedule)) (seen l.initial.share))
      (record { share = l.initial.share; ram = g.R.CacheRam.state l.initial.ram; out = g.O.Sink.state l.initial.out; err = g.E.Sink.state l.initial.err })
      (record { share = l.share; ram = g.R.CacheRam.state l.ram; out = g.O.Sink.state l.out; err = g.E.Sink.state l.err });
}
