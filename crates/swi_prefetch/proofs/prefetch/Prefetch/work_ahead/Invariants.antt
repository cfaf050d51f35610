use Rattle.std.proofs.Common.{replicate}
use Rattle.swi_outside.specs.Devices.{Devices}
use Rattle.swi_prefetch.specs.Events.{of_engine}
use Rattle.swi_prefetch.specs.Running.{CameOn, SameHart, whole}
use Rattle.swi_prefetch.proofs.prefetch.Prefetch.work_ahead.Given as goal

abbrev pub invariant-loop : goal.invariant-loop
invariant-loop g l = record {
  came : (d : Devices) → CameOn l.image (replicate l.counter of_engine)
      (whole l.initial.self.board (record { ram = g.M.CacheRam.state l.initial.ram; devices = d }))
      (whole l.self.board (record { ram = g.M.CacheRam.state l.ram; devices = d }));
  same : SameHart l.initial.self.board l.self.board;
}
