use Rattle.std.proofs.Common.{◌≡◌, ◌-◌}
use Rattle.swi_profile.proofs.Running.{Counting}
use Rattle.swi_profile.proofs.profile.Profile.run.Given as goal

abbrev pub invariant-loop-flat : goal.invariant-loop-flat
invariant-loop-flat g l = record {
  counting : Counting l.fn.flat l.limit l.flat l.fn.self.range l.self.counts.items
      (record { input = g.I.Source.state l.fn.input; output = g.O.Sink.state l.fn.out; error = g.E.Sink.state l.fn.err })
      (record { input = g.I.Source.state l.input; output = g.O.Sink.state l.out; error = g.E.Sink.state l.err });
  range : l.self.range ≡ l.fn.self.range;
}

abbrev pub decreases-loop-flat : goal.decreases-loop-flat
decreases-loop-flat g l = l.limit - l.flat.machine.steps
