use Rattle.std.proofs.Common.{◌-◌}
use Rattle.swi_flat.proofs.Runs.{Going}
use Rattle.swi_flat.proofs.flat.Flat.run.Given as goal

abbrev pub invariant-loop-self : goal.invariant-loop-self
invariant-loop-self g l = Going l.fn.self.machine l.limit l.self
    (record { input = g.I.Source.state l.fn.input; output = g.O.Sink.state l.fn.out; error = g.E.Sink.state l.fn.err })
    (record { input = g.I.Source.state l.input; output = g.O.Sink.state l.out; error = g.E.Sink.state l.err })

abbrev pub decreases-loop-self : goal.decreases-loop-self
decreases-loop-self g l = l.limit - l.self.machine.steps
