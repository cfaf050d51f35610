use Rattle.std.proofs.Common.{◌-◌}
use Rattle.swi_survey.proofs.Running.{Running}
use Rattle.swi_survey.proofs.survey.run_steps.Given as goal

abbrev pub invariant-loop-flat : goal.invariant-loop-flat
invariant-loop-flat g l = Running l.text l.image l.limit l.fn.flat l.fn.track l.flat l.track
    (record { input = g.I.Source.state l.fn.input; output = g.O.Sink.state l.fn.out; error = g.E.Sink.state l.fn.err })
    (record { input = g.I.Source.state l.input; output = g.O.Sink.state l.out; error = g.E.Sink.state l.err })

abbrev pub decreases-loop-flat : goal.decreases-loop-flat
decreases-loop-flat g l = l.limit - l.flat.machine.steps
