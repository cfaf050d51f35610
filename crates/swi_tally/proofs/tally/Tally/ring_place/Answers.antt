use Rattle.std.proofs.Common.{arith, ap, ◌∙◌}
use Rattle.swi_tally.specs.Tally.{TallyData}
use Rattle.swi_tally.proofs.Arriving.{ring_here, ring_front}
use Rattle.swi_tally.proofs.tally.Tally.ring_place.Goals as goal

pub returns-then-self-size-clause-value : goal.returns-then-self-size-clause-value
returns-then-self-size-clause-value c = λ e linked is.
    ap (λ (s : TallyData). s.next) c.self.view_is ∙ ring_here e linked c.args.self.now c.args.size is (omega (arith, ap (λ (s : TallyData). s.next) c.self.view_is, c.span.ensures))

pub returns-else-self-size-clause-value : goal.returns-else-self-size-clause-value
returns-else-self-size-clause-value c = λ e linked is.
    ring_front e linked c.args.self.now c.args.size is (omega (arith, ap (λ (s : TallyData). s.next) c.self.view_is, c.span.ensures))
