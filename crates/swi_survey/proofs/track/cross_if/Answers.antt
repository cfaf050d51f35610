use Rattle.std.proofs.Common.{Option, ℕ, subst}
use Rattle.swi_survey.specs.Ways.{HasNumber, exit_to}
use Rattle.swi_survey.proofs.Rows.{cross_none}
use Rattle.swi_survey.proofs.track.cross_if.Goals as goal

pub returns-in_default-clause-served : goal.returns-in_default-clause-served
returns-in_default-clause-served c p a has =
    cross_none c.args.image.now c.args.caches.now p a (subst (λ (o : Option ℕ). HasNumber c.args.caches.now.exits (exit_to c.args.image.now p a) o) c.in_default.is has)
