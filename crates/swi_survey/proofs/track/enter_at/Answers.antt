use Rattle.std.proofs.Common.{sym, ◌∙◌}
use Rattle.swi_rom.specs.Record.{indirect}
use Rattle.swi_survey.proofs.Rows.{none_served}
use Rattle.swi_survey.proofs.track.enter_at.Goals as goal

pub returns-in_default-clause-served : goal.returns-in_default-clause-served
returns-in_default-clause-served c = none_served c.args.image.now (indirect c.args.a) c.args.caches.now (sym c.place.ensures.place ∙ c.in_default.is)
