use Rattle.std.proofs.Common.{ap, refl, subst, sym}
use Rattle.swi_tally.specs.Tally.{TallyData, AreLeading, Arrives, counted_tally}
use Rattle.swi_tally.proofs.Crossing.{arrives_call, led_arrives, served_tally, served_there}
use Rattle.swi_tally.proofs.Leading.{led_leading, led_tally}
use Rattle.swi_tally.proofs.Marking.{marked_as, marks_as, marks_none}
use Rattle.swi_tally.proofs.tally.Tally.serve.Goals as goal

pub returns-then-is_placed-clause-arrives : goal.returns-then-is_placed-clause-arrives
returns-then-is_placed-clause-arrives c =
    subst (λ (u : TallyData). Arrives c.args.image.now c.args.exits.now c.args.cache c.args.block (counted_tally c.args.self.now) u c.args.masks.now c.args.masks.now) (sym (ap (λ (s : TallyData). led_tally c.args.block (served_tally s)) c.self.view_is))
    (led_arrives _ _ _ _ _ _ _ _ (served_there _ _ _ _ c.args.self.now c.args.masks.now c.requires.serves (c.is_placed.ensures.0 c.if-is_placed.true)))

pub returns-else-is_placed-clause-arrives : goal.returns-else-is_placed-clause-arrives
returns-else-is_placed-clause-arrives c = arrives_call _ _ _ _ _ _ _ _ _ _ refl c.count_service.ensures c.fill.ensures.arrives

pub returns-then-is_placed-clause-marks : goal.returns-then-is_placed-clause-marks
returns-then-is_placed-clause-marks c = marks_as _ _ _ _ _ _ (sym (ap (λ (s : TallyData). s.queue) c.self.view_is)) (marks_none _ _ _ _ c.requires.marked)

pub fill-requires-clause-marked : goal.fill-requires-clause-marked
fill-requires-clause-marked c = marked_as _ _ _ _ _ (sym (ap (λ (s : TallyData). s.queue) c.count_service.ensures)) c.requires.marked

pub returns-then-is_placed-clause-leading : goal.returns-then-is_placed-clause-leading
returns-then-is_placed-clause-leading c =
    subst (λ (u : TallyData). AreLeading u c.args.block) (sym (ap (λ (s : TallyData). led_tally c.args.block (served_tally s)) c.self.view_is))
    (led_leading c.args.block c.args.self.now c.requires.serves.stands.shape (c.is_placed.ensures.0 c.if-is_placed.true))
