use Rattle.std.proofs.Common.{arith, subst, sym, ◌∙◌}
use Rattle.swi_rom.specs.Record.{indirect}
use Rattle.swi_survey.specs.declared.track.Here.{Here}
use Rattle.swi_survey.specs.Track.{StandsAt}
use Rattle.swi_survey.proofs.Following.{in_block, no_word}
use Rattle.swi_survey.proofs.Places.{ground, place_here}
use Rattle.swi_survey.proofs.Rows.{none_served}
use Rattle.swi_survey.proofs.track.enter_here.Goals as goal

pub bounds-ways-k : goal.bounds-ways-k
bounds-ways-k c = omega (arith, (subst (λ (h : Here). StandsAt c.args.text.now c.args.a h) c.in-At.is c.requires.stands).0, c.requires.long)

pub enter-requires-clause-block : goal.enter-requires-clause-block
enter-requires-clause-block c =
    (in_block c.args.text.now c.args.image.now c.args.caches.now.exits c.args.ways.now c.in-At.k c.args.a _ (ground c.args.text.now c.args.image.now c.requires.sized c.requires.image c.requires.own) c.requires.ways
    c.requires.long (subst (λ (h : Here). StandsAt c.args.text.now c.args.a h) c.in-At.is c.requires.stands)).below

pub returns-in-At-clause-served : goal.returns-in-At-clause-served
returns-in-At-clause-served c =
    c.enter.ensures.served c.args.a _
    (in_block c.args.text.now c.args.image.now c.args.caches.now.exits c.args.ways.now c.in-At.k c.args.a _ (ground c.args.text.now c.args.image.now c.requires.sized c.requires.image c.requires.own) c.requires.ways
    c.requires.long (subst (λ (h : Here). StandsAt c.args.text.now c.args.a h) c.in-At.is c.requires.stands)).place

pub returns-in-Behind-clause-served : goal.returns-in-Behind-clause-served
returns-in-Behind-clause-served c =
    let g = ground c.args.text.now c.args.image.now c.requires.sized c.requires.image c.requires.own in
    none_served c.args.image.now (indirect c.args.a) c.args.caches.now
    (sym (place_here c.args.text.now c.args.image.now c.args.a c.args.here g c.requires.stands (omega (arith, c.ranges.a.fits))) ∙ no_word c.args.text.now c.args.image.now c.args.a c.args.here c.requires.stands c.in-Behind.is)
