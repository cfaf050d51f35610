use Rattle.std.proofs.Common.{arith, refl, subst}
use Rattle.swi_survey.specs.declared.track.Here.{Here}
use Rattle.swi_survey.specs.Track.{Stands, StandsBehind}
use Rattle.swi_image.specs.Place.{place_of_word}
use Rattle.swi_survey.proofs.Following.{ways_at}
use Rattle.swi_survey.proofs.Places.{ground, some_place}
use Rattle.swi_survey.proofs.Rows.{number_known}
use Rattle.swi_survey.proofs.Settling.{settled_behind}
use Rattle.swi_survey.proofs.track.Track.settle.Goals as goal

pub cross_if-requires-clause-exit : goal.cross_if-requires-clause-exit
cross_if-requires-clause-exit c =
    let t = c.args.text.now in
    let v = c.args.image.now in
    let at : StandsBehind t v c.args.pc c.in-Behind.k = subst (λ (h : Here). Stands t v c.args.pc h) c.in-Behind.is c.requires.stands in
    let ways = ways_at t v c.args.self.now c.in-Behind.k c.index.result.now c.requires.ready at.word c.index.ensures in
    let g = ground t v c.requires.sized c.requires.image c.requires.own in
    number_known c.args.self.now.caches.exits _ c.index.result.now.behind (ways.behind (place_of_word v c.in-Behind.k) (some_place t v c.in-Behind.k g at.word))

pub returns : goal.returns
returns c f same =
    let t = c.args.text.now in
    let v = c.args.image.now in
    let at : StandsBehind t v c.args.pc c.in-Behind.k = subst (λ (h : Here). Stands t v c.args.pc h) c.in-Behind.is c.requires.stands in
    let ways = ways_at t v c.args.self.now c.in-Behind.k c.index.result.now c.requires.ready at.word c.index.ensures in
    settled_behind t v f c.args.pc c.in-Behind.k c.args.self.now _ c.index.result.now (ground t v c.requires.sized c.requires.image c.requires.own) c.in-Behind.is at (omega (arith, c.ranges.pc.fits)) same ways
    c.cross_if.ensures.served c.cross_if.ensures.serving c.cross_if.ensures.exits refl refl refl refl c.here_at-self.ensures
