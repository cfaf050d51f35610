use Rattle.std.proofs.Common.{arith, refl, ◌∙◌, subst}
use Rattle.swi_image.specs.Place.{place_of_word}
use Rattle.swi_tally.proofs.Siding.{all_serving}
use Rattle.swi_survey.specs.declared.leaving.Way.{Way}
use Rattle.swi_survey.specs.declared.track.Here.{Here}
use Rattle.swi_survey.specs.declared.track.Step.{Step}
use Rattle.swi_survey.specs.Track.{IsBehind, IsStep, Leaves, StandsAt}
use Rattle.swi_survey.proofs.Following.{call_end, call_on, followed_outside, never_stores, outside_here, served_away, served_next, served_over, ways_at, word_left}
use Rattle.swi_survey.proofs.Places.{ground, some_place}
use Rattle.swi_survey.proofs.Rows.{number_known}
use Rattle.swi_survey.proofs.track.Track.follow.Goals as goal

pub cross_if-requires-clause-exit : goal.cross_if-requires-clause-exit
cross_if-requires-clause-exit c =
    let t = c.args.text.now in
    let v = c.args.image.now in
    let lt = word_left t c.args.self.now.here c.in-From.k c.in-From.left (subst (λ (q : Step). Leaves t c.args.self.now.here q) c.in-From.is c.requires.leaves) in
    let ways = ways_at t v c.args.self.now c.in-From.k c.index-ways.result.now c.requires.ready lt c.index-ways.ensures in
    let g = ground t v c.requires.sized c.requires.image c.requires.own in
    number_known c.args.self.now.caches.exits _ c.index-ways.result.now.own (ways.own (place_of_word v c.in-From.k) (some_place t v c.in-From.k g lt))

pub returns-in-Outside : goal.returns-in-Outside
returns-in-Outside c f next failed s at ended =
    let t = c.args.text.now in
    let here_is = outside_here t c.args.self.now.here (subst (λ (q : Step). Leaves t c.args.self.now.here q) c.in-Outside.is c.requires.leaves) in
    let nowhere = subst (λ (h : Here). StandsAt t f.pc h) here_is s.stands in
    followed_outside t c.args.image.now f next s.input c.args.self.now _ here_is (s.text f.pc ∙ nowhere) s.next_is refl refl refl refl refl refl

pub returns-in-Store : goal.returns-in-Store
returns-in-Store c f next failed s at ended =
    absurd (never_stores c.args.text.now c.args.self.now.here c.in-Store.field-0 (subst (λ (q : Step). Leaves c.args.text.now c.args.self.now.here q) c.in-Store.is c.requires.leaves))

pub returns-in-Next : goal.returns-in-Next
returns-in-Next c f next failed s at ended =
    let t = c.args.text.now in
    let v = c.args.image.now in
    let lt = word_left t c.args.self.now.here c.in-From.k c.in-From.left (subst (λ (q : Step). Leaves t c.args.self.now.here q) c.in-From.is c.requires.leaves) in
    let ways = ways_at t v c.args.self.now c.in-From.k c.index-ways.result.now c.requires.ready lt c.index-ways.ensures in
    call_on t v f next failed c.args.self.now _ c.in-From.k c.in-From.left c.index-ways.result.now c.args.pc (ground t v c.requires.sized c.requires.image c.requires.own) lt
    (subst (λ (q : Step). IsStep t f failed c.args.self.now.here q next) c.in-From.is s) ways refl refl refl refl c.here_behind-self.ensures at (omega (arith, c.ranges.pc.fits))
    (ended ∙ c.if-ended.false) (served_next v c.in-From.left.way c.index-ways.result.now.own c.args.pc c.args.self.now.caches c.in-Next.is) (all_serving v c.args.self.now.caches) refl

pub returns-in-Over : goal.returns-in-Over
returns-in-Over c f next failed s at ended =
    let t = c.args.text.now in
    let v = c.args.image.now in
    let lt = word_left t c.args.self.now.here c.in-From.k c.in-From.left (subst (λ (q : Step). Leaves t c.args.self.now.here q) c.in-From.is c.requires.leaves) in
    let ways = ways_at t v c.args.self.now c.in-From.k c.index-ways.result.now c.requires.ready lt c.index-ways.ensures in
    call_on t v f next failed c.args.self.now _ c.in-From.k c.in-From.left c.index-ways.result.now c.args.pc (ground t v c.requires.sized c.requires.image c.requires.own) lt
    (subst (λ (q : Step). IsStep t f failed c.args.self.now.here q next) c.in-From.is s) ways refl refl refl refl c.here_behind-self.ensures at (omega (arith, c.ranges.pc.fits))
    (ended ∙ c.if-ended.false) (served_over v c.in-From.left.way c.index-ways.result.now.own c.args.pc c.args.self.now.caches _ c.in-Over.is (λ p has. c.cross_if.ensures.served p c.args.pc has))
    c.cross_if.ensures.serving c.cross_if.ensures.exits

pub returns-in-Away : goal.returns-in-Away
returns-in-Away c f next failed s at ended =
    let t = c.args.text.now in
    let v = c.args.image.now in
    let lt = word_left t c.args.self.now.here c.in-From.k c.in-From.left (subst (λ (q : Step). Leaves t c.args.self.now.here q) c.in-From.is c.requires.leaves) in
    let ways = ways_at t v c.args.self.now c.in-From.k c.index-ways.result.now c.requires.ready lt c.index-ways.ensures in
    call_on t v f next failed c.args.self.now _ c.in-From.k c.in-From.left c.index-ways.result.now c.args.pc (ground t v c.requires.sized c.requires.image c.requires.own) lt
    (subst (λ (q : Step). IsStep t f failed c.args.self.now.here q next) c.in-From.is s) ways refl refl refl refl c.here_behind-self.ensures at (omega (arith, c.ranges.pc.fits))
    (ended ∙ c.if-ended.false) (served_away v c.in-From.left.way c.index-ways.result.now.own c.args.pc c.args.self.now.caches _ c.in-Away.is c.enter_here.ensures.served)
    c.enter_here.ensures.serving c.enter_here.ensures.exits

pub enter_here-requires-clause-stands : goal.enter_here-requires-clause-stands
enter_here-requires-clause-stands c =
    subst (λ (w : Way). IsBehind c.args.text.now c.in-From.k c.index-ways.result.now.last w c.args.pc c.here_behind-self.result) c.in-Away.is c.here_behind-self.ensures

pub returns-then-ended : goal.returns-then-ended
returns-then-ended c f next failed s at ended =
    let t = c.args.text.now in
    let v = c.args.image.now in
    let lt = word_left t c.args.self.now.here c.in-From.k c.in-From.left (subst (λ (q : Step). Leaves t c.args.self.now.here q) c.in-From.is c.requires.leaves) in
    let ways = ways_at t v c.args.self.now c.in-From.k c.index-ways.result.now c.requires.ready lt c.index-ways.ensures in
    call_end t v f next failed c.args.self.now _ c.in-From.k c.in-From.left c.index-ways.result.now c.args.pc (ground t v c.requires.sized c.requires.image c.requires.own) lt
    (subst (λ (q : Step). IsStep t f failed c.args.self.now.here q next) c.in-From.is s) ways refl refl refl refl c.here_behind-self.ensures at (omega (arith, c.ranges.pc.fits))
    (ended ∙ c.if-ended.true) refl
