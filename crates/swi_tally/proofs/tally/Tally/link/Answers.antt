use Rattle.std.proofs.Common.{slice_set, arith, ap, subst, sym}
use Rattle.swi_tally.specs.declared.exits.Exit.{Exit}
use Rattle.swi_tally.specs.Tally.{TallyData, Links}
use Rattle.swi_tally.proofs.Crossing.{absent_call, both_are, home_below, home_call, linked_tally, links_away, links_far, links_near, reach_call, there_call}
use Rattle.swi_tally.proofs.tally.Tally.link.Goals as goal

pub returns-then-not-is_placed : goal.returns-then-not-is_placed
returns-then-not-is_placed c = record {
  links = links_away _ _ _ _ _ _ c.requires.stands (absent_call _ _ _ _ (ap (λ (x : Exit). x.block) c.exit-exit.ensures.value) c.if-not-is_placed.true c.is_placed.ensures);
}

pub overflow_add-from : goal.overflow_add-from
overflow_add-from c =
    let e = ap (λ (x : Exit). x.block) c.exit-exit.ensures.value in
    let from = there_call _ _ _ _ e c.if-not-is_placed.false c.is_placed.ensures in
    let home = home_call c.args.self.now _ _ _ _ c.requires.stands.shape from e (ap (λ (s : TallyData). s.homes) c.self.view_is) c.index.ensures in
    omega (arith, home_below c.args.self.now _ _ c.requires.stands.shape from home, ap (λ (x : Exit). x.offset) c.exit-exit.ensures.value, c.exit-exit.ensures.are.offsets_small c.args.x c.requires.exit)

pub overflow_add-to : goal.overflow_add-to
overflow_add-to c =
    let home = home_call c.args.self.now _ _ _ _ c.requires.stands.shape c.requires.here (ap (λ (x : Exit). x.into) c.exit-exit.ensures.value) (ap (λ (s : TallyData). s.homes) c.self.view_is) c.index-2.ensures in
    omega (arith, home_below c.args.self.now _ _ c.requires.stands.shape c.requires.here home, ap (λ (x : Exit). x.at) c.exit-exit.ensures.value, c.exit-exit.ensures.are.ats_small c.args.x c.requires.exit)

pub returns-then-reach : goal.returns-then-reach
returns-then-reach c =
    let e = ap (λ (x : Exit). x.block) c.exit-exit.ensures.value in
    let from = there_call _ _ _ _ e c.if-not-is_placed.false c.is_placed.ensures in
    let home = home_call c.args.self.now _ _ _ _ c.requires.stands.shape from e (ap (λ (s : TallyData). s.homes) c.self.view_is) c.index.ensures in
    let goes = home_call c.args.self.now _ _ _ _ c.requires.stands.shape c.requires.here (ap (λ (x : Exit). x.into) c.exit-exit.ensures.value) (ap (λ (s : TallyData). s.homes) c.self.view_is) c.index-2.ensures in
    let near = reach_call _ _ _ _ _ _ (both_are home (ap (λ (x : Exit). x.offset) c.exit-exit.ensures.value)) (both_are goes (ap (λ (x : Exit). x.at) c.exit-exit.ensures.value)) c.reach.ensures c.if-reach.true in
    record {
      links = subst (λ (u : TallyData). Links c.args.exits.now c.args.cache c.args.x c.args.self.now u c.args.masks.now (slice_set c.args.masks.now c.args.x c.with.result)) (sym (ap linked_tally c.self.view_is))
          (links_near _ _ _ _ _ _ _ c.requires.stands c.requires.exit c.requires.unlinked c.with.ensures c.requires.links from c.requires.here near c.requires.leading);
    }

pub returns-else-reach : goal.returns-else-reach
returns-else-reach c =
    let e = ap (λ (x : Exit). x.block) c.exit-exit.ensures.value in
    let from = there_call _ _ _ _ e c.if-not-is_placed.false c.is_placed.ensures in
    let home = home_call c.args.self.now _ _ _ _ c.requires.stands.shape from e (ap (λ (s : TallyData). s.homes) c.self.view_is) c.index.ensures in
    let goes = home_call c.args.self.now _ _ _ _ c.requires.stands.shape c.requires.here (ap (λ (x : Exit). x.into) c.exit-exit.ensures.value) (ap (λ (s : TallyData). s.homes) c.self.view_is) c.index-2.ensures in
    let far = reach_call _ _ _ _ _ _ (both_are home (ap (λ (x : Exit). x.offset) c.exit-exit.ensures.value)) (both_are goes (ap (λ (x : Exit). x.at) c.exit-exit.ensures.value)) c.reach.ensures c.if-reach.false in
    record { links = links_far _ _ _ _ _ _ c.requires.stands from c.requires.here far }
