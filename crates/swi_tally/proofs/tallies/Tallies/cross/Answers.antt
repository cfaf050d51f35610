use Rattle.std.proofs.Common.{slice_index, length, arith, ap, refl, subst}
use Rattle.swi_rom.specs.Record.{direct}
use Rattle.swi_tally.specs.Exits.{ExitsData}
use Rattle.swi_tally.specs.Tallies.{TalliesData, AreSeated}
use Rattle.swi_tally.proofs.Walking.{Over, Unlinked, crossing_first, crossing_next, crossing_serves, crossing_unlinked, passed_served, passed_serving}
use Rattle.swi_tally.proofs.tallies.Tallies.cross.Goals as goal

pub loop-rest-init : goal.loop-rest-init
loop-rest-init c =
    crossing_first c.args.image.now c.args.self.now c.self.inside.masks.items c.self.inside.placed.items c.self.inside.caches.items c.self.inside.jumps c.args.x c.self.inside.all c.index.result.now c.lacking-rest.result _ c.lacking-rest.ensures
    (subst (λ (e : ExitsData). AreSeated e c.self.inside.masks.items c.self.inside.placed.items c.self.inside.all c.self.inside.caches.items c.self.inside.jumps) (ap (λ (q : TalliesData). q.exits) c.self.view_is) c.self.invariant)
    (ap (λ (q : TalliesData). q.caches) c.self.view_is) (ap (λ (q : TalliesData). q.masks) c.self.view_is) c.index.ensures c.requires.exit c.requires.serving

pub cross_by-requires-clause-cache : goal.cross_by-requires-clause-cache
cross_by-requires-clause-cache c = omega (arith, (c.loop-rest.invariant.hold c.first-k.result c.first-k.ensures.small c.first-k.ensures.has).0, c.loop-rest.invariant.caches)

pub cross_by-requires-clause-serves : goal.cross_by-requires-clause-serves
cross_by-requires-clause-serves c = crossing_serves c.args.image.now c.loop-rest.rest c.first-k.result _ c.args.self.now c.loop-rest.self c.loop-rest.invariant c.first-k.ensures.small c.first-k.ensures.has c.requires.serving

pub cross_by-requires-clause-unlinked : goal.cross_by-requires-clause-unlinked
cross_by-requires-clause-unlinked c =
    crossing_unlinked c.args.image.now c.loop-rest.rest c.first-k.result c.args.x c.args.self.now c.loop-rest.self c.loop-rest.invariant c.first-k.ensures.small c.first-k.ensures.has c.requires.exit

pub loop-rest-preserved : goal.loop-rest-preserved
loop-rest-preserved c =
    crossing_next c.args.image.now c.loop-rest.rest c.without-rest.result c.first-k.result c.args.x c.args.self.now c.loop-rest.self c.cross_by.new.self c.loop-rest.invariant c.first-k.ensures.small c.first-k.ensures.has c.without-rest.ensures.sets
    c.cross_by.ensures.moved c.cross_by.ensures.served c.cross_by.ensures.serves

pub returns-clause-served : goal.returns-clause-served
returns-clause-served c a there =
    let t : TalliesData = c.args.self.now in
    passed_served (Over c.args.image.now t.exits c.args.x) (Unlinked t c.args.x) c.args.image.now c.loop-rest.rest t.jumps t c.loop-rest.self c.loop-rest.invariant (omega (arith, c.loop-rest-test.false))
    (omega (arith, c.self.invariant.most, ap (λ (q : TalliesData). length q.caches) c.self.view_is)) (direct (slice_index t.exits.from c.args.x) (slice_index t.exits.offsets c.args.x) a) (a, there, refl)

pub returns-clause-serving : goal.returns-clause-serving
returns-clause-serving c n serving =
    let t : TalliesData = c.args.self.now in
    passed_serving (Over c.args.image.now t.exits c.args.x) (Unlinked t c.args.x) c.args.image.now c.loop-rest.rest t.jumps t c.loop-rest.self c.loop-rest.invariant (omega (arith, c.loop-rest-test.false))
    (omega (arith, c.self.invariant.most, ap (λ (q : TalliesData). length q.caches) c.self.view_is)) (omega arith) n serving
