use Rattle.std.proofs.Common.{◌+◌, arith, refl, subst, sym}
use Rattle.swi_rom.specs.Record.{indirect}
use Rattle.swi_tally.specs.Tallies.{TalliesData, AllServed, AreServing, before}
use Rattle.swi_tally.proofs.Walking.{Earlier, Into, before_is, entering_first, entering_next, entering_serves, entering_since, passed_served, passed_serving, state_of}
use Rattle.swi_tally.proofs.tallies.Tallies.enter.Goals as goal

pub loop-rest-init : goal.loop-rest-init
loop-rest-init c =
    entering_first c.args.image.now c.self.inside.exits c.self.inside.masks.items c.self.inside.placed.items c.self.inside.caches.items c.self.inside.jumps c.args.block c.self.inside.all c.index.result.now c.lacking-rest.result _ c.args.self.now
    c.lacking-rest.ensures c.self.invariant c.index.ensures c.self.view_is c.requires.block c.requires.serving

pub enter_by-requires-clause-cache : goal.enter_by-requires-clause-cache
enter_by-requires-clause-cache c = omega (arith, (c.loop-rest.invariant.hold c.first-k.result c.first-k.ensures.small c.first-k.ensures.has).0, c.loop-rest.invariant.caches)

pub enter_by-requires-clause-serves : goal.enter_by-requires-clause-serves
enter_by-requires-clause-serves c =
    let first : TalliesData = state_of c.self.inside.exits c.self.inside.masks.items c.self.inside.caches.items (c.self.inside.jumps + 1) in
    let same = before_is c.self.inside.exits c.self.inside.masks.items c.self.inside.caches.items c.self.inside.jumps c.args.self.now c.self.view_is in
    entering_serves c.args.image.now c.loop-rest.rest c.first-k.result _ first c.loop-rest.self c.loop-rest.invariant c.first-k.ensures.small c.first-k.ensures.has
    (subst (λ (q : TalliesData). AreServing c.args.image.now _ q) (sym same) c.requires.serving)

pub enter_by-requires-clause-since : goal.enter_by-requires-clause-since
enter_by-requires-clause-since c =
    let first : TalliesData = state_of c.self.inside.exits c.self.inside.masks.items c.self.inside.caches.items (c.self.inside.jumps + 1) in
    entering_since c.args.image.now c.loop-rest.rest c.first-k.result first c.loop-rest.self c.loop-rest.invariant c.first-k.ensures.small c.first-k.ensures.has (omega arith)

pub loop-rest-preserved : goal.loop-rest-preserved
loop-rest-preserved c =
    let first : TalliesData = state_of c.self.inside.exits c.self.inside.masks.items c.self.inside.caches.items (c.self.inside.jumps + 1) in
    entering_next c.args.image.now c.loop-rest.rest c.without-rest.result c.first-k.result c.args.block first c.loop-rest.self c.enter_by.new.self c.loop-rest.invariant c.first-k.ensures.small c.first-k.ensures.has c.without-rest.ensures.sets
    c.enter_by.ensures.moved c.enter_by.ensures.served c.enter_by.ensures.serves

pub returns-clause-served : goal.returns-clause-served
returns-clause-served c a o there =
    let first : TalliesData = state_of c.self.inside.exits c.self.inside.masks.items c.self.inside.caches.items (c.self.inside.jumps + 1) in
    subst (λ (q : TalliesData). AllServed c.args.image.now (indirect a) q c.loop-rest.self) (before_is c.self.inside.exits c.self.inside.masks.items c.self.inside.caches.items c.self.inside.jumps c.args.self.now c.self.view_is)
    (passed_served (Into c.args.image.now c.args.block) (Earlier (before first)) c.args.image.now c.loop-rest.rest first.jumps (before first) c.loop-rest.self c.loop-rest.invariant (omega (arith, c.loop-rest-test.false)) c.self.invariant.most
    (indirect a) (a, o, there, refl))

pub returns-clause-serving : goal.returns-clause-serving
returns-clause-serving c n serving =
    let first : TalliesData = state_of c.self.inside.exits c.self.inside.masks.items c.self.inside.caches.items (c.self.inside.jumps + 1) in
    let same = before_is c.self.inside.exits c.self.inside.masks.items c.self.inside.caches.items c.self.inside.jumps c.args.self.now c.self.view_is in
    passed_serving (Into c.args.image.now c.args.block) (Earlier (before first)) c.args.image.now c.loop-rest.rest first.jumps (before first) c.loop-rest.self c.loop-rest.invariant (omega (arith, c.loop-rest-test.false)) c.self.invariant.most
    (omega arith) n (subst (λ (q : TalliesData). AreServing c.args.image.now n q) (sym same) serving)
