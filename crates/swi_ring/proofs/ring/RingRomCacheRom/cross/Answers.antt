use Rattle.std.proofs.Common.{ap, arith, refl, sym, ◌∙◌}
use Rattle.swi_rom.specs.Record.{direct}
use Rattle.swi_ring.specs.Ring.{Ring}
use Rattle.swi_ring.proofs.Crossing.{place_block, index_below, index_fits, outside_served, exit_not_linked, exit_below, home_is, home_known, exit_free, crossed_call, crossed_fault, unused_stays}
use Rattle.swi_ring.proofs.ring.RingRomCacheRom.cross.Goals as goal

pub returns-in_default-clause-served : goal.returns-in_default-clause-served
returns-in_default-clause-served g c = λ b o f h lt at.
    outside_served _ _ (direct b o c.args.target) _ (exit_not_linked _ _ _ _ _ b o f c.requires.sound c.requires.exit h lt at) (sym c.in_default.ensures.place)

pub index-home-requires : goal.index-home-requires
index-home-requires g c =
    let below = exit_below c.args.image.now c.args.self.now (g.M.CacheRam.state c.args.ram.now).words c.args.at c.args.target c.requires.sound c.requires.exit in
    omega (arith, below, ap (λ (s : Ring). s.words) c.self.view_is, c.self.invariant.0.owners_long)

pub overflow_add-index : goal.overflow_add-index
overflow_add-index g c =
    let q = (place_block _ _ _ _ _ c.requires.sound c.in-Some.ensures.place).1 in
    omega (arith, index_fits c.args.image.now c.args.self.now c.arrive.new.self c.in-Some.block c.in-Some.offset c.in-Ok.first (g.M.CacheRam.state c.args.ram.now) (g.M.CacheRam.state c.arrive.new.ram) c.requires.sound c.in-Ok.ensures.arrived q)

pub link_exit-requires-clause-at : goal.link_exit-requires-clause-at
link_exit-requires-clause-at g c =
    let below = exit_below c.args.image.now c.args.self.now (g.M.CacheRam.state c.args.ram.now).words c.args.at c.args.target c.requires.sound c.requires.exit in
    omega (arith, below, c.in-Ok.ensures.arrived.words_stay)

pub link_exit-requires-clause-to : goal.link_exit-requires-clause-to
link_exit-requires-clause-to g c =
    let q = (place_block _ _ _ _ _ c.requires.sound c.in-Some.ensures.place).1 in
    omega (arith, index_below c.args.image.now c.args.self.now c.arrive.new.self c.in-Some.block c.in-Some.offset c.in-Ok.first (g.M.CacheRam.state c.args.ram.now) (g.M.CacheRam.state c.arrive.new.ram) c.in-Ok.ensures.arrived q, c.in-Ok.ensures.arrived.words_stay)

pub link_exit-requires-clause-home : goal.link_exit-requires-clause-home
link_exit-requires-clause-home g c =
    let below = exit_below c.args.image.now c.args.self.now (g.M.CacheRam.state c.args.ram.now).words c.args.at c.args.target c.requires.sound c.requires.exit in
    home_known _ _ _ _ _ _ _ _ _ _ c.requires.sound c.requires.exit c.in-Ok.ensures.arrived (home_is _ _ _ _ c.self.view_is c.self.invariant.0 below c.index-home.ensures)

pub link_exit-requires-clause-free : goal.link_exit-requires-clause-free
link_exit-requires-clause-free g c =
    let below = exit_below c.args.image.now c.args.self.now (g.M.CacheRam.state c.args.ram.now).words c.args.at c.args.target c.requires.sound c.requires.exit in
    exit_free _ _ _ _ _ _ _ _ _ _ _ c.requires.sound c.requires.exit (sym c.in-Some.ensures.place) c.in-Ok.ensures.arrived (home_is _ _ _ _ c.self.view_is c.self.invariant.0 below c.index-home.ensures)

pub returns-in_default-link_exit-clause-served : goal.returns-in_default-link_exit-clause-served
returns-in_default-link_exit-clause-served g c = λ b o f h lt at.
    crossed_fault _ _ _ _ _ _ _ _ b o _ _ _ (sym c.in-Some.ensures.place) c.in-Ok.ensures.arrived c.in_default-link_exit.ensures.failed

pub returns-clause-served : goal.returns-clause-served
returns-clause-served g c =
    let below = exit_below c.args.image.now c.args.self.now (g.M.CacheRam.state c.args.ram.now).words c.args.at c.args.target c.requires.sound c.requires.exit in
    (crossed_call _ _ _ _ _ _ _ _ _ _ _ _ _ _ c.requires.sound c.requires.exit (sym c.in-Some.ensures.place) c.in-Ok.ensures.arrived (home_is _ _ _ _ c.self.view_is c.self.invariant.0 below c.index-home.ensures) refl
    c.in-Ok-link_exit.ensures.linked).0

pub returns-clause-stays : goal.returns-clause-stays
returns-clause-stays g c =
    let below = exit_below c.args.image.now c.args.self.now (g.M.CacheRam.state c.args.ram.now).words c.args.at c.args.target c.requires.sound c.requires.exit in
    (crossed_call _ _ _ _ _ _ _ _ _ _ _ _ _ _ c.requires.sound c.requires.exit (sym c.in-Some.ensures.place) c.in-Ok.ensures.arrived (home_is _ _ _ _ c.self.view_is c.self.invariant.0 below c.index-home.ensures) refl
    c.in-Ok-link_exit.ensures.linked).1

pub returns-clause-keeps : goal.returns-clause-keeps
returns-clause-keeps g c = λ images serves.
    let below = exit_below c.args.image.now c.args.self.now (g.M.CacheRam.state c.args.ram.now).words c.args.at c.args.target c.requires.sound c.requires.exit in
    (crossed_call _ _ _ _ _ _ _ _ _ _ _ _ _ _ c.requires.sound c.requires.exit (sym c.in-Some.ensures.place) c.in-Ok.ensures.arrived (home_is _ _ _ _ c.self.view_is c.self.invariant.0 below c.index-home.ensures) refl
    c.in-Ok-link_exit.ensures.linked).1

pub returns-clause-unused : goal.returns-clause-unused
returns-clause-unused g c =
    let x = c.requires.exit in
    let below = exit_below c.args.image.now c.args.self.now (g.M.CacheRam.state c.args.ram.now).words c.args.at c.args.target c.requires.sound x in
    let call = crossed_call _ _ _ _ _ _ _ _ _ _ _ _ _ _ c.requires.sound x (sym c.in-Some.ensures.place) c.in-Ok.ensures.arrived (home_is _ _ _ _ c.self.view_is c.self.invariant.0 below c.index-home.ensures) refl
    c.in-Ok-link_exit.ensures.linked in
    let served = call.0 x.block x.offset x.first x.is_placed (omega (arith, x.is_exit.inside)) x.index in
    unused_stays c.args.self.now c.link_exit.new.self c.args.image.now (direct x.block x.offset c.args.target) _ _ c.requires.sound call.1
    (c.in-Ok-link_exit.ensures.words ∙ c.in-Ok.ensures.words) served.moves served.words
