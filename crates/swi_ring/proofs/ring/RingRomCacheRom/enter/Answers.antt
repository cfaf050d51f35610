use Rattle.std.proofs.Common.{arith, refl, sym}
use Rattle.swi_rom.specs.Record.{indirect}
use Rattle.swi_ring.proofs.Crossing.{place_block, index_fits, outside_served, entered, unused_stays}
use Rattle.swi_ring.proofs.ring.RingRomCacheRom.enter.Goals as goal

pub overflow_add-result : goal.overflow_add-result
overflow_add-result g c =
    let q = (place_block _ _ _ _ _ c.requires.sound c.in-Some.ensures.place).1 in
    omega (arith, index_fits c.args.image.now c.args.self.now c.arrive.new.self c.in-Some.block c.in-Some.offset c.in-Ok.first (g.M.CacheRam.state c.args.ram.now) (g.M.CacheRam.state c.arrive.new.ram) c.requires.sound c.in-Ok.ensures.arrived q)

pub returns-in_default-clause-served : goal.returns-in_default-clause-served
returns-in_default-clause-served g c = outside_served _ _ (indirect c.args.target) _ refl (sym c.in_default.ensures.place)

pub returns-clause-served : goal.returns-clause-served
returns-clause-served g c = entered _ _ _ _ _ _ _ _ _ c.in-Ok.ensures.arrived (sym c.in-Some.ensures.place)

pub returns-clause-unused : goal.returns-clause-unused
returns-clause-unused g c =
    let call = entered _ _ _ _ _ _ c.args.target _ _ c.in-Ok.ensures.arrived (sym c.in-Some.ensures.place) in
    unused_stays c.args.self.now c.arrive.new.self c.args.image.now (indirect c.args.target) _ _ c.requires.sound c.in-Ok.ensures.arrived.sound c.in-Ok.ensures.arrived.words_stay call.moves call.words

pub returns-clause-keeps : goal.returns-clause-keeps
returns-clause-keeps g c = λ images serves. c.in-Ok.ensures.arrived.sound
