use Rattle.std.proofs.Common.{length, arith, ap}
use Rattle.swi_engine.specs.State.{EngineData}
use Rattle.swi_engine.proofs.Filling.{hit_call, miss_result, counted_few}
use Rattle.swi_engine.proofs.engine.EngineRom.arrive.Goals as goal

pub find-requires : goal.find-requires
find-requires g c =
    let homes = ap (λ (e : EngineData). length e.homes) c.count_near.ensures in
    omega (arith, homes, c.requires.block, c.requires.sound.stands.image.blocks, c.requires.sound.stands.blocks_most)

pub fill-requires-clause-sound : goal.fill-requires-clause-sound
fill-requires-clause-sound g c = (counted_few _ _ _ _ c.count_near.ensures c.requires.sound c.requires.services).0

pub fill-requires-clause-misses : goal.fill-requires-clause-misses
fill-requires-clause-misses g c = (counted_few _ _ _ _ c.count_near.ensures c.requires.sound c.requires.services).1

pub returns-in-Some-clause-arrived : goal.returns-in-Some-clause-arrived
returns-in-Some-clause-arrived g c = hit_call _ _ _ _ _ _ c.count_near.ensures c.requires.sound c.requires.services c.in-Some.ensures

pub returns-in-None-clause-arrived : goal.returns-in-None-clause-arrived
returns-in-None-clause-arrived g c =
    miss_result _ _ _ _ _ _ _ _ c.count_near.ensures c.requires.sound c.requires.services c.in-None.ensures c.fill.ensures.filled
