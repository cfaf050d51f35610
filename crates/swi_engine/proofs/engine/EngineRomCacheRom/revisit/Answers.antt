use Rattle.std.proofs.Common.{arith, sym}
use Rattle.swi_engine.proofs.Filling.{hit_now, counted_few}
use Rattle.swi_engine.proofs.Counting.{absent_target, found_at, row_within, counted_alone}
use Rattle.swi_engine.proofs.Crossing.{visited}
use Rattle.swi_engine.proofs.engine.EngineRomCacheRom.revisit.Goals as goal

pub returns-in_err-slot-clause-absent : goal.returns-in_err-slot-clause-absent
returns-in_err-slot-clause-absent g c = λ none i at. absent_target c.args.self.now _ _ _ _ i (sym c.in_ok-block.ensures.place) c.in_err-slot.ensures at

pub overflow_mul-result : goal.overflow_mul-result
overflow_mul-result g c =
    let arr = hit_now _ _ _ _ _ (g.M.CacheRam.state c.args._ram.now) c.count_near.ensures c.requires.sound c.requires.services c.in_ok-slot.ensures in
    omega (arith, (row_within _ _ _ _ _ _ _ c.in_ok-slot.slot c.self-2.view_is arr.sound c.in_ok-block.ensures.place arr.stands).1)

pub overflow_add-result : goal.overflow_add-result
overflow_add-result g c =
    let arr = hit_now _ _ _ _ _ (g.M.CacheRam.state c.args._ram.now) c.count_near.ensures c.requires.sound c.requires.services c.in_ok-slot.ensures in
    omega (arith, (row_within _ _ _ _ _ _ _ c.in_ok-slot.slot c.self-2.view_is arr.sound c.in_ok-block.ensures.place arr.stands).0)

pub returns-clause-served : goal.returns-clause-served
returns-clause-served g c =
    visited _ _ _ _ _ (g.M.CacheRam.state c.args._ram.now) c.count_near.ensures c.requires.sound c.requires.services
    (found_at _ _ _ _ _ _ _ _ c.count_near.ensures c.self-2.view_is c.in_ok-block.ensures.place c.in_ok-slot.ensures)

pub returns-clause-stays : goal.returns-clause-stays
returns-clause-stays g c = (counted_few _ _ _ _ c.count_near.ensures c.requires.sound c.requires.services).0

pub returns-clause-keeps : goal.returns-clause-keeps
returns-clause-keeps g c = λ images serves. (counted_few _ _ _ _ c.count_near.ensures c.requires.sound c.requires.services).0

pub returns-clause-placed : goal.returns-clause-placed
returns-clause-placed g c = found_at _ _ _ _ _ _ _ _ c.count_near.ensures c.self-2.view_is c.in_ok-block.ensures.place c.in_ok-slot.ensures

pub returns-clause-counted : goal.returns-clause-counted
returns-clause-counted g c = counted_alone _ _ c.count_near.ensures
