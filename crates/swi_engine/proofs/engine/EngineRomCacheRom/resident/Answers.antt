use Rattle.std.proofs.Common.{◌<◌, length, arith}
use Rattle.std.proofs.lemmas.List.{get_or_read}
use Rattle.std.proofs.lemmas.Nat.{row_fits}
use Rattle.swi_engine.proofs.Reading.{resident_some, resident_none}
use Rattle.swi_engine.proofs.Working.{slot_now}
use Rattle.swi_engine.proofs.engine.EngineRomCacheRom.resident.Goals as goal

pub returns-then-k-len : goal.returns-then-k-len
returns-then-k-len c = resident_none _ _ c.args.k c.self.view_is (omega (arith, c.if-k-len.true, c.len.ensures))

pub index-requires : goal.index-requires
index-requires c = omega (arith, slot_now _ c.args.k c.index-slot.result.now c.self.invariant.0 (omega (arith, c.if-k-len.false, c.len.ensures)) c.index-slot.ensures)

pub overflow_mul-result : goal.overflow_mul-result
overflow_mul-result c =
    let s = c.self.invariant.0 in
    let lt = slot_now _ c.args.k c.index-slot.result.now s (omega (arith, c.if-k-len.false, c.len.ensures)) c.index-slot.ensures in
    omega (arith, row_fits c.index-slot.result.now c.self.inside.size c.self.inside.slots c.self.inside.size (omega (arith, lt, s.blocks_long)) (omega arith), s.words_few)

pub returns : goal.returns
returns c =
    let s = c.self.invariant.0 in
    let below : c.args.k < length c.self.inside.queue.items = omega (arith, c.if-k-len.false, c.len.ensures) in
    let lt = slot_now _ c.args.k c.index-slot.result.now s below c.index-slot.ensures in
    resident_some _ _ c.args.k c.index-slot.result.now c.index.result.now c.self.view_is below (get_or_read _ c.args.k c.index-slot.result.now below c.index-slot.ensures 0) (get_or_read _ c.index-slot.result.now c.index.result.now lt c.index.ensures 0)
