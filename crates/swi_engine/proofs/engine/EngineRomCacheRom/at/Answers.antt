use Rattle.std.proofs.Common.{◌+◌, ◌/◌, ◌<◌, length, arith, sym, ◌∙◌}
use Rattle.std.proofs.lemmas.List.{get_or_read}
use Rattle.swi_engine.specs.Engine.{copies_begun}
use Rattle.swi_engine.proofs.Reading.{at_beyond, at_copy, at_behind, at_word, used_slots}
use Rattle.swi_engine.proofs.engine.EngineRomCacheRom.at.Goals as goal

pub returns-then-slot-used : goal.returns-then-slot-used
returns-then-slot-used c = at_beyond _ _ c.args.i c.self.view_is (omega (arith, c.if-slot-used.true, c.used.ensures))

pub returns-then-copies_to : goal.returns-then-copies_to
returns-then-copies_to c = at_copy _ _ c.args.i c.self.view_is (sym c.copies_to.ensures ∙ c.if-copies_to.true)

pub returns-then-offset-index : goal.returns-then-offset-index
returns-then-offset-index c =
    let s = c.self.invariant.0 in
    let lt = used_slots _ (c.args.i / c.self.inside.size) s (omega (arith, c.if-slot-used.false, c.used.ensures)) in
    let read = get_or_read _ (c.args.i / c.self.inside.size) c.index.result.now lt.0 c.index.ensures 0 in
    at_behind _ _ c.args.i c.self.view_is (omega (arith, read, c.if-offset-index.true))

pub returns : goal.returns
returns c =
    let s = c.self.invariant.0 in
    let below : c.args.i / c.self.inside.size < length c.self.inside.queue.items + copies_begun c.self.inside.copy = omega (arith, c.if-slot-used.false, c.used.ensures) in
    let lt = used_slots _ (c.args.i / c.self.inside.size) s below in
    let read = get_or_read _ (c.args.i / c.self.inside.size) c.index.result.now lt.0 c.index.ensures 0 in
    let block = get_or_read _ (c.args.i / c.self.inside.size) c.index-2.result.now lt.1 c.index-2.ensures 0 in
    at_word _ _ c.args.i c.index-2.result.now c.self.view_is below (sym c.copies_to.ensures ∙ c.if-copies_to.false) (omega (arith, read, c.if-offset-index.false)) block
