use Rattle.std.proofs.Common.{ℕ, List, length, slice_index_or, true, arith, ap, refl, subst, sym, ◌∙◌, ◌≡◌}
use Rattle.swi_rom.specs.Policy.{evicted}
use Rattle.swi_tally.specs.Exits.{ExitsData}
use Rattle.swi_tally.specs.Groups.{Left}
use Rattle.swi_tally.specs.Masks.{has_at}
use Rattle.swi_tally.specs.Tally.{TallyData, Moved, kept_by}
use Rattle.swi_ring.specs.Ring.{queue_of}
use Rattle.swi_tally.proofs.Queueing.{oldest_known}
use Rattle.swi_tally.proofs.Evicting.{leaves_call, evict_kept, evict_moved, left_is, none_into}
use Rattle.swi_tally.proofs.Marking.{left_marks, marks_as}
use Rattle.swi_tally.proofs.tally.Tally.evict.Goals as goal

pub leave-requires-clause-group : goal.leave-requires-clause-group
leave-requires-clause-group c =
    omega (arith, oldest_known c.args.self.now c.take_oldest-block.result _ c.requires.shape c.take_oldest-block.ensures.oldest, c.requires.blocks, ap (λ (e : ExitsData). e.blocks) c.exits.view_is)

pub undo-undone-requires-clause-block : goal.undo-undone-requires-clause-block
undo-undone-requires-clause-block c =
    omega (arith, oldest_known c.args.self.now c.take_oldest-block.result _ c.requires.shape c.take_oldest-block.ensures.oldest, c.requires.blocks)

pub undo-undone-requires-clause-led : goal.undo-undone-requires-clause-led
undo-undone-requires-clause-led c =
    omega (arith, oldest_known c.args.self.now c.take_oldest-block.result _ c.requires.shape c.take_oldest-block.ensures.oldest, c.requires.shape.led_long, ap (λ (s : TallyData). length s.led) c.take_oldest-block.ensures.left)

pub undo-undone-requires-clause-none : goal.undo-undone-requires-clause-none
undo-undone-requires-clause-none c unled =
    let own = subst (λ (xs : List ℕ). Left xs c.take_oldest-block.result c.args.cache 0 c.args.masks.now c.leave.new.masks) (ap (λ (q : ExitsData). q.from) c.exits.view_is) c.leave.ensures.left in
    none_into c.args.exits.now c.args.self.now c.take_oldest-block.result c.take_oldest-block.new.self.queue c.args.cache c.args.masks.now c.leave.new.masks c.requires.shape c.take_oldest-block.ensures.oldest c.requires.bounded c.requires.cache c.requires.masks
    c.len.ensures.are own (sym (ap (λ (s : TallyData). slice_index_or s.led c.take_oldest-block.result true) c.take_oldest-block.ensures.left) ∙ unled)

pub returns-clause-kept : goal.returns-clause-kept
returns-clause-kept c =
    let e : ExitsData = c.args.exits.now in
    let s : TallyData = c.args.self.now in
    let l = leaves_call e _ _ c.take_oldest-block.result c.args.cache c.args.masks.now c.leave.new.masks c.undo-undone.new.masks c.undo-undone.result c.len.ensures.are
    (ap (λ (q : ExitsData). q.from) c.exits.view_is) refl c.requires.cache c.requires.masks c.leave.ensures.left c.undo-undone.ensures.left c.undo-undone.ensures.count in
    subst (λ (u : TallyData). kept_by e (has_at c.undo-undone.new.masks c.args.cache) u ≡ evicted (kept_by e (has_at c.args.masks.now c.args.cache) s) (queue_of s.homes s.queue))
    (left_is s c.take_oldest-block.new.self c.count_unlinks.new.self c.take_oldest-block.result c.undo-undone.result c.take_oldest-block.ensures.left c.count_unlinks.ensures)
    (evict_kept e s c.take_oldest-block.result c.take_oldest-block.new.self.queue c.args.cache c.args.masks.now c.leave.new.masks c.undo-undone.new.masks c.undo-undone.result c.len.ensures.are c.requires.shape c.take_oldest-block.ensures.oldest l)

pub returns-clause-moved : goal.returns-clause-moved
returns-clause-moved c =
    let e : ExitsData = c.args.exits.now in
    let s : TallyData = c.args.self.now in
    let l = leaves_call e _ _ c.take_oldest-block.result c.args.cache c.args.masks.now c.leave.new.masks c.undo-undone.new.masks c.undo-undone.result c.len.ensures.are
    (ap (λ (q : ExitsData). q.from) c.exits.view_is) refl c.requires.cache c.requires.masks c.leave.ensures.left c.undo-undone.ensures.left c.undo-undone.ensures.count in
    subst (λ (u : TallyData). Moved e c.args.cache s u c.args.masks.now c.undo-undone.new.masks)
    (left_is s c.take_oldest-block.new.self c.count_unlinks.new.self c.take_oldest-block.result c.undo-undone.result c.take_oldest-block.ensures.left c.count_unlinks.ensures)
    (evict_moved e s c.take_oldest-block.result c.take_oldest-block.new.self.queue c.args.cache c.args.masks.now c.leave.new.masks c.undo-undone.new.masks c.undo-undone.result c.len.ensures.are c.requires.shape c.take_oldest-block.ensures.oldest l c.requires.bounded)

pub bounds-placed-block : goal.bounds-placed-block
bounds-placed-block c =
    omega (arith, oldest_known c.args.self.now c.take_oldest-block.result _ c.requires.shape c.take_oldest-block.ensures.oldest, c.requires.blocks, c.requires.marked.long)

pub returns-clause-marks : goal.returns-clause-marks
returns-clause-marks c =
    let s : TallyData = c.args.self.now in
    let lt = oldest_known s c.take_oldest-block.result _ c.requires.shape c.take_oldest-block.ensures.oldest in
    marks_as _ _ _ _ _ _ (sym (ap (λ (q : TallyData). q.queue) c.count_unlinks.ensures))
    (left_marks c.args.exits.now.blocks c.args.cache c.take_oldest-block.result c.without.result s c.take_oldest-block.new.self.queue c.args.placed.now c.requires.shape c.take_oldest-block.ensures.oldest c.requires.marked
    (omega (arith, lt, c.requires.blocks)) c.requires.cache c.without.ensures.sets)
