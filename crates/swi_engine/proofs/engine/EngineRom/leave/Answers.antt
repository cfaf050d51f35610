use Rattle.std.proofs.Common.{◌≡◌, ◌<◌, ℕ, List, length, remove, slice_index, slice_set, refl, arith, ap, subst, sym, ◌∙◌}
use Rattle.std.proofs.lemmas.List.{get_or_read, length-set}
use Rattle.std.proofs.lemmas.List.Edits.{length-remove}
use Rattle.swi_rom.specs.Record.{Has}
use Rattle.swi_engine.specs.Joints.{JointsData}
use Rattle.swi_engine.specs.State.{EngineData}
use Rattle.swi_engine.specs.Sound.{Homed, Distinct}
use Rattle.swi_engine.proofs.Shapes.{has_index, remove_has, left_homed}
use Rattle.swi_engine.proofs.Views.{left_view, leaving, leaves_within}
use Rattle.swi_engine.proofs.Joining.{left_joints, own_short}
use Rattle.swi_engine.proofs.engine.EngineRom.leave.Goals as goal

pub index-block-requires : goal.index-block-requires
index-block-requires c =
    let below : c.args.k < length c.self.inside.queue.items = omega (arith, c.requires.k, ap (λ (e : EngineData). length e.queue) c.self.view_is) in
    let s = c.self.invariant.0 in
    let is = get_or_read _ c.args.k c.in-Some.slot below c.in-Some.ensures.value 0 in
    omega (arith, s.blocks_long, s.below _ (subst (λ (n : ℕ). Has c.self.inside.queue.items n) (sym is) (has_index c.self.inside.queue.items c.args.k below)))

pub index_mut-requires : goal.index_mut-requires
index_mut-requires c = omega (arith, (leaving _ _ c.args.k _ _ c.self.view_is c.self.invariant.0 c.requires.k c.in-Some.ensures.value c.index-block.ensures).2)

pub invariant_of-self : goal.invariant_of-self
invariant_of-self c =
    let below : c.args.k < length c.self.inside.queue.items = omega (arith, c.requires.k, ap (λ (e : EngineData). length e.queue) c.self.view_is) in
    let s = c.self.invariant.0 in
    let w = leaving _ _ c.args.k _ _ c.self.view_is s c.requires.k c.in-Some.ensures.value c.index-block.ensures in
    let block : c.index-block.result.now ≡ slice_index c.self.inside.blocks.items (slice_index c.self.inside.queue.items c.args.k) = w.1 ∙ ap (λ (n : ℕ). slice_index c.self.inside.blocks.items n) w.0 in
    let once : Distinct c.self.inside.queue.items = subst (λ (e : EngineData). Distinct e.queue) (sym c.self.view_is) c.requires.once in (
      record {
        slots_some = s.slots_some;
        size_least = s.size_least;
        size_most = s.size_most;
        words_few = s.words_few;
        used_most = omega (arith, s.used_most, ap (λ (xs : List ℕ). length xs) c.in-Some.ensures.items, length-remove c.self.inside.queue.items c.args.k below);
        blocks_long = s.blocks_long;
        lengths_long = s.lengths_long;
        below = λ n h. s.below n (remove_has _ c.args.k n (subst (λ (xs : List ℕ). Has xs n) c.in-Some.ensures.items h));
        homed = subst (λ (q : List ℕ). Homed c.self.inside.slots q c.self.inside.blocks.items (slice_set c.self.inside.homes.items c.index-block.result.now c.self.inside.slots)) (sym c.in-Some.ensures.items)
            (subst (λ (b : ℕ). Homed c.self.inside.slots (remove c.self.inside.queue.items c.args.k) c.self.inside.blocks.items (slice_set c.self.inside.homes.items b c.self.inside.slots)) (sym block)
            (left_homed c.self.inside.slots c.self.inside.queue.items c.self.inside.blocks.items c.self.inside.homes.items c.args.k s.homed once below));
      },
      omega (arith, c.self.invariant.1, c.remove.ensures.capacity),
      ap (λ (d : JointsData). d.words) c.unlink_all.ensures ∙ c.self.invariant.2,
      omega (arith, ap (λ (d : JointsData). d.blocks) c.unlink_all.ensures, c.self.invariant.3, length-set c.self.inside.homes.items c.index-block.result.now c.self.inside.slots),
    )

pub index-length-requires : goal.index-length-requires
index-length-requires c =
    let below : c.args.k < length c.self.inside.queue.items = omega (arith, c.requires.k, ap (λ (e : EngineData). length e.queue) c.self.view_is) in
    let s = c.self.invariant.0 in
    let is = get_or_read _ c.args.k c.in-Some.slot below c.in-Some.ensures.value 0 in
    omega (arith, s.lengths_long, s.below _ (subst (λ (n : ℕ). Has c.self.inside.queue.items n) (sym is) (has_index c.self.inside.queue.items c.args.k below)))

pub returns-clause-data : goal.returns-clause-data
returns-clause-data c =
    let w = leaving _ _ c.args.k _ _ c.self.view_is c.self.invariant.0 c.requires.k c.in-Some.ensures.value c.index-block.ensures in
    let lt = leaves_within _ _ c.args.k c.in-Some.slot c.self.view_is c.self.invariant.0 c.requires.k c.in-Some.ensures.value in
    let long = get_or_read _ c.in-Some.slot c.index-length.result.now lt.0 c.index-length.ensures 0 in
    left_view _ _ c.args.k c.index-block.result.now _ _ _ c.self.view_is c.in-Some.ensures.items refl
    (left_joints _ _ c.args.k c.in-Some.slot _ c.index-length.result.now c.index-block.result.now _ c.self.view_is c.requires.owned w.0 refl long w.1 (ap (λ (d : JointsData). d.joints) c.unlink_all.ensures))
    (w.1 ∙ ap (λ (n : ℕ). slice_index c.self.inside.blocks.items n) w.0)

pub overflow_mul-first : goal.overflow_mul-first
overflow_mul-first c =
    let w = leaves_within _ _ c.args.k c.in-Some.slot c.self.view_is c.self.invariant.0 c.requires.k c.in-Some.ensures.value in
    omega (arith, w.1, c.self.invariant.0.words_few)

pub unlink_all-requires-clause-within : goal.unlink_all-requires-clause-within
unlink_all-requires-clause-within c =
    let w = leaves_within _ _ c.args.k c.in-Some.slot c.self.view_is c.self.invariant.0 c.requires.k c.in-Some.ensures.value in
    let long = get_or_read _ c.in-Some.slot c.index-length.result.now w.0 c.index-length.ensures 0 in
    omega (arith, w.1, c.self.invariant.2, long, own_short _ _ c.args.k c.in-Some.slot c.self.view_is c.requires.owned c.requires.k c.in-Some.ensures.value)

pub unlink_all-requires-clause-small : goal.unlink_all-requires-clause-small
unlink_all-requires-clause-small c = omega (arith, c.self.invariant.2, c.self.invariant.0.words_few)
