use Rattle.std.proofs.Common.{ℕ, ◌≡◌, ◌+◌, true, false, slice_index, arith, sym, ◌∙◌, ap}
use Rattle.swi_slots.proofs.Clearing.{cleared_none, cleared_keep, cleared_drop, cleared_undo}
use Rattle.swi_slots.specs.Tells.{leading_none, leading_more, own_tells, leads_tells, none_tells}
use Rattle.swi_slots.proofs.scan.drop_links.Goals as goal
use Rattle.swi_slots.proofs.scan.drop_links.Goals.{then-i-size, else-i-size+then-targets-i+in_ok-set, else-i-size+else-targets-i}

pub loop-i-init : goal.loop-i-init
loop-i-init g c = (sym (leading_none _ _ _), omega arith, cleared_none _ _ _ _ _)

pub loop-i-preserved : goal.loop-i-preserved
loop-i-preserved g c =
    let k = c.loop-i.invariant in
    let old = c.args.targets.now in
    elim c.if-i-size.branch [
      | then-i-size w ↦
          let t = own_tells c.args.size c.args.slot c.loop-i.i old w.if-i-size.true in
          rw (w.targets-is, w.ram-is, w.undone-is)
          (k.0 ∙ sym (leading_more _ _ _ _ false t.1), omega (arith, k.1), cleared_drop _ _ _ _ _ _ _ _ k.2 (omega arith) t.0 t.1)
      | else-i-size+then-targets-i+in_ok-set w ↦
          let t = leads_tells c.args.size c.args.slot c.loop-i.i old w.if-i-size.false (sym (k.2.rest c.loop-i.i (omega arith)) ∙ w.if-targets-i.true) in
          rw (w.targets-is, w.ram-is, w.undone-is) (
            ap (λ (n : ℕ). n + 1) k.0 ∙ sym (leading_more _ _ _ _ true t.1),
            omega (arith, k.1),
            cleared_undo _ _ _ _ _ _ _ _ _ k.2 (omega arith) c.requires.targets (omega (arith, k.2.wrote.spared.length_stays)) t.0 t.1 w.in_ok-set.ensures.set,
          )
      | else-i-size+else-targets-i w ↦
          let t = none_tells c.args.size c.args.slot c.loop-i.i old w.if-i-size.false (λ (e : slice_index old c.loop-i.i ≡ c.args.slot). w.if-targets-i.false (k.2.rest c.loop-i.i (omega arith) ∙ e)) in
          rw (w.targets-is, w.ram-is, w.undone-is)
          (k.0 ∙ sym (leading_more _ _ _ _ false t.1), omega (arith, k.1), cleared_keep _ _ _ _ _ _ _ _ k.2 t.0 t.1)
    ]
