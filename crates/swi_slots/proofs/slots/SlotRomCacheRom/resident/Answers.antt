use Rattle.std.proofs.Common.{refl, sym, ◌∙◌, subst, ◌≡◌}
use Rattle.swi_slots.specs.Readers.{resident_here, own_step, other_step, resident_none, own_from}
use Rattle.std.specs.Prelude.{slice_get}
use Rattle.swi_slots.proofs.slots.SlotRomCacheRom.resident.Goals as goal
use Rattle.swi_slots.proofs.slots.SlotRomCacheRom.resident.Goals.{then-owner-self+else-left-eq0, else-owner-self}

pub returns-then-left-eq0 : goal.returns-then-left-eq0
returns-then-left-eq0 g c =
    let number = c.number.ensures in
    rw number
    (resident_here _ _ c.loop-n.n c.args.k c.turned-slot.result _ _ c.self.view_is c.self.invariant.0 c.loop-n-test.true
    (subst (λ (x : _). slice_get (own_from c.args.self.now c.loop-n.n) x ≡ slice_get (own_from c.args.self.now 0) c.args.k) c.if-left-eq0.true c.loop-n.invariant)
    c.turned-slot.ensures c.index-block.ensures (sym c.owner.ensures ∙ c.if-owner-self.true) refl)

pub loop-n-preserved : goal.loop-n-preserved
loop-n-preserved g c = elim c.if-owner-self.branch [
  | then-owner-self+else-left-eq0 w ↦
      rw (w.left-is)
      (own_step _ _ c.loop-n.n c.args.k c.turned-slot.result _ c.loop-n.left c.self.view_is c.self.invariant.0 c.loop-n-test.true c.loop-n.invariant
      c.turned-slot.ensures c.index-block.ensures (sym c.owner.ensures ∙ w.if-owner-self.true) w.if-left-eq0.false)
  | else-owner-self w ↦
      rw (w.left-is)
      (other_step _ _ c.loop-n.n c.args.k c.turned-slot.result _ c.loop-n.left c.self.view_is c.self.invariant.0 c.loop-n-test.true c.loop-n.invariant
      c.turned-slot.ensures c.index-block.ensures (λ e. w.if-owner-self.false (c.owner.ensures ∙ e)))
]

pub returns : goal.returns
returns g c = resident_none _ _ c.loop-n.n c.args.k c.loop-n.left c.self.view_is c.self.invariant.0 c.loop-n-test.false c.loop-n.invariant
