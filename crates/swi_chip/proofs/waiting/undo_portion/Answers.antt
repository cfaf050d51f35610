use Rattle.std.proofs.Common.{ℕ, arith, refl, sym, ◌∙◌, subst}
use Rattle.swi_chip.specs.Service.{HasFewer}
use Rattle.swi_chip.proofs.Unlinking.{can_undo, crowded_full, fewer_more, fewer_none}
use Rattle.swi_chip.proofs.waiting.undo_portion.Goals as goal

pub loop-k-init : goal.loop-k-init
loop-k-init c = ((λ s vs ram lists k. fewer_none k), record { cache_at = refl; most = refl }, record { most = refl; refused = refl }, (crowded_full c.requires.can.some c.requires.can.crowded).0, record { evictions = refl; memo = refl })

pub undo_first-requires : goal.undo_first-requires
undo_first-requires c = record { can = can_undo c.requires.can c.loop-k._k (omega (arith, c.loop-k-test.true)) c.loop-k.invariant.0 c.loop-k.invariant.3 }

pub loop-k-preserved : goal.loop-k-preserved
loop-k-preserved c = (
  (λ s vs ram lists k. fewer_more (c.loop-k.invariant.0 s vs ram lists k) c.undo_first.ensures.undone),
  (let a = c.loop-k.invariant.1 in let b = c.undo_first.ensures.stays in record { cache_at = b.cache_at ∙ a.cache_at; most = b.most ∙ a.most }),
  (let a = c.loop-k.invariant.2 in let b = c.undo_first.ensures.bound in record { most = b.most ∙ a.most; refused = b.refused ∙ a.refused }),
  c.undo_first.ensures.full ∙ (c.loop-k.invariant.3 ∙ sym c.undo_first.ensures.slots),
  (let a = c.loop-k.invariant.4 in let b = c.undo_first.ensures.memo in record { evictions = b.evictions ∙ a.evictions; memo = b.memo ∙ a.memo }),
)

pub returns-clause-undone : goal.returns-clause-undone
returns-clause-undone c = λ s vs ram lists k.
    subst (λ (n : ℕ). HasFewer n s vs c.args.chip.now c.loop-k.chip) (omega (arith, c.loop-k-test.false, c.loop-k.auto._k-end)) (c.loop-k.invariant.0 s vs ram lists k)
