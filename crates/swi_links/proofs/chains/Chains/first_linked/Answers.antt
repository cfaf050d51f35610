use Rattle.std.proofs.Common.{◌≡◌, ◌≤◌, List, slice_index, ap, arith, ℕ, inl, inr, subst, sym}
use Rattle.std.proofs.lemmas.Bool.{cases_eq}
use Rattle.swi_links.specs.Chains.{IsFree}
use Rattle.swi_links.proofs.Calls.{target_none, target_some, unowned_free}
use Rattle.swi_links.proofs.chains.Chains.first_linked.Goals as goal

pub returns-then-slot-slots-clause-linked : goal.returns-then-slot-slots-clause-linked
returns-then-slot-slots-clause-linked c =
    (c.index-slot.result.now, target_some _ c.loop-at.at _ _ _ _ _ _ c.self.view_is c.self.invariant (omega (arith, c.requires.within)) c.index-slot.ensures (omega (arith, c.len-slots.ensures)))

pub loop-at-preserved : goal.loop-at-preserved
loop-at-preserved c = λ x from to. elim (cases_eq x c.loop-at.at) [
  | inl here ↦ subst (λ (n : ℕ). IsFree c.args.self.now n) (sym here)
      (target_none _ c.loop-at.at c.index-slot.result.now _ _ _ _ _ c.self.view_is c.self.invariant (omega (arith, c.requires.within)) c.index-slot.ensures (omega (arith, c.len-slots.ensures)))
  | inr other ↦ c.loop-at.invariant x from (omega (arith, to))
]

pub loop-at-init : goal.loop-at-init
loop-at-init c = λ x from to.
    let owners : c.deref.result.now ≡ c.self.inside.owners.items = c.deref.ensures.value in
    let past : c.len-slots.result ≤ slice_index c.deref.result.now x = c.passed-at.ensures.free x from to in
    unowned_free _ x _ _ _ _ _ c.self.view_is c.self.invariant (omega (arith, past, ap (λ (xs : List ℕ). slice_index xs x) owners, c.len-slots.ensures))
