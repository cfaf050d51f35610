use Rattle.std.proofs.Common.{◌≡◌, List, [], ◌∷◌, ◌++◌, length, rules, arith, sym, ap, subst, ◌∙◌, append_assoc}
use Rattle.std.specs.Vec.Iter.{into_iter_items}
use Rattle.swi_share.specs.declared.process.Guest.{Guest}
use Rattle.swi_share.specs.declared.process.Process.{Process}
use Rattle.swi_share.specs.Starting.{AreGuests, AllStarted}
use Rattle.swi_share.proofs.Starting.{all_more}
use Rattle.swi_share.proofs.process.start_all.Goals as goal

pub loop-guest-preserved : goal.loop-guest-preserved
loop-guest-preserved c =
    let at = c.loop-guest in
    let x = c.in-Some.guest in
    let steps : into_iter_items at.guest-iterator ≡ x ∷ into_iter_items c.next.new.self = c.in-Some.ensures.steps.0 in
    let pushed : c.push.new.self.items ≡ at.processes.items ++ c.in_ok-process.process ∷ [] = search rules in
    let was = at.invariant.3 in
    let gone = c.in-Some.ensures.steps.1 in
    let short = ap (λ (xs : List Guest). length xs) steps in (
      append_assoc at.yielded (x ∷ []) _ ∙ rw (← steps) at.invariant.0,
      (subst (λ (xs : List Guest). AreGuests xs) steps at.invariant.1).1,
      subst (λ (ps : List Process). AllStarted (at.yielded ++ x ∷ []) ps) (sym pushed) (all_more at.yielded at.processes.items x c.in_ok-process.process at.invariant.2 c.in_ok-process.ensures),
      omega arith,
    )
