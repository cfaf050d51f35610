use Rattle.std.proofs.Common.{◌≤◌, inl, inr, arith}
use Rattle.std.proofs.lemmas.Bool.{cases_Bool}
use Rattle.swi_rom.specs.Rams.{on_err}
use Rattle.swi_links.specs.Undone.{is_own}
use Rattle.swi_links.specs.Lists.{first_has, unlinked_shorter}
use Rattle.swi_links.proofs.Leaving.{none_undone, undone_more, first_within, few_undone, undone_failed, emptied}
use Rattle.swi_links.proofs.links.undo_links.Goals as goal

pub loop-at-init : goal.loop-at-init
loop-at-init g c = none_undone _ _ _ _ _

pub overflow_add-undone : goal.overflow_add-undone
overflow_add-undone g c =
    let k : c.in_ok-undone.field-0 ≤ 1 = elim (cases_Bool (is_own c.args.first c.args.size c.in-Some.at)) [ inl e ↦ omega (arith, (c.in_ok-undone.ensures.own e).0) | inr ne ↦ omega (arith, (c.in_ok-undone.ensures.foreign ne).0) ] in
    omega (arith, few_undone _ _ _ _ _ _ _ _ c.loop-at.invariant, k, c.requires.words)

pub unlink-requires : goal.unlink-requires
unlink-requires g c = record { at = (c.args.list, first_has _ _ c.in-Some.ensures.first) }

pub loop-at-preserved : goal.loop-at-preserved
loop-at-preserved g c =
    let u = c.loop-at.invariant in
    undone_more _ _ _ _ _ _ _ _ _ _ _ _ u c.requires.list c.in-Some.ensures.apart c.in-Some.ensures.first
    (first_within _ _ _ _ c.in-Some.ensures.apart c.in-Some.ensures.first (omega (arith, c.requires.fits, u.wrote.spared.length_stays, u.words_stay)))
    c.in_ok-undone.ensures.own c.in_ok-undone.ensures.foreign c.unlink.ensures

pub returns-clause-emptied : goal.returns-clause-emptied
returns-clause-emptied g c = emptied _ _ (omega (arith, c.requires.list, c.loop-at.invariant.lists_stay)) c.in_default.ensures.first

pub loop-at-smaller : goal.loop-at-smaller
loop-at-smaller g c = unlinked_shorter _ _ _ _ c.unlink.ensures (first_has _ _ c.in-Some.ensures.first)

pub restore-requires-clause-at : goal.restore-requires-clause-at
restore-requires-clause-at g c =
    let u = c.loop-at.invariant in
    first_within _ _ _ _ c.in-Some.ensures.apart c.in-Some.ensures.first (omega (arith, c.requires.fits, u.wrote.spared.length_stays, u.words_stay))

pub returns-in_err-undone-clause-failed : goal.returns-in_err-undone-clause-failed
returns-in_err-undone-clause-failed g c =
    on_err _ _ (undone_failed _ _ _ _ _ _ _ _ _ _ c.loop-at.invariant (first_within _ _ _ _ c.in-Some.ensures.apart c.in-Some.ensures.first (omega arith)) c.in_err-undone.ensures.failed)
