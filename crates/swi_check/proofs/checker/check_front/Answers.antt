use Rattle.std.proofs.Common.{◌≡◌, ◌-◌, ◌∙◌, ◌+◌, arith, refl, sym, subst, ap, ℕ, List, length, length-append, true, ◌<◌, ◌≤◌}
use Rattle.std.specs.Prelude.{IfOk}
use Rattle.swi_check.specs.declared.checker.Difference.{Difference}
use Rattle.swi_program.specs.Text.{TextData}
use Rattle.swi_image.specs.Place.{block_at}
use Rattle.swi_render.specs.Rendering.{AreThe, fall_exit}
use Rattle.swi_render.specs.ImageOf.{address_of, falls_at, rendering_at, block_between, renderings_between, offset_in}
use Rattle.swi_render.proofs.Lists.{the_length}
use Rattle.swi_render.proofs.Runs.{offset_first, offset_next, offset_below, block_falls, block_stays}
use Rattle.swi_render.proofs.Stands.{stands_word, stands_exit}
use Rattle.swi_check.specs.Mismatches.{asked_between, IsWrongWord}
use Rattle.swi_check.proofs.Errors.{err_as}
use Rattle.swi_check.proofs.checker.check_front.Goals as goal

pub loop-k-init : goal.loop-k-init
loop-k-init c = (sym (offset_first c.args.text.now c.args.first), λ o within. absurd (omega arith))

pub check_part-requires-clause-fits : goal.check_part-requires-clause-fits
check_part-requires-clause-fits c =
    let size : length c.deref.result.now ≡ length (rendering_at c.args.text.now c.loop-k.k) = ap length c.deref.ensures.0 ∙ the_length (rendering_at c.args.text.now c.loop-k.k) c.render_word.result.items c.render_word.ensures.words in
    omega (arith, c.loop-k.invariant.0, offset_next c.args.text.now c.args.first c.loop-k.k c.loop-k.auto.k (omega arith), offset_below c.args.text.now c.args.first (c.loop-k.k + 1) c.args.end (omega arith) (omega arith) c.requires.text, c.requires.fits)

pub returns-in_err-from-clause-wrong : goal.returns-in_err-from-clause-wrong
returns-in_err-from-clause-wrong c =
    err_as c.from_residual.result c.in_err-from.field-0.0
    (λ (d : Difference). IsWrongWord (asked_between c.args.text.now c.args.view.now c.args.first c.args.end) (block_at c.args.view.now c.args.block) d.offset d.held d.required) c.from_residual.ensures.1
    ((c.in_err-from.ensures {u = tt}).wrong (asked_between c.args.text.now c.args.view.now c.args.first c.args.end) (rendering_at c.args.text.now c.loop-k.k)
    (rw c.deref.ensures.0 c.render_word.ensures.words)
    (stands_word c.args.text.now c.args.view.now c.args.first c.loop-k.k c.args.end c.loop-k.from c.loop-k.invariant.0 c.loop-k.auto.k (omega arith) c.requires.text)
    c.loop-k.invariant.1)

pub loop-k-preserved : goal.loop-k-preserved
loop-k-preserved c =
    let size : length c.deref.result.now ≡ length (rendering_at c.args.text.now c.loop-k.k) = ap length c.deref.ensures.0 ∙ the_length (rendering_at c.args.text.now c.loop-k.k) c.render_word.result.items c.render_word.ensures.words in
    let to = c.in_ok-from.ensures {u = tt} in (
      omega (arith, to.to, c.loop-k.invariant.0, offset_next c.args.text.now c.args.first c.loop-k.k c.loop-k.auto.k (omega arith)),
      to.right (asked_between c.args.text.now c.args.view.now c.args.first c.args.end) (rendering_at c.args.text.now c.loop-k.k)
          (rw c.deref.ensures.0 c.render_word.ensures.words)
          (stands_word c.args.text.now c.args.view.now c.args.first c.loop-k.k c.args.end c.loop-k.from c.loop-k.invariant.0 c.loop-k.auto.k (omega arith) c.requires.text)
          c.loop-k.invariant.1,
    )

-- where there is an exit, it ends the block
exit_ends : (t : TextData) (first end from : ℕ) (exit : List ℕ) → first < end → end ≤ length t.words → from ≡ offset_in t first end → falls_at t (end - 1) ≡ true → AreThe (fall_exit (address_of t (end - 1))) exit →
    from + length exit ≡ length (block_between t first end)
exit_ends t first end from exit some within at on the =
    let parts = ap length (block_falls t first end (address_of t (end - 1)) some within on refl) ∙ length-append (renderings_between t first end) (fall_exit (address_of t (end - 1))) in
    omega (arith, the_length (fall_exit (address_of t (end - 1))) exit the)

at_end : (t : TextData) (first k end from : ℕ) → from ≡ offset_in t first k → k ≡ end → from ≡ offset_in t first end
at_end t first k end from is same = is ∙ ap (offset_in t first) same

pub check_part-requires-in-Some-clause-fits : goal.check_part-requires-in-Some-clause-fits
check_part-requires-in-Some-clause-fits c =
    let from = at_end c.args.text.now c.args.first c.loop-k.k c.args.end c.loop-k.from c.loop-k.invariant.0 (omega arith) in
    let exit = c.in-Some.ensures {u = tt} in
    omega (arith, exit_ends c.args.text.now c.args.first c.args.end c.loop-k.from c.in-Some.exit c.requires.some c.requires.text from exit.falls exit.exit, c.requires.fits)

pub returns-in-Some-clause-to : goal.returns-in-Some-clause-to
returns-in-Some-clause-to c =
    let from = at_end c.args.text.now c.args.first c.loop-k.k c.args.end c.loop-k.from c.loop-k.invariant.0 (omega arith) in
    let exit = c.in-Some.ensures {u = tt} in
    subst (λ (n : ℕ). IfOk c.check_part-in-Some.result (λ to. to ≡ n))
    (exit_ends c.args.text.now c.args.first c.args.end c.loop-k.from c.in-Some.exit c.requires.some c.requires.text from exit.falls exit.exit) c.check_part-in-Some.ensures.to

pub returns-in-Some-clause-right : goal.returns-in-Some-clause-right
returns-in-Some-clause-right c =
    let from = at_end c.args.text.now c.args.first c.loop-k.k c.args.end c.loop-k.from c.loop-k.invariant.0 (omega arith) in
    let exit = c.in-Some.ensures {u = tt} in
    c.check_part-in-Some.ensures.right (asked_between c.args.text.now c.args.view.now c.args.first c.args.end) (fall_exit (address_of c.args.text.now (c.args.end - 1))) exit.exit
    (stands_exit c.args.text.now c.args.view.now c.args.first c.args.end (address_of c.args.text.now (c.args.end - 1)) c.loop-k.from from c.requires.some c.requires.text exit.falls refl)
    c.loop-k.invariant.1

pub returns-in-Some-clause-wrong : goal.returns-in-Some-clause-wrong
returns-in-Some-clause-wrong c =
    let from = at_end c.args.text.now c.args.first c.loop-k.k c.args.end c.loop-k.from c.loop-k.invariant.0 (omega arith) in
    let exit = c.in-Some.ensures {u = tt} in
    c.check_part-in-Some.ensures.wrong (asked_between c.args.text.now c.args.view.now c.args.first c.args.end) (fall_exit (address_of c.args.text.now (c.args.end - 1))) exit.exit
    (stands_exit c.args.text.now c.args.view.now c.args.first c.args.end (address_of c.args.text.now (c.args.end - 1)) c.loop-k.from from c.requires.some c.requires.text exit.falls refl)
    c.loop-k.invariant.1

pub returns-in-None-clause-to : goal.returns-in-None-clause-to
returns-in-None-clause-to c =
    at_end c.args.text.now c.args.first c.loop-k.k c.args.end c.loop-k.from c.loop-k.invariant.0 (omega arith)
    ∙ sym (ap length (block_stays c.args.text.now c.args.first c.args.end c.requires.some c.requires.text (c.in-None.ensures {u = tt}).stays))
