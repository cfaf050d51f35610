use Rattle.std.proofs.Common.{ℕ, ◌∙◌, length, arith, ap, refl}
use Rattle.swi_isa.specs.Decode.{decoded}
use Rattle.swi_tally.specs.Exits.{ExitsData}
use Rattle.swi_survey.specs.Leaving.{untaken_by}
use Rattle.swi_survey.specs.Ways.{instr_at}
use Rattle.swi_survey.proofs.Mapping.{behind_fits, few_more, joins, own_before, own_fits, placed, same_blocks, word_small}
use Rattle.swi_survey.proofs.ways.with_word.Goals as goal

pub own_exit-own-requires-clause-small : goal.own_exit-own-requires-clause-small
own_exit-own-requires-clause-small c = word_small _ _ _ _ (placed c.args.text.now c.args.image.now c.args.k c.args.place c.requires.sized c.requires.image c.requires.own c.requires.word c.requires.here)

pub exit_behind-behind-requires-clause-small : goal.exit_behind-behind-requires-clause-small
exit_behind-behind-requires-clause-small c = word_small _ _ _ _ (placed c.args.text.now c.args.image.now c.args.k c.args.place c.requires.sized c.requires.image c.requires.own c.requires.word c.requires.here)

pub is_last-last-requires-clause-small : goal.is_last-last-requires-clause-small
is_last-last-requires-clause-small c = word_small _ _ _ _ (placed c.args.text.now c.args.image.now c.args.k c.args.place c.requires.sized c.requires.image c.requires.own c.requires.word c.requires.here)

pub with_some-requires-clause-few : goal.with_some-requires-clause-few
with_some-requires-clause-few c = omega (arith, c.requires.few, c.requires.word, c.requires.sized.few)

pub with_some-requires-clause-fits : goal.with_some-requires-clause-fits
with_some-requires-clause-fits c =
    let h = placed c.args.text.now c.args.image.now c.args.k c.args.place c.requires.sized c.requires.image c.requires.own c.requires.word c.requires.here in
    rw c.own_exit-own.ensures (own_fits _ _ c.args.exits _ _ h c.requires.blocks c.requires.before)

pub with_some-requires-2-clause-few : goal.with_some-requires-2-clause-few
with_some-requires-2-clause-few c =
    omega (arith, c.requires.few, c.requires.word, c.requires.sized.few, few_more c.args.exits c.own_exit-own.result, ap (λ (e : ExitsData). length e.from) c.in_ok-exits.ensures.exits)

pub with_some-requires-2-clause-fits : goal.with_some-requires-2-clause-fits
with_some-requires-2-clause-fits c =
    let h = placed c.args.text.now c.args.image.now c.args.k c.args.place c.requires.sized c.requires.image c.requires.own c.requires.word c.requires.here in
    rw (c.in_ok-exits.ensures.exits, c.exit_behind-behind.ensures, c.own_exit-own.ensures)
    (behind_fits _ _ _ _ _ h (same_blocks c.args.exits _ ∙ c.requires.blocks) (own_before _ _ c.args.exits _ _ h c.requires.are c.requires.before))

pub returns : goal.returns
returns c =
    let h = placed c.args.text.now c.args.image.now c.args.k c.args.place c.requires.sized c.requires.image c.requires.own c.requires.word c.requires.here in
    joins c.args.text.now c.args.image.now c.args.exits c.in_ok-exits.exits c.in_ok-exits-2.exits c.args.k c.args.place _ h c.requires.are c.in_ok-exits.ensures.are c.in_ok-exits-2.ensures.are c.requires.before
    (rw (← c.own_exit-own.ensures) c.in_ok-exits.ensures.exits) (rw (← c.exit_behind-behind.ensures) c.in_ok-exits-2.ensures.exits) refl
    (rw (← c.own_exit-own.ensures) c.in_ok-exits.ensures.number) (rw (← c.exit_behind-behind.ensures) c.in_ok-exits-2.ensures.number) c.is_last-last.ensures (c.untaken_at-left.ensures ∙ ap (λ (w : ℕ). untaken_by (decoded w) c.address_of.result) c.word.ensures ∙ ap (untaken_by (instr_at c.args.text.now c.args.k)) c.address_of.ensures)
