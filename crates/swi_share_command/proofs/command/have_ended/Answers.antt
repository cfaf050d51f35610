use Rattle.std.proofs.Common.{ap, arith, is_some, not, sym, ◌∙◌}
use Rattle.std.proofs.lemmas.Bool.{false≢true}
use Rattle.swi_share.specs.Sharing.{seen}
use Rattle.swi_share_command.proofs.SharedGuests.{ended_all, ended_more}
use Rattle.swi_share_command.proofs.command.have_ended.Goals as goal

pub loop-g-preserved : goal.loop-g-preserved
loop-g-preserved c = ended_more (seen c.args.share.now).contexts c.loop-g.g c.hart.result.now c.loop-g.invariant c.hart.ensures
    (λ none. false≢true (sym (ap is_some (c.ending.ensures ∙ none)) ∙ (c.is_none.ensures ∙ ap not c.if-is_none.false)))

pub returns : goal.returns
returns c = λ _. ended_all c.args.share.now c.args.programs c.requires.programs (λ k x lt. c.loop-g.invariant k x (omega (arith, lt)))
