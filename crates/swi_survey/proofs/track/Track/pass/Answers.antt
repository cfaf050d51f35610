use Rattle.std.proofs.Common.{◌≡◌, Bool, true, length, if◌then◌else◌, arith, ap, refl, subst, sym, ◌∙◌}
use Rattle.std.proofs.lemmas.Option.{slice_get_read}
use Rattle.swi_survey.specs.declared.leaving.Leaving.{Leaving}
use Rattle.swi_survey.specs.declared.track.Here.TheVariants as here
use Rattle.swi_survey.specs.declared.track.Step.TheVariants as step
use Rattle.swi_survey.specs.declared.ways.Ways.{Ways}
use Rattle.swi_survey.specs.Leaving.{branch_by}
use Rattle.swi_survey.specs.Track.{IsStep}
use Rattle.swi_survey.proofs.Mapping.{same_some}
use Rattle.swi_survey.proofs.track.Track.pass.Goals as goal
use Rattle.swi_survey.proofs.track.Track.pass.Goals.{then-taken, else-taken}

pub returns-after-taken-clause-follows : goal.returns-after-taken-clause-follows
returns-after-taken-clause-follows c taken w f next failed is read made at ended =
    let same : c.in-Some.taken ≡ taken = same_some _ _ (sym c.in-Some.is ∙ is) in
    let word = c.requires.word in
    let long = c.requires.ready.long in
    let left : c.if-taken.left ≡ (if taken then branch_by true else w.left) = elim c.if-taken.branch [
      | then-taken x ↦ x.left-is ∙ ap (λ (b : Bool). if b then branch_by true else w.left) (sym x.if-taken.true ∙ same)
      | else-taken x ↦
          x.left-is
          ∙ ap (λ (y : Ways). y.left) (same_some _ _ (sym (slice_get_read c.args.self.now.ways.items (length c.args.self.now.ways.items) c.args.by.at x.index.result.now refl (omega (arith, word, long)) x.index.ensures) ∙ read))
          ∙ ap (λ (b : Bool). if b then branch_by true else w.left) (sym x.if-taken.false ∙ same)
    ] in
    c.follow.ensures f next failed (subst (λ (l : Leaving). IsStep c.args.text.now f failed (here.At c.args.by.at) (step.From c.args.by.at l) next) (sym left) made) at ended
