use Rattle.std.proofs.Common.{◌≡◌, ℕ, arith, subst, Result, Err}
use Rattle.std.specs.Prelude.{OnOk, IfOk, IfErr}
use Rattle.swi_image.specs.Format.{image_of}
use Rattle.swi_program.specs.Text.{TextData, text_of}
use Rattle.swi_render.specs.Cut.{Fits, IsCut}
use Rattle.swi_cut.specs.declared.refusal.CutRefusal.{CutRefusal}
use Rattle.swi_cut.specs.declared.refusal.CutRefusal.TheVariants.{Long}
use Rattle.swi_cut.specs.Cuts.{IsCutBy}
use Rattle.swi_cut.specs.Causes.{IsCutCause}
use Rattle.swi_cut.proofs.Written.{if_ok}
use Rattle.swi_cut.proofs.Sequences.{cut_plain}
use Rattle.swi_cut.proofs.cutter.cut_by.Goals as goal

-- a word that is too long doesn't fit
unfit : (t : TextData) (most address needs : ℕ) → IsCutCause t most (Long address needs) → Fits t most → ⊥
unfit t most address needs long fits = absurd (omega (arith, long.1.long, fits long.0 long.1.within))

cause_of : {T : Type 0} (r : Result T CutRefusal) (P : CutRefusal → Type 0) (e : CutRefusal) → IfErr r P → r ≡ Err e → P e
cause_of r P e h is = rw is at h

pub returns-clause-fits : goal.returns-clause-fits
returns-clause-fits c = subst (λ (t : TextData). OnOk c.cut_text.result (Fits t c.args.block_words)) c.text.ensures.value c.cut_text.ensures.fits

pub returns-clause-unfit : goal.returns-clause-unfit
returns-clause-unfit c = λ address needs is.
    let cause = cause_of c.cut_text.result (IsCutCause c.text.result c.args.block_words) (Long address needs) c.cut_text.ensures.refused is in
    subst (λ (t : TextData). Fits t c.args.block_words → ⊥) c.text.ensures.value (unfit c.text.result c.args.block_words address needs cause)

pub returns-clause-plain : goal.returns-clause-plain
returns-clause-plain c =
    let most = c.args.block_words in
    let cut = subst (λ (t : TextData). IfOk c.cut_text.result (λ i. IsCutBy c.args.cutting t most (image_of i))) c.text.ensures.value c.cut_text.ensures.cut in
    λ none. if_ok c.cut_text.result (λ i. IsCutBy c.args.cutting (text_of c.args.p.now.segments) most (image_of i)) (λ i. IsCut (text_of c.args.p.now.segments) most (image_of i)) cut
    (λ i is. cut_plain c.args.cutting (text_of c.args.p.now.segments) most (image_of i) none is)
