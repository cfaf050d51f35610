use Rattle.std.proofs.Common.{◌≡◌, length, arith, subst, ℕ}
use Rattle.swi_cut.specs.Drafts.{IsDraft, AreBlockEnds}
use Rattle.swi_cut.proofs.Drafted.{ends_more, ends_none}
use Rattle.swi_cut.proofs.Finished.{cut_of_made}
use Rattle.swi_cut.proofs.cutter.cut_text.Goals as goal

pub loop-done-init : goal.loop-done-init
loop-done-init c = (
  c.new-draft.ensures.draft c.args.text.now c.args.most,
  omega arith,
  ends_none c.args.cutting c.args.text.now c.args.most c.new-draft.result.starts.items c.new-draft.ensures.starts,
)

pub loop-done-preserved : goal.loop-done-preserved
loop-done-preserved c = (
  (c.in-Ok-add_block.ensures {u = tt}).draft,
  (c.in-Ok.ensures {u = tt}).run.within,
  ends_more c.args.cutting c.args.text.now c.args.most c.loop-done.done c.in-Ok.end c.loop-done.draft.starts.items c.add_block.new.self.starts.items c.loop-done.invariant.2 (c.in-Ok.ensures {u = tt}).ends (c.in-Ok-add_block.ensures {u = tt}).starts,
)

pub image-requires-clause-draft : goal.image-requires-clause-draft
image-requires-clause-draft c =
    let all : c.loop-done.done ≡ length c.args.text.now.words = omega (arith, c.loop-done.invariant.1) in
    subst (λ (n : ℕ). IsDraft c.args.text.now c.args.most n c.loop-done.draft) all c.loop-done.invariant.0

pub returns-clause-cut : goal.returns-clause-cut
returns-clause-cut c =
    let all : c.loop-done.done ≡ length c.args.text.now.words = omega (arith, c.loop-done.invariant.1) in
    let made : IsDraft c.args.text.now c.args.most (length c.args.text.now.words) c.loop-done.draft = subst (λ (n : ℕ). IsDraft c.args.text.now c.args.most n c.loop-done.draft) all c.loop-done.invariant.0 in
    let ends : AreBlockEnds c.args.cutting c.args.text.now c.args.most c.loop-done.draft.starts.items (length c.args.text.now.words) = subst (λ (n : ℕ). AreBlockEnds c.args.cutting c.args.text.now c.args.most c.loop-done.draft.starts.items n) all c.loop-done.invariant.2 in
    grind (arith, cut_of_made c.args.cutting c.args.text.now c.args.most c.loop-done.draft.starts.items c.loop-done.draft.ends.items c.loop-done.draft.offsets.items c.loop-done.draft.words.items, made, ends, c.image.ensures.made, c.map_err.ensures.cases)

pub returns-clause-sound : goal.returns-clause-sound
returns-clause-sound c = grind (arith, c.image.ensures.sound, c.map_err.ensures.cases)
