use Rattle.std.proofs.Common.{ℕ, List, ◌/◌, length, arith, ap, subst, sym, ◌∙◌}
use Rattle.std.proofs.lemmas.Nat.{div-add-mod'}
use Rattle.std.proofs.lemmas.List.{length-replicate}
use Rattle.swi_engine.specs.Joints.{JointsData}
use Rattle.swi_engine.specs.State.{EngineData, kept_by}
use Rattle.swi_engine.specs.Sound.{EngineSound, InShape}
use Rattle.swi_engine.proofs.Reading.{new_shape, new_sound, new_is, some_slots}
use Rattle.swi_engine.proofs.engine.EngineRom.new.Goals as goal

pub returns-clause-empty : goal.returns-clause-empty
returns-clause-empty c = new_is _ _ c.args.blocks _ _ _ _ _ c.in_ok-queue.ensures.empty c.in_ok-of_slots.ensures c.in_ok-lengths.ensures c.in_ok-homes.ensures (ap (λ (d : JointsData). d.joints) c.in_ok-joints.ensures)

pub returns-clause-kept : goal.returns-clause-kept
returns-clause-kept c = ap (λ (e : EngineData). kept_by e) (new_is _ _ c.args.blocks _ _ _ _ _ c.in_ok-queue.ensures.empty c.in_ok-of_slots.ensures c.in_ok-lengths.ensures c.in_ok-homes.ensures (ap (λ (d : JointsData). d.joints) c.in_ok-joints.ensures))

pub returns-clause-sound : goal.returns-clause-sound
returns-clause-sound c = λ v words image all holds fits.
    subst (λ (e : EngineData). EngineSound e v words) (sym (new_is _ _ c.args.blocks _ _ _ _ _ c.in_ok-queue.ensures.empty c.in_ok-of_slots.ensures c.in_ok-lengths.ensures c.in_ok-homes.ensures (ap (λ (d : JointsData). d.joints) c.in_ok-joints.ensures)))
    (new_sound (c.args.cache_bytes / 4 / c.args.block_words) c.args.block_words c.args.blocks v words (some_slots c.args.cache_bytes c.args.block_words c.requires.least c.requires.bytes) c.requires.least c.requires.most (omega (arith, div-add-mod' (c.args.cache_bytes / 4) c.args.block_words, c.requires.limit)) image all holds fits)

pub invariant_of-result : goal.invariant_of-result
invariant_of-result c =
    let is = new_is (c.args.cache_bytes / 4 / c.args.block_words) c.args.block_words c.args.blocks c.in_ok-queue.queue.items c.in_ok-of_slots.of_slots.items c.in_ok-lengths.lengths.items c.in_ok-homes.homes.items c.in_ok-joints.joints.joints
    c.in_ok-queue.ensures.empty c.in_ok-of_slots.ensures c.in_ok-lengths.ensures c.in_ok-homes.ensures (ap (λ (d : JointsData). d.joints) c.in_ok-joints.ensures) in (
      subst (λ (e : EngineData). InShape e) (sym is)
          (new_shape (c.args.cache_bytes / 4 / c.args.block_words) c.args.block_words c.args.blocks (some_slots c.args.cache_bytes c.args.block_words c.requires.least c.requires.bytes) c.requires.least c.requires.most (omega (arith, div-add-mod' (c.args.cache_bytes / 4) c.args.block_words, c.requires.limit))),
      c.in_ok-queue.ensures.room,
      ap (λ (d : JointsData). d.words) c.in_ok-joints.ensures,
      ap (λ (d : JointsData). d.blocks) c.in_ok-joints.ensures ∙ sym (ap (λ (hs : List ℕ). length hs) c.in_ok-homes.ensures ∙ length-replicate c.args.blocks (c.args.cache_bytes / 4 / c.args.block_words)),
    )
