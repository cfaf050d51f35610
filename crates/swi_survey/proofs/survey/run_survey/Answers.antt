use Rattle.std.proofs.Common.{ℕ, ◌<◌, ◌^◌, arith, ap, subst, sym, ◌∙◌}
use Rattle.swi_flat.specs.FlatData.{FlatData}
use Rattle.swi_program.specs.Text.{TextData, IsSized, word_of}
use Rattle.swi_render.specs.ImageOf.{IsImageOf}
use Rattle.swi_survey.specs.Track.{Starts}
use Rattle.swi_survey.proofs.Places.{ground}
use Rattle.swi_survey.proofs.Surveying.{begun, fault_call, told_call}
use Rattle.swi_survey.proofs.survey.run_survey.Goals as goal

pub run_steps-requires-clause-begun : goal.run_steps-requires-clause-begun
run_steps-requires-clause-begun g c =
    begun c.text-text.result c.args.image.now c.args.frames.now c.in-Ok.flat c.pc.result c.in-Ok-start.track
    (ap (λ (q : FlatData). q.machine.ending) c.in-Ok.ensures.machine) (ap (λ (q : FlatData). q.failed) c.in-Ok.ensures.machine) (ap (λ (q : FlatData). q.machine.steps) c.in-Ok.ensures.machine)
    (λ a. c.in-Ok.ensures.text a ∙ ap (λ (t : TextData). word_of t a) (sym c.text-text.ensures.value)) (sym c.pc.ensures) c.in-Ok-start.ensures

pub returns-in-Ok-run_steps : goal.returns-in-Ok-run_steps
returns-in-Ok-run_steps g c =
    let t = c.text-text.result in
    let v = c.args.image.now in
    let sized : IsSized t = subst (λ (q : TextData). IsSized q) (sym c.text-text.ensures.value) c.text-text.ensures.sized in
    let own : IsImageOf t v = subst (λ (q : TextData). IsImageOf q v) (sym c.text-text.ensures.value) c.requires.own in
    let small : c.in-Ok.flat.machine.pc < 2 ^ 32 = omega (arith, c.pc.ensures, c.pc.type_inv) in
    let starts : Starts t v c.args.frames.now c.in-Ok.flat.machine.pc c.in-Ok-start.track = subst (λ (n : ℕ). Starts t v c.args.frames.now n c.in-Ok-start.track) c.pc.ensures c.in-Ok-start.ensures in
    told_call t v c.args.frames.now c.args.limit c.in-Ok.flat c.run_steps.new.flat c.in-Ok-start.track c.run_steps.new.track _ _ _ c.in-Ok.ensures.machine (ground t v sized c.blocks-blocks.ensures.sound own) small starts
    c.run_steps.result c.run_steps.ensures c.told.result c.in-Ok-run_steps.stored c.told.ensures c.in-Ok-run_steps.is

pub returns : goal.returns
returns g c =
    let t = c.text-text.result in
    let v = c.args.image.now in
    let sized : IsSized t = subst (λ (q : TextData). IsSized q) (sym c.text-text.ensures.value) c.text-text.ensures.sized in
    let own : IsImageOf t v = subst (λ (q : TextData). IsImageOf q v) (sym c.text-text.ensures.value) c.requires.own in
    let small : c.in-Ok.flat.machine.pc < 2 ^ 32 = omega (arith, c.pc.ensures, c.pc.type_inv) in
    let starts : Starts t v c.args.frames.now c.in-Ok.flat.machine.pc c.in-Ok-start.track = subst (λ (n : ℕ). Starts t v c.args.frames.now n c.in-Ok-start.track) c.pc.ensures c.in-Ok-start.ensures in
    fault_call t v c.args.frames.now c.args.limit c.in-Ok.flat c.run_steps.new.flat c.in-Ok-start.track c.run_steps.new.track _ _ _ c.in-Ok.ensures.machine (ground t v sized c.blocks-blocks.ensures.sound own) small starts
    c.run_steps.result c.run_steps.ensures c.in-Err.fault c.in-Err.is
