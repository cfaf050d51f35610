use Rattle.std.proofs.Common.{ℕ, false, refl, ap, sym, ◌∙◌}
use Rattle.swi_memory.specs.Bus.{fetched}
use Rattle.swi_calls.specs.Flat.{machine_of}
use Rattle.swi_program.specs.Text.{text_of, word_of}
use Rattle.swi_render.proofs.Carrying.{image_carries}
use Rattle.swi_hart.specs.Hart.{HartData}
use Rattle.swi_hart.proofs.Kept.{image_same}
use Rattle.swi_share.specs.Event.{InputData}
use Rattle.swi_share.proofs.process.start.Goals as goal

pub returns : goal.returns
returns c =
    let x = c.args.guest in
    let carries = image_carries (text_of x.program.segments) x.image c.text-text.ensures.sized c.blocks-blocks.ensures.sound c.requires.own in
    record {
      hart = c.in-Ok.ensures.hart;
      image = refl;
      input = ap (λ (i : InputData). i.left) c.new.ensures;
      carries = image_same x.image (word_of (text_of x.program.segments)) (λ (a : ℕ). fetched (machine_of x.program x.layout false).bus a)
          (λ (a : ℕ). ap (λ (h : HartData). fetched h.machine.bus a) (sym c.in-Ok.ensures.hart) ∙ c.in-Ok.ensures.text a) carries;
    }
