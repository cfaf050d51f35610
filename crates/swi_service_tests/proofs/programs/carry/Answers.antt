use Rattle.std.proofs.Common.{ℕ, is_some, sym, ap, ◌∙◌}
use Rattle.swi_image.specs.Place.{place_of}
use Rattle.swi_program.specs.Text.{text_of}
use Rattle.swi_render.proofs.Carrying.{image_carries}
use Rattle.swi_board.proofs.Entering.{text_some}
use Rattle.swi_service_tests.proofs.programs.carry.Goals as goal

pub returns-clause-carries : goal.returns-clause-carries
returns-clause-carries c = image_carries (text_of c.args.program.now.segments) c.args.image.now c.text-text.ensures.sized c.blocks-blocks.ensures.sound c.requires.own

pub returns-clause-placed : goal.returns-clause-placed
returns-clause-placed c =
    let carries = image_carries (text_of c.args.program.now.segments) c.args.image.now c.text-text.ensures.sized c.blocks-blocks.ensures.sound c.requires.own in
    ap (λ (a : ℕ). is_some (place_of c.args.image.now a)) (sym c.entry-entry.ensures.value)
    ∙ text_some (text_of c.args.program.now.segments) c.args.image.now c.entry-entry.result carries c.entry-entry.ensures.word
