use Rattle.std.proofs.Common.{◌≡◌, ◌+◌, arith, ap, sym, ◌∙◌}
use Rattle.swi_hart.specs.declared.hart.Stage.{Stage}
use Rattle.swi_hart.specs.declared.hart.Stage.TheVariants.{Start}
use Rattle.swi_hart.specs.declared.hart.Control.TheVariants.{At}
use Rattle.swi_hart.specs.Hart.{HartData}
use Rattle.swi_board.proofs.Origins.{start_short, start_stands}
use Rattle.swi_board.proofs.advance.start.Goals as goal

pub overflow_add-row : goal.overflow_add-row
overflow_add-row c =
    let x = c.in-At-default-default-default-Start in
    let control : c.args.hart.now.control ≡ At x.i x.block x.offset Start =
    sym (ap (λ (h : HartData). h.control) c.hart.view_is) ∙ sym c.control.ensures ∙ x.is ∙ ap (λ (s : Stage). At x.i x.block x.offset s) x.field-3-is in
    let short = start_short c.args.image.now c.requires.fits.0 c.args.hart.now x.i x.block x.offset c.requires.fits.1 c.requires.going control in
    let small = c.begin.ensures.small in
    omega (arith, short, small)

pub returns-in-At-default-default-default-Start : goal.returns-in-At-default-default-default-Start
returns-in-At-default-default-default-Start c =
    let x = c.in-At-default-default-default-Start in
    let control : c.args.hart.now.control ≡ At x.i x.block x.offset Start =
    sym (ap (λ (h : HartData). h.control) c.hart.view_is) ∙ sym c.control.ensures ∙ x.is ∙ ap (λ (s : Stage). At x.i x.block x.offset s) x.field-3-is in
    start_stands c.args.image.now c.requires.fits.0 c.args.hart.now x.i x.block x.offset c.requires.fits.1 c.requires.going control
    (c.begin.result + x.offset) c.distance.result (ap (λ n. n + x.offset) c.begin.ensures.value) c.distance.ensures c.origin_pc-pc.ensures.word
